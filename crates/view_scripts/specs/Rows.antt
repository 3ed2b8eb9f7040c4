-- What is told of where scripts stand: a row for each, and for each context of a client.
-- Source: this simulator's.
use Rattle.std.specs.Prelude.{ℕ, ◌≡◌, ◌==◌, nat_lt, Bool, true, false, if◌then◌else◌, List, [], ◌∷◌, length, get_or, map, Option, Some, None, Result, Ok, Err}
use Rattle.std.specs.List.{enumerate_from, flat_map, list_any}
use Rattle.std.specs.Option.{option_map_or}
use Rattle.ffm_model.specs.declared.machine.Call.{Call}
use Rattle.ffm_model.specs.declared.machine.Call.TheVariants as call
use Rattle.ffm_model.specs.declared.machine.Entry.{Entry}
use Rattle.ffm_model.specs.declared.scenario.Scenario.{Scenario}
use Rattle.ffm_model.specs.declared.script.Instruction.{Instruction}
use Rattle.ffm_model.specs.declared.system.System.{System}
use Rattle.ffm_model.specs.Contexts.{Contexts, picked_context}
use Rattle.ffm_model.specs.Held.{holder_of}
use Rattle.ffm_model.specs.HeldPlans.{Holding, held_arrived, held_engine}
use Rattle.ffm_model.specs.Reading.{Stop}
use Rattle.ffm_model.specs.ScriptRuns.{Point, arrived, call_at, only_part, start}
use Rattle.actor_programs.specs.declared.program.Program.{Program}
use Rattle.actor_programs.specs.Programs.{AreScriptsOf, programs_of}
use Rattle.packed_state.specs.declared.engine.Engine.{Engine}
use Rattle.packed_state.specs.declared.engine.Engine.TheVariants as engine
use Rattle.script_asm.specs.Lines.{lines_of}
use Rattle.script_points.specs.Points.{Parts}
use Rattle.view_scripts.specs.declared.rows.NumberedContext.{NumberedContext}
use Rattle.view_scripts.specs.declared.rows.ScriptRow.{ScriptRow}
use Rattle.view_scripts.specs.declared.rows.Told.{Told}
use Rattle.view_scripts.specs.declared.rows.Told.TheVariants as told
use Rattle.view_scripts.specs.declared.standing.End.TheVariants.{Stopped}
use Rattle.view_scripts.specs.declared.standing.Standing.{Standing}
use Rattle.view_scripts.specs.declared.standing.Standing.TheVariants.{Follows, Ended, Left}
use Rattle.view_scripts.specs.ScriptLines.{line_from, lines_at}
use Rattle.view_scripts.specs.Standings.{AreStandings}

-- ---- one script, or one context

abbrev pub is_spent : Call → Bool
is_spent (call.Stop spent) = spent
is_spent _ = false

-- the line that makes the next call, which is made at this point; a script without a further line has ended
unfoldable pub line_told : List (List ℕ) → Point → Call → Told
line_told texts at c =
    option_map_or (λ number. told.Line number (get_or texts number []) at.registers (is_spent c)) (line_from 0 at.place (lines_of texts)) (told.Ended Stopped)

-- by the lines of a script, or by the call alone
abbrev pub told_of : Option (List (List ℕ)) → Point → Call → Told
told_of (Some texts) at c = line_told texts at c
told_of None at c = told.Call c at.registers

-- ---- one actor

-- a partition's script
unfoldable pub holding_row : System → Scenario → ℕ → List Instruction → Holding → ScriptRow
holding_row s c a script x = record {
  actor = a;
  context = None;
  told = told_of (lines_at s c a 0) (held_arrived (holder_of s a) script x).at ((held_engine (holder_of s a) script).call x);
}

-- the context of a client that calls next is this one
abbrev pub is_caller : Option ℕ → ℕ → Bool
is_caller (Some caller) k = caller == k
is_caller None k = false

-- which context it is, where its client has several
abbrev pub numbered_context : Bool → Option ℕ → ℕ → Option NumberedContext
numbered_context several caller k = if several then Some (record { number = k; is_next = is_caller caller k }) else None

-- a script of a client, from the lines behind it
abbrev pub part_told : Option (List (List ℕ)) → List Instruction → Point → Told
part_told texts part at = told_of texts (arrived part at) (call_at part (arrived part at))

unfoldable pub context_row : System → Scenario → ℕ → Parts → Contexts → ℕ × List Instruction → ScriptRow
context_row s c a parts x (k, part) = record {
  actor = a;
  context = numbered_context (nat_lt 1 (length parts)) (picked_context parts x) k;
  told = part_told (lines_at s c a k) part (get_or x.points k start);
}

abbrev pub engine_rows : System → Scenario → ℕ → Parts → Engine → List ScriptRow
engine_rows s c a parts (engine.Holding x) = holding_row s c a (only_part parts) x ∷ []
engine_rows s c a parts (engine.Turning x) = map (context_row s c a parts x) (enumerate_from 0 parts)

-- of an actor that calls nothing more by its script
abbrev pub last_row : ℕ → Told → ScriptRow
last_row a t = record { actor = a; context = None; told = t }

abbrev pub standing_rows : System → Scenario → ℕ → Parts → Standing → List ScriptRow
standing_rows s c a parts (Follows at) = engine_rows s c a parts at
standing_rows s c a parts (Ended end) = last_row a (told.Ended end) ∷ []
standing_rows s c a parts (Left place) = last_row a (told.Left place) ∷ []

-- ---- all actors

-- the scenario gives the actor a script
abbrev pub has_script : Scenario → ℕ → Bool
has_script c a = list_any (λ b. b.0 == a) c.order

abbrev pub script_rows : System → Scenario → ℕ → Parts → Standing → List ScriptRow
script_rows s c a parts standing = if has_script c a then standing_rows s c a parts standing else []

abbrev pub actor_rows : System → Scenario → List Parts → ℕ × Standing → List ScriptRow
actor_rows s c scripts (a, standing) = script_rows s c a (get_or scripts a []) standing

-- the rows of where the scripts of these programs stand after these entries
pub record AreRowsOf (s : System) (c : Scenario) (es : List Entry) (programs : List Program) (rows : List ScriptRow) : Type 0 where
  pub scripts : List Parts
  pub standings : List Standing
  pub of_programs : AreScriptsOf s programs scripts
  pub are : AreStandings s scripts es standings
  pub rows_are : rows ≡ flat_map (actor_rows s c scripts) (enumerate_from 0 standings)

-- none where a script has a wrong line
abbrev pub AreRowsRead : System → Scenario → List Entry → Result (List Program) Stop → Option (List ScriptRow) → Type 0
AreRowsRead s c es (Ok programs) (Some rows) = AreRowsOf s c es programs rows
AreRowsRead s c es (Ok programs) None = ⊥
AreRowsRead s c es (Err stop) rows = rows ≡ None

-- none where the scenario has no script
abbrev pub AreRowsWhere : System → Scenario → List Entry → Bool → Option (List ScriptRow) → Type 0
AreRowsWhere s c es true rows = rows ≡ None
AreRowsWhere s c es false rows = AreRowsRead s c es (programs_of s c) rows

-- where the scripts of a scenario stand after these entries
abbrev pub AreRows : System → Scenario → List Entry → Option (List ScriptRow) → Type 0
AreRows s c es rows = AreRowsWhere s c es (length c.order == 0) rows
