-- The scripts of a non-secure client with several threads, which take turns: one call at a time.
-- Source: this simulator's; FF-M leaves the scheduling of the non-secure side open.
use Rattle.std.specs.Prelude.{ℕ, zero, suc, ◌+◌, ◌==◌, Bool, false, List, [], ◌∷◌, length, map, get_or, slice_set, Option, Some, None, if◌then◌else◌}
use Rattle.std.specs.List.{list_any}
use Rattle.std.specs.Option.{unwrap_or, option_map_or}
use Rattle.ffm_model.specs.declared.machine.Entry.{Entry}
use Rattle.ffm_model.specs.declared.machine.Call.{Call}
use Rattle.ffm_model.specs.declared.machine.Call.TheVariants as call
use Rattle.ffm_model.specs.declared.machine.Outcome.{Outcome}
use Rattle.ffm_model.specs.declared.script.Instruction.{Instruction}
use Rattle.ffm_model.specs.Plans.{Plan, PlanRun, Engine, is_stop, plan_of}
use Rattle.ffm_model.specs.ScriptRuns.{Point, start, arrived, call_at, behind}

-- ---- whose turn it is

-- the desk that lets one context at a time into the manager: how many contexts there are, and whose turn it is
pub record DeskView : Type 0 where
  pub count : ℕ
  pub turn : ℕ

-- the context after one, and 0 after the last
abbrev pub next_context : ℕ → ℕ → ℕ
next_context count context = if context + 1 == count then 0 else context + 1

-- of n contexts from one on, round and round, the first that hasn't ended
unfoldable pub first_from : ℕ → List Bool → ℕ → ℕ → Option ℕ
first_from count ended context zero = None
first_from count ended context (suc n) =
    if get_or ended context false then first_from count ended (next_context count context) n else Some context

-- of all contexts from the turn on, the first that hasn't ended
abbrev pub picked : DeskView → List Bool → Option ℕ
picked d ended = first_from d.count ended d.turn d.count

-- ---- the contexts of a client

-- where each context's script goes on, and whose turn it is
pub record Contexts : Type 0 where
  pub points : List Point
  pub turn : ℕ

-- all at the start of their scripts; the first one has the turn
abbrev pub opening_contexts : List (List Instruction) → Contexts
opening_contexts scripts = record { points = map (λ _. start) scripts; turn = 0 }

abbrev pub script_of : List (List Instruction) → ℕ → List Instruction
script_of scripts k = get_or scripts k []

abbrev pub is_spent : Call → Bool
is_spent (call.Stop spent) = spent
is_spent _ = false

-- the next call of each context
unfoldable pub next_calls : List (List Instruction) → List Point → List Call
next_calls [] ps = []
next_calls (script ∷ scripts) [] = []
next_calls (script ∷ scripts) (p ∷ ps) = call_at script (arrived script p) ∷ next_calls scripts ps

-- the first context from the turn on whose next call isn't Stop
abbrev pub picked_context : List (List Instruction) → Contexts → Option ℕ
picked_context scripts x = picked (record { count = length scripts; turn = x.turn }) (map is_stop (next_calls scripts x.points))

-- its call; where there is none, the client ends, spent where one of its contexts is
unfoldable pub contexts_call : List (List Instruction) → Contexts → Call
contexts_call scripts x =
    let calls = next_calls scripts x.points in
    option_map_or (λ k. get_or calls k (call.Stop false)) (picked_context scripts x) (call.Stop (list_any is_spent calls))

-- the context that calls; where all are at Stop, that of the turn
abbrev pub caller : List (List Instruction) → Contexts → ℕ
caller scripts x = unwrap_or (picked_context scripts x) x.turn

-- the outcome goes to the caller alone, and the turn to the context after it; the local lines of the others still count from where they were
unfoldable pub contexts_then : List (List Instruction) → Outcome → Contexts → Contexts
contexts_then scripts o x =
    let k = caller scripts x in
    let script = script_of scripts k in
    record {
      points = slice_set x.points k (behind script o (arrived script (get_or x.points k start)));
      turn = next_context (length scripts) k;
    }

-- ---- the plan

-- the contexts of a client as an engine
abbrev pub context_engine : List (List Instruction) → Engine Contexts
context_engine scripts = record { call = contexts_call scripts; behind = contexts_then scripts }

-- the plan of a client with these scripts
abbrev pub context_plan : List (List Instruction) → Plan
context_plan scripts = plan_of (context_engine scripts) (opening_contexts scripts)

-- the client's entries are a run of its contexts
abbrev pub ContextRun : List (List Instruction) → List Entry → Type 0
ContextRun scripts es = PlanRun (context_plan scripts) es
