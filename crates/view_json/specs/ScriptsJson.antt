-- Where the scripts stand, as a value of JSON.
-- Source: this simulator's; each fact is one of the text of a state, in its words.
use Rattle.std.specs.Prelude.{ℕ, ◌==◌, if◌then◌else◌, Bool, false, List, [], ◌∷◌, ◌++◌, codes, map, Option, None, Some}
use Rattle.std.specs.Fmt.{decimal}
use Rattle.std.specs.List.{enumerate_from, filter_map}
use Rattle.serde_json.specs.Data.{Data, boolean, null, number, string, unsigned}
use Rattle.ffm_model.specs.declared.system.System.{System}
use Rattle.view_scripts.specs.declared.rows.NumberedContext.{NumberedContext}
use Rattle.view_scripts.specs.declared.rows.ScriptRow.{ScriptRow}
use Rattle.view_scripts.specs.declared.rows.Told.{Told}
use Rattle.view_scripts.specs.declared.rows.Told.TheVariants as told
use Rattle.view_scripts.specs.ScriptsText.{end_word}
use Rattle.view_texts.specs.Calls.{call_name}
use Rattle.view_json.specs.Values.{actor_json, array_of, object_of}

-- which context of its client it is, and whether it calls next
abbrev pub context_json : Option NumberedContext → Data
context_json (Some context) = object_of ((codes "number", number (unsigned context.number)) ∷ (codes "calls_next", boolean context.is_next) ∷ [])
context_json None = null

-- ---- what is told: a member is null where it isn't told

-- the number of the line that calls next or waits for its answer
abbrev pub line_json : Told → Data
line_json (told.Line place text registers spent) = number (unsigned place)
line_json _ = null

abbrev pub line_text_json : Told → Data
line_text_json (told.Line place text registers spent) = string text
line_text_json _ = null

-- the next call of functions
abbrev pub call_json : Told → Data
call_json (told.Call c registers) = string (call_name c)
call_json _ = null

abbrev pub is_spent : Told → Bool
is_spent (told.Line place text registers spent) = spent
is_spent _ = false

-- a register with its number
unfoldable pub register_json : ℕ × ℕ → Data
register_json e = object_of ((codes "register", string (codes "r" ++ decimal e.0)) ∷ (codes "value", number (unsigned e.1)) ∷ [])

-- one that is 0 is left out
abbrev pub set_register : ℕ × ℕ → Option Data
set_register e = if e.1 == 0 then None else Some (register_json e)

abbrev pub registers_json : List ℕ → List Data
registers_json registers = filter_map set_register (enumerate_from 0 registers)

abbrev pub registers_of : Told → List Data
registers_of (told.Line place text registers spent) = registers_json registers
registers_of (told.Call c registers) = registers_json registers
registers_of _ = []

-- how the actor ended
abbrev pub ended_json : Told → Data
ended_json (told.Ended end) = string (end_word end)
ended_json _ = null

-- the place of the entry at which the actor left its script
abbrev pub left_json : Told → Data
left_json (told.Left place) = number (unsigned place)
left_json _ = null

-- ---- the scripts

unfoldable pub script_json : System → ScriptRow → Data
script_json s row =
    object_of ((codes "actor", actor_json s row.actor) ∷ (codes "context", context_json row.context)
    ∷ (codes "line", line_json row.told) ∷ (codes "text", line_text_json row.told)
    ∷ (codes "call", call_json row.told)
    ∷ (codes "registers", array_of (registers_of row.told))
    ∷ (codes "is_spent", boolean (is_spent row.told))
    ∷ (codes "ended", ended_json row.told) ∷ (codes "left_at", left_json row.told) ∷ [])

-- null where there are no rows to be told
abbrev pub scripts_json : System → Option (List ScriptRow) → Data
scripts_json s (Some rows) = array_of (map (script_json s) rows)
scripts_json s None = null
