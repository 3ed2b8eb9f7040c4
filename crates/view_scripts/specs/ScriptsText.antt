-- The text that says where scripts stand: a line for each, and for each context of a client.
-- Source: this simulator's.
use Rattle.std.specs.Prelude.{ℕ, ◌+◌, ◌==◌, nat_lt, Bool, if◌then◌else◌, List, [], ◌++◌, codes, Option, Some, None}
use Rattle.std.specs.Fmt.{decimal}
use Rattle.std.specs.List.{enumerate_from, flat_map, list_all}
use Rattle.ffm_model.specs.declared.machine.Call.{Call}
use Rattle.ffm_model.specs.declared.system.System.{System}
use Rattle.ffm_model.specs.TraceText.{Word, hexadecimal_word}
use Rattle.view_texts.specs.Calls.{call_name}
use Rattle.view_texts.specs.Columns.{left}
use Rattle.view_texts.specs.Names.{actor_name, actor_width}
use Rattle.view_scripts.specs.declared.rows.NumberedContext.{NumberedContext}
use Rattle.view_scripts.specs.declared.rows.ScriptRow.{ScriptRow}
use Rattle.view_scripts.specs.declared.rows.Told.{Told}
use Rattle.view_scripts.specs.declared.rows.Told.TheVariants as told
use Rattle.view_scripts.specs.declared.standing.End.{End}
use Rattle.view_scripts.specs.declared.standing.End.TheVariants.{Stopped, Spent, Panicked}

-- ---- registers

-- a register's value: in decimal below 65536, and else as an address
abbrev pub value_text : ℕ → List ℕ
value_text value = if nat_lt value 65536 then decimal value else hexadecimal_word value

-- a register that isn't 0, with its number
abbrev pub register_text : ℕ × ℕ → List ℕ
register_text (register, value) = if value == 0 then [] else codes "  r" ++ (decimal register ++ (codes " " ++ value_text value))

-- the registers that aren't 0, or a bar
unfoldable pub registers_text : List ℕ → List ℕ
registers_text registers =
    if list_all (λ value. value == 0) registers then codes "  -" else flat_map register_text (enumerate_from 0 registers)

-- ---- what is told

abbrev pub spent_text : Bool → List ℕ
spent_text spent = if spent then codes "  its local lines are spent" else []

-- the number of a line, the line and the registers
unfoldable pub line_text : ℕ → List ℕ → List ℕ → Bool → List ℕ
line_text number line registers spent =
    codes "line " ++ (left 4 (decimal number) ++ (left 44 line ++ (registers_text registers ++ spent_text spent)))

-- a call that no line of the scenario makes by itself
unfoldable pub call_text : Call → List ℕ → List ℕ
call_text c registers = codes "calls " ++ (left 47 (call_name c) ++ registers_text registers)

abbrev pub end_word : End → Word
end_word Stopped = codes "ended"
end_word Spent = codes "ended, its local lines spent"
end_word Panicked = codes "panicked"

abbrev pub told_text : Told → List ℕ
told_text (told.Line number line registers spent) = line_text number line registers spent
told_text (told.Call c registers) = call_text c registers
told_text (told.Ended end) = end_word end
told_text (told.Left place) = codes "left its script at entry " ++ decimal place

-- ---- rows

-- the number of a context behind its client's name
abbrev pub context_text : Option NumberedContext → List ℕ
context_text (Some context) = codes "." ++ decimal context.number
context_text None = []

-- a context that calls next has a mark
abbrev pub mark_word : Option NumberedContext → Word
mark_word (Some context) = if context.is_next then codes "> " else codes "  "
mark_word None = codes "  "

-- the name before what is told
unfoldable pub label_text : System → ℕ → Option NumberedContext → List ℕ
label_text s a context = mark_word context ++ left (actor_width s + 4) (actor_name s a ++ context_text context)

unfoldable pub row_text : System → ScriptRow → List ℕ
row_text s row = label_text s row.actor row.context ++ (told_text row.told ++ codes "\n")

unfoldable pub heading : Word
heading = codes "scripts, each with what it calls next and its registers that aren't 0\n"

-- the rows under their heading
unfoldable pub rows_text : System → List ScriptRow → List ℕ
rows_text s rows = heading ++ flat_map (row_text s) rows

-- nothing where there are no rows to be told
abbrev pub scripts_text : System → Option (List ScriptRow) → List ℕ
scripts_text s (Some rows) = rows_text s rows
scripts_text s None = []
