-- Which line of a script an instruction is.
-- Source: this simulator's script language.
use Rattle.std.specs.Prelude.{ℕ, ◌+◌, ◌-◌, ◌==◌, Bool, true, false, List, [], ◌∷◌, Option, Some, None, get_or, slice_get, if◌then◌else◌}
use Rattle.ffm_model.specs.declared.scenario.Scenario.{Scenario}
use Rattle.ffm_model.specs.declared.system.System.{System}
use Rattle.script_asm.specs.Lines.{Line, order}
use Rattle.sfn_calls.specs.Partitions.{is_sfn}

abbrev pub is_order : Line → Bool
is_order (order words) = true
is_order _ = false

-- of lines that are numbered from a number on, that of the instruction before which so many others stand
unfoldable pub line_from : ℕ → ℕ → List Line → Option ℕ
line_from number place [] = None
line_from number place (line ∷ lines) =
    if is_order line
    then (if place == 0 then Some number else line_from (number + 1) (place - 1) lines)
    else line_from (number + 1) place lines

-- the lines behind a part of an actor's script; none for the functions of an SFN partition
abbrev pub lines_at : System → Scenario → ℕ → ℕ → Option (List (List ℕ))
lines_at s c a k = if is_sfn s a then None else slice_get (get_or c.lines a []) k
