-- The lines of the code, as the definitions of scripts have them.
-- Source: this simulator's script language.
use Rattle.std.specs.Prelude.{List, map}
use Rattle.script_asm.specs.Lines as model
use Rattle.script_asm.specs.declared.lines.Line.{Line}
use Rattle.script_asm.specs.declared.lines.Line.TheVariants.{Passed, Label, Order}

abbrev pub line_view : Line → model.Line
line_view Passed = model.passed
line_view (Label n) = model.label n.now
line_view (Order words) = model.order (map (λ w. w.now) words.items)

abbrev pub lines_view : List Line → List model.Line
lines_view ls = map line_view ls
