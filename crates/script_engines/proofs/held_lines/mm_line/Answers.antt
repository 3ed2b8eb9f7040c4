use Rattle.std.proofs.Common.{refl}
use Rattle.script_engines.proofs.held_lines.mm_line.Goals as goal

pub returns-in-MapIn : goal.returns-in-MapIn
returns-in-MapIn c = λ p x e. rw (c.in-MapIn.is, e, c.handle_operand-handle.ensures, c.number_operand-index.ensures) refl
