use Rattle.std.proofs.Common.{rules}
use Rattle.trace_print.specs.View.{words_of}
use Rattle.trace_print.proofs.Operands.{resumed}
use Rattle.trace_print.proofs.call.call.Goals as goal

pub returns-then-eq : goal.returns-then-eq
returns-then-eq c = resumed (words_of c.args.words) c.in_ok-name.name.now (words_of c.in_ok-name.words) (search rules) (search rules)
