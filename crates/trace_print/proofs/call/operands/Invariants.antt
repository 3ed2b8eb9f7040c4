use Rattle.std.proofs.Common.{◌≡◌, length, drop}
use Rattle.trace_print.specs.View.{words_of}
use Rattle.trace_print.specs.Reading.{operands_at}
use Rattle.trace_print.proofs.Operands.{read_on}
use Rattle.trace_print.proofs.call.operands.Given as goal

abbrev pub invariant-loop-kind : goal.invariant-loop-kind
invariant-loop-kind l = record {
  read : read_on l.operands.items (drop l.kind-index l.kinds) (words_of l.words) ≡ operands_at l.kinds (words_of l.initial.words);
  count : length l.operands.items ≡ l.kind-index;
}
