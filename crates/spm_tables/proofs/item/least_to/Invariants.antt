use Rattle.spm_tables.proofs.MessageLemmas.{NoneBelow}
use Rattle.spm_tables.proofs.item.least_to.Given as goal

abbrev pub invariant-loop-index : goal.invariant-loop-index
invariant-loop-index l = NoneBelow l.messages l.service l.index
