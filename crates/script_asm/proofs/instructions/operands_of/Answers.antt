use Rattle.std.proofs.Common.{arith, ◌∙◌, length-set}
use Rattle.script_asm.proofs.SlotLemmas.{unused-set, rest-next, done, each-set}
use Rattle.script_asm.proofs.instructions.operands_of.Goals as goal

pub loop-i-preserved : goal.loop-i-preserved
loop-i-preserved g c = record {
  long = length-set _ _ _ ∙ c.loop-i.invariant.long;
  each = each-set _ _ _ c.loop-i.invariant.each c.in_ok-operands.ensures.operand;
  unused = unused-set _ _ _ _ (omega arith) c.loop-i.invariant.unused;
  rest = rest-next _ _ _ _ _ c.loop-i-test.true (omega arith) c.in_ok-operands.ensures.gives ∙ c.loop-i.invariant.rest;
}

pub returns-clause-gives : goal.returns-clause-gives
returns-clause-gives g c = done _ _ _ _ (omega arith) (omega arith) c.loop-i.invariant.unused c.loop-i.invariant.rest
