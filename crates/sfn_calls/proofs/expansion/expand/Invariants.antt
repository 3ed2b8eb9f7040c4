use Rattle.std.proofs.Common.{◌≡◌, ◌+◌, ◌-◌, ◌*◌, ◌≤◌, ◌∷◌, length}
use Rattle.ffm_model.specs.declared.constants.TheConstants.{PSA_BLOCK}
use Rattle.ffm_model.specs.declared.script.CallName.TheVariants as name
use Rattle.ffm_model.specs.declared.script.Operand.TheVariants.{Number}
use Rattle.sfn_calls.specs.Loop.{services_code, call_line}
use Rattle.ffm_model.specs.SfnRuns.{sfn_services_from}
use Rattle.sfn_calls.proofs.expansion.expand.Given as goal

abbrev pub invariant-loop-bit : goal.invariant-loop-bit
invariant-loop-bit l = record {
  code : l.code.items ≡ call_line name.Wait (Number l.mask) (Number PSA_BLOCK) ∷ services_code l.base 1 (sfn_services_from l.system l.partition l.functions 4 (l.bit - 4));
  few : length l.code.items ≤ 1 + 8199 * (l.bit - 4);
}
