use Rattle.std.proofs.Common.{◌≡◌, ◌-◌}
use Rattle.ffm_model.specs.Functions.{signals_in}
use Rattle.ffm_model.specs.SfnRuns.{sfn_services_from}
use Rattle.sfn_calls.proofs.expansion.signals_of.Given as goal

abbrev pub invariant-loop-bit : goal.invariant-loop-bit
invariant-loop-bit l = l.signals ≡ signals_in (sfn_services_from l.system l.partition l.functions 4 (l.bit - 4))
