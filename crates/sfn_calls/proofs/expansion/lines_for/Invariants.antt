use Rattle.std.proofs.Common.{◌≡◌, drop}
use Rattle.ffm_model.specs.SfnRuns.{lines_for}
use Rattle.sfn_calls.proofs.expansion.lines_for.Given as goal

abbrev pub invariant-loop-function : goal.invariant-loop-function
invariant-loop-function l = lines_for l.functions l.service ≡ lines_for (drop l.function-index l.functions) l.service
