use Rattle.law_calls.proofs.Changed.{step-outside, effect-outside}
use Rattle.law_calls.proofs.Within.{run-four}
use Rattle.law_calls.proofs.reach.bytes_changed_lie_in_reach.Goals as goal

pub returns-clause-steps : goal.returns-clause-steps
returns-clause-steps c = step-outside

pub returns-clause-calls : goal.returns-clause-calls
returns-clause-calls c = effect-outside

pub returns-clause-runs : goal.returns-clause-runs
returns-clause-runs c = λ s m es st h. step-outside s st (run-four s m es st h)
