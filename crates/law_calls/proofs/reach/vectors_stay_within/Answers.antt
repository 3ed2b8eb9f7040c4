use Rattle.law_calls.proofs.Within.{run-four, run-vectors}
use Rattle.law_calls.proofs.reach.vectors_stay_within.Goals as goal

pub returns-clause-four : goal.returns-clause-four
returns-clause-four c = run-four

pub returns-clause-within : goal.returns-clause-within
returns-clause-within c = run-vectors
