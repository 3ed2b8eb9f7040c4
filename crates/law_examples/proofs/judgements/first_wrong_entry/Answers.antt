-- Each clause holds by computing.
use Rattle.std.proofs.Common.{refl}
use Rattle.ffm_model.specs.Step.{step}
use Rattle.law_examples.proofs.judgements.first_wrong_entry.Goals as goal

pub returns : goal.returns
unfolding step
returns c = record { whole = refl; up_to_the_limit = refl; message_unknown = refl; connection_unknown = refl; past_the_limit = refl; wrong_verdict = refl; blocked_is_not_quiet = refl }
