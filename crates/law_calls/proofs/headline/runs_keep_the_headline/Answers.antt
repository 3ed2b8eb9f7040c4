use Rattle.law_calls.proofs.KeptPromises.{run_keeps}
use Rattle.law_calls.proofs.headline.runs_keep_the_headline.Goals as goal

pub returns : goal.returns
returns c = run_keeps
