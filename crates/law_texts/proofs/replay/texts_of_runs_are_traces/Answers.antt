use Rattle.law_texts.proofs.Readable.{are_readable}
use Rattle.law_texts.proofs.replay.texts_of_runs_are_traces.Goals as goal

pub returns : goal.returns
returns c = are_readable
