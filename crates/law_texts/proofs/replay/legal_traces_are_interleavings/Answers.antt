use Rattle.law_texts.proofs.Played.{are_runs_where_played}
use Rattle.law_texts.proofs.replay.legal_traces_are_interleavings.Goals as goal

pub returns : goal.returns
returns c = are_runs_where_played
