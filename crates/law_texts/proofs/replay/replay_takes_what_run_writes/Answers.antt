use Rattle.law_texts.proofs.Replays.{is_replayed}
use Rattle.law_texts.proofs.replay.replay_takes_what_run_writes.Goals as goal

pub returns : goal.returns
returns c = is_replayed
