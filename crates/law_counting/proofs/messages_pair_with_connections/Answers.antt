use Rattle.law_counting.proofs.Runs.{run-objects}
use Rattle.law_counting.proofs.Pairs.{fitting-pairs}
use Rattle.law_counting.proofs.messages_pair_with_connections.Goals as goal

pub returns : goal.returns
returns c s m es st h = fitting-pairs s st.spm (run-objects s m es st h)
