use Rattle.law_counting.proofs.Runs.{run-objects}
use Rattle.law_counting.proofs.Bounds.{few-connections}
use Rattle.law_counting.proofs.Callers.{few-messages-of, without-stateless}
use Rattle.law_counting.proofs.Rooms.{fitting-room}
use Rattle.law_counting.proofs.declared_connections_suffice.Goals as goal

pub returns-clause-connections : goal.returns-clause-connections
returns-clause-connections c s m es st h = few-connections s st.spm (run-objects s m es st h)

pub returns-clause-messages : goal.returns-clause-messages
returns-clause-messages c s m es st h = few-messages-of s st.spm (run-objects s m es st h)

pub returns-clause-without_stateless : goal.returns-clause-without_stateless
returns-clause-without_stateless c = without-stateless

pub returns-clause-room : goal.returns-clause-room
returns-clause-room c = fitting-room
