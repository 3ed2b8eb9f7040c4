-- What threads are handed may go to them: each part may, and so the whole.
use mathlib.Core.List.{[], ◌∷◌}
use mir.Syntax.{Sym}
use denote.RattleType.{RattleType}
use denote.Struct.Field.{row_field}
use denote.Struct.Tuple.{TupleAt, type_at}
use denote.Param.Send.{IsSend, sendable}
use denote.Param.SendFields.{declared_send, as_row_send}
use Rattle.ffm_model.proofs.list.List.TheSendSync as list
use Rattle.partition_sim.proofs.workers.Worker.TheSendSync as worker
use Rattle.ffm_model.specs.contracts.list.List as list_row
use Rattle.partition_sim.specs.contracts.workers.Worker as worker_row
use Rattle.spm_lock.specs.contracts.pass.Pass as pass_row
use Rattle.spm_lock.proofs.Crossing.{pass_crosses}

pub crew_crosses : IsSend (list_row.the_row (worker_row.the_row pass_row.the_row))
crew_crosses = search (sendable, list.the_send, worker.the_send, pass_crosses)

pub five_cross : (name : Sym) (A B C D E : RattleType) → IsSend A → IsSend B → IsSend C → IsSend D → IsSend E → IsSend (TupleAt name (A ∷ B ∷ C ∷ D ∷ E ∷ []))
five_cross name A B C D E a b c d e =
    declared_send (type_at name (A ∷ B ∷ C ∷ D ∷ E ∷ [])) (as_row_send (row_field A) a, (as_row_send (row_field B) b, (as_row_send (row_field C) c, (as_row_send (row_field D) d, (as_row_send (row_field E) e, tt)))))
