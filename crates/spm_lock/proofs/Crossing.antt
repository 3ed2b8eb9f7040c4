-- What may go to another thread: each part may, and so the whole.
use mathlib.Core.List.{[], ◌∷◌}
use mir.Syntax.{Sym}
use denote.RattleType.{RattleType}
use denote.Struct.Field.{row_field}
use denote.Struct.Tuple.{TupleAt, type_at}
use denote.Param.Send.{IsSend, IsSync, sendable, view_send, view_sync}
use denote.Param.SendFields.{as_row_send, declared_send, declared_sync}
use Rattle.std.proofs.vec.Vec.TheSendSync as vec
use Rattle.std.proofs.alloc.Global.TheSendSync as global
use Rattle.std.below.std_heap.proofs.GlobalAllocator.TheSendSync as frees
use Rattle.std.proofs.option.Option.TheSendSync as option
use Rattle.std.proofs.boxed.Box.TheSendSync as boxed
use Rattle.atomic_table.proofs.shared.Seat.TheSendSync as seat
use Rattle.atomic_table.proofs.owned.Table.TheSendSync as table
use Rattle.ffm_model.proofs.system.System.TheSendSync as system
use Rattle.ffm_model.proofs.machine.ActorId.TheSendSync as actor
use Rattle.ffm_model.proofs.machine.Entry.TheSendSync as entry
use Rattle.memory_image.proofs.image.Image.TheSendSync as image
use Rattle.spm_tables.proofs.tables.Tables.TheSendSync as tables
use Rattle.spm_lock.proofs.waiting.WaitingRoom.TheSendSync as room
use Rattle.std.specs.contracts.option.Option as slot
use Rattle.std.specs.contracts.boxed.Box as boxed_row
use Rattle.std.specs.contracts.alloc.Global as global_row
use Rattle.std.specs.contracts.impls.GlobalAllocator.TheImpl as allocator
use Rattle.spm_core.specs.contracts.spm.Spm as spm
use Rattle.spm_core.specs.contracts.spm.Spm.TheInside as manager
use Rattle.spm_lock.specs.contracts.pass.Pass as pass
use Rattle.spm_lock.specs.contracts.pass.Pass.TheInside as pass_fields
use Rattle.spm_lock.specs.contracts.shared.Shared as shared
use Rattle.spm_lock.specs.contracts.shared.Shared.TheInside as shared_fields

manager_fields_cross : IsSend manager.the_row
manager_fields_cross =
    declared_send manager.the_type (system.the_send, (search sendable, (search sendable, (image.the_send, (search (sendable, entry.the_send, vec.the_send, global.the_send, frees.the_frees), (search (sendable, tables.the_send, boxed.the_send, global.the_send, frees.the_frees), tt))))))

-- a manager may
pub manager_crosses : IsSend spm.the_row
manager_crosses = view_send _ _ _ _ _ manager_fields_cross

-- and what stands in the slot
slot_crosses : IsSend (slot.the_row (boxed_row.the_row spm.the_row global_row.the_row allocator.ghosts))
slot_crosses = search (sendable, option.the_send, boxed.the_send, manager_crosses, global.the_send, frees.the_frees)

-- and a pass
pub pass_crosses : IsSend pass.the_row
pass_crosses = view_send _ _ _ _ _ (declared_send pass_fields.the_type (search (sendable, seat.the_send, slot_crosses), (search (sendable, actor.the_send), (search sendable, tt))))

-- a shared manager may be lent to other threads
pub shared_crosses : IsSync shared.the_row
shared_crosses = view_sync _ _ _ _ _ (declared_sync shared_fields.the_type (search (sendable, table.the_sync, slot_crosses, global.the_sync, global.the_send, frees.the_frees), (search (sendable, room.the_sync), tt)))

-- a pair of what may
pub two_cross : (name : Sym) (A B : RattleType) → IsSend A → IsSend B → IsSend (TupleAt name (A ∷ B ∷ []))
two_cross name A B a b = declared_send (type_at name (A ∷ B ∷ [])) (as_row_send (row_field A) a, (as_row_send (row_field B) b, tt))
