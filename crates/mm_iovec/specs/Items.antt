-- The messages as this crate keeps them, read as those of the definitions.
-- Source: FF-M 1.1, mapped vectors (MM-IOVEC).
use Rattle.std.specs.Prelude.{ℕ, ◌==◌, List, map, filter}
use Rattle.ffm_model.specs.declared.system.Service.{Service}
use Rattle.ffm_model.specs.Held.VectorState.{fresh, used, mapped, unmapped}
use Rattle.ffm_model.specs.Held as model
use Rattle.mm_iovec.specs.declared.vector.VectorState.{VectorState}
use Rattle.mm_iovec.specs.declared.vector.VectorState.TheVariants.{Fresh, Used, Mapped, Unmapped}
use Rattle.mm_iovec.specs.declared.vector.HeldVector.{HeldVector}
use Rattle.mm_iovec.specs.declared.item.HeldItem.{HeldItem}
use Rattle.mm_iovec.specs.declared.holder.HolderService.{HolderService}

abbrev pub state_of : VectorState → model.VectorState
state_of Fresh = fresh
state_of Used = used
state_of Mapped = mapped
state_of Unmapped = unmapped

abbrev pub vector_of : HeldVector → model.HeldVector
vector_of v = record { size = v.size; state = state_of v.state }

abbrev pub message_of : HeldItem → model.HeldMessage
message_of m = record { handle = m.handle; kind = m.kind; mm = m.mm; input = map vector_of m.input; output = map vector_of m.output }

abbrev pub service_of : HolderService → model.HolderService
service_of v = record { signal = v.signal; mm = v.mm }

-- those services of a system that are the partition's
abbrev pub own_services : ℕ → List Service → List model.HolderService
own_services partition vs = map (λ v. record { signal = v.signal; mm = v.mm }) (filter (λ v. v.owner == partition) vs)
