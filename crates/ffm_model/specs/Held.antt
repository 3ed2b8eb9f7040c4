-- The messages that a partition got and hasn't answered, and what has become of their vectors.
-- Source: FF-M 1.1, mapped vectors (MM-IOVEC); in this simulator a mapped vector's bytes stand in a window of the partition's own RAM.
use Rattle.std.specs.Prelude.{ℕ, ℤ, pos, ◌+◌, ◌-◌, ◌*◌, ◌/◌, ◌==◌, nat_lt, nat_le, int_le, Bool, true, false, not, ◌&&◌, List, [], ◌∷◌, ◌++◌, length, map, filter, get_or, slice_set, Option, find, if◌then◌else◌}
use Rattle.std.specs.List.{list_any}
use Rattle.std.specs.Option.{option_map_or}
use Rattle.ffm_model.specs.declared.machine.Handle.{Handle}
use Rattle.ffm_model.specs.declared.machine.Message.{Message}
use Rattle.ffm_model.specs.declared.machine.Call.{Call}
use Rattle.ffm_model.specs.declared.machine.Call.TheVariants as call
use Rattle.ffm_model.specs.declared.machine.Outcome.{Outcome}
use Rattle.ffm_model.specs.declared.machine.Outcome.TheVariants as outcome
use Rattle.ffm_model.specs.declared.system.System.{System}
use Rattle.ffm_model.specs.PartitionRam.{ram_base, ram_size_of, heap_of}
use Rattle.ffm_model.specs.State.{handle_eq}

-- ---- the partition

-- a service of the partition: its signal, and whether its vectors may be mapped
pub record HolderService : Type 0 where
  pub signal : ℕ
  pub mm : Bool

-- what its messages and windows rest on: its RAM, how many bytes of it are heap, and its services
pub record Holder : Type 0 where
  pub base : ℕ
  pub size : ℕ
  pub heap : ℕ
  pub services : List HolderService

-- a partition of a system
abbrev pub holder_of : System → ℕ → Holder
holder_of s a = record {
  base = ram_base s a;
  size = ram_size_of s a;
  heap = heap_of s a;
  services = map (λ v. record { signal = v.signal; mm = v.mm }) (filter (λ v. v.owner == a) s.services);
}

-- the end of the RAM has eight windows, which share the heap: four for inputs, then four for outputs
abbrev pub window_size : Holder → ℕ
window_size p = p.heap / 8

abbrev pub window : Holder → ℕ → ℕ
window p i = p.base + p.size - 8 * window_size p + i * window_size p

abbrev pub input_window : Holder → ℕ → ℕ
input_window p index = window p index

abbrev pub output_window : Holder → ℕ → ℕ
output_window p index = window p (4 + index)

-- ---- vectors

-- what has become of a vector: untouched, used by psa_read and its like, mapped, or mapped and unmapped again
pub data VectorState : Type 0 where
  fresh : VectorState
  used : VectorState
  mapped : VectorState
  unmapped : VectorState

abbrev pub is_fresh : VectorState → Bool
is_fresh fresh = true
is_fresh _ = false

abbrev pub is_mapped : VectorState → Bool
is_mapped mapped = true
is_mapped _ = false

abbrev pub is_or_was_mapped : VectorState → Bool
is_or_was_mapped mapped = true
is_or_was_mapped unmapped = true
is_or_was_mapped _ = false

pub record HeldVector : Type 0 where
  pub size : ℕ
  pub state : VectorState

abbrev pub fresh_vector : ℕ → HeldVector
fresh_vector size = record { size = size; state = fresh }

-- stands for one that isn't there
abbrev pub no_vector : HeldVector
no_vector = record { size = 0; state = used }

abbrev pub vector_at : List HeldVector → ℕ → HeldVector
vector_at vs index = get_or vs index no_vector

abbrev pub with_state : VectorState → ℕ → List HeldVector → List HeldVector
with_state u index vs = slice_set vs index (record (vector_at vs index) { state = u })

-- a fresh one becomes used
abbrev pub touched : ℕ → List HeldVector → List HeldVector
touched index vs = if is_fresh (vector_at vs index).state then with_state used index vs else vs

-- ---- the table

-- a message: its handle and kind, whether its service's vectors may be mapped, and its vectors
pub record HeldMessage : Type 0 where
  pub handle : Handle
  pub kind : ℤ
  pub mm : Bool
  pub input : List HeldVector
  pub output : List HeldVector

abbrev pub is_held_as : Handle → HeldMessage → Bool
is_held_as h m = handle_eq m.handle h

-- the message of a handle; of two with one handle the older one counts
abbrev pub held : List HeldMessage → Handle → Option HeldMessage
held t h = find (is_held_as h) t

-- the message of a handle is changed
unfoldable pub changed_at : Handle → (HeldMessage → HeldMessage) → List HeldMessage → List HeldMessage
changed_at h f [] = []
changed_at h f (m ∷ ms) = if is_held_as h m then f m ∷ ms else m ∷ changed_at h f ms

-- the message of a handle is gone
unfoldable pub without : Handle → List HeldMessage → List HeldMessage
without h [] = []
without h (m ∷ ms) = if is_held_as h m then ms else m ∷ without h ms

abbrev pub with_input : VectorState → ℕ → HeldMessage → HeldMessage
with_input u index m = record m { input = with_state u index m.input }

abbrev pub with_output : VectorState → ℕ → HeldMessage → HeldMessage
with_output u index m = record m { output = with_state u index m.output }

abbrev pub most_held : ℕ
most_held = 304

-- a message of a service comes last, its vectors fresh; a full table keeps it out, which no run shows
abbrev pub with_message_of : HolderService → Message → List HeldMessage → List HeldMessage
with_message_of v m t =
    if nat_lt (length t) most_held
    then t ++ record { handle = m.handle; kind = m.kind; mm = v.mm; input = map fresh_vector m.in_size; output = map fresh_vector m.out_size } ∷ []
    else t

-- what psa_get and psa_reply make of the table
abbrev pub table_after : Holder → Call → Outcome → List HeldMessage → List HeldMessage
table_after p (call.Get signal msg) (outcome.Got m) t = option_map_or (λ v. with_message_of v m t) (find (λ v. v.signal == signal) p.services) t
table_after p (call.Reply h status) outcome.Done t = without h t
table_after p _ _ t = t

-- psa_read, psa_skip and psa_write touch their vector
abbrev pub table_touched : Call → List HeldMessage → List HeldMessage
table_touched (call.Read h index buffer len) t = changed_at h (λ m. record m { input = touched index m.input }) t
table_touched (call.Skip h index len) t = changed_at h (λ m. record m { input = touched index m.input }) t
table_touched (call.Write h index buffer len) t = changed_at h (λ m. record m { output = touched index m.output }) t
table_touched _ t = t

-- ---- what may be mapped, unmapped, read and written; all else is a PROGRAMMER ERROR

-- a fresh vector of a request to a service with mm_iovec, with bytes, and no more of them than a window
abbrev pub is_mappable : Holder → HeldMessage → HeldVector → Bool
is_mappable p m v = int_le (pos 0) m.kind && (m.mm && (nat_lt 0 v.size && (nat_le v.size (window_size p) && is_fresh v.state)))

-- no message has its vector in the window
abbrev pub is_input_free : List HeldMessage → ℕ → Bool
is_input_free t index = not (list_any (λ m. is_mapped (vector_at m.input index).state) t)

abbrev pub is_output_free : List HeldMessage → ℕ → Bool
is_output_free t index = not (list_any (λ m. is_mapped (vector_at m.output index).state) t)

-- the index is below 4, and the message of the handle has a fact
abbrev pub holds : List HeldMessage → Handle → ℕ → (HeldMessage → Bool) → Bool
holds t h index fact = nat_lt index 4 && option_map_or fact (held t h) false

abbrev pub can_map_in : Holder → List HeldMessage → Handle → ℕ → Bool
can_map_in p t h index = holds t h index (λ m. is_mappable p m (vector_at m.input index) && is_input_free t index)

abbrev pub can_map_out : Holder → List HeldMessage → Handle → ℕ → Bool
can_map_out p t h index = holds t h index (λ m. is_mappable p m (vector_at m.output index) && is_output_free t index)

abbrev pub can_unmap_in : List HeldMessage → Handle → ℕ → Bool
can_unmap_in t h index = holds t h index (λ m. is_mapped (vector_at m.input index).state)

-- no more than its size may be copied back
abbrev pub can_unmap_out : List HeldMessage → Handle → ℕ → ℕ → Bool
can_unmap_out t h index len = holds t h index (λ m. is_mapped (vector_at m.output index).state && nat_le len (vector_at m.output index).size)

-- psa_read, psa_skip and psa_write are refused on a vector that is or was mapped
abbrev pub is_refused : List HeldMessage → Call → Bool
is_refused t (call.Read h index buffer len) = holds t h index (λ m. is_or_was_mapped (vector_at m.input index).state)
is_refused t (call.Skip h index len) = holds t h index (λ m. is_or_was_mapped (vector_at m.input index).state)
is_refused t (call.Write h index buffer len) = holds t h index (λ m. is_or_was_mapped (vector_at m.output index).state)
is_refused t _ = false

abbrev pub input_size : List HeldMessage → Handle → ℕ → ℕ
input_size t h index = option_map_or (λ m. (vector_at m.input index).size) (held t h) 0
