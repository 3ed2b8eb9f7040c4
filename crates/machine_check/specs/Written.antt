-- The ranges of addresses that an entry may change, and what differs within them.
-- Source: FF-M 1.0, `psa/service.h`, psa_get, psa_read, psa_write and psa_reply. These serve the audit's own proof; no public contract cites them.
use Rattle.std.specs.Prelude.{ℕ, zero, suc, ◌+◌, ◌*◌, ◌<◌, ◌≤◌, ◌≡◌, ◌==◌, ◌⊎◌, min, int_lt, true, not, ◌&&◌, ◌||◌, if◌then◌else◌, List, [], ◌∷◌, length}
use Rattle.std.specs.Option.{option_map_or}
use Rattle.memory_image.specs.Differences.{differs, any_covers, count_in, IsLeast}
use Rattle.ffm_model.specs.declared.constants.TheConstants.{PSA_IPC_CALL}
use Rattle.ffm_model.specs.declared.system.System.{System}
use Rattle.ffm_model.specs.declared.machine.Call.{Call}
use Rattle.ffm_model.specs.declared.machine.Call.TheVariants as call
use Rattle.ffm_model.specs.declared.machine.Entry.{Entry}
use Rattle.ffm_model.specs.declared.machine.Outcome.{Outcome}
use Rattle.ffm_model.specs.declared.machine.Outcome.TheVariants.{Number, Got, Done}
use Rattle.ffm_model.specs.declared.objects.PendingMessage.{PendingMessage}
use Rattle.ffm_model.specs.declared.objects.Span.{Span}
use Rattle.ffm_model.specs.Memory.{ByteMap}
use Rattle.ffm_model.specs.ServiceCalls.{message_size, output_at, request_held, rest_of}
use Rattle.ffm_model.specs.State.{SpmState, message_held}
use Rattle.memory_image.specs.Pieces.{is_inside}
use Rattle.machine_check.specs.declared.written.Ranges.{Ranges}
use Rattle.machine_check.specs.declared.differences.Differences.{Differences}
use Rattle.machine_check.specs.Auditing.{own_ram}

-- n ranges of one length, each 8 bytes after the one before; the last one first
abbrev pub ranges_from : ℕ → ℕ → ℕ → List (ℕ × ℕ)
ranges_from first len zero = []
ranges_from first len (suc n) = (first + 8 * n, len) ∷ ranges_from first len n

abbrev pub ranges_in : Ranges → List (ℕ × ℕ)
ranges_in w = ranges_from w.first w.len w.times

abbrev pub nothing : Ranges
nothing = record { first = 0; len = 0; times = 0 }

-- one range, where it has a byte
abbrev pub one_range : ℕ → ℕ → Ranges
one_range first len = if len == 0 then nothing else record { first = first; len = len; times = 1 }

-- psa_write: the next bytes of an output vector, no more than its rest
abbrev pub next_bytes : Span → ℕ → Ranges
next_bytes v len = one_range (v.base + v.moved) (min len (rest_of v))

-- psa_reply: the length words of a request's output vectors, each after its base
abbrev pub length_words : PendingMessage → Ranges
length_words m = if int_lt m.kind PSA_IPC_CALL || (m.vectors.out_len == 0) then nothing else record { first = m.vectors.out_vec + 4; len = 4; times = m.vectors.out_len }

-- psa_get puts the message
abbrev pub by_get : Call → Ranges
by_get (call.Get signal msg) = one_range msg message_size
by_get c = nothing

-- psa_read puts as many bytes as it answers
abbrev pub by_read : ℕ → Call → Ranges
by_read n (call.Read h index buffer len) = one_range buffer n
by_read n c = nothing

-- psa_write, psa_reply and a store, where they are done
abbrev pub by_done : System → SpmState → ℕ → Call → Ranges
by_done s b a (call.Write h index buffer len) = option_map_or (λ m. next_bytes (output_at m index) len) (request_held s b a h index) nothing
by_done s b a (call.Reply h status) = option_map_or length_words (message_held s b a h) nothing
by_done s b a (call.Store address size value) = one_range address size
by_done s b a c = nothing

abbrev pub written_by : System → SpmState → ℕ → Outcome → Call → Ranges
written_by s b a (Got m) c = by_get c
written_by s b a (Number n) c = by_read n c
written_by s b a Done c = by_done s b a c
written_by s b a o c = nothing

abbrev pub written : System → SpmState → Entry → Ranges
written s b e = written_by s b e.actor.0 e.outcome e.call

-- the message that an outcome shows has four sizes of each kind
abbrev pub HasFourSizes : Outcome → Type 0
HasFourSizes (Got m) = (length m.in_size ≡ 4) × (length m.out_size ≡ 4)
HasFourSizes o = Unit {0}

-- few ranges that share no byte, each with a byte and whole in one region
pub record AreInside (regions : List (ℕ × ℕ)) (w : Ranges) : Type 0 where
  pub few : (w.times ≤ 1) ⊎ ((w.times ≤ 4) × (w.len ≡ 4))
  pub some : (w.times ≡ 0) ⊎ (0 < w.len)
  pub inside : (k : ℕ) → k < w.times → is_inside (w.first + 8 * k) w.len regions ≡ true

-- what differs in some ranges, with respect to an actor's own RAM
pub record AreDifferences (s : System) (a : ℕ) (old new : ByteMap) (rs : List (ℕ × ℕ)) (d : Differences) : Type 0 where
  pub lowest : IsLeast (λ x. differs old new x && any_covers rs x) d.lowest
  pub count : d.count ≡ count_in (differs old new) rs
  pub outside : IsLeast (λ x. (differs old new x && not (own_ram s a x)) && any_covers rs x) d.outside

-- the bytes of the ranges, out of another memory
abbrev pub taken_from : ByteMap → List (ℕ × ℕ) → ByteMap → ByteMap
taken_from new rs old x = if any_covers rs x then new x else old x
