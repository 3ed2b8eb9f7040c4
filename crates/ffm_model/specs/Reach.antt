-- The addresses that an actor may read and change.
-- Source: FF-M 1.0, isolation of partitions; `psa/service.h`, psa_read, psa_write and psa_reply.
use Rattle.std.specs.Prelude.{ℕ, zero, suc, ◌+◌, ◌≡◌, ◌⊎◌, nat_lt, nat_le, int_le, Bool, true, false, ◌&&◌, ◌||◌, is_some, Some, None, Option}
use Rattle.std.specs.List.{list_any}
use Rattle.ffm_model.specs.declared.constants.TheConstants.{PSA_IPC_CALL}
use Rattle.ffm_model.specs.declared.system.System.{System}
use Rattle.ffm_model.specs.declared.system.Region.{Region}
use Rattle.ffm_model.specs.declared.objects.Span.{Span}
use Rattle.ffm_model.specs.declared.objects.PendingMessage.{PendingMessage}
use Rattle.ffm_model.specs.Actors.{is_service_of}
use Rattle.ffm_model.specs.Memory.{is_ram_of, is_mmio_of, is_writable_mmio_of}
use Rattle.ffm_model.specs.State.{SpmState, State}

abbrev pub covers : Region → ℕ → Bool
covers r x = nat_le r.base x && nat_lt x (r.base + r.size)

abbrev pub span_has : ℕ → Span → Bool
span_has x v = nat_le v.base x && nat_lt x (v.base + v.len)

-- a request that was delivered to the partition and isn't answered yet
abbrev pub is_request_to : System → ℕ → PendingMessage → Bool
is_request_to s a m = is_service_of s a m.service && (is_some m.handle && int_le PSA_IPC_CALL m.kind)

-- RAM of the domain, the partition's own MMIO, and the input vectors of the requests that it holds
abbrev pub read_reach : System → SpmState → ℕ → ℕ → Bool
read_reach s b a x =
    list_any (λ r. (is_ram_of s a r.class || is_mmio_of a r.class) && covers r x) s.regions
    || list_any (λ m. is_request_to s a m && list_any (span_has x) m.vectors.input) b.messages

-- the address lies in the length word of one of n descriptors
abbrev pub length_word_has : ℕ → ℕ → ℕ → Bool
length_word_has x at zero = false
length_word_has x at (suc n) = (nat_le (at + 4) x && nat_lt x (at + 8)) || length_word_has x (at + 8) n

-- RAM of the domain, the partition's own writable MMIO, and the output vectors and length words of the requests that it holds
abbrev pub write_reach : System → SpmState → ℕ → ℕ → Bool
write_reach s b a x =
    list_any (λ r. (is_ram_of s a r.class || is_writable_mmio_of a r.class) && covers r x) s.regions
    || list_any (λ m. is_request_to s a m && (list_any (span_has x) m.vectors.output || length_word_has x m.vectors.out_vec m.vectors.out_len)) b.messages

-- two states agree in everything but memory, and in memory where the actor may read
pub record AgreeWithin (s : System) (a : ℕ) (one other : State) : Type 0 where
  pub spm : one.spm ≡ other.spm
  pub handles : one.handles_given ≡ other.handles_given
  pub bytes : (x : ℕ) → read_reach s one.spm a x ≡ true → one.memory x ≡ other.memory x

-- what an entry of the actor then leaves of the two: no other difference, and each byte is the same in both or was not changed
pub record TellsNothing (one other one_after other_after : State) : Type 0 where
  pub spm : one_after.spm ≡ other_after.spm
  pub handles : one_after.handles_given ≡ other_after.handles_given
  pub bytes : (x : ℕ) → (one_after.memory x ≡ other_after.memory x) ⊎ ((one_after.memory x ≡ one.memory x) × (other_after.memory x ≡ other.memory x))

-- both steps exist, or neither does
abbrev pub StepsAlike : State → State → Option State → Option State → Type 0
StepsAlike one other (Some x) (Some y) = TellsNothing one other x y
StepsAlike one other None None = Unit {0}
StepsAlike one other _ _ = ⊥
