-- What an actor's calls name lies in its reach.
use Rattle.std.proofs.Common.{ℕ, zero, suc, ◌≡◌, ◌≤◌, ◌+◌, Bool, true, false, ◌&&◌, ◌||◌, List, [], ◌∷◌, get_or, arith, refl, inl, inr}
use Rattle.std.specs.Prelude.{ℤ, pos, negsuc, int_lt, int_le, is_some, Option, Some, None}
use Rattle.std.specs.List.{list_any}
use Rattle.std.proofs.lemmas.Bool.{and_from, and_parts, or_cases, or_left, or_right}
use Rattle.std.proofs.lemmas.Bool.Decides.{nat_tests}
use Rattle.law_lists.proofs.Tests.{find-any, find-passes, list_any-more}
use Rattle.ffm_model.specs.declared.constants.TheConstants.{PSA_IPC_CALL}
use Rattle.ffm_model.specs.declared.system.System.{System}
use Rattle.ffm_model.specs.declared.machine.Handle.{Handle}
use Rattle.ffm_model.specs.declared.objects.Span.{Span}
use Rattle.ffm_model.specs.declared.objects.PendingMessage.{PendingMessage}
use Rattle.ffm_model.specs.Actors.{is_service_of}
use Rattle.ffm_model.specs.Memory.{valid_buffer, may_read, may_write, lies_in, is_ram_of, is_mmio_of, is_writable_mmio_of, no_span}
use Rattle.ffm_model.specs.State.{SpmState, message_held, has_handle}
use Rattle.ffm_model.specs.Reach.{covers, span_has, length_word_has, is_request_to, read_reach, write_reach}
use Rattle.ffm_model.specs.ServiceCalls.{request_held, rest_of, input_at, output_at}
use Rattle.memory_image.specs.Differences.{range_covers}
use Rattle.memory_image.proofs.Messages.{request_is}
use Rattle.memory_image.proofs.Systems.{lies-covers}
use Rattle.message_vectors.specs.Bytes.{ram_has}
use Rattle.message_vectors.proofs.Reached.{buffer-ram}

-- ---- regions

ram_class : (a b c : Bool) → (a && c) ≡ true → ((a || b) && c) ≡ true
ram_class true b c h = h
ram_class false b c h = cc

mmio_class : (a b c d : Bool) → (c ≡ true → d ≡ true) → (b && c) ≡ true → ((a || b) && d) ≡ true
mmio_class a true c d more h = and_from (a || true) d (or_right a true refl) (more h)
mmio_class a false c d more h = cc

pub ram-read : (s : System) (b : SpmState) (a x : ℕ) → ram_has s a x ≡ true → read_reach s b a x ≡ true
ram-read s b a x h = or_left _ _ (list_any-more (λ r. is_ram_of s a r.class && covers r x) _ (λ r. ram_class (is_ram_of s a r.class) (is_mmio_of a r.class) (covers r x)) s.regions h)

ram-written : (s : System) (b : SpmState) (a x : ℕ) → ram_has s a x ≡ true → write_reach s b a x ≡ true
ram-written s b a x h = or_left _ _ (list_any-more (λ r. is_ram_of s a r.class && covers r x) _ (λ r. ram_class (is_ram_of s a r.class) (is_writable_mmio_of a r.class) (covers r x)) s.regions h)

-- each byte of a valid buffer can be read
pub buffer-read : (s : System) (b : SpmState) (a base len x : ℕ) → valid_buffer s a base len ≡ true → range_covers (base, len) x ≡ true → read_reach s b a x ≡ true
buffer-read s b a base len x valid inside = ram-read s b a x (buffer-ram s a base len x valid inside)

-- and changed
pub buffer-written : (s : System) (b : SpmState) (a base len x : ℕ) → valid_buffer s a base len ≡ true → range_covers (base, len) x ≡ true → write_reach s b a x ≡ true
buffer-written s b a base len x valid inside = ram-written s b a x (buffer-ram s a base len x valid inside)

-- so can each byte that an actor may read by itself
pub range-read : (s : System) (b : SpmState) (a base len x : ℕ) → may_read s a base len ≡ true → range_covers (base, len) x ≡ true → read_reach s b a x ≡ true
range-read s b a base len x may inside =
    elim (or_cases (valid_buffer s a base len) (list_any (λ r. is_mmio_of a r.class && lies_in base len r) s.regions) may) [
      | inl valid ↦ buffer-read s b a base len x valid inside
      | inr own ↦ or_left _ _ (list_any-more (λ r. is_mmio_of a r.class && lies_in base len r) _
          (λ r. mmio_class (is_ram_of s a r.class) (is_mmio_of a r.class) (lies_in base len r) (covers r x) (lies-covers base len x r inside)) s.regions own)
    ]

-- and each that it may write
pub range-written : (s : System) (b : SpmState) (a base len x : ℕ) → may_write s a base len ≡ true → range_covers (base, len) x ≡ true → write_reach s b a x ≡ true
range-written s b a base len x may inside =
    elim (or_cases (valid_buffer s a base len) (list_any (λ r. is_writable_mmio_of a r.class && lies_in base len r) s.regions) may) [
      | inl valid ↦ buffer-written s b a base len x valid inside
      | inr own ↦ or_left _ _ (list_any-more (λ r. is_writable_mmio_of a r.class && lies_in base len r) _
          (λ r. mmio_class (is_ram_of s a r.class) (is_writable_mmio_of a r.class) (lies_in base len r) (covers r x) (lies-covers base len x r inside)) s.regions own)
    ]

-- ---- vectors

-- the next bytes of a vector, no more than its rest, lie in it
pub rest-inside : (v : Span) (n x : ℕ) → n ≤ rest_of v → range_covers (v.base + v.moved, n) x ≡ true → span_has x v ≡ true
rest-inside v n x fits inside = grind (arith, nat_tests)

-- a vector that isn't there has no byte
place-any : (x index : ℕ) (vs : List Span) → span_has x (get_or vs index no_span) ≡ true → list_any (span_has x) vs ≡ true
place-any x index [] h = grind (arith, nat_tests)
place-any x zero (v ∷ vs) h = or_left (span_has x v) _ h
place-any x (suc index) (v ∷ vs) h = or_right (span_has x v) _ (place-any x index vs h)

shown-there : (o : Option Handle) (h : Handle) → has_handle o h ≡ true → is_some o ≡ true
shown-there None h e = e
shown-there (Some k) h e = refl

-- a request that a partition holds
pub record IsHeld (s : System) (b : SpmState) (a : ℕ) (h : Handle) (m : PendingMessage) : Type 0 where
  pub held : message_held s b a h ≡ Some m
  pub request : int_le PSA_IPC_CALL m.kind ≡ true

held-request : (s : System) (b : SpmState) (a : ℕ) (h : Handle) (m : PendingMessage) → IsHeld s b a h m → is_request_to s a m ≡ true
held-request s b a h m it =
    let passes : (is_service_of s a m.service && has_handle m.handle h) ≡ true = find-passes (λ (m : PendingMessage). is_service_of s a m.service && has_handle m.handle h) b.messages m it.held in
    let parts = and_parts (is_service_of s a m.service) (has_handle m.handle h) passes in
    and_from _ _ parts.0 (and_from _ _ (shown-there m.handle h parts.1) it.request)

-- a byte of an input vector of it can be read
pub input-read : (s : System) (b : SpmState) (a : ℕ) (h : Handle) (index x : ℕ) (m : PendingMessage) → IsHeld s b a h m → span_has x (input_at m index) ≡ true → read_reach s b a x ≡ true
input-read s b a h index x m it inside =
    or_right _ _ (find-any (λ (m : PendingMessage). is_service_of s a m.service && has_handle m.handle h) (λ m. is_request_to s a m && list_any (span_has x) m.vectors.input) b.messages m it.held
    (and_from _ _ (held-request s b a h m it) (place-any x index m.vectors.input inside)))

request-written : (s : System) (b : SpmState) (a : ℕ) (h : Handle) (x : ℕ) (m : PendingMessage) → IsHeld s b a h m
    → (list_any (span_has x) m.vectors.output || length_word_has x m.vectors.out_vec m.vectors.out_len) ≡ true → write_reach s b a x ≡ true
request-written s b a h x m it inside =
    or_right _ _ (find-any (λ (m : PendingMessage). is_service_of s a m.service && has_handle m.handle h)
    (λ m. is_request_to s a m && (list_any (span_has x) m.vectors.output || length_word_has x m.vectors.out_vec m.vectors.out_len)) b.messages m it.held
    (and_from _ _ (held-request s b a h m it) inside))

-- a byte of an output vector can be changed
pub output-written : (s : System) (b : SpmState) (a : ℕ) (h : Handle) (index x : ℕ) (m : PendingMessage) → IsHeld s b a h m → span_has x (output_at m index) ≡ true → write_reach s b a x ≡ true
output-written s b a h index x m it inside = request-written s b a h x m it (or_left _ _ (place-any x index m.vectors.output inside))

-- and one of a length word
pub length_word-written : (s : System) (b : SpmState) (a : ℕ) (h : Handle) (x : ℕ) (m : PendingMessage) → IsHeld s b a h m → length_word_has x m.vectors.out_vec m.vectors.out_len ≡ true → write_reach s b a x ≡ true
length_word-written s b a h x m it inside = request-written s b a h x m it (or_right (list_any (span_has x) m.vectors.output) _ inside)

-- the request of a call on vectors
pub request-held : (s : System) (b : SpmState) (a : ℕ) (h : Handle) (index : ℕ) (m : PendingMessage) → request_held s b a h index ≡ Some m → IsHeld s b a h m
request-held s b a h index m e = let it = request_is s b a h index m e in record { held = it.0; request = it.1 }

-- a kind that isn't below a request's is a request's
pub request-kind : (kind : ℤ) → int_lt kind PSA_IPC_CALL ≡ false → int_le PSA_IPC_CALL kind ≡ true
request-kind (pos n) h = grind (arith, nat_tests)
request-kind (negsuc n) h = cc
