-- What holds of each message, and of its vectors, holds of the message that a call is about, and through what calls do to messages.
use Rattle.std.proofs.Common.{ℕ, ℤ, ◌≡◌, ◌∙◌, Bool, true, false, cond, List, [], ◌∷◌, map, ap, subst}
use Rattle.std.specs.Prelude.{All, Some, None, int_le, if◌then◌else◌}
use Rattle.std.proofs.lemmas.Bool.{and_parts}
use Rattle.std.proofs.lemmas.List.Elements.{All-cons, All-head, All-map, All-tail, All-weaker}
use Rattle.std.proofs.lemmas.Option.{cond_some, option_and_then_some}
use Rattle.law_lists.proofs.Tests.{find-all}
use Rattle.ffm_model.specs.declared.constants.TheConstants.{PSA_IPC_CALL}
use Rattle.ffm_model.specs.declared.machine.Handle.{Handle}
use Rattle.ffm_model.specs.declared.objects.PendingMessage.{PendingMessage}
use Rattle.ffm_model.specs.declared.objects.Vectors.{Vectors}
use Rattle.ffm_model.specs.declared.system.System.{System}
use Rattle.ffm_model.specs.ServiceCalls.{reply_to, request_held}
use Rattle.ffm_model.specs.State.{SpmState, delivered, has_handle, is_undelivered, message_held, vectors_put}

-- ---- the message that a call is about

pub held_has : (P : PendingMessage → Type 0) (s : System) (b : SpmState) (a : ℕ) (h : Handle) (m : PendingMessage) → message_held s b a h ≡ Some m → All P b.messages → P m
held_has P s b a h m held all = find-all P _ b.messages m held all

-- a request is a message that is held
pub request_is : (s : System) (b : SpmState) (a : ℕ) (h : Handle) (index : ℕ) (m : PendingMessage) → request_held s b a h index ≡ Some m → (message_held s b a h ≡ Some m) × (int_le PSA_IPC_CALL m.kind ≡ true)
request_is s b a h index m is =
    option_and_then_some _ (message_held s b a h) m is (λ y held passed.
    let both = cond_some _ y m passed in
    (held ∙ ap (λ x. Some x) both.1, subst (λ (x : PendingMessage). int_le PSA_IPC_CALL x.kind ≡ true) both.1 (and_parts (int_le PSA_IPC_CALL y.kind) _ both.0).0))

pub request_has : (P : PendingMessage → Type 0) (s : System) (b : SpmState) (a : ℕ) (h : Handle) (index : ℕ) (m : PendingMessage) → request_held s b a h index ≡ Some m → All P b.messages → P m
request_has P s b a h index m is all = held_has P s b a h m (request_is s b a h index m is).0 all

kept : {X : Type 0} (b : Bool) (x y : X) → (if b then None else Some x) ≡ Some y → Some x ≡ Some y
kept true x y h = absurd cc
kept false x y h = h

-- so is the one that psa_reply answers
pub reply_is : (s : System) (b : SpmState) (a : ℕ) (h : Handle) (status : ℤ) (m : PendingMessage) → reply_to s b a h status ≡ Some m → message_held s b a h ≡ Some m
reply_is s b a h status m told = option_and_then_some _ (message_held s b a h) m told (λ y held passed. held ∙ kept _ y m passed)

-- ---- what calls do to messages

-- a message is delivered
pub delivered_has : (W : Vectors → Type 0) (service : ℕ) (h : Handle) (ms : List PendingMessage) → All (λ m. W m.vectors) ms → All (λ m. W m.vectors) (delivered service h ms)
delivered_has W service h [] all = all
delivered_has W service h (m ∷ ms) all = by (is_undelivered service m) (delivered_has W service h ms (All-tail (λ x. W x.vectors) m ms all)) where
  P : PendingMessage → Type 0
  P x = W x.vectors

  by : (b : Bool) → All P (delivered service h ms) → All P (if b then record m { handle = Some h } ∷ ms else m ∷ delivered service h ms)
  by true rest = All-cons P (record m { handle = Some h }) ms (All-head P m ms all) (All-tail P m ms all)
  by false rest = All-cons P m (delivered service h ms) (All-head P m ms all) rest

-- vectors are put into a message
pub put_has : (W : Vectors → Type 0) (h : Handle) (v : Vectors) (ms : List PendingMessage) → W v → All (λ m. W m.vectors) ms → All (λ m. W m.vectors) (map (vectors_put h v) ms)
put_has W h v ms own all =
    All-map (λ m. W m.vectors) (vectors_put h v) ms (All-weaker (λ m. W m.vectors) (λ m. W (vectors_put h v m).vectors)
    (λ m old. elim (has_handle m.handle h) as (λ (b : Bool). W (cond {A = PendingMessage} b (record m { vectors = v }) m).vectors) [ true ↦ own | false ↦ old ]) ms all)
