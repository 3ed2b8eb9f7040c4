-- A message that waits for psa_get stays until its service's partition takes it, or panics.
use Rattle.std.proofs.Common.{ℕ, ◌≡◌, ◌==◌, List, [], ◌∷◌, refl, ap, ap₂, sym, ◌∙◌, subst, Bool, true, false, eqb-true}
use Rattle.std.specs.Prelude.{ℤ, pos, Option, Some, None, if◌then◌else◌, not, ◌&&◌, ◌||◌, map, filter, is_none, slice_get}
use Rattle.std.specs.List.{list_any}
use Rattle.std.specs.Option.{option_map_or}
use Rattle.std.proofs.lemmas.Bool.{and_parts, false_from_ne_true}
use Rattle.std.proofs.lemmas.Map.Views.{any-filter_same}
use Rattle.ffm_model.specs.declared.constants.TheConstants.{PSA_ERROR_COMMUNICATION_FAILURE, PSA_IPC_DISCONNECT}
use Rattle.ffm_model.specs.declared.system.System.{System}
use Rattle.ffm_model.specs.declared.system.Service.{Service}
use Rattle.ffm_model.specs.declared.machine.Handle.{Handle}
use Rattle.ffm_model.specs.declared.machine.Call.{Call}
use Rattle.ffm_model.specs.declared.objects.Vectors.{Vectors}
use Rattle.ffm_model.specs.declared.objects.OpenConnection.{OpenConnection}
use Rattle.ffm_model.specs.declared.objects.PendingMessage.{PendingMessage}
use Rattle.ffm_model.specs.declared.objects.ActorPhase.TheVariants.{Blocked}
use Rattle.ffm_model.specs.Actors.{is_service_of}
use Rattle.ffm_model.specs.declared.machine.Outcome.TheVariants as outcome
use Rattle.ffm_model.specs.declared.machine.Outcome.TheVariants.{Value}
use Rattle.ffm_model.specs.declared.objects.ConnPhase.TheVariants.{Busy, Closing}
use Rattle.ffm_model.specs.Memory.{no_vectors}
use Rattle.ffm_model.specs.State.{SpmState, with_phase, with_message, with_request, with_connection_phase, without_connection, phase_of, has_handle, is_undelivered, delivered, vectors_put}
use Rattle.ffm_model.specs.Signals.{has_undelivered}
use Rattle.ffm_model.specs.Panic.{panic_effect, is_dead}
use Rattle.ffm_model.specs.ClientCalls.{is_service_panicked, move}
use Rattle.law_counting.proofs.Balance.{Balanced}
use Rattle.law_counting.proofs.Resume.{times}
use Rattle.law_counting.proofs.Reply.{request-blocked, settled, settled-messages}
use Rattle.law_counting.proofs.Events.{EachKind}
use Rattle.law_counting.proofs.Owners.{owners-same, service-owned}
use Rattle.law_lists.proofs.Tests.{list_any-left}

-- ---- lists

any-filter : {A : Type 0} (q p : A → Bool) → ((m : A) → q m ≡ true → p m ≡ true) → (ms : List A) → list_any q ms ≡ true → list_any q (filter p ms) ≡ true
any-filter q p h ms some = any-filter_same q p true h ms ∙ some

any-map : {A : Type 0} (q : A → Bool) (f : A → A) → ((m : A) → q (f m) ≡ q m) → (ms : List A) → list_any q (map f ms) ≡ list_any q ms
any-map q f h [] = refl
any-map q f h (m ∷ ms) = ap₂ (λ (a b : Bool). a || b) (h m) (any-map q f h ms)

-- ---- one message

vectors-by : (v : ℕ) (h : Handle) (x : Vectors) (m : PendingMessage) (b : Bool) → is_undelivered v (if b then record m { vectors = x } else m) ≡ is_undelivered v m
vectors-by v h x m true = refl
vectors-by v h x m false = refl

handle-by : (o : Option Handle) (h : Handle) (b : Bool) → (is_none o && b) ≡ true → not (has_handle o h) ≡ true
handle-by None h b e = refl
handle-by (Some k) h b e = cc

owner-by : (o : Option Service) (x p : ℕ) → option_map_or (λ v. v.owner == x) o false ≡ true → (x ≡ p → ⊥) → not (option_map_or (λ v. v.owner == p) o false) ≡ true
owner-by None x p own apart = refl
owner-by (Some v) x p own apart = ap not (false_from_ne_true (v.owner == p) (λ e. apart (sym (eqb-true v.owner x own) ∙ eqb-true v.owner p e)))

service-by : (s : System) (x p v : ℕ) (m : PendingMessage) → is_service_of s x v ≡ true → (x ≡ p → ⊥) → is_undelivered v m ≡ true → not (is_service_of s p m.service) ≡ true
service-by s x p v m own apart e =
    let parts = and_parts (is_none m.handle) (m.service == v) e in
    let same : m.service ≡ v = eqb-true m.service v parts.1 in
    ap (λ (k : ℕ). not (is_service_of s p k)) same ∙ owner-by (slice_get s.services v) x p own apart

-- of two services
delivered-by : (v w : ℕ) (h : Handle) (m : PendingMessage) (ms : List PendingMessage) (b : Bool) → is_undelivered w m ≡ b → (v ≡ w → ⊥) → list_any (is_undelivered v) (delivered w h ms) ≡ list_any (is_undelivered v) ms
    → list_any (is_undelivered v) (if b then record m { handle = Some h } ∷ ms else m ∷ delivered w h ms) ≡ list_any (is_undelivered v) (m ∷ ms)
delivered-by v w h m ms true e apart go =
    let parts = and_parts (is_none m.handle) (m.service == w) e in
    let other : (m.service == v) ≡ false = false_from_ne_true (m.service == v) (λ f. apart (sym (eqb-true m.service v f) ∙ eqb-true m.service w parts.1)) in
    sym (ap (λ (b : Bool). b || list_any (is_undelivered v) ms) (ap₂ (λ (x y : Bool). x && y) parts.0 other))
delivered-by v w h m ms false e apart go = ap (λ (b : Bool). is_undelivered v m || b) go

delivered-other : (v w : ℕ) (h : Handle) → (v ≡ w → ⊥) → (ms : List PendingMessage) → list_any (is_undelivered v) (delivered w h ms) ≡ list_any (is_undelivered v) ms
delivered-other v w h apart [] = refl
delivered-other v w h apart (m ∷ ms) = delivered-by v w h m ms (is_undelivered w m) refl apart (delivered-other v w h apart ms)

-- ---- states

settled-waits : (b : SpmState) (h : Handle) (status : ℤ) (m : PendingMessage) (v : ℕ) → has_undelivered b v ≡ true → has_undelivered (settled b h status m) v ≡ true
settled-waits b h status m v some =
    ap (list_any (is_undelivered v)) (settled-messages b h status m)
    ∙ any-filter (is_undelivered v) (λ x. not (has_handle x.handle h)) (λ x e. handle-by x.handle h (x.service == v) e) b.messages some

panic-waits : (s : System) (b : SpmState) (p x v : ℕ) → is_service_of s x v ≡ true → (x ≡ p → ⊥) → has_undelivered b v ≡ true → has_undelivered (panic_effect s b p) v ≡ true
panic-waits s b p x v own apart some =
    list_any-left (is_undelivered v) (filter (λ m. not (is_service_of s p m.service)) b.messages) _
    (any-filter (is_undelivered v) (λ m. not (is_service_of s p m.service)) (λ m e. service-by s x p v m own apart e) b.messages some)

called-by : (b : SpmState) (v a : ℕ) (c : OpenConnection) (kind : ℤ) (w : Vectors) (dead : Bool)
    → has_undelivered b v ≡ true → has_undelivered (if dead then move (Value PSA_ERROR_COMMUNICATION_FAILURE) b else move outcome.Blocked (with_phase (with_message (with_connection_phase b c.serial Busy) c kind w) a Blocked)).spm v ≡ true
called-by b v a c kind w true some = some
called-by b v a c kind w false some = list_any-left (is_undelivered v) b.messages _ some

asked-by : (b : SpmState) (v a w : ℕ) (kind : ℤ) (vs : Vectors) (gone : Bool)
    → has_undelivered b v ≡ true → has_undelivered (if gone then move (Value PSA_ERROR_COMMUNICATION_FAILURE) b else move outcome.Blocked (with_phase (with_request b a w kind vs) a Blocked)).spm v ≡ true
asked-by b v a w kind vs true some = some
asked-by b v a w kind vs false some = list_any-left (is_undelivered v) b.messages _ some

closed-by : (b : SpmState) (v a : ℕ) (c : OpenConnection) (dead : Bool)
    → has_undelivered b v ≡ true → has_undelivered (if dead then move outcome.Done (without_connection b c.serial) else move outcome.Blocked (with_phase (with_message (with_connection_phase b c.serial Closing) c PSA_IPC_DISCONNECT no_vectors) a Blocked)).spm v ≡ true
closed-by b v a c true some = some
closed-by b v a c false some = list_any-left (is_undelivered v) b.messages _ some

-- ---- each kind of change, by another actor

abbrev pub Stays : SpmState → ℕ → SpmState → Type 0
Stays b v new = has_undelivered b v ≡ true → has_undelivered new v ≡ true

pub kinds-stay : (s : System) (b : SpmState) (given : List Handle) (a : ℕ) (d : Call) (x v : ℕ) → Balanced s (times given) b → is_service_of s x v ≡ true → (x ≡ a → ⊥) → (phase_of b x ≡ Blocked → ⊥)
    → EachKind s b given a d (λ o new all. Stays b v new)
kinds-stay s b given a d x v balanced own apart free = record {
  beside = λ running o doorbells sources plain some. some;
  waits = λ running mask some. some;
  ends = λ running some. some;
  wakes = λ mask n e some. some;
  returns = λ o e some. some;
  joins = λ is n k e new some. some;
  connects = λ running w new some. list_any-left (is_undelivered v) b.messages _ some;
  calls = λ running k c n w held takes. called-by b v a c (pos n) w (is_dead c.phase);
  asks = λ running w n vs stateless may. asked-by b v a w (pos n) vs (is_service_panicked s b w);
  closes = λ running k c held. closed-by b v a c (is_dead c.phase);
  gets = λ running signal msg w is has first at k shown tells new some.
      delivered-other v w k (λ same. apart (owners-same (slice_get s.services v) x a own (subst (λ (y : ℕ). is_service_of s a y ≡ true) (sym same) (service-owned s a signal w has)))) b.messages ∙ some;
  moves = λ running o k w plain some. any-map (is_undelivered v) (vectors_put k w) (λ m. vectors-by v k w m (has_handle m.handle k)) b.messages ∙ some;
  marks = λ running n r some. some;
  replies = λ running k status m held some. settled-waits b k status m v some;
  owes = λ running k status m n held kind some.
      panic-waits s (settled b k status m) m.client.0 x v own (λ same. free (ap (phase_of b) same ∙ request-blocked s (times given) b _ m n balanced held kind)) (settled-waits b k status m v some);
  panics = λ running some. panic-waits s b a x v own apart some;
}
