-- The messages that a partition holds, after each kind of change.
use Rattle.std.proofs.Common.{ℕ, ◌≡◌, ◌≤◌, ◌+◌, ◌==◌, Bool, true, false, not, ◌&&◌, List, [], ◌∷◌, ◌++◌, refl, ap, sym, ◌∙◌, subst, arith, eqb-true}
use Rattle.std.specs.Prelude.{ℤ, pos, Option, Some, None, option_and_then, find, count_by, filter, map, is_none, if◌then◌else◌, slice_get}
use Rattle.std.specs.List.{AllByRecursion, filter_map, cons_option}
use Rattle.std.specs.Option.{option_map, option_map_or, option_or}
use Rattle.std.proofs.lemmas.Bool.{and_parts, and_from, false_from_ne_true, and_right, and_left}
use Rattle.std.proofs.lemmas.List.Folds.{find-append}
use Rattle.law_lists.proofs.Counts.{bit, count-cons, find-narrow}
use Rattle.law_lists.proofs.Tests.{find-map, find-passes, find-same}
use Rattle.law_lists.proofs.Lists.{AllByRecursion-append}
use Rattle.ffm_model.specs.declared.system.System.{System}
use Rattle.ffm_model.specs.declared.system.Service.{Service}
use Rattle.ffm_model.specs.declared.machine.Handle.{Handle}
use Rattle.ffm_model.specs.declared.machine.Call.{Call}
use Rattle.ffm_model.specs.declared.objects.Vectors.{Vectors}
use Rattle.ffm_model.specs.declared.objects.OpenConnection.{OpenConnection}
use Rattle.ffm_model.specs.declared.objects.PendingMessage.{PendingMessage}
use Rattle.ffm_model.specs.declared.objects.ActorPhase.TheVariants.{Running}
use Rattle.ffm_model.specs.Actors.{is_service_of}
use Rattle.ffm_model.specs.State.{SpmState, phase_of, handle_eq, has_handle, message_held, vectors_put, with_vectors, is_undelivered, delivered}
use Rattle.ffm_model.specs.Signals.{is_panicked}
use Rattle.ffm_model.specs.Panic.{panic_effect, without_service, disconnection, is_dead}
use Rattle.ffm_model.specs.ServiceCalls.{service_of_signal}
use Rattle.law_counting.proofs.Balance.{Balanced}
use Rattle.law_counting.proofs.Parts.{off_from}
use Rattle.law_counting.proofs.Reply.{settled, settled-messages}
use Rattle.law_counting.proofs.Resume.{put-same}
use Rattle.law_counting.proofs.Turns.{owed-panicked, running-panicked}
use Rattle.law_programs.proofs.Changes.{AreNew, EachChange, is_vector_call, none-new}
use Rattle.law_counting.proofs.Walk.{handle-same}
use Rattle.law_programs.proofs.Tables.{handle-flip, same_handle}
use Rattle.law_counting.proofs.Owners.{owners-same}

-- ---- lists

filter-by : {X : Type 0} (q : X → Bool) (m : X) (ms rest : List X) (b : Bool) → (q m ≡ true → b ≡ true) → find q rest ≡ find q ms → find q (if b then m ∷ rest else rest) ≡ find q (m ∷ ms)
filter-by {X = X} q m ms rest true h go = ap (λ (o : Option X). if q m then Some m else o) go
filter-by {X = X} q m ms rest false h go =
    let off : q m ≡ false = false_from_ne_true (q m) (λ e. let bad : false ≡ true = h e in cc) in
    go ∙ sym (ap (λ (x : Bool). if x then Some m else find q ms) off)

find-filter : {X : Type 0} (q r : X → Bool) → ((m : X) → q m ≡ true → r m ≡ true) → (ms : List X) → find q (filter r ms) ≡ find q ms
find-filter q r h [] = refl
find-filter q r h (m ∷ ms) = filter-by q m ms (filter r ms) (r m) (h m) (find-filter q r h ms)

find-left : {X : Type 0} (q : X → Bool) (xs ys : List X) (m : X) → find q xs ≡ Some m → find q (xs ++ ys) ≡ Some m
find-left {X = X} q xs ys m e = find-append q xs ys ∙ ap (λ (o : Option X). option_or o (find q ys)) e

-- ---- one message

-- it is to a service of the partition, and has the handle
abbrev is_mine : System → ℕ → Handle → PendingMessage → Bool
is_mine s a k m = is_service_of s a m.service && has_handle m.handle k

has-apart : (o : Option Handle) (h k : Handle) → handle_eq h k ≡ false → has_handle o k ≡ true → has_handle o h ≡ false
has-apart None h k apart e = cc
has-apart (Some j) h k apart e = ap (λ (x : Handle). handle_eq x h) (handle-same j k e) ∙ (handle-flip k h ∙ apart)

has-none : (o : Option Handle) (k : Handle) → is_none o ≡ true → has_handle o k ≡ false
has-none None k e = refl
has-none (Some j) k e = cc

owners-apart : (o : Option Service) (x p : ℕ) → option_map_or (λ v. v.owner == x) o false ≡ true → (p ≡ x → ⊥) → option_map_or (λ v. v.owner == p) o false ≡ false
owners-apart None x p own apart = refl
owners-apart (Some v) x p own apart = false_from_ne_true (v.owner == p) (λ e. apart (sym (eqb-true v.owner p e) ∙ eqb-true v.owner x own))

-- ---- what is held is held still

abbrev pub HoldsStill : System → SpmState → ℕ → SpmState → Type 0
HoldsStill s b a new = (k : Handle) (m : PendingMessage) → message_held s b a k ≡ Some m → message_held s new a k ≡ Some m

same-still : (s : System) (b new : SpmState) (a : ℕ) → new.messages ≡ b.messages → HoldsStill s b a new
same-still s b new a e k m h = ap (find (is_mine s a k)) e ∙ h

push-still : (s : System) (b new : SpmState) (a : ℕ) (x : PendingMessage) → new.messages ≡ b.messages ++ x ∷ [] → HoldsStill s b a new
push-still s b new a x e k m h = ap (find (is_mine s a k)) e ∙ find-left (is_mine s a k) b.messages (x ∷ []) m h

-- but a message of another handle that is gone
pub filter-still : (s : System) (b new : SpmState) (a : ℕ) (h k : Handle) (m : PendingMessage) → handle_eq h k ≡ false → new.messages ≡ filter (λ m. not (has_handle m.handle h)) b.messages
    → message_held s b a k ≡ Some m → message_held s new a k ≡ Some m
filter-still s b new a h k m apart e found =
    ap (find (is_mine s a k)) e
    ∙ (find-filter (is_mine s a k) (λ x. not (has_handle x.handle h)) (λ x own. ap not (has-apart x.handle h k apart (and_parts (is_service_of s a x.service) (has_handle x.handle k) own).1)) b.messages ∙ found)

panic-still : (s : System) (b : SpmState) (p a : ℕ) → (p ≡ a → ⊥) → HoldsStill s b a (panic_effect s b p)
panic-still s b p a apart k m found =
    find-left (is_mine s a k) (filter (λ m. not (is_service_of s p m.service)) b.messages) _ m
    (find-filter (is_mine s a k) (λ x. not (is_service_of s p x.service))
    (λ x own. ap not (owners-apart (slice_get s.services x.service) a p (and_parts (is_service_of s a x.service) (has_handle x.handle k) own).0 apart)) b.messages ∙ found)

-- ---- a message that is delivered

deliver-by : (s : System) (a v : ℕ) (h k : Handle) (m : PendingMessage) (ms : List PendingMessage) (b : Bool) → is_undelivered v m ≡ b → (is_undelivered v m ≡ true → is_mine s a k (record m { handle = Some h }) ≡ false)
    → find (is_mine s a k) (delivered v h ms) ≡ find (is_mine s a k) ms → find (is_mine s a k) (if b then record m { handle = Some h } ∷ ms else m ∷ delivered v h ms) ≡ find (is_mine s a k) (m ∷ ms)
deliver-by s a v h k m ms true e off go =
    let was : is_mine s a k m ≡ false = and_right (is_service_of s a m.service) (has_handle m.handle k) (has-none m.handle k (and_parts (is_none m.handle) (m.service == v) e).0) in
    ap (λ (x : Bool). if x then Some (record m { handle = Some h }) else find (is_mine s a k) ms) (off e) ∙ sym (ap (λ (x : Bool). if x then Some m else find (is_mine s a k) ms) was)
deliver-by s a v h k m ms false e off go = ap (λ (o : Option PendingMessage). if is_mine s a k m then Some m else o) go

deliver-other : (s : System) (a v : ℕ) (h k : Handle) → ((m : PendingMessage) → is_undelivered v m ≡ true → is_mine s a k (record m { handle = Some h }) ≡ false) → (ms : List PendingMessage)
    → find (is_mine s a k) (delivered v h ms) ≡ find (is_mine s a k) ms
deliver-other s a v h k off [] = refl
deliver-other s a v h k off (m ∷ ms) = deliver-by s a v h k m ms (is_undelivered v m) refl (off m) (deliver-other s a v h k off ms)

pub get-still : (s : System) (b : SpmState) (a v : ℕ) (h k : Handle) → handle_eq h k ≡ false → message_held s (record b { messages = delivered v h b.messages }) a k ≡ message_held s b a k
get-still s b a v h k apart = deliver-other s a v h k (λ m e. and_right (is_service_of s a m.service) (handle_eq h k) apart) b.messages

get-elsewhere : (s : System) (b : SpmState) (a v : ℕ) (h k : Handle) → is_service_of s a v ≡ false → message_held s (record b { messages = delivered v h b.messages }) a k ≡ message_held s b a k
get-elsewhere s b a v h k other =
    deliver-other s a v h k
    (λ m e. and_left (is_service_of s a m.service) (handle_eq h k) (ap (is_service_of s a) (eqb-true m.service v (and_parts (is_none m.handle) (m.service == v) e).1) ∙ other)) b.messages

found-by : (s : System) (a v : ℕ) (h : Handle) (m first : PendingMessage) (ms : List PendingMessage) (b : Bool) → is_undelivered v m ≡ b → is_service_of s a v ≡ true → handle_eq h h ≡ true
    → (if b then Some m else find (is_undelivered v) ms) ≡ Some first → has_handle m.handle h ≡ false
    → (find (is_undelivered v) ms ≡ Some first → find (is_mine s a h) (delivered v h ms) ≡ Some (record first { handle = Some h }))
    → find (is_mine s a h) (if b then record m { handle = Some h } ∷ ms else m ∷ delivered v h ms) ≡ Some (record first { handle = Some h })
found-by s a v h m first ms true e own itself found none go =
    let same : m ≡ first = cc in
    let mine : is_mine s a h (record m { handle = Some h }) ≡ true =
    and_from (is_service_of s a m.service) (handle_eq h h) (ap (is_service_of s a) (eqb-true m.service v (and_parts (is_none m.handle) (m.service == v) e).1) ∙ own) itself in
    ap (λ (x : Bool). if x then Some (record m { handle = Some h }) else find (is_mine s a h) ms) mine ∙ ap (λ (x : PendingMessage). Some (record x { handle = Some h })) same
found-by s a v h m first ms false e own itself found none go =
    ap (λ (x : Bool). if x then Some m else find (is_mine s a h) (delivered v h ms)) (and_right (is_service_of s a m.service) (has_handle m.handle h) none) ∙ go found

get-found-in : (s : System) (a v : ℕ) (h : Handle) (first : PendingMessage) → is_service_of s a v ≡ true → handle_eq h h ≡ true → (ms : List PendingMessage) → find (is_undelivered v) ms ≡ Some first
    → count_by (λ m. has_handle m.handle h) ms ≡ 0 → find (is_mine s a h) (delivered v h ms) ≡ Some (record first { handle = Some h })
get-found-in s a v h first own itself [] found none = cc
get-found-in s a v h first own itself (m ∷ ms) found none =
    let sum : bit (has_handle m.handle h) + count_by (λ m. has_handle m.handle h) ms ≡ 0 = sym (count-cons (λ (m : PendingMessage). has_handle m.handle h) m ms) ∙ none in
    found-by s a v h m first ms (is_undelivered v m) refl own itself found (off_from (has_handle m.handle h) (omega (arith, sum)))
    (λ rest. get-found-in s a v h first own itself ms rest (omega (arith, sum)))

-- the message that psa_get gives is held by its handle
pub get-found : (s : System) (b : SpmState) (a v : ℕ) (h : Handle) (first : PendingMessage) → is_service_of s a v ≡ true → handle_eq h h ≡ true → find (is_undelivered v) b.messages ≡ Some first
    → count_by (λ m. has_handle m.handle h) b.messages ≡ 0 → message_held s (record b { messages = delivered v h b.messages }) a h ≡ Some (record first { handle = Some h })
get-found s b a v h first own itself found none = get-found-in s a v h first own itself b.messages found none

-- ---- vectors that are moved

pub put-held : (s : System) (b : SpmState) (a : ℕ) (h k : Handle) (v : Vectors) → message_held s (with_vectors b h v) a k ≡ option_map (vectors_put h v) (message_held s b a k)
put-held s b a h k v =
    find-map (vectors_put h v) (is_mine s a k) b.messages
    ∙ ap (option_map (vectors_put h v)) (find-same _ (is_mine s a k) (put-same (λ m. has_handle m.handle h) (is_mine s a k) (λ m. record m { vectors = v }) (λ m. refl)) b.messages)

pub put-at : (h : Handle) (v : Vectors) (m : PendingMessage) → has_handle m.handle h ≡ true → vectors_put h v m ≡ record m { vectors = v }
put-at h v m e = ap (λ (x : Bool). if x then record m { vectors = v } else m) e

put-off : (h : Handle) (v : Vectors) (m : PendingMessage) → has_handle m.handle h ≡ false → vectors_put h v m ≡ m
put-off h v m e = ap (λ (x : Bool). if x then record m { vectors = v } else m) e

pub held-mine : (s : System) (b : SpmState) (a : ℕ) (k : Handle) (m : PendingMessage) → message_held s b a k ≡ Some m → (is_service_of s a m.service ≡ true) × (has_handle m.handle k ≡ true)
held-mine s b a k m e = let parts = and_parts (is_service_of s a m.service) (has_handle m.handle k) (find-passes (is_mine s a k) b.messages m e) in (parts.0, parts.1)

pub put-still : (s : System) (b : SpmState) (a : ℕ) (h k : Handle) (v : Vectors) (m : PendingMessage) → handle_eq h k ≡ false → message_held s b a k ≡ Some m → message_held s (with_vectors b h v) a k ≡ Some m
put-still s b a h k v m apart found =
    put-held s b a h k v ∙ (ap (option_map (vectors_put h v)) found ∙ ap (λ (x : PendingMessage). Some x) (put-off h v m (has-apart m.handle h k apart (held-mine s b a k m found).1)))

-- ---- a handle is one partition's

handles-apart : (s : System) (limit : Handle → ℕ) (b : SpmState) (x a : ℕ) (h k : Handle) (n m : PendingMessage) → Balanced s limit b → (x ≡ a → ⊥) → message_held s b x h ≡ Some n → message_held s b a k ≡ Some m → handle_eq h k ≡ false
handles-apart s limit b x a h k n m balanced apart there here =
    same_handle h k (handle_eq h k ≡ false)
    (λ same.
    let few : count_by (λ y. has_handle y.handle k) b.messages ≤ 1 = omega (arith, balanced.handles k, balanced.single k) in
    let at : message_held s b x k ≡ Some n = subst (λ (j : Handle). message_held s b x j ≡ Some n) same there in
    let one : find (λ y. has_handle y.handle k) b.messages ≡ Some n = find-narrow (is_mine s x k) (λ y. has_handle y.handle k) (λ y e. (and_parts (is_service_of s x y.service) (has_handle y.handle k) e).1) b.messages n few at in
    let two : find (λ y. has_handle y.handle k) b.messages ≡ Some m = find-narrow (is_mine s a k) (λ y. has_handle y.handle k) (λ y e. (and_parts (is_service_of s a y.service) (has_handle y.handle k) e).1) b.messages m few here in
    let it : n ≡ m = cc in
    let other : is_service_of s x m.service ≡ true = ap (λ (y : PendingMessage). is_service_of s x y.service) (sym it) ∙ (held-mine s b x k n at).0 in
    absurd (apart (owners-same (slice_get s.services m.service) x a other (held-mine s b a k m here).0)))
    (λ e. e)

-- ---- replies

pub settled-still : (s : System) (limit : Handle → ℕ) (b : SpmState) (x a : ℕ) (h k : Handle) (status : ℤ) (n m : PendingMessage) → Balanced s limit b → message_held s b x h ≡ Some n → handle_eq h k ≡ false
    → message_held s b a k ≡ Some m → message_held s (settled b h status n) a k ≡ Some m
settled-still s limit b x a h k status n m balanced there apart found = filter-still s b (settled b h status n) a h k m apart (settled-messages b h status n) found

pub owed-still : (s : System) (limit : Handle → ℕ) (b : SpmState) (x a : ℕ) (h k : Handle) (status : ℤ) (n m : PendingMessage) (kind : ℕ) → Balanced s limit b → message_held s b x h ≡ Some n → n.kind ≡ pos kind → handle_eq h k ≡ false
    → is_panicked (phase_of (panic_effect s (settled b h status n) n.client.0) a) ≡ false → message_held s b a k ≡ Some m → message_held s (panic_effect s (settled b h status n) n.client.0) a k ≡ Some m
owed-still s limit b x a h k status n m kind balanced there request apart alive found =
    panic-still s (settled b h status n) n.client.0 a
    (λ same.
    let gone = owed-panicked s limit b x h status n kind balanced there request in
    let bad : true ≡ false = sym (ap is_panicked gone) ∙ (ap (λ (y : ℕ). is_panicked (phase_of (panic_effect s (settled b h status n) n.client.0) y)) same ∙ alive) in
    cc)
    k m (settled-still s limit b x a h k status n m balanced there apart found)

-- ---- each kind of change

-- where the partition isn't panicked, it holds the same messages after an event
abbrev pub IsKept : System → SpmState → ℕ → SpmState → Type 0
IsKept s b a new = is_panicked (phase_of new a) ≡ false → HoldsStill s b a new

-- where it is said not to be, anything holds
pub self-dead : (s : System) (limit : Handle → ℕ) (b : SpmState) (a : ℕ) (P : Type 0) → Balanced s limit b → phase_of b a ≡ Running → is_panicked (phase_of (panic_effect s b a) a) ≡ false → P
self-dead s limit b a P h running alive = let bad : true ≡ false = sym (ap is_panicked (running-panicked s limit b a h running)) ∙ alive in cc

pub self-kept : (s : System) (limit : Handle → ℕ) (b : SpmState) (a : ℕ) → Balanced s limit b → phase_of b a ≡ Running → IsKept s b a (panic_effect s b a)
self-kept s limit b a h running alive = let bad : true ≡ false = sym (ap is_panicked (running-panicked s limit b a h running)) ∙ alive in cc

-- another actor's event
pub others-kept : (s : System) (limit : Handle → ℕ) (b : SpmState) (x a : ℕ) (d : Call) → Balanced s limit b → (x ≡ a → ⊥) → ((v signal : ℕ) → service_of_signal s x signal ≡ Some v → is_service_of s x v ≡ true) → EachChange s b x d (IsKept s b a)
others-kept s limit b x a d balanced apart owned = record {
  same = λ new e alive. same-still s b new a e;
  pushes = λ new m none fresh e alive. push-still s b new a m e;
  gets = λ v h signal is found alive k m e. get-elsewhere s b a v h k (owners-apart (slice_get s.services v) x a (owned v signal found) (λ z. apart (sym z))) ∙ e;
  moves = λ h v n is there alive k m e. put-still s b a h k v m (handles-apart s limit b x a h k n m balanced apart there e) e;
  replies = λ h status n is there alive k m e. settled-still s limit b x a h k status n m balanced there (handles-apart s limit b x a h k n m balanced apart there e) e;
  owes = λ h status n kind is there request alive k m e. owed-still s limit b x a h k status n m kind balanced there request (handles-apart s limit b x a h k n m balanced apart there e) alive e;
  panics = λ running alive. panic-still s b x a apart;
}

-- a call of its own that concerns no message
pub own-kept : (s : System) (limit : Handle → ℕ) (b : SpmState) (a : ℕ) (d : Call) → Balanced s limit b → is_vector_call d ≡ false → EachChange s b a d (IsKept s b a)
own-kept s limit b a d balanced off = record {
  same = λ new e alive. same-still s b new a e;
  pushes = λ new m none fresh e alive. push-still s b new a m e;
  gets = λ v h signal is found. let bad : true ≡ false = sym is ∙ off in cc;
  moves = λ h v n is there. let bad : true ≡ false = sym is ∙ off in cc;
  replies = λ h status n is there. let bad : true ≡ false = sym is ∙ off in cc;
  owes = λ h status n kind is there request. let bad : true ≡ false = sym is ∙ off in cc;
  panics = λ running. self-kept s limit b a balanced running;
}

-- ---- nothing was moved of the messages that wait for psa_get

abbrev pub WaitsNew : PendingMessage → Type 0
WaitsNew m = is_none m.handle ≡ true → AreNew m.vectors

abbrev pub AreWaiting : List PendingMessage → Type 0
AreWaiting ms = AllByRecursion WaitsNew ms

filter-waiting-by : (b : Bool) (m : PendingMessage) (ms : List PendingMessage) → (is_none m.handle ≡ true → AreNew m.vectors) → AreWaiting ms → AreWaiting (if b then m ∷ ms else ms)
filter-waiting-by true m ms h k = (h, k)
filter-waiting-by false m ms h k = k

filter-waiting : (r : PendingMessage → Bool) (ms : List PendingMessage) → AreWaiting ms → AreWaiting (filter r ms)
filter-waiting r [] h = tt
filter-waiting r (m ∷ ms) h = filter-waiting-by (r m) m (filter r ms) h.0 (filter-waiting r ms h.1)

deliver-waiting-by : (b : Bool) (v : ℕ) (h : Handle) (m : PendingMessage) (ms : List PendingMessage) → (is_none m.handle ≡ true → AreNew m.vectors) → AreWaiting ms → AreWaiting (delivered v h ms)
    → AreWaiting (if b then record m { handle = Some h } ∷ ms else m ∷ delivered v h ms)
deliver-waiting-by true v h m ms here rest go = ((λ e. cc), rest)
deliver-waiting-by false v h m ms here rest go = (here, go)

deliver-waiting : (v : ℕ) (h : Handle) (ms : List PendingMessage) → AreWaiting ms → AreWaiting (delivered v h ms)
deliver-waiting v h [] k = tt
deliver-waiting v h (m ∷ ms) k = deliver-waiting-by (is_undelivered v m) v h m ms k.0 k.1 (deliver-waiting v h ms k.1)

put-waiting-by : (b : Bool) (h : Handle) (v : Vectors) (m : PendingMessage) → has_handle m.handle h ≡ b → (is_none m.handle ≡ true → AreNew m.vectors) → is_none (if b then record m { vectors = v } else m).handle ≡ true
    → AreNew (if b then record m { vectors = v } else m).vectors
put-waiting-by true h v m e here none = let bad : true ≡ false = sym e ∙ has-none m.handle h none in cc
put-waiting-by false h v m e here none = here none

put-waiting : (h : Handle) (v : Vectors) (ms : List PendingMessage) → AreWaiting ms → AreWaiting (map (vectors_put h v) ms)
put-waiting h v [] k = tt
put-waiting h v (m ∷ ms) k = (put-waiting-by (has_handle m.handle h) h v m refl k.0, put-waiting h v ms k.1)

some-waiting : (b : Bool) (m : PendingMessage) (ms : List PendingMessage) → AreNew m.vectors → AreWaiting ms → AreWaiting (cons_option (if b then Some m else None) ms)
some-waiting true m ms h k = ((λ e. h), k)
some-waiting false m ms h k = k

lost-waiting-by : (p : ℕ) (o : Option OpenConnection) (ms : List PendingMessage) → AreWaiting ms → AreWaiting (cons_option (option_and_then (disconnection p) o) ms)
lost-waiting-by p None ms k = k
lost-waiting-by p (Some c) ms k = some-waiting ((c.client.0 == p) && not (is_dead c.phase)) _ ms none-new k

lost-waiting : (s : System) (p : ℕ) (cs : List OpenConnection) → AreWaiting (filter_map (λ c. option_and_then (disconnection p) (without_service s p c)) cs)
lost-waiting s p [] = tt
lost-waiting s p (c ∷ cs) = lost-waiting-by p (without_service s p c) (filter_map (λ c. option_and_then (disconnection p) (without_service s p c)) cs) (lost-waiting s p cs)

panic-waiting : (s : System) (b : SpmState) (p : ℕ) → AreWaiting b.messages → AreWaiting (panic_effect s b p).messages
panic-waiting s b p k = AllByRecursion-append WaitsNew (filter (λ m. not (is_service_of s p m.service)) b.messages) _ (filter-waiting (λ m. not (is_service_of s p m.service)) b.messages k) (lost-waiting s p b.connections)

pub waiting-kept : (s : System) (limit : Handle → ℕ) (b : SpmState) (x : ℕ) (d : Call) → Balanced s limit b → AreWaiting b.messages → EachChange s b x d (λ new. AreWaiting new.messages)
waiting-kept s limit b x d balanced k =
    let gone : (h : Handle) (status : ℤ) (m : PendingMessage) → message_held s b x h ≡ Some m → AreWaiting (settled b h status m).messages =
    λ h status m there. subst AreWaiting (sym (settled-messages b h status m)) (filter-waiting (λ m. not (has_handle m.handle h)) b.messages k) in
    record {
      same = λ new e. subst AreWaiting (sym e) k;
      pushes = λ new m none fresh e. subst AreWaiting (sym e) (AllByRecursion-append WaitsNew b.messages (m ∷ []) k ((λ z. fresh), tt));
      gets = λ v h signal is found. deliver-waiting v h b.messages k;
      moves = λ h v n is there. put-waiting h v b.messages k;
      replies = λ h status n is there. gone h status n there;
      owes = λ h status n kind is there request. panic-waiting s (settled b h status n) n.client.0 (gone h status n there);
      panics = λ running. panic-waiting s b x k;
    }

-- the message that psa_get finds
first-by : (b : Bool) (v : ℕ) (m first : PendingMessage) (ms : List PendingMessage) → is_undelivered v m ≡ b → (is_none m.handle ≡ true → AreNew m.vectors) → (if b then Some m else find (is_undelivered v) ms) ≡ Some first
    → (find (is_undelivered v) ms ≡ Some first → AreNew first.vectors) → AreNew first.vectors
first-by true v m first ms e here found go = let same : m ≡ first = cc in subst (λ (x : PendingMessage). AreNew x.vectors) same (here (and_parts (is_none m.handle) (m.service == v) e).0)
first-by false v m first ms e here found go = go found

pub first-new : (v : ℕ) (first : PendingMessage) (ms : List PendingMessage) → AreWaiting ms → find (is_undelivered v) ms ≡ Some first → AreNew first.vectors
first-new v first [] k found = cc
first-new v first (m ∷ ms) k found = first-by (is_undelivered v m) v m first ms refl k.0 found (first-new v first ms k.1)
