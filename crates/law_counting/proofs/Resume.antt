-- Resume and Get, which give handles, keep the balance; so do an ended actor, a wait, and moved vectors.
use Rattle.std.proofs.Common.{ℕ, ◌≡◌, ◌<◌, ◌≤◌, ◌+◌, ◌==◌, Bool, true, false, cond, not, ◌&&◌, ◌||◌, List, [], ◌∷◌, ◌++◌, length, get_or, arith, ◌∙◌, ap, refl, subst}
use Rattle.std.specs.Prelude.{ℤ, count_by, find, Some, map, slice_set, is_none, if◌then◌else◌}
use Rattle.std.specs.List.{list_any}
use Rattle.std.specs.Ordering.{int_eq}
use Rattle.std.proofs.lemmas.Bool.Decides.{Decides-int_eq}
use Rattle.std.proofs.lemmas.Bool.{and_parts, eqb-true}
use Rattle.law_lists.proofs.Counts.{bit, count-cons, count-map-same, count-push, count-put, none-count, some-found}
use Rattle.law_lists.proofs.Tests.{find-passes}
use Rattle.ffm_model.specs.declared.system.System.{System}
use Rattle.ffm_model.specs.declared.machine.Handle.{Handle}
use Rattle.ffm_model.specs.declared.objects.Vectors.{Vectors}
use Rattle.ffm_model.specs.declared.objects.OpenConnection.{OpenConnection}
use Rattle.ffm_model.specs.declared.objects.PendingMessage.{PendingMessage}
use Rattle.ffm_model.specs.declared.objects.ConnPhase.{ConnPhase}
use Rattle.ffm_model.specs.declared.objects.ConnPhase.TheVariants.{Idle, Dead}
use Rattle.ffm_model.specs.declared.objects.ActorPhase.{ActorPhase}
use Rattle.ffm_model.specs.declared.objects.ActorPhase.TheVariants.{Running, Connected, Ended}
use Rattle.law_counting.specs.Objects.{same}
use Rattle.ffm_model.specs.State.{SpmState, State, phase_of, has_handle, handle_eq, handle_put, with_connection_handle, with_phase, fresh, is_undelivered, delivered, vectors_put}
use Rattle.ffm_model.proofs.SerialLemmas.{rises-map, serial-once}
use Rattle.law_counting.proofs.Balance.{Balanced}
use Rattle.law_counting.specs.Objects.{PhaseFits, PhaseFitsAt, awaited_by, asked_by, called_by, wrongly_called, is_joining, is_opening, is_accepted, awaited_of, asking_of, accepted_as, wrongly_shown, message_marked, connection_marked}
use Rattle.law_counting.proofs.Parts.{fits_same, is_there, fitting-set, joining-set, phase_same, found-serial, flipped}

pub int_flip : (x y : ℤ) → int_eq x y ≡ int_eq y x
int_flip x y = grind (arith, Decides-int_eq)

pub int_same : (x y : ℤ) → int_eq x y ≡ true → x ≡ y
int_same x y e = grind (arith, Decides-int_eq)

-- how often a handle was given
abbrev pub times : List Handle → Handle → ℕ
times given h = count_by (handle_eq h) given

-- a fresh handle was never given
pub fresh-new : (st : State) (h : Handle) → fresh st h ≡ true → list_any (handle_eq h) st.handles_given ≡ false
fresh-new st h e =
    let go : (x : Bool) → not x ≡ true → x ≡ false = elim [ true ↦ λ n. cc | false ↦ λ n. refl ] in
    go _ (and_parts _ _ e).1

pub times-push : (given : List Handle) (h k : Handle) → list_any (handle_eq h) given ≡ false → times given k ≤ 1 → times given k + bit (handle_eq k h) ≤ 1
times-push given h k new old =
    let go : (x : Bool) → handle_eq k h ≡ x → times given k + bit x ≤ 1 =
    elim [
      | true ↦ λ t.
          let it : k.0 ≡ h.0 = int_same k.0 h.0 t in
          omega (arith, none-count (handle_eq h) given new, ap (λ (z : ℤ). times given (record { 0 = z })) it)
      | false ↦ λ t. omega (arith, old)
    ] in
    go _ refl

abbrev named : Handle → OpenConnection → OpenConnection
named h c = record c { handle = Some h }

serial-handle_put : (n : ℕ) (h : Handle) (c : OpenConnection) → (handle_put n h c).serial ≡ c.serial
serial-handle_put n h c =
    let go : (b : Bool) → (cond b (named h c) c).serial ≡ c.serial = elim [ true ↦ refl | false ↦ refl ] in
    go (c.serial == n)

connected-fits : (p : ActorPhase) (n k m : ℕ) (j : ℕ → ℕ) → p ≡ Connected m → PhaseFits p n k j → (n ≡ 0) × (j m ≡ 1)
connected-fits p n k m j e h = subst (λ (q : ActorPhase). PhaseFits q n k j) e h

accepted_shut : (p : ConnPhase) → is_accepted p ≡ true → is_opening p ≡ false
accepted_shut Idle e = refl
accepted_shut Dead e = refl
accepted_shut _ e = cc

-- the accepted connection gets its handle
pub named-keeps : (s : System) (given : List Handle) (b : SpmState) (a n : ℕ) (h : Handle) → Balanced s (times given) b → phase_of b a ≡ Connected n → list_any (handle_eq h) given ≡ false
    → Balanced s (times (given ++ h ∷ [])) (with_phase (with_connection_handle b n h) a Running)
named-keeps s given b a n h balanced joined new =
    let inside : a < length b.phases = is_there b.phases a (λ ended. cc) in
    let own : (awaited_by b.connections b.messages a ≡ 0) × (count_by (accepted_as a n) b.connections ≡ 1) =
    connected-fits (phase_of b a) _ _ n (λ m. count_by (accepted_as a m) b.connections) joined (balanced.fitting a) in
    let it = some-found (accepted_as a n) b.connections (omega (arith, own.1)) in
    let c : OpenConnection = it.0 in
    let passes : accepted_as a n c ≡ true = find-passes (accepted_as a n) b.connections c it.1 in
    let serial : c.serial ≡ n = eqb-true _ _ (and_parts _ _ passes).0 in
    let client : c.client.0 ≡ a = eqb-true _ _ (and_parts _ _ (and_parts (c.serial == n) _ passes).1).0 in
    let accepted : is_accepted c.phase ≡ true = (and_parts _ _ (and_parts (c.serial == n) _ passes).1).1 in
    let here : find (λ d. d.serial == n) b.connections ≡ Some c = subst (λ (x : ℕ). find (λ d. d.serial == x) b.connections ≡ Some c) serial (found-serial 0 b.connections_made _ b.connections c balanced.rising it.1) in
    let after : List OpenConnection = map (handle_put n h) b.connections in
    let change : (q : OpenConnection → Bool) → count_by q after + bit (q c) ≡ count_by q b.connections + bit (q (named h c)) =
    λ q. count-put (λ d. d.serial == n) q q (named h) (λ y e. refl) b.connections c (serial-once 0 b.connections_made n b.connections balanced.rising) here in
    let right : bit (wrongly_shown (slice_set b.phases a Running) (named h c)) ≡ 0 =
    ap (λ x. bit (not (same false (is_opening c.phase || is_joining (get_or (slice_set b.phases a Running) x Ended) c.serial)))) client
    ∙ ap (λ q. bit (not (same false (is_opening c.phase || is_joining q c.serial)))) (phase_same b.phases a Running inside)
    ∙ ap (λ x. bit (not (same false (x || false)))) (accepted_shut c.phase accepted) in
    record {
      within = λ x w. omega (arith, change (λ d. (d.client.0 == x) && (d.service == w)), balanced.within x w);
      paired = λ t. omega (arith, change (connection_marked t), balanced.paired t);
      called = balanced.called;
      rising = rises-map 0 b.connections_made (handle_put n h) (serial-handle_put n h) b.connections balanced.rising;
      fitting = fitting-set b.phases a Running
          (awaited_by b.connections b.messages) (awaited_by after b.messages)
          (asked_by b.connections b.messages) (asked_by after b.messages)
          (λ x m. count_by (accepted_as x m) b.connections) (λ x m. count_by (accepted_as x m) after)
          inside (omega (arith, change (awaited_of a), own.0))
          (λ x e. omega (arith, change (awaited_of x))) (λ x e. omega (arith, change (asking_of x))) (λ x m e. omega (arith, change (accepted_as x m)))
          balanced.fitting;
      shown = omega (
        arith,
        right,
        balanced.shown,
        count-put (λ d. d.serial == n) (wrongly_shown b.phases) (wrongly_shown (slice_set b.phases a Running)) (named h)
            (λ y e. ap (λ k. not (same (is_none y.handle) (is_opening y.phase || k)))
            (joining-set b.phases a y.serial y.client.0 Running inside (ap (λ q. is_joining q y.serial) joined ∙ flipped y.serial n e) refl))
            b.connections c (serial-once 0 b.connections_made n b.connections balanced.rising) here,
      );
      handles = λ k. omega (arith, change (λ d. has_handle d.handle k), balanced.handles k, count-push (handle_eq k) given h, ap bit (int_flip h.0 k.0));
      single = λ k. omega (arith, count-push (handle_eq k) given h, times-push given h k new (balanced.single k));
    }

-- the first waiting message gets a handle
pub delivered-same : (q : PendingMessage → Bool) (v : ℕ) (h : Handle) → ((m : PendingMessage) → q (record m { handle = Some h }) ≡ q m) → (ms : List PendingMessage)
    → count_by q (delivered v h ms) ≡ count_by q ms
delivered-same q v h same_test [] = refl
delivered-same q v h same_test (m ∷ ms) =
    let given_to : PendingMessage = record m { handle = Some h } in
    let go : (b : Bool) → count_by q (cond b (given_to ∷ ms) (m ∷ delivered v h ms)) ≡ bit (q m) + count_by q ms =
    elim [ true ↦ omega (arith, count-cons q given_to ms, ap bit (same_test m)) | false ↦ omega (arith, count-cons q m (delivered v h ms), delivered-same q v h same_test ms) ] in
    omega (arith, count-cons q m ms, go (is_undelivered v m))

delivered-le : (q : PendingMessage → Bool) (v n : ℕ) (h : Handle) → ((m : PendingMessage) → bit (q (record m { handle = Some h })) ≤ n) → (ms : List PendingMessage)
    → count_by q (delivered v h ms) ≤ count_by q ms + n
delivered-le q v n h le [] = omega arith
delivered-le q v n h le (m ∷ ms) =
    let given_to : PendingMessage = record m { handle = Some h } in
    let go : (b : Bool) → count_by q (cond b (given_to ∷ ms) (m ∷ delivered v h ms)) ≤ bit (q m) + count_by q ms + n =
    elim [ true ↦ omega (arith, count-cons q given_to ms, le m) | false ↦ omega (arith, count-cons q m (delivered v h ms), delivered-le q v n h le ms) ] in
    omega (arith, count-cons q m ms, go (is_undelivered v m))

-- as many requests of an actor fit as before
same-fits : (b : SpmState) (a : ℕ) (messages : List PendingMessage) → count_by (called_by a) messages ≡ count_by (called_by a) b.messages → PhaseFitsAt b.phases b.connections b.messages a → PhaseFitsAt b.phases b.connections messages a
same-fits b a messages e h =
    fits_same (phase_of b a) _ _ _ _ _ (λ n. count_by (accepted_as a n) b.connections) (ap (λ n. count_by (awaited_of a) b.connections + n) e) (ap (λ n. count_by (asking_of a) b.connections + n) e) (λ n. refl) h

pub delivered-keeps : (s : System) (given : List Handle) (b : SpmState) (v : ℕ) (h : Handle) → Balanced s (times given) b → list_any (handle_eq h) given ≡ false
    → Balanced s (times (given ++ h ∷ [])) (record b { messages = delivered v h b.messages })
delivered-keeps s given b v h balanced new = record {
  within = balanced.within;
  paired = λ t. delivered-same (message_marked t) v h (λ m. refl) b.messages ∙ balanced.paired t;
  called = delivered-same (wrongly_called s) v h (λ m. refl) b.messages ∙ balanced.called;
  rising = balanced.rising;
  fitting = λ a. same-fits b a (delivered v h b.messages) (delivered-same (called_by a) v h (λ m. refl) b.messages) (balanced.fitting a);
  shown = balanced.shown;
  handles = λ k. omega (arith, delivered-le (λ m. has_handle m.handle k) v (bit (handle_eq h k)) h (λ m. omega arith) b.messages, balanced.handles k, count-push (handle_eq k) given h, ap bit (int_flip h.0 k.0));
  single = λ k. omega (arith, count-push (handle_eq k) given h, times-push given h k new (balanced.single k));
}

-- the bytes moved change nothing that counts
pub put-same : {Y : Type 0} (p : Y → Bool) (q : Y → Bool) (f : Y → Y) → ((m : Y) → q (f m) ≡ q m) → (m : Y) → q (if p m then f m else m) ≡ q m
put-same p q f same_test m =
    let go : (b : Bool) → q (if b then f m else m) ≡ q m = elim [ true ↦ same_test m | false ↦ refl ] in
    go (p m)

pub vectors-keep : (s : System) (limit : Handle → ℕ) (b : SpmState) (h : Handle) (v : Vectors) → Balanced s limit b → Balanced s limit (record b { messages = map (vectors_put h v) b.messages })
vectors-keep s limit b h v balanced = record {
  within = balanced.within;
  paired = λ t. count-map-same (message_marked t) (vectors_put h v) (put-same (λ m. has_handle m.handle h) (message_marked t) (λ m. record m { vectors = v }) (λ m. refl)) b.messages ∙ balanced.paired t;
  called = count-map-same (wrongly_called s) (vectors_put h v) (put-same (λ m. has_handle m.handle h) (wrongly_called s) (λ m. record m { vectors = v }) (λ m. refl)) b.messages ∙ balanced.called;
  rising = balanced.rising;
  fitting = λ a. same-fits b a (map (vectors_put h v) b.messages)
      (count-map-same (called_by a) (vectors_put h v) (put-same (λ m. has_handle m.handle h) (called_by a) (λ m. record m { vectors = v }) (λ m. refl)) b.messages) (balanced.fitting a);
  shown = balanced.shown;
  handles = λ k. omega (arith, balanced.handles k, count-map-same (λ m. has_handle m.handle k) (vectors_put h v) (put-same (λ m. has_handle m.handle h) (λ m. has_handle m.handle k) (λ m. record m { vectors = v }) (λ m. refl)) b.messages);
  single = balanced.single;
}
