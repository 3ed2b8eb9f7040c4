-- Each client that a panic frees has its arrow.
use Rattle.std.proofs.Common.{ℕ, ◌≡◌, ◌≤◌, ◌+◌, ◌==◌, Bool, true, false, ◌&&◌, List, [], ◌∷◌, get_or, arith, ◌∙◌, ap, sym, refl, subst}
use Rattle.std.specs.Prelude.{ℤ, count_by, is_none, not, Option, Some, None, if◌then◌else◌}
use Rattle.std.specs.List.{AllByRecursion, Contains, cons_option, filter_map}
use Rattle.std.specs.Option.{option_and_then, option_map_or}
use Rattle.std.proofs.lemmas.Bool.{and_from, and_parts, eqb-true}
use Rattle.std.proofs.lemmas.List.Elements.{Contains-append_right, Contains-get_or}
use Rattle.law_lists.proofs.Counts.{bit, count-cons, count-ext, count-filter-le}
use Rattle.law_lists.proofs.Lists.{AllByRecursion-weaker}
use Rattle.ffm_model.specs.declared.system.System.{System}
use Rattle.ffm_model.specs.declared.machine.Handle.{Handle}
use Rattle.ffm_model.specs.declared.machine.Status.{Status}
use Rattle.ffm_model.specs.declared.machine.Entry.{Entry}
use Rattle.ffm_model.specs.declared.machine.Call.{Call}
use Rattle.ffm_model.specs.declared.machine.Call.TheVariants as call
use Rattle.ffm_model.specs.declared.machine.Outcome.{Outcome}
use Rattle.ffm_model.specs.declared.machine.Outcome.TheVariants as outcome
use Rattle.ffm_model.specs.declared.objects.PendingMessage.{PendingMessage}
use Rattle.ffm_model.specs.declared.objects.ActorPhase.TheVariants.{Blocked, Panicked}
use Rattle.ffm_model.specs.Actors.{is_service_of}
use Rattle.ffm_model.specs.Signals.{is_blocked}
use Rattle.ffm_model.specs.Panic.{panic_effect}
use Rattle.ffm_model.specs.ServiceCalls.{owes_panic, replied}
use Rattle.ffm_model.specs.State.{SpmState, State, has_handle, message_held, phase_of}
use Rattle.ffm_model.specs.Step.{step}
use Rattle.law_counting.specs.Objects.{Mark, connection_marked, is_awaited, message_marked}
use Rattle.law_counting.proofs.Balance.{Balanced}
use Rattle.law_counting.proofs.Owed.{owed-settled}
use Rattle.law_counting.proofs.Panic.{lost_by, lost_call, lost_of, phase_after}
use Rattle.law_counting.proofs.Reply.{settled, settled-keeps, settled-messages}
use Rattle.law_counting.proofs.Resume.{times}
use Rattle.law_counting.proofs.Turns.{is_sound, settled-elsewhere}
use Rattle.view_diagram.specs.declared.arrows.Arrow.{Arrow}
use Rattle.view_diagram.specs.declared.arrows.Meaning.TheVariants as meaning
use Rattle.view_diagram.specs.Arrows.{arrow, arrow_of, panic_arrows, panicking, panicking_by, release_arrow}
use Rattle.view_diagram.specs.Pairs.{EachFreedHasArrow, IsWaiting}
use Rattle.view_diagram.proofs.Replies.{IsReplied, step-replies}
use Rattle.view_diagram.proofs.Waiting.{Kept, run-kept}
use Rattle.view_diagram.proofs.Panics.{is_lost, own-panic}
use Rattle.law_counting.proofs.Pairs.{two-below}

-- ---- an actor that loses its answer has a message to a service of the partition

-- a message has a connection or none
lost-once : (o : Option ℕ) (v x : Bool) → bit (option_map_or (λ n. v && x) o false) + bit ((is_none o && v) && x) ≤ bit (v && x)
lost-once None true x = omega arith
lost-once _ v x = omega arith

turned : (w v x : Bool) → (w && (v && x)) ≡ (v && (x && w))
turned true true true = refl
turned false true true = refl
turned _ _ _ = refl

loses-message : (s : System) (limit : Handle → ℕ) (b : SpmState) (p a : ℕ) → Balanced s limit b → lost_by s b p a ≤ count_by (is_lost s p a) b.messages
loses-message s limit b p a h =
    let t : Mark = λ n y v ph. is_service_of s p v && (y == a) in
    omega (
      arith,
      two-below (message_marked t) (lost_call s p a) (is_lost s p a) (λ m. lost-once m.connection (is_service_of s p m.service) (m.client.0 == a)) b.messages,
      h.paired t,
      count-ext (connection_marked t) (lost_of s p a) (λ c. turned (is_awaited c.phase) (is_service_of s p c.service) (c.client.0 == a)) b.connections,
    )

-- one that is Blocked before a panic and not after it
freed-loses : (s : System) (limit : Handle → ℕ) (b : SpmState) (p a : ℕ) → Balanced s limit b → (a == p) ≡ false → phase_of b a ≡ Blocked → is_blocked (phase_of (panic_effect s b p) a) ≡ false → 1 ≤ count_by (is_lost s p a) b.messages
freed-loses s limit b p a h apart blocked freed =
    phase_after s limit b p a (1 ≤ count_by (is_lost s p a) b.messages) h apart
    (λ z now. let bad : true ≡ false = sym (ap is_blocked (now ∙ blocked)) ∙ freed in cc)
    (λ o was one now plain. omega (arith, one, loses-message s limit b p a h))
    (λ gone now. let bad : Blocked ≡ Panicked = sym blocked ∙ gone in cc)

-- ---- the arrow of that message

contains-first : {X : Type 0} (o : Option X) (xs : List X) (x : X) → o ≡ Some x → Contains (cons_option o xs) x
contains-first o xs x is = subst (λ (q : Option _). Contains (cons_option q xs) x) (sym is) (Contains-get_or (x ∷ xs) 0 x (omega arith))

contains-after : {X : Type 0} (o : Option X) (xs : List X) (x : X) → Contains xs x → Contains (cons_option o xs) x
contains-after None xs x h = h
contains-after (Some y) xs x h = Contains-append_right (y ∷ []) xs x h

-- W holds of the service and the kind of a message that the arrows free the actor of
record Frees (W : ℕ → ℤ → Type 0) (xs : List Arrow) (p a : ℕ) : Type 0 where
  service : ℕ
  kind : ℤ
  waits : W service kind
  at : Contains xs (arrow p a (meaning.Release service kind))

frees-later : (W : ℕ → ℤ → Type 0) (o : Option Arrow) (xs : List Arrow) (p a : ℕ) → Frees W xs p a → Frees W (cons_option o xs) p a
frees-later W o xs p a f = record { service = f.service; kind = f.kind; waits = f.waits; at = contains-after o xs _ f.at }

releases : (s : System) (b : SpmState) (p a : ℕ) (m : PendingMessage) → phase_of b a ≡ Blocked → is_lost s p a m ≡ true → release_arrow s b p m ≡ Some (arrow p a (meaning.Release m.service m.kind))
releases s b p a m blocked lost =
    let own : m.client.0 ≡ a = eqb-true m.client.0 a (and_parts _ _ lost).1 in
    let frees : (is_service_of s p m.service && is_blocked (phase_of b m.client.0)) ≡ true = and_from _ _ (and_parts _ _ lost).0 (ap is_blocked (ap (phase_of b) own ∙ blocked)) in
    ap (λ (x : Bool). if x then Some (arrow p m.client.0 (meaning.Release m.service m.kind)) else None) frees ∙ ap (λ (c : ℕ). Some (arrow p c (meaning.Release m.service m.kind))) own

frees : (s : System) (b : SpmState) (p a : ℕ) (W : ℕ → ℤ → Type 0) → phase_of b a ≡ Blocked → (ms : List PendingMessage) → AllByRecursion (λ (m : PendingMessage). m.client.0 ≡ a → W m.service m.kind) ms → 1 ≤ count_by (is_lost s p a) ms
    → Frees W (filter_map (release_arrow s b p) ms) p a
frees s b p a W blocked [] all some = absurd (omega (arith, some))
frees s b p a W blocked (m ∷ ms) all some =
    let rest : List Arrow = filter_map (release_arrow s b p) ms in
    let go : (x : Bool) → is_lost s p a m ≡ x → 1 ≤ bit x + count_by (is_lost s p a) ms → Frees W (cons_option (release_arrow s b p m) rest) p a =
    elim [
      | true ↦ λ lost n. record {
        service = m.service;
        kind = m.kind;
        waits = all.0 (eqb-true m.client.0 a (and_parts (is_service_of s p m.service) (m.client.0 == a) lost).1);
        at = contains-first (release_arrow s b p m) rest _ (releases s b p a m blocked lost);
      }
      | false ↦ λ lost n. frees-later W (release_arrow s b p m) rest p a (frees s b p a W blocked ms all.1 (omega (arith, n)))
    ] in
    go (is_lost s p a m) refl (omega (arith, some, count-cons (is_lost s p a) m ms))

-- ---- a client that panics for a reply

owed-state : (s : System) (b : SpmState) (h : Handle) (status : ℤ) (m : PendingMessage) (new : SpmState) → new ≡ (if owes_panic s m status then panic_effect s (replied s b h status m) m.client.0 else replied s b h status m) → owes_panic s m status ≡ true
    → new ≡ panic_effect s (settled b h status m) m.client.0
owed-state s b h status m new is owes =
    is ∙ ap (λ (x : Bool). if x then panic_effect s (replied s b h status m) m.client.0 else replied s b h status m) owes ∙ owed-settled s b h status m owes

reply-frees : (s : System) (limit : Handle → ℕ) (b : SpmState) (a : ℕ) (h : Handle) (status : ℤ) (m : PendingMessage) (x : ℕ) → Balanced s limit b → message_held s b a h ≡ Some m → (x == m.client.0) ≡ false → phase_of b x ≡ Blocked
    → is_blocked (phase_of (panic_effect s (settled b h status m) m.client.0) x) ≡ false → 1 ≤ count_by (is_lost s m.client.0 x) b.messages
reply-frees s limit b a h status m x balanced held apart blocked freed =
    let told : SpmState = settled b h status m in
    let some : 1 ≤ count_by (is_lost s m.client.0 x) told.messages = freed-loses s limit told m.client.0 x (settled-keeps s limit b a h status m balanced held) apart (settled-elsewhere s limit b a h status m balanced held x apart ∙ blocked) freed in
    omega (arith, some, ap (count_by (is_lost s m.client.0 x)) (settled-messages b h status m), count-filter-le (is_lost s m.client.0 x) (λ (y : PendingMessage). not (has_handle y.handle h)) b.messages)

-- ---- each panic is one of the two

owed-by : (s : System) (p : ℕ) (status : ℤ) (m : PendingMessage) (P : Type 0) (x : Bool) → owes_panic s m status ≡ x → (if x then Some m.client.0 else None) ≡ Some p → (owes_panic s m status ≡ true → m.client.0 ≡ p → P) → P
owed-by s p status m P true owes e f = f owes (let it : m.client.0 ≡ p = cc in it)
owed-by s p status m P false owes e f = cc

held-by : (s : System) (p : ℕ) (status : ℤ) (P : Type 0) (o : Option PendingMessage) → option_and_then (λ (m : PendingMessage). if owes_panic s m status then Some m.client.0 else None) o ≡ Some p
    → ((m : PendingMessage) → o ≡ Some m → owes_panic s m status ≡ true → m.client.0 ≡ p → P) → P
held-by s p status P None e f = cc
held-by s p status P (Some m) e f = owed-by s p status m P (owes_panic s m status) refl e (λ owes own. f m refl owes own)

panic-cases : (s : System) (b : SpmState) (a : ℕ) (d : Call) (o : Outcome) (p : ℕ) (P : Type 0) → panicking_by s b a d o ≡ Some p → (o ≡ outcome.Panicked → a ≡ p → P)
    → ((h : Handle) (status : Status) (m : PendingMessage) → d ≡ call.Reply h status → o ≡ outcome.Done → message_held s b a h ≡ Some m → owes_panic s m status.0 ≡ true → m.client.0 ≡ p → P) → P
panic-cases s b a d outcome.Panicked p P e own owed = own refl (let it : a ≡ p = cc in it)
panic-cases s b a (call.Reply h status) outcome.Done p P e own owed = held-by s p status.0 P (message_held s b a h) e (λ m held owes at. owed h status m refl refl held owes at)
panic-cases s b a d o p P e own owed = cc

-- the one held is the one answered
same-message : (s : System) (b : SpmState) (a : ℕ) (h : Handle) (status : ℤ) (m : PendingMessage) (new : SpmState) → message_held s b a h ≡ Some m → IsReplied s b a h status new
    → new ≡ (if owes_panic s m status then panic_effect s (replied s b h status m) m.client.0 else replied s b h status m)
same-message s b a h status m new held r =
    let same : r.message ≡ m = cc in
    subst (λ (x : PendingMessage). new ≡ (if owes_panic s x status then panic_effect s (replied s b h status x) x.client.0 else replied s b h status x)) same r.spm

step-frees : (s : System) (st new : State) (e : Entry) (p x : ℕ) → Balanced s (times st.handles_given) st.spm → is_sound (phase_of st.spm e.actor.0) ≡ true → step s st e ≡ Some new → panicking s st.spm e ≡ Some p → (x == p) ≡ false → phase_of st.spm x ≡ Blocked
    → is_blocked (phase_of new.spm x) ≡ false → 1 ≤ count_by (is_lost s p x) st.spm.messages
step-frees s st new e p x balanced sound is panics apart blocked freed =
    let b : SpmState = st.spm in
    let a : ℕ = e.actor.0 in
    let limit : Handle → ℕ = times st.handles_given in
    panic-cases s b a e.call e.outcome p (1 ≤ count_by (is_lost s p x) b.messages) panics
    (λ gone own.
    let state : new.spm ≡ panic_effect s b p = (own-panic s st new e sound is gone).1 ∙ ap (panic_effect s b) own in
    freed-loses s limit b p x balanced apart blocked (ap (λ (y : SpmState). is_blocked (phase_of y x)) (sym state) ∙ freed))
    (λ h status m reply done held owes own.
    let state : new.spm ≡ panic_effect s (settled b h status.0 m) m.client.0 = owed-state s b h status.0 m new.spm (same-message s b a h status.0 m new.spm held (step-replies s st new e h status is reply done)) owes in
    subst (λ (y : ℕ). 1 ≤ count_by (is_lost s y x) b.messages) own
    (reply-frees s limit b a h status.0 m x balanced held (ap (λ (y : ℕ). x == y) own ∙ apart) blocked (ap (λ (y : SpmState). is_blocked (phase_of y x)) (sym state) ∙ freed)))

pub each-freed-has-arrow : EachFreedHasArrow
each-freed-has-arrow s m es st new e p x run is panics apart blocked freed =
    let b : SpmState = st.spm in
    let places : List ℕ = (run-kept s m es st run).0 in
    let kept : Kept s m es places st = (run-kept s m es st run).1 in
    let W : ℕ → ℤ → Type 0 = λ service kind. IsWaiting s m es (get_or places x 0) x service kind in
    let some : 1 ≤ count_by (is_lost s p x) b.messages = step-frees s st new e p x kept.balanced (kept.sound e.actor.0) is panics apart blocked freed in
    let all : AllByRecursion (λ (y : PendingMessage). y.client.0 ≡ x → W y.service y.kind) b.messages =
    AllByRecursion-weaker (λ (y : PendingMessage). phase_of b y.client.0 ≡ Blocked → IsWaiting s m es (get_or places y.client.0 0) y.client.0 y.service y.kind) (λ (y : PendingMessage). y.client.0 ≡ x → W y.service y.kind)
    (λ y waits own. subst (λ (c : ℕ). IsWaiting s m es (get_or places c 0) c y.service y.kind) own (waits (ap (phase_of b) own ∙ blocked))) b.messages kept.waiting in
    let found : Frees W (filter_map (release_arrow s b p) b.messages) p x = frees s b p x W blocked b.messages all some in
    let shown : Frees W (panic_arrows s b p) p x = frees-later W (Some (arrow p p meaning.Panic)) (filter_map (release_arrow s b p) b.messages) p x found in
    let whole : Frees W (option_map_or (panic_arrows s b) (panicking s b e) []) p x = subst (λ (o : Option ℕ). Frees W (option_map_or (panic_arrows s b) o []) p x) (sym panics) shown in
    let last : Frees W (cons_option (arrow_of s b e) (option_map_or (panic_arrows s b) (panicking s b e) [])) p x = frees-later W (arrow_of s b e) (option_map_or (panic_arrows s b) (panicking s b e) []) p x whole in
    record { place = get_or places x 0; service = last.service; kind = last.kind; waits = last.waits; released = last.at }
