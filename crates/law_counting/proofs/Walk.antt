-- Steps of the walk of the names: new slots whose names no event has shown, and slots that go with their messages.
use Rattle.std.proofs.Common.{ℕ, zero, suc, ◌≡◌, ◌<◌, ◌≤◌, ◌+◌, Bool, true, false, cond, not, ◌&&◌, ◌||◌, List, [], ◌∷◌, ◌++◌, length, get_or, arith, ◌∙◌, ap, sym, refl}
use Rattle.std.specs.Prelude.{count_by, find, nat_lt, map, filter, is_none, Some}
use Rattle.std.specs.List.{list_any, position_or_len}
use Rattle.std.proofs.Math.Seq.{get_or-append_seam}
use Rattle.std.proofs.lemmas.Bool.Decides.{Decides-int_eq}
use Rattle.std.proofs.lemmas.List.{append_assoc, append-nil, get_or_append_left}
use Rattle.std.proofs.lemmas.List.Folds.{list_any-append}
use Rattle.law_lists.proofs.Counts.{any-count, bit, count-cons, count-push, count-le-at}
use Rattle.ffm_model.specs.declared.machine.Handle.{Handle}
use Rattle.ffm_model.specs.declared.objects.PendingMessage.{PendingMessage}
use Rattle.ffm_model.specs.State.{SpmState, delivered, handle_eq, is_undelivered}
use Rattle.ffm_model.specs.Names.{NamesSoFar, SlotName, live_connections, name_of, next_slot, no_slot, slots_kept, with_connection, with_messages}
use Rattle.law_counting.specs.Fresh.{slots_named}
use Rattle.law_counting.proofs.Resume.{times, int_flip}
use Rattle.law_counting.proofs.Pairs.{member-counts}
use Rattle.law_counting.proofs.SlotNames.{Taken, names-distinct, next-taken}

pub handle-self : (h : Handle) → handle_eq h h ≡ true
handle-self h = (Decides-int_eq h.0 h.0).1 refl

pub handle-same : (h k : Handle) → handle_eq h k ≡ true → h ≡ k
handle-same h k e = let same : h.0 ≡ k.0 = (Decides-int_eq h.0 k.0).0 e in λ j. record { 0 = same j }

-- the name was shown
abbrev pub was_shown : ℕ → List Handle → SlotName → Bool
was_shown base given t = list_any (handle_eq (name_of base t)) given

-- a name was shown that is no slot's: no
pub shown-taken : (given : List Handle) (h : Handle) (n : ℕ) → times given h ≤ n → n + 1 ≤ 1 → list_any (handle_eq h) given ≡ false
shown-taken given h n le few =
    let go : (x : Bool) → list_any (handle_eq h) given ≡ x → list_any (handle_eq h) given ≡ false =
    elim [ true ↦ λ e. absurd (omega (arith, any-count (handle_eq h) given e, le, few)) | false ↦ λ e. e ] in
    go (list_any (handle_eq h) given) refl

-- ---- new slots

pub record Extends (given : List Handle) (k new : NamesSoFar) (n : ℕ) : Type 0 where
  pub us : List SlotName
  pub messages : new.messages ≡ k.messages ++ us
  pub past : new.past_messages ≡ k.past_messages ++ us
  pub connections : new.connections ≡ k.connections
  pub number : length us ≡ n
  pub taken : Taken new.past_messages
  pub quiet : count_by (was_shown 512 given) us ≡ 0
  pub has : (h : Handle) → times given h ≤ slots_named new h

pub extend : (given : List Handle) (size n : ℕ) (k : NamesSoFar) → size ≤ 512 → Taken k.connections → Taken k.past_messages → ((h : Handle) → times given h ≤ slots_named k h) → Extends given k (with_messages size n k) n
extend given size zero k small conns past has = record {
  us = [];
  messages = sym (append-nil k.messages);
  past = sym (append-nil k.past_messages);
  connections = refl;
  number = refl;
  taken = past;
  quiet = refl;
  has = has;
}
extend given size (suc n) k small conns past has =
    let t : SlotName = next_slot size k.messages k.past_messages in
    let next : NamesSoFar = record k { messages = k.messages ++ t ∷ []; past_messages = k.past_messages ++ t ∷ [] } in
    let taken : Taken next.past_messages = next-taken size k.messages k.past_messages small past in
    let grown : (h : Handle) → slots_named next h ≡ slots_named k h + bit (handle_eq h (name_of 512 t)) = λ h. omega (arith, count-push (λ u. handle_eq h (name_of 512 u)) k.past_messages t) in
    let name : Handle = name_of 512 t in
    let off : was_shown 512 given t ≡ false =
    shown-taken given name (slots_named k name) (has name) (omega (arith, grown name, ap bit (handle-self name), names-distinct next name conns taken)) in
    let rest : Extends given next (with_messages size n next) n = extend given size n next small conns taken (λ h. omega (arith, has h, grown h)) in
    record {
      us = t ∷ rest.us;
      messages = rest.messages ∙ append_assoc k.messages (t ∷ []) rest.us;
      past = rest.past ∙ append_assoc k.past_messages (t ∷ []) rest.us;
      connections = rest.connections;
      number = omega (arith, rest.number);
      taken = rest.taken;
      quiet = omega (arith, count-cons (was_shown 512 given) t rest.us, ap bit off, rest.quiet);
      has = rest.has;
    }

pub record Joins (given : List Handle) (k new : NamesSoFar) (grows : Bool) : Type 0 where
  pub messages : new.messages ≡ k.messages
  pub past : new.past_messages ≡ k.past_messages
  pub taken : Taken new.connections
  pub old : (n : ℕ) → n < length k.connections → get_or new.connections n no_slot ≡ get_or k.connections n no_slot
  pub fresh : grows ≡ true → was_shown 0 given (get_or new.connections (length k.connections) no_slot) ≡ false
  pub has : (h : Handle) → times given h ≤ slots_named new h

pub join : (given : List Handle) (size : ℕ) (b new : SpmState) (k : NamesSoFar) → size ≤ 512 → Taken k.connections → Taken k.past_messages → ((h : Handle) → times given h ≤ slots_named k h)
    → Joins given k (with_connection size b new k) (nat_lt b.connections_made new.connections_made)
join given size b new k small conns past has =
    let t : SlotName = next_slot size (live_connections k b) k.connections in
    let next : NamesSoFar = record k { connections = k.connections ++ t ∷ [] } in
    let taken : Taken next.connections = next-taken size (live_connections k b) k.connections small conns in
    let grown : (h : Handle) → slots_named next h ≡ slots_named k h + bit (handle_eq h (name_of 0 t)) = λ h. omega (arith, count-push (λ u. handle_eq h (name_of 0 u)) k.connections t) in
    let name : Handle = name_of 0 t in
    let off : was_shown 0 given t ≡ false = shown-taken given name (slots_named k name) (has name) (omega (arith, grown name, ap bit (handle-self name), names-distinct next name taken past)) in
    let last : get_or (k.connections ++ t ∷ []) (length k.connections) no_slot ≡ t = get_or-append_seam k.connections t [] no_slot in
    let go : (x : Bool) → Joins given k (cond {A = NamesSoFar} x next k) x =
    elim [
      | true ↦ record {
        messages = refl;
        past = refl;
        taken = taken;
        old = λ n lt. get_or_append_left k.connections (t ∷ []) no_slot n lt;
        fresh = λ e. ap (was_shown 0 given) last ∙ off;
        has = λ h. omega (arith, has h, grown h);
      }
      | false ↦ record { messages = refl; past = refl; taken = conns; old = λ n lt. refl; fresh = λ e. cc; has = has }
    ] in
    go (nat_lt b.connections_made new.connections_made)

-- ---- messages with their slots

-- how many messages pass the test together with their slots
abbrev pub with_slots : (PendingMessage → SlotName → Bool) → List PendingMessage → List SlotName → ℕ
with_slots z [] ts = 0
with_slots z (m ∷ ms) [] = 0
with_slots z (m ∷ ms) (t ∷ ts) = bit (z m t) + with_slots z ms ts

pub slots-append : (z : PendingMessage → SlotName → Bool) (ms ns : List PendingMessage) (ts us : List SlotName) → length ts ≡ length ms → with_slots z (ms ++ ns) (ts ++ us) ≡ with_slots z ms ts + with_slots z ns us
slots-append z [] ns [] us e = omega arith
slots-append z [] ns (t ∷ ts) us e = absurd (omega (arith, e))
slots-append z (m ∷ ms) ns [] us e = absurd (omega (arith, e))
slots-append z (m ∷ ms) ns (t ∷ ts) us e = omega (arith, slots-append z ms ns ts us (omega (arith, e)))

pub slots-kept : (z : PendingMessage → SlotName → Bool) (f : PendingMessage → PendingMessage) (q : PendingMessage → Bool) → ((m : PendingMessage) (t : SlotName) → z (f m) t ≡ z m t) → (ms : List PendingMessage) (ts : List SlotName)
    → with_slots z (map f (filter q ms)) (slots_kept q ms ts) ≤ with_slots z ms ts
slots-kept z f q same [] ts = omega arith
slots-kept z f q same (m ∷ ms) [] =
    let none : (xs : List PendingMessage) → with_slots z xs [] ≤ 0 = elim [ [] ↦ omega arith | x ∷ xs ↦ omega arith ] in
    none (map f (filter q (m ∷ ms)))
slots-kept z f q same (m ∷ ms) (t ∷ ts) =
    let go : (x : Bool) → with_slots z (map f (cond {A = List PendingMessage} x (m ∷ filter q ms) (filter q ms))) (cond {A = List SlotName} x (t ∷ slots_kept q ms ts) (slots_kept q ms ts)) ≤ bit (z m t) + with_slots z ms ts =
    elim [ true ↦ omega (arith, slots-kept z f q same ms ts, ap bit (same m t)) | false ↦ omega (arith, slots-kept z f q same ms ts) ] in
    go (q m)

pub slots-right : (z : PendingMessage → SlotName → Bool) (g : SlotName → Bool) → ((m : PendingMessage) (t : SlotName) → bit (z m t) ≤ bit (g t)) → (ms : List PendingMessage) (ts : List SlotName) → with_slots z ms ts ≤ count_by g ts
slots-right z g le [] ts = omega arith
slots-right z g le (m ∷ ms) [] = omega arith
slots-right z g le (m ∷ ms) (t ∷ ts) = omega (arith, count-cons g t ts, le m t, slots-right z g le ms ts)

pub slots-sum : (z y : PendingMessage → SlotName → Bool) (g : SlotName → Bool) → ((m : PendingMessage) (t : SlotName) → bit (z m t) ≤ bit (y m t) + bit (g t)) → (ms : List PendingMessage) (ts : List SlotName)
    → with_slots z ms ts ≤ with_slots y ms ts + count_by g ts
slots-sum z y g le [] ts = omega arith
slots-sum z y g le (m ∷ ms) [] = omega arith
slots-sum z y g le (m ∷ ms) (t ∷ ts) = omega (arith, count-cons g t ts, le m t, slots-sum z y g le ms ts)

-- the slots that stay are those of the messages that pass either test, where no more pass the one
pub kept-alike : (p q : PendingMessage → Bool) (ms : List PendingMessage) (ts : List SlotName) → ((i : ℕ) (d : PendingMessage) → i < length ms → bit (q (get_or ms i d)) ≤ bit (p (get_or ms i d))) → count_by p ms ≤ count_by q ms
    → slots_kept p ms ts ≡ slots_kept q ms ts
kept-alike p q [] ts le few = refl
kept-alike p q (m ∷ ms) [] le few = refl
kept-alike p q (m ∷ ms) (t ∷ ts) le few =
    let rest : (i : ℕ) (d : PendingMessage) → i < length ms → bit (q (get_or ms i d)) ≤ bit (p (get_or ms i d)) = λ i d lt. le (suc i) d (omega (arith, lt)) in
    let less : count_by q ms ≤ count_by p ms = count-le-at q p ms rest in
    let here : bit (q m) ≤ bit (p m) = le 0 m (omega arith) in
    let split : bit (p m) + count_by p ms ≤ bit (q m) + count_by q ms = omega (arith, few, count-cons p m ms, count-cons q m ms) in
    let tail : slots_kept p ms ts ≡ slots_kept q ms ts = kept-alike p q ms ts rest (omega (arith, split, here)) in
    let go : (x y : Bool) → p m ≡ x → q m ≡ y → cond {A = List SlotName} x (t ∷ slots_kept p ms ts) (slots_kept p ms ts) ≡ cond {A = List SlotName} y (t ∷ slots_kept q ms ts) (slots_kept q ms ts) =
    elim [
      | true ↦ elim [ true ↦ λ e f. ap (λ (us : List SlotName). t ∷ us) tail | false ↦ λ e f. absurd (omega (arith, ap bit e, ap bit f, split, less)) ]
      | false ↦ elim [ true ↦ λ e f. absurd (omega (arith, ap bit e, ap bit f, here)) | false ↦ λ e f. tail ]
    ] in
    go (p m) (q m) refl refl

-- kept slots are some of the slots
pub count-kept : (p : SlotName → Bool) (q : PendingMessage → Bool) (ms : List PendingMessage) (ts : List SlotName) → count_by p (slots_kept q ms ts) ≤ count_by p ts
count-kept p q [] ts = omega arith
count-kept p q (m ∷ ms) [] = omega arith
count-kept p q (m ∷ ms) (t ∷ ts) =
    let go : (x : Bool) → count_by p (cond {A = List SlotName} x (t ∷ slots_kept q ms ts) (slots_kept q ms ts)) ≤ bit (p t) + count_by p ts =
    elim [ true ↦ omega (arith, count-cons p t (slots_kept q ms ts), count-kept p q ms ts) | false ↦ omega (arith, count-kept p q ms ts) ] in
    omega (arith, count-cons p t ts, go (q m))

pub kept-all : (q : PendingMessage → Bool) (ms : List PendingMessage) (ts : List SlotName) → length ts ≡ length ms → ((m : PendingMessage) → q m ≡ true) → slots_kept q ms ts ≡ ts
kept-all q [] [] e all = refl
kept-all q [] (t ∷ ts) e all = absurd (omega (arith, e))
kept-all q (m ∷ ms) [] e all = refl
kept-all q (m ∷ ms) (t ∷ ts) e all =
    ap (λ (x : Bool). cond {A = List SlotName} x (t ∷ slots_kept q ms ts) (slots_kept q ms ts)) (all m) ∙ ap (λ (us : List SlotName). t ∷ us) (kept-all q ms ts (omega (arith, e)) all)

-- ---- a handle that is told

-- one handle more was given
pub shown-push : (base : ℕ) (given : List Handle) (h : Handle) (t : SlotName) → bit (was_shown base (given ++ h ∷ []) t) ≤ bit (was_shown base given t) + bit (handle_eq h (name_of base t))
shown-push base given h t =
    let either : (x y : Bool) → bit (x || (y || false)) ≤ bit x + bit y = elim [ true ↦ λ y. omega arith | false ↦ elim [ true ↦ omega arith | false ↦ omega arith ] ] in
    omega (
      arith,
      ap bit (list_any-append (handle_eq (name_of base t)) given (h ∷ [])),
      either (was_shown base given t) (handle_eq (name_of base t) h),
      ap bit (int_flip (name_of base t).0 h.0),
    )

-- the message that gets a handle is the one whose slot's name it is
pub slots-delivered : (given : List Handle) (v : ℕ) (h : Handle) (ms : List PendingMessage) (ts : List SlotName) (j : ℕ) → length ts ≡ length ms
    → with_slots (λ m t. is_none m.handle && was_shown 512 given t) ms ts ≡ 0 → count_by (λ t. handle_eq h (name_of 512 t)) ts ≤ 1
    → j ≡ position_or_len (is_undelivered v) ms → j < length ms → handle_eq h (name_of 512 (get_or ts j no_slot)) ≡ true
    → with_slots (λ m t. is_none m.handle && was_shown 512 (given ++ h ∷ []) t) (delivered v h ms) ts ≡ 0
slots-delivered given v h [] ts j len none once at lt named = refl
slots-delivered given v h (m ∷ ms) [] j len none once at lt named = absurd (omega (arith, len))
slots-delivered given v h (m ∷ ms) (t ∷ ts) j len none once at lt named =
    let old : PendingMessage → SlotName → Bool = λ x u. is_none x.handle && was_shown 512 given u in
    let now : PendingMessage → SlotName → Bool = λ x u. is_none x.handle && was_shown 512 (given ++ h ∷ []) u in
    let g : SlotName → Bool = λ u. handle_eq h (name_of 512 u) in
    let le : (x : PendingMessage) (u : SlotName) → bit (now x u) ≤ bit (old x u) + bit (g u) =
    λ x u.
    let go : (b : Bool) → bit (b && was_shown 512 (given ++ h ∷ []) u) ≤ bit (b && was_shown 512 given u) + bit (g u) = elim [ true ↦ shown-push 512 given h u | false ↦ omega arith ] in
    go (is_none x.handle) in
    let few : bit (g t) + count_by g ts ≤ 1 = omega (arith, once, count-cons g t ts) in
    let split : bit (old m t) + with_slots old ms ts ≡ 0 = none in
    let go : (x : Bool) → is_undelivered v m ≡ x → j ≡ (cond (not x) (1 + position_or_len (is_undelivered v) ms) 0)
    → with_slots now (cond {A = List PendingMessage} x (record m { handle = Some h } ∷ ms) (m ∷ delivered v h ms)) (t ∷ ts) ≡ 0 =
    elim [
      | true ↦ λ e f.
          let head : g t ≡ true = ap (λ n. handle_eq h (name_of 512 (get_or (t ∷ ts) n no_slot))) (sym f) ∙ named in
          omega (arith, slots-sum now old g le ms ts, split, few, ap bit head)
      | false ↦ λ e f.
          let p : ℕ = position_or_len (is_undelivered v) ms in
          let step : j ≡ suc p = omega (arith, f) in
          let next : handle_eq h (name_of 512 (get_or ts p no_slot)) ≡ true = ap (λ n. handle_eq h (name_of 512 (get_or (t ∷ ts) n no_slot))) (sym step) ∙ named in
          let some : 1 ≤ count_by g ts = omega (arith, member-counts g ts p no_slot (omega (arith, lt, step, len)), ap bit next) in
          let rest : with_slots now (delivered v h ms) ts ≡ 0 = slots-delivered given v h ms ts p (omega (arith, len)) (omega (arith, split)) (omega (arith, few)) refl (omega (arith, lt, step)) next in
          omega (arith, rest, le m t, split, few, some)
    ] in
    go (is_undelivered v m) refl at

-- a message counts together with its slot
pub slots-member : (z : PendingMessage → SlotName → Bool) (ms : List PendingMessage) (ts : List SlotName) (j : ℕ) (d : PendingMessage) → length ts ≡ length ms → j < length ms → bit (z (get_or ms j d) (get_or ts j no_slot)) ≤ with_slots z ms ts
slots-member z [] ts j d len lt = absurd (omega (arith, lt))
slots-member z (m ∷ ms) [] j d len lt = absurd (omega (arith, len))
slots-member z (m ∷ ms) (t ∷ ts) zero d len lt = omega arith
slots-member z (m ∷ ms) (t ∷ ts) (suc j) d len lt = omega (arith, slots-member z ms ts j d (omega (arith, len)) (omega (arith, lt)))

-- the first place at which a test passes
pub place-found : {X : Type 0} (p : X → Bool) (xs : List X) (x : X) → find p xs ≡ Some x → position_or_len p xs < length xs
place-found p [] x h = cc
place-found p (y ∷ ys) x h =
    let go : (b : Bool) → cond b (Some y) (find p ys) ≡ Some x → cond (not b) (1 + position_or_len p ys) 0 < length (y ∷ ys) =
    elim [ true ↦ λ g. omega arith | false ↦ λ g. omega (arith, place-found p ys x g) ] in
    go (p y) h

pub place-passes : {X : Type 0} (p : X → Bool) (xs : List X) (d : X) → position_or_len p xs < length xs → p (get_or xs (position_or_len p xs) d) ≡ true
place-passes p [] d h = absurd (omega (arith, h))
place-passes {X = X} p (y ∷ ys) d h =
    let go : (b : Bool) → p y ≡ b → cond (not b) (1 + position_or_len p ys) 0 < length (y ∷ ys) → p (get_or (y ∷ ys) (cond (not b) (1 + position_or_len p ys) 0) d) ≡ true =
    elim [
      | true ↦ λ e g. e
      | false ↦ λ e g.
          let next : 1 + position_or_len p ys ≡ suc (position_or_len p ys) = omega arith in
          ap (λ n. p (get_or (y ∷ ys) n d)) next ∙ place-passes p ys d (omega (arith, g))
    ] in
    go (p y) refl h
