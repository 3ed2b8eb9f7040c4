-- The queues of a pool's messages, after a message comes, is delivered or goes.
use Rattle.std.proofs.Common.{ℕ, ◌≡◌, ◌≢◌, ◌<◌, ◌≤◌, ◌+◌, ◌==◌, Bool, true, false, cond, not, ◌&&◌, List, [], ◌∷◌, ◌++◌, length, set, arith, ◌∙◌, ap, sym, refl, subst, eq-eqb}
use Rattle.std.specs.Prelude.{count_by, find, Option, Some, None, map, filter, if◌then◌else◌, All, is_none, is_some, option_and_then, nat_lt}
use Rattle.std.specs.Option.{option_map}
use Rattle.std.proofs.lemmas.Bool.Decides.{nat_tests}
use Rattle.std.proofs.lemmas.List.{get_or_past, get_or-set_other}
use Rattle.std.specs.List.{range_with_len, list_any}
use Rattle.std.proofs.Math.ListN.{length-set}
use Rattle.std.proofs.lemmas.List.Elements.{All-head, All-tail, All-weaker, All-push, All-filter}
use Rattle.std.proofs.lemmas.Bool.{and_parts, eqb-true}
use Rattle.ffm_model.specs.declared.objects.Vectors.{Vectors}
use Rattle.object_pools.specs.declared.slot.Slot.{Slot}
use Rattle.object_pools.specs.declared.slot.Held.{Held}
use Rattle.object_pools.specs.Pool.{Places, IsKept, IsNamed, is_at, has_slot, item_at, item_put, with_item, without, taken, free_slot}
use Rattle.law_lists.proofs.Counts.{bit, both-le-right, count-cons, none-count}
use Rattle.object_pools.proofs.Orders.{times, same_bit}
use Rattle.object_pools.proofs.Pigeons.{index-below}
use Rattle.handle_table.proofs.SlotLemmas.{held-of, named-at, All-put}
use Rattle.handle_table.proofs.NameLemmas.{free-parts}
use Rattle.law_lists.proofs.Tests.{find-passes, find-all}
use Rattle.spm_tables.specs.declared.item.QueuedMessage.{QueuedMessage}
use Rattle.spm_tables.specs.declared.links.Link.{Link}
use Rattle.spm_tables.specs.declared.links.Ends.{Ends}
use Rattle.spm_tables.specs.TablesView.{waits_for, shown_handle}
use Rattle.spm_tables.specs.Queues.{first_of, no_ends, link_at, ends_at, AreQueues, queue_in, KeepsQueues, has_waiting, AllWaitAsBefore, OthersWaitAsBefore, joined, unlinked, joined_ends, unlinked_ends}
use Rattle.spm_tables.proofs.MessageLemmas.{all-found, found-too, found-live, found-index, IsOldest, oldest-is}
use Rattle.spm_tables.proofs.QueueLemmas.{out, out-none}
use Rattle.spm_tables.proofs.QueueUpdates.{Apart, queues-join, queues-unlink, length-joined, length-unlinked}
use Rattle.handle_table.proofs.Twins.{find-all_fail}

-- the indices of the items that pass
abbrev pub places : (Held QueuedMessage → Bool) → List (Held QueuedMessage) → List ℕ
places t xs = map (λ h. h.slot.index) (filter t xs)

places-cons : (t : Held QueuedMessage → Bool) (x : Held QueuedMessage) (xs : List (Held QueuedMessage)) (i : ℕ) → times i (places t (x ∷ xs)) ≡ bit (t x && (x.slot.index == i)) + times i (places t xs)
places-cons t x xs i =
    let go : (b : Bool) → times i (map (λ (h : Held QueuedMessage). h.slot.index) (cond b (x ∷ filter t xs) (filter t xs))) ≡ bit (b && (x.slot.index == i)) + times i (places t xs) =
    elim [ true ↦ count-cons (λ k. k == i) x.slot.index (places t xs) | false ↦ omega arith ] in
    go (t x)

times-places : (t : Held QueuedMessage → Bool) (xs : List (Held QueuedMessage)) (i : ℕ) → times i (places t xs) ≤ count_by (is_at i) xs
times-places t [] i = omega arith
times-places t (x ∷ xs) i = omega (arith, places-cons t x xs i, count-cons (is_at i) x xs, both-le-right (t x) (x.slot.index == i), times-places t xs i)

-- what stands in the queue is the item at that index
at-place : (t : Held QueuedMessage → Bool) (xs : List (Held QueuedMessage)) (i : ℕ) → count_by (is_at i) xs ≤ 1 → 1 ≤ times i (places t xs) → (h : Held QueuedMessage) × (find (is_at i) xs ≡ Some h) × (t h ≡ true)
at-place t [] i one inside = absurd (omega arith)
at-place t (x ∷ xs) i one inside =
    let few : bit (is_at i x) + count_by (is_at i) xs ≤ 1 = omega (arith, count-cons (is_at i) x xs) in
    let some : 1 ≤ bit (t x && is_at i x) + times i (places t xs) = omega (arith, places-cons t x xs i) in
    let go : (b c : Bool) → is_at i x ≡ b → t x ≡ c → bit b + count_by (is_at i) xs ≤ 1 → 1 ≤ bit (c && b) + times i (places t xs)
    → (h : Held QueuedMessage) × (cond b (Some x) (find (is_at i) xs) ≡ Some h) × (t h ≡ true) =
    elim [
      | true ↦ elim [
        | true ↦ λ e f m n. (x, refl, f)
        | false ↦ λ e f m n. absurd (omega (arith, times-places t xs i))
      ]
      | false ↦ elim [
        | true ↦ λ e f m n. at-place t xs i (omega arith) (omega arith)
        | false ↦ λ e f m n. at-place t xs i (omega arith) (omega arith)
      ]
    ] in
    go (is_at i x) (t x) refl refl few some

place-in : (t : Held QueuedMessage → Bool) (p : Held QueuedMessage → Bool) (xs : List (Held QueuedMessage)) (h : Held QueuedMessage) → find p xs ≡ Some h → t h ≡ true → 1 ≤ times h.slot.index (places t xs)
place-in t p [] h f passes = absurd (none h f) where
  none : (y : Held QueuedMessage) → None ≡ Some y → ⊥
  none y e = cc
place-in t p (x ∷ xs) h f passes =
    let go : (b : Bool) → cond b (Some x) (find p xs) ≡ Some h → 1 ≤ bit (t x && (x.slot.index == h.slot.index)) + times h.slot.index (places t xs) =
    elim [
      | true ↦ λ g.
          let it : x ≡ h = cc in
          let on : bit (t x && (x.slot.index == h.slot.index)) ≡ 1 =
          ap (λ (y : Held QueuedMessage). bit (t y && (y.slot.index == h.slot.index))) it ∙ ap (λ (b : Bool). bit (b && (h.slot.index == h.slot.index))) passes ∙ same_bit h.slot.index in
          omega arith
      | false ↦ λ g. omega (arith, place-in t p xs h g passes)
    ] in
    omega (arith, places-cons t x xs h.slot.index, go (p x) f)

waits-service : (v : ℕ) (h : Held QueuedMessage) → waits_for v h ≡ true → h.item.service ≡ v
waits-service v h e = eqb-true h.item.service v (and_parts (is_none (shown_handle h.item.delivered h.slot)) (h.item.service == v) e).1

same-held : (o : Option (Held QueuedMessage)) (g h : Held QueuedMessage) → o ≡ Some g → o ≡ Some h → g ≡ h
same-held o g h e f = cc

pub apart-of : (p : Places QueuedMessage) → IsKept 304 p → Apart (queue_in p) (length p.generations)
apart-of p kept = record {
  once = λ v i. omega (arith, times-places (waits_for v) p.held i, kept.once i);
  one = λ v w i a b.
      let g = at-place (waits_for v) p.held i (kept.once i) a in
      let h = at-place (waits_for w) p.held i (kept.once i) b in
      sym (waits-service v g.0 g.2) ∙ ap (λ (x : Held QueuedMessage). x.item.service) (same-held (find (is_at i) p.held) g.0 h.0 g.1 h.1) ∙ waits-service w h.0 h.2;
  below = λ v i a.
      let g = at-place (waits_for v) p.held i (kept.once i) a in
      let named : IsNamed p.generations (g.0).slot = named-at p (g.0).slot (g.0).item 304 kept (found-live p i g.0 kept g.1) in
      omega (arith, named.below, found-index p i g.0 g.1);
}

-- ---- changes of the pool

push-yes : (t : Held QueuedMessage → Bool) (xs : List (Held QueuedMessage)) (h : Held QueuedMessage) → t h ≡ true → places t (xs ++ h ∷ []) ≡ places t xs ++ h.slot.index ∷ []
push-yes t [] h e = ap (λ (b : Bool). map (λ (x : Held QueuedMessage). x.slot.index) (cond b (h ∷ []) [])) e
push-yes t (x ∷ xs) h e =
    let rest : places t (xs ++ h ∷ []) ≡ places t xs ++ h.slot.index ∷ [] = push-yes t xs h e in
    let go : (b : Bool) → map (λ (y : Held QueuedMessage). y.slot.index) (cond b (x ∷ filter t (xs ++ h ∷ [])) (filter t (xs ++ h ∷ [])))
    ≡ map (λ (y : Held QueuedMessage). y.slot.index) (cond b (x ∷ filter t xs) (filter t xs)) ++ h.slot.index ∷ [] =
    elim [ true ↦ ap (λ (is : List ℕ). x.slot.index ∷ is) rest | false ↦ rest ] in
    go (t x)

push-no : (t : Held QueuedMessage → Bool) (xs : List (Held QueuedMessage)) (h : Held QueuedMessage) → t h ≡ false → places t (xs ++ h ∷ []) ≡ places t xs
push-no t [] h e = ap (λ (b : Bool). map (λ (x : Held QueuedMessage). x.slot.index) (cond b (h ∷ []) [])) e
push-no t (x ∷ xs) h e =
    let rest : places t (xs ++ h ∷ []) ≡ places t xs = push-no t xs h e in
    let go : (b : Bool) → map (λ (y : Held QueuedMessage). y.slot.index) (cond b (x ∷ filter t (xs ++ h ∷ [])) (filter t (xs ++ h ∷ [])))
    ≡ map (λ (y : Held QueuedMessage). y.slot.index) (cond b (x ∷ filter t xs) (filter t xs)) =
    elim [ true ↦ ap (λ (is : List ℕ). x.slot.index ∷ is) rest | false ↦ rest ] in
    go (t x)

-- h alone is at its index
abbrev pub Only : Slot → Held QueuedMessage → List (Held QueuedMessage) → Type 0
Only s h xs = All (λ x. is_at s.index x ≡ true → x ≡ h) xs

pub only-here : (p : Places QueuedMessage) (s : Slot) (h : Held QueuedMessage) → IsKept 304 p → find (has_slot s) p.held ≡ Some h → Only s h p.held
only-here p s h kept f =
    let at : is_at s.index h ≡ true = (and_parts (h.slot.index == s.index) (h.slot.generation == s.generation) (find-passes (has_slot s) p.held h f)).0 in
    let here : find (is_at s.index) p.held ≡ Some h = found-too (has_slot s) (is_at s.index) p.held h at (kept.once s.index) f in
    All-weaker (λ x. find (is_at x.slot.index) p.held ≡ Some x) (λ x. is_at s.index x ≡ true → x ≡ h)
    (λ x g e. same-held (find (is_at s.index) p.held) x h (ap (λ n. find (is_at n) p.held) (sym (eqb-true x.slot.index s.index e)) ∙ g) here) p.held (all-found p.held kept.once)

without-out : (t : Held QueuedMessage → Bool) (s : Slot) (h : Held QueuedMessage) (xs : List (Held QueuedMessage)) → Only s h xs → has_slot s h ≡ true
    → places t (filter (λ x. not (has_slot s x)) xs) ≡ out s.index (places t xs)
without-out t s h [] only own = refl
without-out t s h (x ∷ xs) only own =
    let rest : places t (filter (λ y. not (has_slot s y)) xs) ≡ out s.index (places t xs) = without-out t s h xs (All-tail (λ y. is_at s.index y ≡ true → y ≡ h) x xs only) own in
    let gone : has_slot s x ≡ true → places t (filter (λ y. not (has_slot s y)) xs) ≡ out s.index (places t (x ∷ xs)) =
    λ e.
    let at : (x.slot.index == s.index) ≡ true = (and_parts (x.slot.index == s.index) (x.slot.generation == s.generation) e).0 in
    let go : (c : Bool) → places t (filter (λ y. not (has_slot s y)) xs) ≡ out s.index (map (λ (y : Held QueuedMessage). y.slot.index) (cond c (x ∷ filter t xs) (filter t xs))) =
    elim [
      | true ↦ rest ∙ ap (λ (b : Bool). cond (not b) (x.slot.index ∷ out s.index (places t xs)) (out s.index (places t xs))) (sym at)
      | false ↦ rest
    ] in
    go (t x) in
    let stays : has_slot s x ≡ false → places t (x ∷ filter (λ y. not (has_slot s y)) xs) ≡ out s.index (places t (x ∷ xs)) =
    λ e.
    let go : (c : Bool) → map (λ (y : Held QueuedMessage). y.slot.index) (cond c (x ∷ filter t (filter (λ y. not (has_slot s y)) xs)) (filter t (filter (λ y. not (has_slot s y)) xs)))
    ≡ out s.index (map (λ (y : Held QueuedMessage). y.slot.index) (cond c (x ∷ filter t xs) (filter t xs))) =
    elim [
      | true ↦ ap (λ (is : List ℕ). x.slot.index ∷ is) rest ∙ ap (λ (b : Bool). cond (not b) (x.slot.index ∷ out s.index (places t xs)) (out s.index (places t xs))) (sym (other (x.slot.index == s.index) refl e))
      | false ↦ rest
    ] in
    go (t x) in
    let go : (b : Bool) → has_slot s x ≡ b → places t (cond (not b) (x ∷ filter (λ y. not (has_slot s y)) xs) (filter (λ y. not (has_slot s y)) xs)) ≡ out s.index (places t (x ∷ xs)) =
    elim [ true ↦ gone | false ↦ stays ] in
    go (has_slot s x) refl where
      other : (b : Bool) → (x.slot.index == s.index) ≡ b → has_slot s x ≡ false → (x.slot.index == s.index) ≡ false
      other true at e = let it : has_slot s x ≡ true = ap (has_slot s) (All-head (λ y. is_at s.index y ≡ true → y ≡ h) x xs only at) ∙ own in cc
      other false at e = at

-- an item that then doesn't pass is as one that is gone
put-gone : (t : Held QueuedMessage → Bool) (s : Slot) (n : QueuedMessage) (xs : List (Held QueuedMessage)) → ((x : Held QueuedMessage) → t (record x { item = n }) ≡ false)
    → places t (map (item_put s n) xs) ≡ places t (filter (λ x. not (has_slot s x)) xs)
put-gone t s n [] off = refl
put-gone t s n (x ∷ xs) off =
    let rest : places t (map (item_put s n) xs) ≡ places t (filter (λ y. not (has_slot s y)) xs) = put-gone t s n xs off in
    let stays : (c : Bool) → map (λ (y : Held QueuedMessage). y.slot.index) (cond c (x ∷ filter t (map (item_put s n) xs)) (filter t (map (item_put s n) xs)))
    ≡ map (λ (y : Held QueuedMessage). y.slot.index) (cond c (x ∷ filter t (filter (λ y. not (has_slot s y)) xs)) (filter t (filter (λ y. not (has_slot s y)) xs))) =
    elim [ true ↦ ap (λ (is : List ℕ). x.slot.index ∷ is) rest | false ↦ rest ] in
    let go : (b : Bool) → places t (cond b (record x { item = n }) x ∷ map (item_put s n) xs) ≡ places t (cond (not b) (x ∷ filter (λ y. not (has_slot s y)) xs) (filter (λ y. not (has_slot s y)) xs)) =
    elim [
      | true ↦ ap (λ (b : Bool). map (λ (y : Held QueuedMessage). y.slot.index) (cond b (record x { item = n } ∷ filter t (map (item_put s n) xs)) (filter t (map (item_put s n) xs)))) (off x) ∙ rest
      | false ↦ stays (t x)
    ] in
    go (has_slot s x)

put-same : (t : Held QueuedMessage → Bool) (s : Slot) (n : QueuedMessage) (h : Held QueuedMessage) (xs : List (Held QueuedMessage)) → t (record h { item = n }) ≡ t h → Only s h xs
    → places t (map (item_put s n) xs) ≡ places t xs
put-same t s n h [] same only = refl
put-same t s n h (x ∷ xs) same only =
    let rest : places t (map (item_put s n) xs) ≡ places t xs = put-same t s n h xs same (All-tail (λ y. is_at s.index y ≡ true → y ≡ h) x xs only) in
    let stays : (y : Held QueuedMessage) → t y ≡ t x → y.slot.index ≡ x.slot.index → places t (y ∷ map (item_put s n) xs) ≡ places t (x ∷ xs) =
    λ y e f.
    let go : (c : Bool) → map (λ (z : Held QueuedMessage). z.slot.index) (cond c (y ∷ filter t (map (item_put s n) xs)) (filter t (map (item_put s n) xs)))
    ≡ map (λ (z : Held QueuedMessage). z.slot.index) (cond c (x ∷ filter t xs) (filter t xs)) =
    elim [ true ↦ ap (λ (is : List ℕ). y.slot.index ∷ is) rest ∙ ap (λ i. i ∷ places t xs) f | false ↦ rest ] in
    ap (λ (b : Bool). map (λ (z : Held QueuedMessage). z.slot.index) (cond b (y ∷ filter t (map (item_put s n) xs)) (filter t (map (item_put s n) xs)))) e ∙ go (t x) in
    let go : (b : Bool) → has_slot s x ≡ b → places t (cond b (record x { item = n }) x ∷ map (item_put s n) xs) ≡ places t (x ∷ xs) =
    elim [
      | true ↦ λ e.
          let it : x ≡ h = All-head (λ y. is_at s.index y ≡ true → y ≡ h) x xs only (and_parts (x.slot.index == s.index) (x.slot.generation == s.generation) e).0 in
          stays (record x { item = n }) (ap (λ (y : Held QueuedMessage). t (record y { item = n })) it ∙ same ∙ ap t (sym it)) refl
      | false ↦ λ e. stays x refl refl
    ] in
    go (has_slot s x) refl

known-put : (bound : ℕ) (s : Slot) (n : QueuedMessage) (xs : List (Held QueuedMessage)) → n.service < bound → All (λ h. h.item.service < bound) xs → All (λ h. h.item.service < bound) (map (item_put s n) xs)
known-put bound s n xs below a = All-put (λ (h : Held QueuedMessage). h.item.service < bound) s n (λ h e. below) xs a

-- ---- what the queues keep

still-known : (es : List Ends) (v : ℕ) (e : Ends) (xs : List (Held QueuedMessage)) → All (λ h. h.item.service < length es) xs → All (λ h. h.item.service < length (set es v e)) xs
still-known es v e xs a = subst (λ n. All (λ (h : Held QueuedMessage). h.item.service < n) xs) (sym (length-set es v e)) a

module _ (p : Places QueuedMessage) (ls : List Link) (es : List Ends) where
  same-size : KeepsQueues p ls es → IsKept 304 p → Apart (queue_in p) (length ls)
  same-size k kept = subst (Apart (queue_in p)) (sym k.linked) (apart-of p kept)

  pub keeps-take : (s : Slot) (x : QueuedMessage) → IsKept 304 p → KeepsQueues p ls es → free_slot p ≡ Some s → x.delivered ≡ false → x.service < length es
      → KeepsQueues (taken p s x) (joined ls (ends_at es x.service).last s.index) (set es x.service (joined_ends (ends_at es x.service) s.index))
  keeps-take s x kept k free fresh below =
      let parts = free-parts p s free in
      let index : s.index < length p.generations = index-below (λ i. not (list_any (is_at i) p.held)) (length p.generations) s.index parts.0 in
      let none : count_by (is_at s.index) p.held ≡ 0 = none-count (is_at s.index) p.held (is_off (list_any (is_at s.index) p.held) (find-passes (λ i. not (list_any (is_at i) p.held)) (range_with_len 0 (length p.generations)) s.index parts.0)) in
      let waiting : (v : ℕ) → waits_for v (record { slot = s; item = x }) ≡ (x.service == v) = λ v. ap (λ (b : Bool). is_none (shown_handle b s) && (x.service == v)) fresh in
      record {
        linked = omega (arith, length-joined ls (ends_at es x.service).last s.index, k.linked, length-set p.generations s.index s.generation);
        known = still-known es x.service (joined_ends (ends_at es x.service) s.index) (p.held ++ record { slot = s; item = x } ∷ [])
            (All-push (λ (h : Held QueuedMessage). h.item.service < length es) p.held (record { slot = s; item = x }) k.known below);
        queues = queues-join ls es (queue_in p) (queue_in (taken p s x)) x.service s.index k.queues (same-size k kept) below (omega (arith, k.linked))
            (λ v. omega (arith, times-places (waits_for v) p.held s.index))
            (push-yes (waits_for x.service) p.held (record { slot = s; item = x }) (waiting x.service ∙ eq-eqb x.service x.service refl))
            (λ v ne. push-no (waits_for v) p.held (record { slot = s; item = x }) (waiting v ∙ not_same x.service v ne));
      } where
        is_off : (b : Bool) → not b ≡ true → b ≡ false
        is_off true e = cc
        is_off false e = refl

        not_same : (m n : ℕ) → n ≢ m → (m == n) ≡ false
        not_same m n ne = grind arith

  waits : (m : QueuedMessage) (h : Held QueuedMessage) → h.item ≡ m → m.delivered ≡ false → waits_for m.service h ≡ true
  waits m h item fresh =
      ap (λ (i : QueuedMessage). is_none (shown_handle i.delivered h.slot) && (i.service == m.service)) item ∙ ap (λ (b : Bool). is_none (shown_handle b h.slot) && (m.service == m.service)) fresh ∙ eq-eqb m.service m.service refl

  own-slot : (s : Slot) (h : Held QueuedMessage) → find (has_slot s) p.held ≡ Some h → has_slot s h ≡ true
  own-slot s h f = find-passes (has_slot s) p.held h f

  member : (s : Slot) (m : QueuedMessage) → item_at p s ≡ Some m → m.delivered ≡ false → 1 ≤ times s.index (queue_in p m.service)
  member s m live fresh =
      let it = held-of p s m live in
      subst (λ (t : Slot). 1 ≤ times t.index (queue_in p m.service)) it.3 (place-in (waits_for m.service) (has_slot s) p.held it.0 it.1 (waits m it.0 it.2 fresh))

  service-below : (s : Slot) (m : QueuedMessage) → KeepsQueues p ls es → item_at p s ≡ Some m → m.service < length es
  service-below s m k live =
      let it = held-of p s m live in
      subst (λ (i : QueuedMessage). i.service < length es) it.2 (find-all (λ (h : Held QueuedMessage). h.item.service < length es) (has_slot s) p.held it.0 it.1 k.known)

  -- a message leaves its queue
  keeps-left : (r : Places QueuedMessage) (s : Slot) (m : QueuedMessage) → IsKept 304 p → KeepsQueues p ls es → item_at p s ≡ Some m → m.delivered ≡ false
      → length r.generations ≡ length p.generations → All (λ h. h.item.service < length es) r.held → ((v : ℕ) → queue_in r v ≡ out s.index (queue_in p v))
      → KeepsQueues r (unlinked ls (link_at ls s.index)) (set es m.service (unlinked_ends (ends_at es m.service) (link_at ls s.index)))
  keeps-left r s m kept k live fresh as_long known left = record {
    linked = length-unlinked ls (link_at ls s.index) ∙ k.linked ∙ sym as_long;
    known = still-known es m.service (unlinked_ends (ends_at es m.service) (link_at ls s.index)) r.held known;
    queues = queues-unlink ls es (queue_in p) (queue_in r) m.service s.index k.queues (same-size k kept) (service-below s m k live) (member s m live fresh) left;
  }

  keeps-delivered : (s : Slot) (m : QueuedMessage) → IsKept 304 p → KeepsQueues p ls es → item_at p s ≡ Some m → m.delivered ≡ false
      → KeepsQueues (with_item p s (record m { delivered = true })) (unlinked ls (link_at ls s.index)) (set es m.service (unlinked_ends (ends_at es m.service) (link_at ls s.index)))
  keeps-delivered s m kept k live fresh =
      let it = held-of p s m live in
      keeps-left (with_item p s (record m { delivered = true })) s m kept k live fresh refl (known-put (length es) s (record m { delivered = true }) p.held (service-below s m k live) k.known)
      (λ v. put-gone (waits_for v) s (record m { delivered = true }) p.held (λ x. refl) ∙ without-out (waits_for v) s it.0 p.held (only-here p s it.0 kept it.1) (own-slot s it.0 it.1))

  keeps-dropped : (s : Slot) (m : QueuedMessage) → IsKept 304 p → KeepsQueues p ls es → item_at p s ≡ Some m → m.delivered ≡ false
      → KeepsQueues (without p s) (unlinked ls (link_at ls s.index)) (set es m.service (unlinked_ends (ends_at es m.service) (link_at ls s.index)))
  keeps-dropped s m kept k live fresh =
      let it = held-of p s m live in
      keeps-left (without p s) s m kept k live fresh refl (All-filter (λ x. not (has_slot s x)) (λ (h : Held QueuedMessage). h.item.service < length es) p.held k.known)
      (λ v. without-out (waits_for v) s it.0 p.held (only-here p s it.0 kept it.1) (own-slot s it.0 it.1))

  same-queues : (q r : ℕ → List ℕ) → ((v : ℕ) → r v ≡ q v) → AreQueues ls es q → AreQueues ls es r
  same-queues q r same a = let whole : r ≡ q = λ j v. same v j in subst (AreQueues ls es) (sym whole) a

  keeps-given : (s : Slot) (m : QueuedMessage) → IsKept 304 p → KeepsQueues p ls es → item_at p s ≡ Some m → m.delivered ≡ true → KeepsQueues (without p s) ls es
  keeps-given s m kept k live on =
      let it = held-of p s m live in
      record {
        linked = k.linked;
        known = All-filter (λ x. not (has_slot s x)) (λ (h : Held QueuedMessage). h.item.service < length es) p.held k.known;
        queues = same-queues (queue_in p) (queue_in (without p s))
            (λ v. without-out (waits_for v) s it.0 p.held (only-here p s it.0 kept it.1) (own-slot s it.0 it.1)
            ∙ out-none s.index (queue_in p v) (absent it.0 it.1 it.2 v (times s.index (queue_in p v) == 0) refl)) k.queues;
      } where
        some_times : (n : ℕ) → (n == 0) ≡ false → 1 ≤ n
        some_times n e = grind arith

        off : (h : Held QueuedMessage) → h.item ≡ m → (v : ℕ) → waits_for v h ≡ false
        off h item v = ap (λ (i : QueuedMessage). is_none (shown_handle i.delivered h.slot) && (i.service == v)) item ∙ ap (λ (b : Bool). is_none (shown_handle b h.slot) && (m.service == v)) on

        absent : (h : Held QueuedMessage) → find (has_slot s) p.held ≡ Some h → h.item ≡ m → (v : ℕ) → (b : Bool) → (times s.index (queue_in p v) == 0) ≡ b → times s.index (queue_in p v) ≡ 0
        absent h f item v true e = eqb-true (times s.index (queue_in p v)) 0 e
        absent h f item v false e =
            let g = at-place (waits_for v) p.held s.index (kept.once s.index) (some_times (times s.index (queue_in p v)) e) in
            let at : is_at s.index h ≡ true = (and_parts (h.slot.index == s.index) (h.slot.generation == s.generation) (own-slot s h f)).0 in
            let it : g.0 ≡ h = same-held (find (is_at s.index) p.held) g.0 h g.1 (found-too (has_slot s) (is_at s.index) p.held h at (kept.once s.index) f) in
            absurd (on_off (waits_for v h) (ap (waits_for v) (sym it) ∙ g.2) (off h item v)) where
              on_off : (b : Bool) → b ≡ true → b ≡ false → ⊥
              on_off b e f = cc

  -- a message leaves its queue where it waits in one
  pub keeps-out : (s : Slot) (m : QueuedMessage) → IsKept 304 p → KeepsQueues p ls es → item_at p s ≡ Some m
      → KeepsQueues (without p s) (if m.delivered then ls else unlinked ls (link_at ls s.index))
      (if m.delivered then es else set es m.service (unlinked_ends (ends_at es m.service) (link_at ls s.index)))
  keeps-out s m kept k live =
      let go : (b : Bool) → m.delivered ≡ b
      → KeepsQueues (without p s) (cond b ls (unlinked ls (link_at ls s.index))) (cond b es (set es m.service (unlinked_ends (ends_at es m.service) (link_at ls s.index)))) =
      elim [ true ↦ λ e. keeps-given s m kept k live e | false ↦ λ e. keeps-dropped s m kept k live e ] in
      go m.delivered refl

  -- the oldest message of a service is delivered
  pub keeps-oldest : (v : ℕ) (s : Slot) (m : QueuedMessage) → IsKept 304 p → KeepsQueues p ls es → IsOldest p v s → item_at p s ≡ Some m
      → KeepsQueues (with_item p s (record m { delivered = true })) (unlinked ls (link_at ls s.index)) (set es v (unlinked_ends (ends_at es v) (link_at ls s.index)))
  keeps-oldest v s m kept k o live =
      let was : (o.held).item ≡ m = oldest-is p v s m o live in
      let waited : waits_for v o.held ≡ true = find-passes (waits_for v) p.held o.held o.first in
      let off : is_none (shown_handle (o.held).item.delivered (o.held).slot) ≡ true = (and_parts (is_none (shown_handle (o.held).item.delivered (o.held).slot)) ((o.held).item.service == v) waited).0 in
      let fresh : m.delivered ≡ false = sym (ap (λ (i : QueuedMessage). i.delivered) was) ∙ shows_none (o.held).item.delivered off in
      let service : m.service ≡ v = sym (ap (λ (i : QueuedMessage). i.service) was) ∙ waits-service v o.held waited in
      subst (λ (w : ℕ). KeepsQueues (with_item p s (record m { delivered = true })) (unlinked ls (link_at ls s.index)) (set es w (unlinked_ends (ends_at es w) (link_at ls s.index))))
      service (keeps-delivered s m kept k live fresh) where
        shows_none : (b : Bool) → is_none (shown_handle b (o.held).slot) ≡ true → b ≡ false
        shows_none true e = cc
        shows_none false e = refl

  pub keeps-vectors : (s : Slot) (m : QueuedMessage) (w : Vectors) → IsKept 304 p → KeepsQueues p ls es → item_at p s ≡ Some m → KeepsQueues (with_item p s (record m { vectors = w })) ls es
  keeps-vectors s m w kept k live =
      let it = held-of p s m live in
      record {
        linked = k.linked;
        known = known-put (length es) s (record m { vectors = w }) p.held (service-below s m k live) k.known;
        queues = same-queues (queue_in p) (queue_in (with_item p s (record m { vectors = w })))
            (λ v. put-same (waits_for v) s (record m { vectors = w }) it.0 p.held
            (ap (λ (i : QueuedMessage). waits_for v (record it.0 { item = record i { vectors = w } })) (sym it.2)) (only-here p s it.0 kept it.1)) k.queues;
      }

-- ---- the oldest message

first-find : (t : Held QueuedMessage → Bool) (xs : List (Held QueuedMessage)) → first_of (places t xs) ≡ option_map (λ (h : Held QueuedMessage). h.slot.index) (find t xs)
first-find t [] = refl
first-find t (x ∷ xs) =
    let go : (b : Bool) → first_of (map (λ (h : Held QueuedMessage). h.slot.index) (cond b (x ∷ filter t xs) (filter t xs))) ≡ option_map (λ (h : Held QueuedMessage). h.slot.index) (cond b (Some x) (find t xs)) =
    elim [ true ↦ refl | false ↦ first-find t xs ] in
    go (t x)

none-known : (v bound : ℕ) (xs : List (Held QueuedMessage)) → bound ≤ v → All (λ h. h.item.service < bound) xs → find (waits_for v) xs ≡ None
none-known v bound xs past a =
    find-all_fail (waits_for v) xs (All-weaker (λ (h : Held QueuedMessage). h.item.service < bound) (λ (h : Held QueuedMessage). waits_for v h ≡ true → ⊥) (λ h below e. absurd (omega (arith, waits-service v h e))) xs a)

pub first-is : (p : Places QueuedMessage) (ls : List Link) (es : List Ends) (v : ℕ) → KeepsQueues p ls es → (ends_at es v).first ≡ first_of (queue_in p v)
first-is p ls es v k =
    let go : (b : Bool) → nat_lt v (length es) ≡ b → (ends_at es v).first ≡ first_of (queue_in p v) =
    elim [
      | true ↦ λ e. k.queues.first v (below v (length es) e)
      | false ↦ λ e.
          let past : length es ≤ v = above v (length es) e in
          ap (λ (x : Ends). x.first) (get_or_past es v no_ends past)
          ∙ sym (first-find (waits_for v) p.held ∙ ap (option_map (λ (h : Held QueuedMessage). h.slot.index)) (none-known v (length es) p.held past k.known))
    ] in
    go (nat_lt v (length es)) refl where
      below : (m n : ℕ) → nat_lt m n ≡ true → m < n
      below m n e = grind (arith, nat_tests)

      above : (m n : ℕ) → nat_lt m n ≡ false → n ≤ m
      above m n e = grind (arith, nat_tests)

pub oldest-at : (p : Places QueuedMessage) (v : ℕ) (o : Option ℕ) → IsKept 304 p → o ≡ first_of (queue_in p v)
    → option_map (λ (h : Held QueuedMessage). h.slot) (option_and_then (λ i. find (is_at i) p.held) o) ≡ option_map (λ (h : Held QueuedMessage). h.slot) (find (waits_for v) p.held)
oldest-at p v o kept e =
    let go : (x : Option (Held QueuedMessage)) → find (waits_for v) p.held ≡ x
    → option_map (λ (h : Held QueuedMessage). h.slot) (option_and_then (λ i. find (is_at i) p.held) (option_map (λ (h : Held QueuedMessage). h.slot.index) x)) ≡ option_map (λ (h : Held QueuedMessage). h.slot) x =
    elim [
      | None ↦ λ f. refl
      | Some h ↦ λ f. ap (option_map (λ (y : Held QueuedMessage). y.slot)) (found-too (waits_for v) (is_at h.slot.index) p.held h (eq-eqb h.slot.index h.slot.index refl) (kept.once h.slot.index) f)
    ] in
    ap (λ (x : Option ℕ). option_map (λ (h : Held QueuedMessage). h.slot) (option_and_then (λ i. find (is_at i) p.held) x)) (e ∙ first-find (waits_for v) p.held) ∙ go (find (waits_for v) p.held) refl

-- ---- for which services a message waits

-- a service's queue has a first index where a message waits for it
pub waits-first : (p : Places QueuedMessage) (ls : List Link) (es : List Ends) (v : ℕ) → KeepsQueues p ls es → is_some (ends_at es v).first ≡ has_waiting p v
waits-first p ls es v k = ap (λ (o : Option ℕ). is_some o) (first-is p ls es v k ∙ first-find (waits_for v) p.held) ∙ seen (find (waits_for v) p.held) where
  seen : (o : Option (Held QueuedMessage)) → is_some (option_map (λ (h : Held QueuedMessage). h.slot.index) o) ≡ is_some o
  seen None = refl
  seen (Some h) = refl

-- and that service is there
pub waits-known : (p : Places QueuedMessage) (ls : List Link) (es : List Ends) (v : ℕ) → KeepsQueues p ls es → has_waiting p v ≡ true → v < length es
waits-known p ls es v k waits = go (nat_lt v (length es)) refl where
  go : (b : Bool) → nat_lt v (length es) ≡ b → v < length es
  go true e = grind (arith, nat_tests)
  go false e =
      let none : has_waiting p v ≡ false = ap (λ (o : Option (Held QueuedMessage)). is_some o) (none-known v (length es) p.held (grind (arith, nat_tests)) k.known) in
      cc

-- where the ends of no other queue change
pub others-wait : (p r : Places QueuedMessage) (ls ms : List Link) (es : List Ends) (v : ℕ) (e : Ends) → KeepsQueues p ls es → KeepsQueues r ms (set es v e) → OthersWaitAsBefore v p r
others-wait p r ls ms es v e k l w other =
    sym (waits-first r ms (set es v e) w l) ∙ ap (λ (x : Ends). is_some x.first) (get_or-set_other es v w e no_ends other) ∙ waits-first p ls es w k

pub all-wait : (p r : Places QueuedMessage) (ls ms : List Link) (es : List Ends) → KeepsQueues p ls es → KeepsQueues r ms es → AllWaitAsBefore p r
all-wait p r ls ms es k l v = sym (waits-first r ms es v l) ∙ waits-first p ls es v k

-- where a message leaves its queue, unless it was delivered
pub others-left : (p r : Places QueuedMessage) (ls ms : List Link) (es : List Ends) (v : ℕ) (e : Ends) (delivered : Bool) → KeepsQueues p ls es → KeepsQueues r ms (if delivered then es else set es v e) → OthersWaitAsBefore v p r
others-left p r ls ms es v e true k l w other = all-wait p r ls ms es k l w
others-left p r ls ms es v e false k l w other = others-wait p r ls ms es v e k l w other
