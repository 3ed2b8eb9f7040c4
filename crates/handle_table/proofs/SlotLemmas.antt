-- Slots of a pool: each is of one live item, and can be named by a handle.
use Rattle.std.proofs.Common.{ℕ, zero, suc, ◌≡◌, ◌≤◌, ◌+◌, ◌==◌, Bool, true, false, cond, List, [], ◌∷◌, arith, ◌∙◌, ap, refl, subst}
use Rattle.std.specs.Prelude.{count_by, find, Option, Some, None, All, slice_get, map}
use Rattle.std.specs.Option.{option_map}
use Rattle.std.proofs.lemmas.List.Elements.{All-head, All-tail, All-weaker, All-nil, All-cons}
use Rattle.std.proofs.lemmas.Bool.{and_parts, eqb-true}
use Rattle.law_lists.proofs.Counts.{both-le-left, count-le, count-nth, bit, count-cons}
use Rattle.object_pools.specs.declared.slot.Slot.{Slot}
use Rattle.object_pools.specs.declared.slot.Held.{Held}
use Rattle.object_pools.specs.Pool.{Places, IsKept, IsNamed, has_slot, is_at, item_at, item_put}
use Rattle.object_pools.proofs.Stores.{has_own}
use Rattle.handle_table.specs.declared.handles.Family.{Family}
use Rattle.handle_table.specs.Handles.{IsNameable, indices_of}
use Rattle.law_lists.proofs.Tests.{find-passes, find-all}

find-nth : {X : Type 0} (p : X → Bool) (xs : List X) (n : ℕ) (x : X) → slice_get xs n ≡ Some x → p x ≡ true → count_by p xs ≤ 1 → find p xs ≡ Some x
find-nth p [] n x e passes one = cc
find-nth p (y ∷ ys) zero x e passes one = let it : y ≡ x = cc in ap (λ b. cond b (Some y) (find p ys)) (ap p it ∙ passes) ∙ e
find-nth p (y ∷ ys) (suc n) x e passes one =
    let few : bit (p y) + count_by p ys ≤ 1 = omega (arith, count-cons p y ys) in
    let go : (b : Bool) → bit b + count_by p ys ≤ 1 → cond b (Some y) (find p ys) ≡ Some x =
    elim [
      | true ↦ λ k. absurd (omega (arith, count-nth p ys n x e, ap bit passes))
      | false ↦ λ k. find-nth p ys n x e passes (omega arith)
    ] in
    go (p y) few

module _ {T : Type 0} where
  pub one_slot : (capacity : ℕ) (p : Places T) (s : Slot) → IsKept capacity p → count_by (has_slot s) p.held ≤ 1
  one_slot capacity p s k =
      omega (arith, k.once s.index, count-le (has_slot s) (is_at s.index) (λ h. both-le-left (h.slot.index == s.index) (h.slot.generation == s.generation)) p.held)

  pub slot-is : (s : Slot) (h : Held T) → has_slot s h ≡ true → h.slot ≡ s
  slot-is s h e =
      let parts = and_parts (h.slot.index == s.index) (h.slot.generation == s.generation) e in
      λ j. record { index = eqb-true h.slot.index s.index parts.0 j; generation = eqb-true h.slot.generation s.generation parts.1 j }

  -- the live item of a slot, with its slot
  pub held-of : (p : Places T) (s : Slot) (c : T) → item_at p s ≡ Some c → (h : Held T) × (find (has_slot s) p.held ≡ Some h) × (h.item ≡ c) × (h.slot ≡ s)
  held-of p s c =
      let go : (o : Option (Held T)) → find (has_slot s) p.held ≡ o → option_map (λ (h : Held T). h.item) o ≡ Some c
      → (h : Held T) × (find (has_slot s) p.held ≡ Some h) × (h.item ≡ c) × (h.slot ≡ s) =
      elim [ None ↦ λ f e. cc | Some h ↦ λ f e. (h, f, cc, slot-is s h (find-passes (has_slot s) p.held h f)) ] in
      go (find (has_slot s) p.held) refl

  -- the live item at a place of the order is live under its slot
  pub live-nth : (capacity : ℕ) (p : Places T) (n : ℕ) (h : Held T) → IsKept capacity p → slice_get p.held n ≡ Some h → item_at p h.slot ≡ Some h.item
  live-nth capacity p n h k e =
      ap (option_map (λ (x : Held T). x.item)) (find-nth (has_slot h.slot) p.held n h e (has_own h.slot) (one_slot capacity p h.slot k))

  -- each live slot can be named by a handle
  pub nameable : (f : Family) (p : Places T) → IsKept (indices_of f) p → All (λ h. IsNameable f h.slot) p.held
  nameable f p k =
      All-weaker (λ h. IsNamed p.generations h.slot) (λ h. IsNameable f h.slot)
      (λ h n. record { index = omega (arith, n.below, k.size); first = n.used; last = omega (arith, n.latest, k.given h.slot.index, k.takes_left) }) p.held k.named

  -- a live slot can be named by a handle
  pub nameable-at : (f : Family) (p : Places T) (s : Slot) (c : T) → IsKept (indices_of f) p → item_at p s ≡ Some c → IsNameable f s
  nameable-at f p s c k live =
      let it = held-of p s c live in
      subst (IsNameable f) it.3 (find-all (λ h. IsNameable f h.slot) (has_slot s) p.held it.0 it.1 (nameable f p k))

  -- a live slot has the last generation of its index
  pub named-at : (p : Places T) (s : Slot) (c : T) (capacity : ℕ) → IsKept capacity p → item_at p s ≡ Some c → IsNamed p.generations s
  named-at p s c capacity k live =
      let it = held-of p s c live in
      subst (IsNamed p.generations) it.3 (find-all (λ h. IsNamed p.generations h.slot) (has_slot s) p.held it.0 it.1 k.named)

  -- an item that is put in its slot
  pub All-put : (P : Held T → Type 0) (s : Slot) (y : T) → ((h : Held T) → has_slot s h ≡ true → P (record h { item = y })) → (held : List (Held T)) → All P held → All P (map (item_put s y) held)
  All-put P s y here [] a = All-nil P
  All-put P s y here (h ∷ hs) a =
      let go : (b : Bool) → has_slot s h ≡ b → P (cond b (record h { item = y }) h) = elim [ true ↦ λ e. here h e | false ↦ λ e. All-head P h hs a ] in
      All-cons P (item_put s y h) (map (item_put s y) hs) (go (has_slot s h) refl) (All-put P s y here hs (All-tail P h hs a))
