-- What a slot of a pool has after its item was changed, and after it was taken.
use Rattle.std.proofs.Common.{ℕ, ◌≡◌, ◌==◌, ◌+◌, Bool, true, false, cond, not, ◌&&◌, ◌||◌, List, [], ◌∷◌, ◌++◌, length, ◌∙◌, ap, sym, refl}
use Rattle.std.specs.Prelude.{find, Option, Some, None, map, get_or}
use Rattle.std.specs.List.{list_any, range_with_len}
use Rattle.std.specs.Option.{option_map}
use Rattle.object_pools.specs.declared.slot.Slot.{Slot}
use Rattle.object_pools.specs.declared.slot.Held.{Held}
use Rattle.object_pools.specs.Pool.{Places, free_index, free_slot, has_slot, is_at, item_at, item_put, taken, with_item}
use Rattle.object_pools.proofs.Stores.{has_own}
use Rattle.handle_table.proofs.SlotLemmas.{held-of}
use Rattle.law_lists.proofs.Tests.{find-passes}

module _ {T : Type 0} where
  find-put : (s : Slot) (x : T) (held : List (Held T)) (h : Held T) → find (has_slot s) held ≡ Some h → option_map (λ (y : Held T). y.item) (find (has_slot s) (map (item_put s x) held)) ≡ Some x
  find-put s x [] h f = cc
  find-put s x (y ∷ ys) h f =
      let later : List (Held T) = map (item_put s x) ys in
      let go : (b : Bool) → has_slot s y ≡ b → cond b (Some y) (find (has_slot s) ys) ≡ Some h
      → option_map (λ (z : Held T). z.item) (cond (has_slot s (cond b (record y { item = x }) y)) (Some (cond b (record y { item = x }) y)) (find (has_slot s) later)) ≡ Some x =
      elim [
        | true ↦ λ e g. ap (λ (b : Bool). option_map (λ (z : Held T). z.item) (cond b (Some (record y { item = x })) (find (has_slot s) later))) e
        | false ↦ λ e g. ap (λ (b : Bool). option_map (λ (z : Held T). z.item) (cond b (Some y) (find (has_slot s) later))) e ∙ find-put s x ys h g
      ] in
      go (has_slot s y) refl f

  -- the item that was put
  pub item-put : (p : Places T) (s : Slot) (c x : T) → item_at p s ≡ Some c → item_at (with_item p s x) s ≡ Some x
  item-put p s c x live = let it = held-of p s c live in find-put s x p.held it.0 it.1

  find-last : (s : Slot) (held : List (Held T)) (h : Held T) → list_any (is_at s.index) held ≡ false → has_slot s h ≡ true → find (has_slot s) (held ++ h ∷ []) ≡ Some h
  find-last s [] h none own = ap (λ (b : Bool). cond b (Some h) None) own
  find-last s (y ∷ ys) h none own =
      let go : (b d : Bool) → (b || list_any (is_at s.index) ys) ≡ false → cond (b && d) (Some y) (find (has_slot s) (ys ++ h ∷ [])) ≡ Some h =
      elim [ true ↦ λ d e. cc | false ↦ λ d e. find-last s ys h e own ] in
      go (is_at s.index y) (y.slot.generation == s.generation) none

  free-place : (p : Places T) (s : Slot) → free_slot p ≡ Some s → list_any (is_at s.index) p.held ≡ false
  free-place p s f =
      let free : ℕ → Bool = λ i. not (list_any (is_at i) p.held) in
      let passed : (i : ℕ) → not (list_any (is_at i) p.held) ≡ true → list_any (is_at i) p.held ≡ false = λ i. turned (list_any (is_at i) p.held) in
      let go : (o : Option ℕ) → free_index p.held (length p.generations) ≡ o → option_map (λ (i : ℕ). record { index = i; generation = get_or p.generations i 0 + 1 }) o ≡ Some s
      → list_any (is_at s.index) p.held ≡ false =
      elim [
        | None ↦ λ e g. cc
        | Some i ↦ λ e g.
            let it : i ≡ s.index = at_index i g in
            ap (λ (k : ℕ). list_any (is_at k) p.held) (sym it) ∙ passed i (find-passes free (range_with_len 0 (length p.generations)) i e)
      ] in
      go (free_index p.held (length p.generations)) refl f where
        turned : (b : Bool) → not b ≡ true → b ≡ false
        turned true e = cc
        turned false e = refl

        at_index : (i : ℕ) → Some (record { index = i; generation = get_or p.generations i 0 + 1 }) ≡ Some s → i ≡ s.index
        at_index i g = cc

  -- the item that was taken
  pub item-taken : (p : Places T) (s : Slot) (x : T) → free_slot p ≡ Some s → item_at (taken p s x) s ≡ Some x
  item-taken p s x f = ap (option_map (λ (h : Held T). h.item)) (find-last s p.held (record { slot = s; item = x }) (free-place p s f) (has_own s))
