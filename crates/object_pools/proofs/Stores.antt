-- The pool that cells and an order make: what is found in it, what it keeps, and the updates.
use Rattle.std.proofs.Common.{ℕ, zero, suc, ◌≡◌, ◌≢◌, ◌<◌, ◌≤◌, ◌==◌, Bool, true, false, cond, not, ◌&&◌, List, [], ◌∷◌, length, set, arith, ◌∙◌, ap, sym, refl}
use Rattle.std.specs.Prelude.{count_by, find, Option, Some, None, is_some, is_none, slice_get, option_and_then, if◌then◌else◌}
use Rattle.std.specs.List.{filter_map, list_any, range_with_len}
use Rattle.std.specs.Option.{option_map}
use Rattle.std.proofs.Math.ListN.{length-set}
use Rattle.std.proofs.lemmas.List.{get_or-set_same, length-map}
use Rattle.std.proofs.lemmas.Option.{same_Some, slice_get_read}
use Rattle.std.proofs.lemmas.Bool.{and_parts, eq-eqb, eqb-true}
use Rattle.object_pools.specs.declared.slot.Slot.{Slot}
use Rattle.object_pools.specs.declared.slot.Held.{Held}
use Rattle.object_pools.specs.declared.cells.Cell.{Cell}
use Rattle.object_pools.specs.Pool.{is_at, has_slot, item_at, free_index}
use Rattle.object_pools.specs.Cells.{under_slot, held_in, held_at, item_in, generations_of, places_of, Stored}
use Rattle.law_lists.proofs.Counts.{bit, any-count, none-count}
use Rattle.law_lists.proofs.Tests.{find-same}
use Rattle.object_pools.proofs.Orders.{times, Owns, Narrow, Filled, count-held, find-here, find-none, length-held, nth-held}

-- ---- a list with one element written

pub get-set_same : {X : Type 0} (xs : List X) (i : ℕ) (x : X) → i < length xs → slice_get (set xs i x) i ≡ Some x
get-set_same xs i x inside =
    slice_get_read (set xs i x) (length xs) i x (sym (length-set xs i x)) inside (sym (get_or-set_same xs i x x inside))

pub get-set_other : {X : Type 0} (xs : List X) (i k : ℕ) (x : X) → k ≢ i → slice_get (set xs i x) k ≡ slice_get xs k
get-set_other [] i k x apart = refl
get-set_other (y ∷ ys) zero zero x apart = absurd (apart refl)
get-set_other (y ∷ ys) zero (suc k) x apart = refl
get-set_other (y ∷ ys) (suc i) zero x apart = refl
get-set_other (y ∷ ys) (suc i) (suc k) x apart = get-set_other ys i k x (λ same. apart (ap suc same))

-- ---- items at an index

pub has_own : (s : Slot) → ((s.index == s.index) && (s.generation == s.generation)) ≡ true
has_own s = grind arith

module _ {T : Type 0} where
  pub slot_of : (i g : ℕ) (o : Option T) (h : Held T) → option_map (under_slot (record { index = i; generation = g })) o ≡ Some h → h.slot ≡ record { index = i; generation = g }
  slot_of i g None h e = cc
  slot_of i g (Some x) h e = let it : record { slot = record { index = i; generation = g }; item = x } ≡ h = same_Some _ h e in sym (ap (λ (y : Held T). y.slot) it)

  slot_at : (i : ℕ) (o : Option (Cell T)) (h : Held T) → option_and_then (held_in i) o ≡ Some h → h.slot.index ≡ i
  slot_at i None h e = cc
  slot_at i (Some c) h e = ap (λ s. s.index) (slot_of i c.generation c.item h e)

  pub Owns-held : (cells : List (Cell T)) → Owns (held_at cells)
  Owns-held cells = record { own = λ k h e. slot_at k (slice_get cells k) h e }

  pub Narrow-at : (i : ℕ) → Narrow {T = T} (is_at i) i
  Narrow-at i = record { index = λ h e. eqb-true h.slot.index i e }

  pub Narrow-slot : (s : Slot) → Narrow {T = T} (has_slot s) s.index
  Narrow-slot s = record { index = λ h e. eqb-true h.slot.index s.index (and_parts (h.slot.index == s.index) (h.slot.generation == s.generation) e).0 }

  pub Filled-order : (capacity : ℕ) (cells : List (Cell T)) (order : List ℕ) (takes : ℕ) → Stored capacity cells order takes → Filled (held_at cells) order
  Filled-order capacity cells order takes st = record {
    filled = λ k inside.
        let go : (b : Bool) → times k order ≡ bit b → b ≡ true = elim [ true ↦ λ e. refl | false ↦ λ e. absurd (omega arith) ] in
        go (is_some (held_at cells k)) (st.once k);
  }

  pub live-length : (capacity : ℕ) (cells : List (Cell T)) (order : List ℕ) (takes : ℕ) → Stored capacity cells order takes → length (filter_map (held_at cells) order) ≡ length order
  live-length capacity cells order takes st = length-held (held_at cells) order (Filled-order capacity cells order takes st)

  pub count-at : (capacity : ℕ) (cells : List (Cell T)) (order : List ℕ) (takes : ℕ) → Stored capacity cells order takes → (i : ℕ)
      → count_by (is_at i) (filter_map (held_at cells) order) ≡ bit (is_some (held_at cells i))
  count-at capacity cells order takes st i = count-held (held_at cells) i order (Owns-held cells) (st.once i)

  -- the item at an index is the one that is kept there
  pub at-index : (capacity : ℕ) (cells : List (Cell T)) (order : List ℕ) (takes : ℕ) → Stored capacity cells order takes → (i : ℕ)
      → find (is_at i) (filter_map (held_at cells) order) ≡ held_at cells i
  at-index capacity cells order takes st i =
      let go : (o : Option (Held T)) → held_at cells i ≡ o → find (is_at i) (filter_map (held_at cells) order) ≡ o =
      elim [
        | None ↦ λ e. find-none (held_at cells) (is_at i) i order (Owns-held cells) (Narrow-at i) (λ h here. cc)
        | Some h ↦ λ e.
            let own : h.slot.index ≡ i = (Owns-held cells).own i h e in
            find-here (held_at cells) (is_at i) i h order (Owns-held cells) (Narrow-at i) e (ap (λ k. k == i) own ∙ eq-eqb i i refl)
            (omega (arith, st.once i, ap (λ (x : Option (Held T)). bit (is_some x)) e))
      ] in
      go (held_at cells i) refl

  -- the item of a slot is the one that is kept at its index, where the generation is that of the cell
  pub at-slot : (capacity : ℕ) (cells : List (Cell T)) (order : List ℕ) (takes : ℕ) → Stored capacity cells order takes → (s : Slot)
      → item_at (places_of cells order takes) s ≡ item_in cells s
  at-slot capacity cells order takes st s =
      let f : ℕ → Option (Held T) = held_at cells in
      let missing : ((h : Held T) → held_at cells s.index ≡ Some h → has_slot s h ≡ false) → option_map (λ (h : Held T). h.item) (find (has_slot s) (filter_map (held_at cells) order)) ≡ None =
      λ fails. ap (option_map (λ (h : Held T). h.item)) (find-none (held_at cells) (has_slot s) s.index order (Owns-held cells) (Narrow-slot s) fails) in
      let live : (c : Cell T) → slice_get cells s.index ≡ Some c → (c.generation == s.generation) ≡ true → (o : Option T) → c.item ≡ o
      → option_map (λ (h : Held T). h.item) (find (has_slot s) (filter_map (held_at cells) order)) ≡ o =
      λ c e same. elim [
        | None ↦ λ k. missing (λ h here. cc (ap (option_and_then (held_in s.index)) e, ap (option_map (under_slot (record { index = s.index; generation = c.generation }))) k))
        | Some x ↦ λ k.
            let h : Held T = record { slot = record { index = s.index; generation = c.generation }; item = x } in
            let here : held_at cells s.index ≡ Some h =
            ap (option_and_then (held_in s.index)) e ∙ ap (option_map (under_slot (record { index = s.index; generation = c.generation }))) k in
            let passes : has_slot s h ≡ true = ap (λ b. b && (c.generation == s.generation)) (eq-eqb s.index s.index refl) ∙ same in
            let inside : 1 ≤ times s.index order = omega (arith, st.once s.index, ap (λ (y : Option (Held T)). bit (is_some y)) here) in
            ap (option_map (λ (y : Held T). y.item)) (find-here (held_at cells) (has_slot s) s.index h order (Owns-held cells) (Narrow-slot s) here passes inside)
      ] in
      let go : (o : Option (Cell T)) → slice_get cells s.index ≡ o
      → option_map (λ (h : Held T). h.item) (find (has_slot s) (filter_map (held_at cells) order)) ≡ option_and_then (λ c. if c.generation == s.generation then c.item else None) o =
      elim [
        | None ↦ λ e. missing (λ h here. cc (ap (option_and_then (held_in s.index)) e))
        | Some c ↦ λ e.
            let test : (b : Bool) → (c.generation == s.generation) ≡ b → option_map (λ (h : Held T). h.item) (find (has_slot s) (filter_map (held_at cells) order)) ≡ cond b c.item None =
            elim [
              | true ↦ λ same. live c e same c.item refl
              | false ↦ λ other. missing (λ h here.
                  let slot : h.slot ≡ record { index = s.index; generation = c.generation } = slot_of s.index c.generation c.item h (sym (ap (option_and_then (held_in s.index)) e) ∙ here) in
                  ap (λ (z : Slot). (z.index == s.index) && (z.generation == s.generation)) slot ∙ ap (λ b. b && (c.generation == s.generation)) (eq-eqb s.index s.index refl) ∙ other)
            ] in
            test (c.generation == s.generation) refl
      ] in
      go (slice_get cells s.index) refl

  pub at-place : (capacity : ℕ) (cells : List (Cell T)) (order : List ℕ) (takes : ℕ) → Stored capacity cells order takes → (n : ℕ)
      → slice_get (filter_map (held_at cells) order) n ≡ option_and_then (held_at cells) (slice_get order n)
  at-place capacity cells order takes st n = nth-held (held_at cells) order n (Filled-order capacity cells order takes st)

  -- an index is free where its cell has no item
  bit_none : (o : Option (Held T)) (b : Bool) → bit b ≡ bit (is_some o) → not b ≡ is_none o
  bit_none None true e = absurd (omega arith)
  bit_none None false e = refl
  bit_none (Some h) true e = refl
  bit_none (Some h) false e = absurd (omega arith)

  free-at : (capacity : ℕ) (cells : List (Cell T)) (order : List ℕ) (takes : ℕ) → Stored capacity cells order takes → (i : ℕ)
      → not (list_any (is_at i) (filter_map (held_at cells) order)) ≡ is_none (held_at cells i)
  free-at capacity cells order takes st i =
      let held : List (Held T) = filter_map (held_at cells) order in
      let count : count_by (is_at i) (filter_map (held_at cells) order) ≡ bit (is_some (held_at cells i)) = count-at capacity cells order takes st i in
      let le : (o : Option (Held T)) → bit (is_some o) ≤ 1 = elim [ None ↦ omega arith | Some h ↦ omega arith ] in
      let go : (b : Bool) → list_any (is_at i) (filter_map (held_at cells) order) ≡ b → bit b ≡ bit (is_some (held_at cells i)) =
      elim [
        | true ↦ λ e. omega (arith, any-count (is_at i) (filter_map (held_at cells) order) e, count, le (held_at cells i))
        | false ↦ λ e. omega (arith, none-count (is_at i) (filter_map (held_at cells) order) e, count)
      ] in
      bit_none (held_at cells i) (list_any (is_at i) (filter_map (held_at cells) order)) (go (list_any (is_at i) (filter_map (held_at cells) order)) refl)

  pub free-is : (capacity : ℕ) (cells : List (Cell T)) (order : List ℕ) (takes : ℕ) → Stored capacity cells order takes
      → free_index (filter_map (held_at cells) order) (length (generations_of cells)) ≡ find (λ i. is_none (held_at cells i)) (range_with_len 0 (length cells))
  free-is capacity cells order takes st =
      ap (λ n. find (λ i. not (list_any (is_at i) (filter_map (held_at cells) order))) (range_with_len 0 n)) (length-map cells (λ (c : Cell T). c.generation))
      ∙ find-same _ _ (λ i. free-at capacity cells order takes st i) (range_with_len 0 (length cells))

  -- ---- a cell written

  pub held-set_same : (cells : List (Cell T)) (i : ℕ) (c : Cell T) → i < length cells → held_at (set cells i c) i ≡ held_in i c
  held-set_same cells i c inside = ap (option_and_then (held_in i)) (get-set_same cells i c inside)

  pub held-set_other : (cells : List (Cell T)) (i : ℕ) (c : Cell T) (k : ℕ) → k ≢ i → held_at (set cells i c) k ≡ held_at cells k
  held-set_other cells i c k apart = ap (option_and_then (held_in k)) (get-set_other cells i k c apart)

  -- a live slot's cell
  pub live-cell : (cells : List (Cell T)) (s : Slot) (x : T) → item_in cells s ≡ Some x → slice_get cells s.index ≡ Some (record { generation = s.generation; item = Some x })
  live-cell cells s x =
      let go : (o : Option (Cell T)) → option_and_then (λ c. if c.generation == s.generation then c.item else None) o ≡ Some x → o ≡ Some (record { generation = s.generation; item = Some x }) =
      elim [
        | None ↦ λ e. cc
        | Some c ↦
            let test : (b : Bool) → (c.generation == s.generation) ≡ b → cond b c.item None ≡ Some x → Some c ≡ Some (record { generation = s.generation; item = Some x }) =
            elim [
              | true ↦ λ same e. let g : c.generation ≡ s.generation = eqb-true c.generation s.generation same in λ j. Some (record { generation = g j; item = e j })
              | false ↦ λ other e. cc
            ] in
            test (c.generation == s.generation) refl
      ] in
      go (slice_get cells s.index)
