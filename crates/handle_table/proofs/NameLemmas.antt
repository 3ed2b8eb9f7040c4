-- A slot that a take gives is the next name.
use Rattle.std.proofs.Common.{ℕ, ◌≡◌, ◌≢◌, ◌<◌, ◌+◌, ◌==◌, Bool, true, false, not, ◌||◌, List, [], ◌∷◌, ◌++◌, length, map, get_or, arith, ◌∙◌, ap, sym, refl, subst}
use Rattle.std.specs.Prelude.{count_by, find, Option, Some, None, slice_set}
use Rattle.std.specs.List.{list_any, range_with_len}
use Rattle.std.specs.Option.{option_map, unwrap_or}
use Rattle.std.proofs.lemmas.List.{get_or-set_same, get_or-set_other}
use Rattle.std.proofs.lemmas.Bool.{eqb-true}
use Rattle.ffm_model.specs.Names.{SlotName, has_index, next_slot}
use Rattle.object_pools.specs.declared.slot.Slot.{Slot}
use Rattle.object_pools.specs.declared.slot.Held.{Held}
use Rattle.object_pools.specs.Pool.{Places, is_at, free_index, free_slot, taken, empty}
use Rattle.law_lists.proofs.Counts.{count-push}
use Rattle.law_lists.proofs.Tests.{find-same}
use Rattle.law_lists.proofs.Lists.{get_or-replicate_same}
use Rattle.object_pools.proofs.Orders.{other_number, same_bit, other_bit}
use Rattle.object_pools.proofs.Pigeons.{index-below}
use Rattle.handle_table.specs.Handles.{slot_name, live_names, IsPast, TakesNextName}

module _ {T : Type 0} where
  any-names : (i : ℕ) (held : List (Held T)) → list_any (has_index i) (map (λ (h : Held T). slot_name h.slot) held) ≡ list_any (is_at i) held
  any-names i [] = refl
  any-names i (h ∷ hs) = ap (λ b. (h.slot.index == i) || b) (any-names i hs)

  free-names : (p : Places T) → find (λ k. not (list_any (has_index k) (live_names p))) (range_with_len 0 (length p.generations)) ≡ free_index p.held (length p.generations)
  free-names p = find-same _ _ (λ i. ap not (any-names i p.held)) (range_with_len 0 (length p.generations))

  -- a pool's next slot, by its index
  pub free-parts : (p : Places T) (s : Slot) → free_slot p ≡ Some s → (free_index p.held (length p.generations) ≡ Some s.index) × (s.generation ≡ get_or p.generations s.index 0 + 1)
  free-parts p s =
      let go : (o : Option ℕ) → option_map (λ i. record { index = i; generation = get_or p.generations i 0 + 1 }) o ≡ Some s → (o ≡ Some s.index) × (s.generation ≡ get_or p.generations s.index 0 + 1) =
      elim [
        | None ↦ λ e. cc
        | Some i ↦ λ e.
            let it : record { index = i; generation = get_or p.generations i 0 + 1 } ≡ s = same_slot _ _ e in
            (ap (λ (t : Slot). Some t.index) it, sym (ap (λ (t : Slot). t.generation) it) ∙ ap (λ (t : Slot). get_or p.generations t.index 0 + 1) it)
      ] in
      go (free_index p.held (length p.generations)) where
        same_slot : (a b : Slot) → Some a ≡ Some b → a ≡ b
        same_slot a b e = cc

  pub next-name : (p : Places T) (past : List SlotName) (s : Slot) → IsPast p past → free_slot p ≡ Some s → slot_name s ≡ next_slot (length p.generations) (live_names p) past
  next-name p past s was free =
      let parts = free-parts p s free in
      let index : unwrap_or (find (λ k. not (list_any (has_index k) (live_names p))) (range_with_len 0 (length p.generations))) 0 ≡ s.index =
      ap (λ (o : Option ℕ). unwrap_or o 0) (free-names p ∙ parts.0) in
      let generation : s.generation ≡ count_by (has_index s.index) past + 1 = omega (arith, parts.1, was.uses s.index) in
      ap (λ g. record { index = s.index; generation = g }) generation ∙ ap (λ i. record { index = i; generation = count_by (has_index i) past + 1 }) (sym index)

  pub past-after : (p : Places T) (past : List SlotName) (s : Slot) (x : T) → IsPast p past → free_slot p ≡ Some s → IsPast (taken p s x) (past ++ slot_name s ∷ [])
  past-after p past s x was free =
      let parts = free-parts p s free in
      let inside : s.index < length p.generations = index-below (λ i. not (list_any (is_at i) p.held)) (length p.generations) s.index parts.0 in
      let at_index : (j : ℕ) → s.index ≡ j → count_by (has_index j) (past ++ slot_name s ∷ []) ≡ get_or (slice_set p.generations s.index s.generation) j 0 =
      λ j same. subst (λ k. count_by (has_index k) (past ++ slot_name s ∷ []) ≡ get_or (slice_set p.generations s.index s.generation) k 0) same
      (omega (
        arith,
        count-push (has_index s.index) past (slot_name s),
        same_bit s.index,
        was.uses s.index,
        parts.1,
        get_or-set_same p.generations s.index s.generation 0 inside,
      )) in
      let else_where : (j : ℕ) → s.index ≢ j → count_by (has_index j) (past ++ slot_name s ∷ []) ≡ get_or (slice_set p.generations s.index s.generation) j 0 =
      λ j apart. omega (
        arith,
        count-push (has_index j) past (slot_name s),
        other_bit s.index j apart,
        was.uses j,
        get_or-set_other p.generations s.index j s.generation 0 (λ same. apart (sym same)),
      ) in
      record {
        uses = λ j.
            let go : (b : Bool) → (s.index == j) ≡ b → count_by (has_index j) (past ++ slot_name s ∷ []) ≡ get_or (slice_set p.generations s.index s.generation) j 0 =
            elim [ true ↦ λ e. at_index j (eqb-true s.index j e) | false ↦ λ e. else_where j (other_number s.index j e) ] in
            go (s.index == j) refl;
      }

  pub takes-next : (p : Places T) (past : List SlotName) (s : Slot) (x : T) → IsPast p past → free_slot p ≡ Some s → TakesNextName p past s x
  takes-next p past s x was free = record { next = next-name p past s was free; after = past-after p past s x was free }

  -- a new pool gave no slot
  pub past-new : (size : ℕ) → IsPast {T = T} (empty size) []
  past-new size = record { uses = λ i. sym (get_or-replicate_same {X = ℕ} size i 0) }
