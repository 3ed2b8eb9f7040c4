-- What a pool's cells and order keep through a take, a change and a putting back, and what the pool is then.
use Rattle.std.proofs.Common.{ℕ, zero, suc, ◌≡◌, ◌≢◌, ◌<◌, ◌≤◌, ◌+◌, ◌^◌, ◌==◌, Bool, true, false, cond, not, List, [], ◌∷◌, ◌++◌, length, map, filter, get_or, set, replicate, arith, ◌∙◌, ap, sym, refl, subst}
use Rattle.std.specs.Prelude.{find, Option, Some, None, is_some, is_none, slice_get, option_and_then, IsSome}
use Rattle.std.specs.List.{filter_map, cons_option, range_with_len, sum}
use Rattle.std.specs.Option.{option_map}
use Rattle.std.proofs.Math.ListN.{length-set}
use Rattle.std.proofs.Math.Seq.{map-set_same}
use Rattle.std.proofs.lemmas.List.{map-set, get_or-set_same, get_or-set_other, length-map}
use Rattle.std.proofs.lemmas.List.Elements.{filter_map-append}
use Rattle.std.proofs.lemmas.List.Folds.{sum_by-replicate}
use Rattle.std.proofs.lemmas.List.Sums.{sum_by-cons, sum_by-set}
use Rattle.std.proofs.lemmas.Option.{slice_get_within, slice_get-get_or, slice_get-map, get_or_from_slice_get}
use Rattle.std.proofs.lemmas.Bool.{eqb-true}
use Rattle.object_pools.specs.declared.slot.Slot.{Slot}
use Rattle.object_pools.specs.declared.slot.Held.{Held}
use Rattle.object_pools.specs.declared.cells.Cell.{Cell}
use Rattle.object_pools.specs.Pool.{Places, empty, most_takes, has_slot, item_put, item_at, free_slot, taken, without, with_item, IsNamed, IsKept}
use Rattle.object_pools.specs.Cells.{under_slot, held_in, held_at, item_in, generations_of, generation_at, places_of, Stored}
use Rattle.law_lists.proofs.Counts.{bit, bit-le, count-cons, count-push}
use Rattle.object_pools.proofs.Orders.{times, same-else, filter-out, map-put, all-held, other_number, same_bit, other_bit}
use Rattle.object_pools.proofs.Pigeons.{Once, Below, fits, has_room, is_full, index-below}
use Rattle.object_pools.proofs.Stores.{Owns-held, Narrow-slot, Filled-order, live-length, count-at, free-is, held-set_same, held-set_other, live-cell, slot_of, at-slot, at-place, has_own}
use Rattle.law_lists.proofs.Tests.{find-passes}
use Rattle.law_lists.proofs.Lists.{get_or-replicate_same}

-- one index, and all others
pub at_each : (P : ℕ → Type 0) (i : ℕ) → P i → ((j : ℕ) → j ≢ i → P j) → (j : ℕ) → P j
at_each P i here others j =
    let go : (b : Bool) → (j == i) ≡ b → P j =
    elim [ true ↦ λ e. subst P (sym (eqb-true j i e)) here | false ↦ λ e. others j (other_number j i e) ] in
    go (j == i) refl

turned : (a b : ℕ) → a ≢ b → b ≢ a
turned a b apart = λ same. apart (sym same)

times-out_same : (i : ℕ) (ks : List ℕ) → times i (filter (λ k. not (k == i)) ks) ≡ 0
times-out_same i [] = refl
times-out_same i (k ∷ ks) =
    let rest : List ℕ = filter (λ j. not (j == i)) ks in
    let go : (b : Bool) → (k == i) ≡ b → times i (cond (not b) (k ∷ filter (λ j. not (j == i)) ks) (filter (λ j. not (j == i)) ks)) ≡ 0 =
    elim [
      | true ↦ λ e. times-out_same i ks
      | false ↦ λ e. omega (arith, count-cons (λ j. j == i) k (filter (λ j. not (j == i)) ks), ap bit e, times-out_same i ks)
    ] in
    go (k == i) refl

times-out_other : (i j : ℕ) (ks : List ℕ) → j ≢ i → times j (filter (λ k. not (k == i)) ks) ≡ times j ks
times-out_other i j [] apart = refl
times-out_other i j (k ∷ ks) apart =
    let go : (b : Bool) → (k == i) ≡ b → times j (cond (not b) (k ∷ filter (λ x. not (x == i)) ks) (filter (λ x. not (x == i)) ks)) ≡ bit (k == j) + times j ks =
    elim [
      | true ↦ λ e.
          let same : k ≡ i = eqb-true k i e in
          omega (arith, times-out_other i j ks apart, other_bit k j (λ at_j. apart (sym at_j ∙ same)))
      | false ↦ λ e. omega (arith, count-cons (λ x. x == j) k (filter (λ x. not (x == i)) ks), times-out_other i j ks apart)
    ] in
    go (k == i) refl ∙ sym (count-cons (λ x. x == j) k ks)

le-sum : (gs : List ℕ) (i : ℕ) → get_or gs i 0 ≤ sum gs
le-sum [] i = omega arith
le-sum (g ∷ gs) zero = omega (arith, sum_by-cons (λ (x : ℕ). x) g gs)
le-sum (g ∷ gs) (suc i) = omega (arith, sum_by-cons (λ (x : ℕ). x) g gs, le-sum gs i)

module _ {T : Type 0} where
  pub generation-is : (cells : List (Cell T)) (i : ℕ) (c : Cell T) → slice_get cells i ≡ Some c → generation_at cells i ≡ c.generation
  generation-is cells i c e =
      get_or_from_slice_get (generations_of cells) i c.generation 0 (slice_get-map (λ (x : Cell T). x.generation) cells i ∙ ap (option_map (λ (x : Cell T). x.generation)) e)

  Once-free : (capacity : ℕ) (cells : List (Cell T)) (order : List ℕ) (takes : ℕ) → Stored capacity cells order takes → Once order (λ i. is_none (held_at cells i))
  Once-free capacity cells order takes st =
      let go : (o : Option (Held T)) → bit (is_some o) ≡ bit (not (is_none o)) = elim [ None ↦ refl | Some h ↦ refl ] in
      record { once = λ i. st.once i ∙ go (held_at cells i) }

  within : (cells : List (Cell T)) (i : ℕ) → is_some (held_at cells i) ≡ true → i < length cells
  within cells i e =
      let go : (o : Option (Cell T)) → slice_get cells i ≡ o → is_some (option_and_then (held_in i) o) ≡ true → i < length cells =
      elim [ None ↦ λ k f. cc | Some c ↦ λ k f. slice_get_within cells i c k ] in
      go (slice_get cells i) refl e

  Below-size : (capacity : ℕ) (cells : List (Cell T)) (order : List ℕ) (takes : ℕ) → Stored capacity cells order takes → Below order (length cells)
  Below-size capacity cells order takes st =
      record { below = λ k inside. within cells k ((Filled-order capacity cells order takes st).filled k inside) }

  pub order-fits : (capacity : ℕ) (cells : List (Cell T)) (order : List ℕ) (takes : ℕ) → Stored capacity cells order takes → length order ≤ length cells
  order-fits capacity cells order takes st =
      fits order (λ i. is_none (held_at cells i)) (length cells) (Once-free capacity cells order takes st) (Below-size capacity cells order takes st)

  pub order-room : (capacity : ℕ) (cells : List (Cell T)) (order : List ℕ) (takes i : ℕ) → Stored capacity cells order takes
      → find (λ k. is_none (held_at cells k)) (range_with_len 0 (length cells)) ≡ Some i → length order + 1 ≤ length cells
  order-room capacity cells order takes i st h =
      has_room order (λ k. is_none (held_at cells k)) (length cells) i (Once-free capacity cells order takes st) (Below-size capacity cells order takes st) h

  pub order-full : (capacity : ℕ) (cells : List (Cell T)) (order : List ℕ) (takes : ℕ) → Stored capacity cells order takes
      → find (λ k. is_none (held_at cells k)) (range_with_len 0 (length cells)) ≡ None → length order ≡ length cells
  order-full capacity cells order takes st h =
      is_full order (λ k. is_none (held_at cells k)) (length cells) (Once-free capacity cells order takes st) (Below-size capacity cells order takes st) h

  -- ---- what every pool keeps

  -- no generation exceeds the number of takes
  pub given-takes : (capacity : ℕ) (cells : List (Cell T)) (order : List ℕ) (takes : ℕ) → Stored capacity cells order takes → (i : ℕ) → generation_at cells i ≤ takes
  given-takes capacity cells order takes st i =
      omega (arith, le-sum (generations_of cells) i, st.total)

  named-at : (capacity : ℕ) (cells : List (Cell T)) (order : List ℕ) (takes : ℕ) → Stored capacity cells order takes → (k : ℕ) (h : Held T) → held_at cells k ≡ Some h
      → IsNamed (generations_of cells) h.slot
  named-at capacity cells order takes st k h here =
      let live : is_some (held_at cells k) ≡ true = ap (λ (o : Option (Held T)). is_some o) here in
      let slot : h.slot ≡ record { index = k; generation = generation_at cells k } =
      let go : (o : Option (Cell T)) → slice_get cells k ≡ o → option_and_then (held_in k) o ≡ Some h → h.slot ≡ record { index = k; generation = generation_at cells k } =
      elim [
        | None ↦ λ e f. cc
        | Some c ↦ λ e f. slot_of k c.generation c.item h f ∙ ap (λ g. record { index = k; generation = g }) (sym (generation-is cells k c e))
      ] in
      go (slice_get cells k) refl here in
      subst (IsNamed (generations_of cells)) (sym slot) (record {
        below = omega (arith, within cells k live, length-map cells (λ (c : Cell T). c.generation));
        used = st.used k live;
        latest = refl;
      })

  pub Kept : (capacity : ℕ) (cells : List (Cell T)) (order : List ℕ) (takes : ℕ) → Stored capacity cells order takes → IsKept capacity (places_of cells order takes)
  Kept capacity cells order takes st = record {
    size = omega (arith, st.size, length-map cells (λ (c : Cell T). c.generation));
    live = omega (arith, live-length capacity cells order takes st, order-fits capacity cells order takes st, length-map cells (λ (c : Cell T). c.generation));
    named = all-held (λ h. IsNamed (generations_of cells) h.slot) (held_at cells) order (named-at capacity cells order takes st);
    once = λ i. omega (arith, count-at capacity cells order takes st i, bit-le (is_some (held_at cells i)));
    given = given-takes capacity cells order takes st;
    takes_left = st.takes_left;
  }

  -- the live item at a place of the order
  pub held-place : (capacity : ℕ) (cells : List (Cell T)) (order : List ℕ) (takes n : ℕ) (r : Option (Held T)) → Stored capacity cells order takes
      → n < length (filter_map (held_at cells) order) → r ≡ held_at cells (get_or order n 0) → slice_get (filter_map (held_at cells) order) n ≡ r
  held-place capacity cells order takes n r st inside e =
      let within_order : n < length order = omega (arith, live-length capacity cells order takes st) in
      at-place capacity cells order takes st n ∙ ap (option_and_then (held_at cells)) (slice_get-get_or order n 0 within_order) ∙ sym e

  pub no-place : (capacity : ℕ) (cells : List (Cell T)) (order : List ℕ) (takes n : ℕ) (r : Option (Held T)) → Stored capacity cells order takes
      → n < length (filter_map (held_at cells) order) → r ≡ held_at cells (get_or order n 0) → r ≡ None → ⊥
  no-place capacity cells order takes n r st inside e none =
      let go : (o : Option (Held T)) → slice_get (filter_map (held_at cells) order) n ≡ o → o ≡ None → ⊥ =
      elim [
        | None ↦ λ k f. absurd (no_end (filter_map (held_at cells) order) n inside k)
        | Some h ↦ λ k f. cc
      ] in
      go (slice_get (filter_map (held_at cells) order) n) refl (held-place capacity cells order takes n r st inside e ∙ none) where
        no_end : (hs : List (Held T)) (m : ℕ) → m < length hs → slice_get hs m ≡ None → ⊥
        no_end [] m below k = omega arith
        no_end (h ∷ hs) zero below k = cc
        no_end (h ∷ hs) (suc m) below k = no_end hs m (omega arith) k

  -- ---- no item yet

  no_item : (n i : ℕ) → held_at {T = T} (replicate n (record { generation = 0; item = None })) i ≡ None
  no_item zero i = refl
  no_item (suc n) zero = refl
  no_item (suc n) (suc i) =
      let go : (o : Option (Cell T)) → slice_get (replicate n (record { generation = 0; item = None })) i ≡ o → option_and_then (held_in i) o ≡ None → option_and_then (held_in (suc i)) o ≡ None =
      elim [ None ↦ λ e f. refl | Some c ↦ λ e f. let none : c.item ≡ None = none_in i c f in ap (option_map (under_slot (record { index = suc i; generation = c.generation }))) none ] in
      go (slice_get (replicate n (record { generation = 0; item = None })) i) refl (no_item n i) where
        none_in : (j : ℕ) (c : Cell T) → held_in j c ≡ None → c.item ≡ None
        none_in j c =
            let go : (o : Option T) → option_map (under_slot (record { index = j; generation = c.generation })) o ≡ None → o ≡ None =
            elim [ None ↦ λ e. refl | Some x ↦ λ e. cc ] in
            go c.item

  pub generations-new : (n : ℕ) (cells : List (Cell T)) → cells ≡ replicate n (record { generation = 0; item = None }) → generations_of cells ≡ replicate n 0
  generations-new n cells e = ap generations_of e ∙ all_zero n where
    all_zero : (m : ℕ) → map (λ (c : Cell T). c.generation) (replicate m (record { generation = 0; item = None })) ≡ replicate m 0
    all_zero zero = refl
    all_zero (suc m) = ap (λ gs. 0 ∷ gs) (all_zero m)

  pub Stored-new : (capacity n : ℕ) (cells : List (Cell T)) → cells ≡ replicate n (record { generation = 0; item = None }) → length cells ≡ n → n ≤ capacity → n < 2 ^ 32 → Stored capacity cells [] 0
  Stored-new capacity n cells e size le few =
      let none : (i : ℕ) → held_at cells i ≡ None = λ i. ap (λ (cs : List (Cell T)). held_at cs i) e ∙ no_item n i in
      let at_zero : (i : ℕ) → generation_at cells i ≡ 0 =
      λ i. ap (λ gs. get_or gs i 0) (generations-new n cells e) ∙ get_or-replicate_same {X = ℕ} n i 0 in
      record {
        size = omega arith;
        few = omega arith;
        once = λ i. ap (λ (o : Option (Held T)). bit (is_some o)) (sym (none i));
        used = λ i live. cc (ap (λ (o : Option (Held T)). is_some o) (none i));
        total = ap sum (generations-new n cells e) ∙ omega (arith, sum_by-replicate (λ (g : ℕ). g) n 0);
        takes_left = omega arith;
      }

  -- a pool without places has no cells, and nothing in the order of its takes
  pub no-cells : (cells : List (Cell T)) (order : List ℕ) (takes : ℕ) → places_of cells order takes ≡ empty 0 → cells ≡ []
  no-cells [] order takes e = refl
  no-cells (c ∷ cs) order takes e = cc (ap (λ (p : Places T). length p.generations) e)

  pub no-order : (capacity : ℕ) (cells : List (Cell T)) (order : List ℕ) (takes : ℕ) → Stored capacity cells order takes → places_of cells order takes ≡ empty 0 → order ≡ []
  no-order capacity cells [] takes st e = refl
  no-order capacity cells (k ∷ ks) takes st e =
      let none : length (k ∷ ks) ≡ 0 = omega (arith, order-fits capacity cells (k ∷ ks) takes st, ap length (no-cells cells (k ∷ ks) takes e)) in
      cc none

  -- ---- a take

  abbrev pub filled : List (Cell T) → ℕ → T → List (Cell T)
  filled cells i x = set cells i (record { generation = generation_at cells i + 1; item = Some x })

  pub generations-filled : (cells : List (Cell T)) (i : ℕ) (x : T) → generations_of (filled cells i x) ≡ set (generations_of cells) i (generation_at cells i + 1)
  generations-filled cells i x = map-set (λ (c : Cell T). c.generation) cells i (record { generation = generation_at cells i + 1; item = Some x })

  generation-here : (cells : List (Cell T)) (i : ℕ) (x : T) → i < length cells → generation_at (filled cells i x) i ≡ generation_at cells i + 1
  generation-here cells i x inside =
      ap (λ gs. get_or gs i 0) (generations-filled cells i x)
      ∙ get_or-set_same (generations_of cells) i (generation_at cells i + 1) 0 (omega (arith, length-map cells (λ (c : Cell T). c.generation)))

  generation-else : (cells : List (Cell T)) (i : ℕ) (x : T) (j : ℕ) → j ≢ i → generation_at (filled cells i x) j ≡ generation_at cells j
  generation-else cells i x j apart =
      ap (λ gs. get_or gs j 0) (generations-filled cells i x) ∙ get_or-set_other (generations_of cells) i j (generation_at cells i + 1) 0 apart

  free_none : (o : Option (Held T)) → is_none o ≡ true → is_some o ≡ false
  free_none None e = refl
  free_none (Some h) e = cc

  free-times : (capacity : ℕ) (cells : List (Cell T)) (order : List ℕ) (takes i : ℕ) → Stored capacity cells order takes → is_none (held_at cells i) ≡ true → times i order ≡ 0
  free-times capacity cells order takes i st free = omega (arith, st.once i, ap bit (free_none (held_at cells i) free))

  pub Stored-take : (capacity : ℕ) (cells : List (Cell T)) (order : List ℕ) (takes i : ℕ) (x : T) → Stored capacity cells order takes → takes < most_takes → i < length cells
      → is_none (held_at cells i) ≡ true → Stored capacity (filled cells i x) (order ++ i ∷ []) (takes + 1)
  Stored-take capacity cells order takes i x st left inside free =
      let new : Cell T = record { generation = generation_at cells i + 1; item = Some x } in
      let same : length (filled cells i x) ≡ length cells = length-set cells i (record { generation = generation_at cells i + 1; item = Some x }) in
      let other : (j : ℕ) → j ≢ i → held_at (filled cells i x) j ≡ held_at cells j = λ j apart. held-set_other cells i (record { generation = generation_at cells i + 1; item = Some x }) j apart in
      let here : is_some (held_at (filled cells i x) i) ≡ true =
      ap (λ (o : Option (Held T)). is_some o) (held-set_same cells i (record { generation = generation_at cells i + 1; item = Some x }) inside) in
      record {
        size = omega (arith, st.size);
        few = omega (arith, st.few);
        once = at_each (λ j. times j (order ++ i ∷ []) ≡ bit (is_some (held_at (filled cells i x) j))) i
            (omega (arith, count-push (λ k. k == i) order i, free-times capacity cells order takes i st free, same_bit i, ap bit here))
            (λ j apart. omega (
              arith,
              count-push (λ k. k == j) order i,
              other_bit i j (turned j i apart),
              st.once j,
              ap (λ (o : Option (Held T)). bit (is_some o)) (other j apart),
            ));
        used = at_each (λ j. is_some (held_at (filled cells i x) j) ≡ true → 1 ≤ generation_at (filled cells i x) j) i
            (λ live. omega (arith, generation-here cells i x inside))
            (λ j apart live. omega (arith, generation-else cells i x j apart, st.used j (ap (λ (o : Option (Held T)). is_some o) (sym (other j apart)) ∙ live)));
        total = omega (
          arith,
          ap sum (generations-filled cells i x),
          sum_by-set (λ (g : ℕ). g) (generations_of cells) i (generation_at cells i + 1) 0 (omega (arith, length-map cells (λ (c : Cell T). c.generation))),
          st.total,
        );
        takes_left = omega arith;
      }

  pub places-take : (capacity : ℕ) (cells : List (Cell T)) (order : List ℕ) (takes i : ℕ) (x : T) → Stored capacity cells order takes → i < length cells
      → is_none (held_at cells i) ≡ true
      → places_of (filled cells i x) (order ++ i ∷ []) (takes + 1) ≡ taken (places_of cells order takes) (record { index = i; generation = generation_at cells i + 1 }) x
  places-take capacity cells order takes i x st inside free =
      let c : Cell T = record { generation = generation_at cells i + 1; item = Some x } in
      let last : held_at (filled cells i x) i ≡ Some (under_slot (record { index = i; generation = generation_at cells i + 1 }) x) =
      held-set_same cells i (record { generation = generation_at cells i + 1; item = Some x }) inside in
      let held : filter_map (held_at (filled cells i x)) (order ++ i ∷ []) ≡ filter_map (held_at cells) order ++ under_slot (record { index = i; generation = generation_at cells i + 1 }) x ∷ [] =
      filter_map-append (held_at (filled cells i x)) order (i ∷ [])
      ∙ ap (λ (hs : List (Held T)). hs ++ filter_map (held_at (filled cells i x)) (i ∷ []))
      (same-else (held_at cells) (held_at (filled cells i x)) i order (free-times capacity cells order takes i st free) (λ j apart. held-set_other cells i _ j apart))
      ∙ ap (λ (o : Option (Held T)). filter_map (held_at cells) order ++ cons_option o []) last in
      λ j. record { generations = generations-filled cells i x j; held = held j; takes = takes + 1 }

  -- which slot a take gives, and when there is none
  pub slot-free : (capacity : ℕ) (cells : List (Cell T)) (order : List ℕ) (takes i : ℕ) → Stored capacity cells order takes
      → find (λ k. is_none (held_at cells k)) (range_with_len 0 (length cells)) ≡ Some i
      → free_slot (places_of cells order takes) ≡ Some (record { index = i; generation = generation_at cells i + 1 })
  slot-free capacity cells order takes i st h =
      ap (λ (o : Option ℕ). option_map (λ k. record { index = k; generation = generation_at cells k + 1 }) o) (free-is capacity cells order takes st ∙ h)

  pub slot-none : (capacity : ℕ) (cells : List (Cell T)) (order : List ℕ) (takes : ℕ) → Stored capacity cells order takes
      → find (λ k. is_none (held_at cells k)) (range_with_len 0 (length cells)) ≡ None → free_slot (places_of cells order takes) ≡ None
  slot-none capacity cells order takes st h =
      ap (λ (o : Option ℕ). option_map (λ k. record { index = k; generation = generation_at cells k + 1 }) o) (free-is capacity cells order takes st ∙ h)

  pub held-full : (capacity : ℕ) (cells : List (Cell T)) (order : List ℕ) (takes : ℕ) → Stored capacity cells order takes
      → find (λ k. is_none (held_at cells k)) (range_with_len 0 (length cells)) ≡ None → length (filter_map (held_at cells) order) ≡ length (generations_of cells)
  held-full capacity cells order takes st h =
      omega (arith, live-length capacity cells order takes st, order-full capacity cells order takes st h, length-map cells (λ (c : Cell T). c.generation))

  pub held-room : (capacity : ℕ) (cells : List (Cell T)) (order : List ℕ) (takes i : ℕ) → Stored capacity cells order takes
      → find (λ k. is_none (held_at cells k)) (range_with_len 0 (length cells)) ≡ Some i → length (filter_map (held_at cells) order) + 1 ≤ length (generations_of cells)
  held-room capacity cells order takes i st h =
      omega (arith, live-length capacity cells order takes st, order-room capacity cells order takes i st h, length-map cells (λ (c : Cell T). c.generation))

  pub free-below : (cells : List (Cell T)) (i : ℕ) → find (λ k. is_none (held_at cells k)) (range_with_len 0 (length cells)) ≡ Some i → i < length cells
  free-below cells i h = index-below (λ k. is_none (held_at cells k)) (length cells) i h

  pub free-none : (cells : List (Cell T)) (i : ℕ) → find (λ k. is_none (held_at cells k)) (range_with_len 0 (length cells)) ≡ Some i → is_none (held_at cells i) ≡ true
  free-none cells i h = find-passes (λ k. is_none (held_at cells k)) (range_with_len 0 (length cells)) i h

  -- ---- a change at a live slot

  abbrev pub rewritten : List (Cell T) → Slot → Option T → List (Cell T)
  rewritten cells s o = set cells s.index (record { generation = s.generation; item = o })

  pub live-within : (cells : List (Cell T)) (s : Slot) (x : T) → item_in cells s ≡ Some x → s.index < length cells
  live-within cells s x live = slice_get_within cells s.index _ (live-cell cells s x live)

  -- what a live slot has
  pub live-item : (capacity : ℕ) (cells : List (Cell T)) (order : List ℕ) (takes : ℕ) (s : Slot) → Stored capacity cells order takes → IsSome (item_at (places_of cells order takes) s)
      → (x : T) × (item_in cells s ≡ Some x)
  live-item capacity cells order takes s st live =
      let go : (o : Option T) → IsSome o → (x : T) × (o ≡ Some x) = elim [ None ↦ λ e. cc | Some x ↦ λ e. (x, refl) ] in
      go (item_in cells s) (subst (λ (o : Option T). IsSome o) (at-slot capacity cells order takes st s) live)

  held-live : (cells : List (Cell T)) (s : Slot) (x : T) → item_in cells s ≡ Some x → held_at cells s.index ≡ Some (under_slot s x)
  held-live cells s x live = ap (option_and_then (held_in s.index)) (live-cell cells s x live)

  generations-rewritten : (cells : List (Cell T)) (s : Slot) (x : T) (o : Option T) → item_in cells s ≡ Some x → generations_of (rewritten cells s o) ≡ generations_of cells
  generations-rewritten cells s x o live =
      let at_index : get_or cells s.index (record { generation = s.generation; item = o }) ≡ record { generation = s.generation; item = Some x } =
      get_or_from_slice_get cells s.index (record { generation = s.generation; item = Some x }) (record { generation = s.generation; item = o }) (live-cell cells s x live) in
      map-set_same (λ (c : Cell T). c.generation) cells s.index (record { generation = s.generation; item = o }) (record { generation = s.generation; item = o })
      (sym (ap (λ (c : Cell T). c.generation) at_index))

  pub Stored-put : (capacity : ℕ) (cells : List (Cell T)) (order : List ℕ) (takes : ℕ) (s : Slot) (x y : T) → Stored capacity cells order takes → item_in cells s ≡ Some x
      → Stored capacity (rewritten cells s (Some y)) order takes
  Stored-put capacity cells order takes s x y st live =
      let same : length (rewritten cells s (Some y)) ≡ length cells = length-set cells s.index (record { generation = s.generation; item = Some y }) in
      let inside : s.index < length cells = live-within cells s x live in
      let gens : generations_of (rewritten cells s (Some y)) ≡ generations_of cells = generations-rewritten cells s x (Some y) live in
      let some : (i : ℕ) → is_some (held_at (rewritten cells s (Some y)) i) ≡ is_some (held_at cells i) =
      at_each (λ i. is_some (held_at (rewritten cells s (Some y)) i) ≡ is_some (held_at cells i)) s.index
      (ap (λ (o : Option (Held T)). is_some o) (held-set_same cells s.index (record { generation = s.generation; item = Some y }) inside)
      ∙ sym (ap (λ (o : Option (Held T)). is_some o) (held-live cells s x live)))
      (λ i apart. ap (λ (o : Option (Held T)). is_some o) (held-set_other cells s.index (record { generation = s.generation; item = Some y }) i apart)) in
      record {
        size = omega (arith, st.size);
        few = omega (arith, st.few);
        once = λ i. st.once i ∙ ap bit (sym (some i));
        used = λ i e. omega (arith, st.used i (sym (some i) ∙ e), ap (λ gs. get_or gs i 0) gens);
        total = ap sum gens ∙ st.total;
        takes_left = st.takes_left;
      }

  pub places-put : (capacity : ℕ) (cells : List (Cell T)) (order : List ℕ) (takes : ℕ) (s : Slot) (x y : T) → Stored capacity cells order takes → item_in cells s ≡ Some x
      → places_of (rewritten cells s (Some y)) order takes ≡ with_item (places_of cells order takes) s y
  places-put capacity cells order takes s x y st live =
      let inside : s.index < length cells = live-within cells s x live in
      let held : filter_map (held_at (rewritten cells s (Some y))) order ≡ map (item_put s y) (filter_map (held_at cells) order) =
      map-put (held_at cells) (held_at (rewritten cells s (Some y))) (has_slot s) (λ h. record h { item = y }) s.index (under_slot s x) order (Owns-held cells) (Narrow-slot s)
      (held-live cells s x live) (has_own s) (held-set_same cells s.index (record { generation = s.generation; item = Some y }) inside)
      (λ i apart. held-set_other cells s.index (record { generation = s.generation; item = Some y }) i apart) in
      λ j. record { generations = generations-rewritten cells s x (Some y) live j; held = held j; takes = takes }

  -- ---- a putting back

  pub Stored-out : (capacity : ℕ) (cells : List (Cell T)) (order : List ℕ) (takes : ℕ) (s : Slot) (x : T) → Stored capacity cells order takes → item_in cells s ≡ Some x
      → Stored capacity (rewritten cells s None) (filter (λ k. not (k == s.index)) order) takes
  Stored-out capacity cells order takes s x st live =
      let same : length (rewritten cells s None) ≡ length cells = length-set cells s.index (record { generation = s.generation; item = None }) in
      let inside : s.index < length cells = live-within cells s x live in
      let gens : generations_of (rewritten cells s None) ≡ generations_of cells = generations-rewritten cells s x None live in
      let gone : is_some (held_at (rewritten cells s None) s.index) ≡ false =
      ap (λ (o : Option (Held T)). is_some o) (held-set_same cells s.index (record { generation = s.generation; item = None }) inside) in
      let other : (i : ℕ) → i ≢ s.index → is_some (held_at (rewritten cells s None) i) ≡ is_some (held_at cells i) =
      λ i apart. ap (λ (o : Option (Held T)). is_some o) (held-set_other cells s.index (record { generation = s.generation; item = None }) i apart) in
      record {
        size = omega (arith, st.size);
        few = omega (arith, st.few);
        once = at_each (λ i. times i (filter (λ k. not (k == s.index)) order) ≡ bit (is_some (held_at (rewritten cells s None) i))) s.index
            (times-out_same s.index order ∙ ap bit (sym gone))
            (λ i apart. times-out_other s.index i order apart ∙ st.once i ∙ ap bit (sym (other i apart)));
        used = at_each (λ i. is_some (held_at (rewritten cells s None) i) ≡ true → 1 ≤ generation_at (rewritten cells s None) i) s.index
            (λ e. cc)
            (λ i apart e. omega (arith, st.used i (sym (other i apart) ∙ e), ap (λ gs. get_or gs i 0) gens));
        total = ap sum gens ∙ st.total;
        takes_left = st.takes_left;
      }

  pub places-out : (capacity : ℕ) (cells : List (Cell T)) (order : List ℕ) (takes : ℕ) (s : Slot) (x : T) → Stored capacity cells order takes → item_in cells s ≡ Some x
      → places_of (rewritten cells s None) (filter (λ k. not (k == s.index)) order) takes ≡ without (places_of cells order takes) s
  places-out capacity cells order takes s x st live =
      let held : filter_map (held_at (rewritten cells s None)) (filter (λ k. not (k == s.index)) order) ≡ filter (λ h. not (has_slot s h)) (filter_map (held_at cells) order) =
      filter-out (held_at cells) (held_at (rewritten cells s None)) (has_slot s) s.index (under_slot s x) order (Owns-held cells) (Narrow-slot s)
      (held-live cells s x live) (has_own s)
      (λ i apart. held-set_other cells s.index (record { generation = s.generation; item = None }) i apart) in
      λ j. record { generations = generations-rewritten cells s x None live j; held = held j; takes = takes }
