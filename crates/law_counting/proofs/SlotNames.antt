-- The slots that are taken have different names.
use Rattle.std.proofs.Common.{ℕ, zero, suc, ◌≡◌, ◌<◌, ◌≤◌, ◌+◌, ◌*◌, ◌==◌, Bool, true, false, not, ◌&&◌, List, [], ◌∷◌, ◌++◌, length, arith, ◌∙◌, ap, refl, length-append}
use Rattle.std.specs.Prelude.{ℤ, pos, negsuc, count_by, nat_lt, nat_le, find, Option, Some, None}
use Rattle.std.specs.List.{list_any, range_with_len}
use Rattle.std.specs.Option.{unwrap_or}
use Rattle.std.proofs.lemmas.Bool.Decides.{Decides-int_eq, nat_tests}
use Rattle.std.proofs.lemmas.List.Sums.{count_by-le-length}
use Rattle.std.proofs.lemmas.Bool.{and_parts, eqb-true}
use Rattle.law_lists.proofs.Counts.{bit, count-cons, count-found, count-le, count-push, some-found}
use Rattle.law_lists.proofs.Tests.{find-passes}
use Rattle.ffm_model.specs.declared.machine.Handle.{Handle}
use Rattle.ffm_model.specs.State.{handle_eq}
use Rattle.ffm_model.specs.Names.{NamesSoFar, SlotName, has_index, name_of, next_slot}
use Rattle.law_counting.specs.Fresh.{slots_named}
use Rattle.law_counting.proofs.Pairs.{count-sum, none-counts}

abbrev pub is_slot : ℕ → ℕ → SlotName → Bool
is_slot i g t = (t.index == i) && (t.generation == g)

-- the slots of one family that were ever taken, in order
pub record Taken (ts : List SlotName) : Type 0 where
  pub small : count_by (λ t. not (nat_lt t.index 512)) ts ≡ 0
  pub positive : count_by (λ t. t.generation == 0) ts ≡ 0
  pub bounded : count_by (λ t. not (nat_le t.generation (length ts))) ts ≡ 0
  pub later : (i g : ℕ) → count_by (has_index i) ts < g → count_by (is_slot i g) ts ≡ 0
  pub once : (i g : ℕ) → count_by (is_slot i g) ts ≤ 1

pub none-taken : Taken []
none-taken = record { small = refl; positive = refl; bounded = refl; later = λ i g h. refl; once = λ i g. omega arith }

less_bit : (x n : ℕ) → bit (not (nat_le x (n + 1))) ≤ bit (not (nat_le x n))
less_bit x n = grind (arith, nat_tests)

small_bit : (i : ℕ) → i < 512 → bit (not (nat_lt i 512)) ≡ 0
small_bit i h = grind (arith, nat_tests)

at_most_bit : (x n : ℕ) → x ≤ n → bit (not (nat_le x n)) ≡ 0
at_most_bit x n h = grind (arith, nat_tests)

suc_bit : (c : ℕ) → bit ((c + 1) == 0) ≡ 0
suc_bit c = grind arith

-- the next slot of an index
pub taken-push : (ts : List SlotName) (i : ℕ) → Taken ts → i < 512 → Taken (ts ++ record { index = i; generation = count_by (has_index i) ts + 1 } ∷ [])
taken-push ts i h below =
    let c : ℕ = count_by (has_index i) ts in
    let t : SlotName = record { index = i; generation = c + 1 } in
    let longer : length (ts ++ t ∷ []) ≡ length ts + 1 = length-append ts (t ∷ []) in
    let fits : count_by (λ x. not (nat_le x.generation (length ts + 1))) ts ≤ count_by (λ x. not (nat_le x.generation (length ts))) ts =
    count-le (λ x. not (nat_le x.generation (length ts + 1))) (λ x. not (nat_le x.generation (length ts))) (λ x. less_bit x.generation (length ts)) ts in
    let few : c ≤ length ts = count_by-le-length (has_index i) ts in
    let bound : count_by (λ x. not (nat_le x.generation (length ts + 1))) (ts ++ t ∷ []) ≡ 0 =
    omega (arith, count-push (λ x. not (nat_le x.generation (length ts + 1))) ts t, fits, h.bounded, at_most_bit (c + 1) (length ts + 1) (omega (arith, few))) in
    record {
      small = omega (arith, count-push (λ x. not (nat_lt x.index 512)) ts t, h.small, small_bit i below);
      positive = omega (arith, count-push (λ x. x.generation == 0) ts t, h.positive, suc_bit c);
      bounded = ap (λ n. count_by (λ x. not (nat_le x.generation n)) (ts ++ t ∷ [])) longer ∙ bound;
      later = λ j g less.
          let apart : (x y : Bool) → (i == j) ≡ x → ((c + 1) == g) ≡ y → count_by (has_index j) ts + bit x < g → bit (x && y) ≡ 0 =
          elim [
            | true ↦ elim [
              | true ↦ λ e f k. absurd (let same : i ≡ j = eqb-true i j e in let now : c + 1 ≡ g = eqb-true (c + 1) g f in omega (arith, k, now, ap (λ n. count_by (has_index n) ts) same))
              | false ↦ λ e f k. refl
            ]
            | false ↦ λ y e f k. refl
          ] in
          let split : count_by (has_index j) ts + bit (i == j) < g = omega (arith, less, count-push (has_index j) ts t) in
          omega (arith, count-push (is_slot j g) ts t, h.later j g (omega (arith, split)), apart (i == j) ((c + 1) == g) refl refl split);
      once = λ j g.
          let here : (x : Bool) → is_slot j g t ≡ x → count_by (is_slot j g) ts + bit x ≤ 1 =
          elim [
            | true ↦ λ e.
                let same : i ≡ j = eqb-true i j (and_parts (i == j) ((c + 1) == g) e).0 in
                let now : c + 1 ≡ g = eqb-true (c + 1) g (and_parts (i == j) ((c + 1) == g) e).1 in
                let less : count_by (has_index j) ts < g = omega (arith, now, ap (λ n. count_by (has_index n) ts) same) in
                omega (arith, h.later j g less)
            | false ↦ λ e. omega (arith, h.once j g)
          ] in
          omega (arith, count-push (is_slot j g) ts t, here (is_slot j g t) refl);
    }

-- ---- names

named_numbers : (base n : ℕ) (t : SlotName) → handle_eq (record { 0 = pos n }) (name_of base t) ≡ true → n ≡ t.generation * 1024 + t.index + base
named_numbers base n t e = let same : pos n ≡ pos (t.generation * 1024 + t.index + base) = (Decides-int_eq (pos n) (pos (t.generation * 1024 + t.index + base))).0 e in cc

pub small_from : (x : ℕ) → bit (not (nat_lt x 512)) ≤ 0 → x < 512
small_from x h = grind (arith, nat_tests)

pub positive_from : (x : ℕ) → bit (x == 0) ≤ 0 → 1 ≤ x
positive_from x h = grind arith

-- a slot with the name, where there is one
found-named : (base n : ℕ) (ts : List SlotName) → Taken ts → 1 ≤ count_by (λ t. handle_eq (record { 0 = pos n }) (name_of base t)) ts → (t : SlotName) × (n ≡ t.generation * 1024 + t.index + base) × (t.index < 512)
found-named base n ts h some =
    let q : SlotName → Bool = λ t. handle_eq (record { 0 = pos n }) (name_of base t) in
    let it = some-found q ts some in
    (it.0, named_numbers base n it.0 (find-passes q ts it.0 it.1), small_from it.0.index (omega (arith, count-found q (λ t. not (nat_lt t.index 512)) ts it.0 it.1, h.small)))

same_slot : (base n i g : ℕ) (t : SlotName) → n ≡ g * 1024 + i + base → i < 512 → bit (handle_eq (record { 0 = pos n }) (name_of base t)) ≤ bit (is_slot i g t) + bit (not (nat_lt t.index 512))
same_slot base n i g t e below =
    let go : (x y : Bool) → handle_eq (record { 0 = pos n }) (name_of base t) ≡ x → nat_lt t.index 512 ≡ y → bit x ≤ bit (is_slot i g t) + bit (not y) =
    elim [
      | true ↦ elim [
        | true ↦ λ f k.
            let name : n ≡ t.generation * 1024 + t.index + base = named_numbers base n t f in
            let less : t.index < 512 = grind (arith, nat_tests) in
            let index : t.index ≡ i = omega (arith, name, e, less, below) in
            let generation : t.generation ≡ g = omega (arith, name, e, less, below) in
            let both : (a b : Bool) → (t.index == i) ≡ a → (t.generation == g) ≡ b → 1 ≤ bit (a && b) =
            elim [
              | true ↦ elim [ true ↦ λ p q. omega arith | false ↦ λ p q. absurd (let yes : (t.generation == g) ≡ true = grind (arith, generation) in cc) ]
              | false ↦ λ b p q. absurd (let yes : (t.index == i) ≡ true = grind (arith, index) in cc)
            ] in
            omega (arith, both (t.index == i) (t.generation == g) refl refl)
        | false ↦ λ f k. omega arith
      ]
      | false ↦ λ y f k. omega arith
    ] in
    go _ _ refl refl

named-once : (base : ℕ) (ts : List SlotName) (n : ℕ) → Taken ts → count_by (λ t. handle_eq (record { 0 = pos n }) (name_of base t)) ts ≤ 1
named-once base ts n h =
    let q : SlotName → Bool = λ t. handle_eq (record { 0 = pos n }) (name_of base t) in
    let go : (c : ℕ) → count_by q ts ≡ c → count_by q ts ≤ 1 =
    elim [
      | zero ↦ λ e. omega arith
      | suc c ↦ λ e.
          let it = found-named base n ts h (omega arith) in
          omega (arith, count-sum q (is_slot it.0.index it.0.generation) (λ t. not (nat_lt t.index 512)) (λ t. same_slot base n it.0.index it.0.generation t it.1 it.2) ts, h.small, h.once it.0.index it.0.generation)
    ] in
    go (count_by q ts) refl

-- no name is one of a connection and one of a message, or of two of either
pub names-distinct : (k : NamesSoFar) (h : Handle) → Taken k.connections → Taken k.past_messages → slots_named k h ≤ 1
names-distinct k h conns msgs =
    let number : (z : ℤ) → slots_named k (record { 0 = z }) ≤ 1 =
    elim [
      | pos n ↦
          let x : ℕ = count_by (λ t. handle_eq (record { 0 = pos n }) (name_of 0 t)) k.connections in
          let y : ℕ = count_by (λ t. handle_eq (record { 0 = pos n }) (name_of 512 t)) k.past_messages in
          let go : (a b : ℕ) → x ≡ a → y ≡ b → x + y ≤ 1 =
          elim [
            | zero ↦ λ b e f. omega (arith, e, named-once 512 k.past_messages n msgs)
            | suc a ↦ elim [
              | zero ↦ λ e f. omega (arith, f, named-once 0 k.connections n conns)
              | suc b ↦ λ e f.
                  let one = found-named 0 n k.connections conns (omega (arith, e)) in
                  let other = found-named 512 n k.past_messages msgs (omega (arith, f)) in
                  absurd (omega (arith, one.1, one.2, other.1, other.2))
            ]
          ] in
          go x y refl refl
      | negsuc n ↦ omega (arith, none-counts (λ t. handle_eq (record { 0 = negsuc n }) (name_of 0 t)) (λ t. refl) k.connections, none-counts (λ t. handle_eq (record { 0 = negsuc n }) (name_of 512 t)) (λ t. refl) k.past_messages)
    ] in
    number h.0

-- ---- the index of the next slot

range-below : (a n size : ℕ) → a + n ≤ size → count_by (λ k. not (nat_lt k size)) (range_with_len a n) ≡ 0
range-below a zero size h = refl
range-below a (suc n) size h =
    let first : bit (not (nat_lt a size)) ≡ 0 = grind (arith, nat_tests) in
    omega (arith, count-cons (λ k. not (nat_lt k size)) a (range_with_len (a + 1) n), first, range-below (a + 1) n size (omega (arith, h)))

pub next-below : (size : ℕ) (live past : List SlotName) → size ≤ 512 → (next_slot size live past).index < 512
next-below size live past h =
    let q : ℕ → Bool = λ k. not (list_any (has_index k) live) in
    let go : (o : Option ℕ) → find q (range_with_len 0 size) ≡ o → unwrap_or o 0 < 512 =
    elim [
      | None ↦ λ e. omega arith
      | Some i ↦ λ e.
          let off : bit (not (nat_lt i size)) ≤ 0 = omega (arith, count-found q (λ k. not (nat_lt k size)) (range_with_len 0 size) i e, range-below 0 size size (omega arith)) in
          let below : i < size = grind (arith, nat_tests) in
          omega (arith, below, h)
    ] in
    go (find q (range_with_len 0 size)) refl

pub next-taken : (size : ℕ) (live past : List SlotName) → size ≤ 512 → Taken past → Taken (past ++ next_slot size live past ∷ [])
next-taken size live past h taken = taken-push past (next_slot size live past).index taken (next-below size live past h)
