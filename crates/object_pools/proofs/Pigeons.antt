-- A list with each index at most once, and which index is free.
use Rattle.std.proofs.Common.{ℕ, zero, suc, ◌≡◌, ◌<◌, ◌≤◌, ◌+◌, ◌==◌, nat_lt, Bool, true, false, cond, not, List, [], ◌∷◌, length, arith, ap, refl}
use Rattle.std.specs.Prelude.{count_by, sum_by, find, Some, None}
use Rattle.std.specs.List.{range_with_len}
use Rattle.std.proofs.lemmas.List.FromFn.{length-range_with_len}
use Rattle.std.proofs.lemmas.List.Sums.{sum_by-cons}
use Rattle.law_lists.proofs.Counts.{bit, bit-le, count-cons}
use Rattle.object_pools.proofs.Orders.{times, same_bit}

-- each index stands in the list once where it isn't free, and else not at all
pub record Once (ks : List ℕ) (free : ℕ → Bool) : Type 0 where
  pub once : (i : ℕ) → times i ks ≡ bit (not (free i))

abbrev pub stood_among : List ℕ → List ℕ → ℕ
stood_among ks is = sum_by (λ i. times i ks) is

stood-le : (ks : List ℕ) (free : ℕ → Bool) (is : List ℕ) → Once ks free → stood_among ks is ≤ length is
stood-le ks free [] o = omega arith
stood-le ks free (i ∷ is) o = omega (arith, sum_by-cons (λ j. times j ks) i is, o.once i, bit-le (not (free i)), stood-le ks free is o)

stood-one : (ks : List ℕ) (free : ℕ → Bool) (is : List ℕ) (k : ℕ) → Once ks free → find free is ≡ Some k → stood_among ks is + 1 ≤ length is
stood-one ks free [] k o h = cc
stood-one ks free (i ∷ is) k o h =
    let go : (b : Bool) → free i ≡ b → cond b (Some i) (find free is) ≡ Some k → times i ks + stood_among ks is + 1 ≤ 1 + length is =
    elim [
      | true ↦ λ e g. omega (arith, o.once i, ap (λ b. bit (not b)) e, stood-le ks free is o)
      | false ↦ λ e g. omega (arith, o.once i, bit-le (not (free i)), stood-one ks free is k o g)
    ] in
    omega (arith, sum_by-cons (λ j. times j ks) i is, go (free i) refl h)

stood-all : (ks : List ℕ) (free : ℕ → Bool) (is : List ℕ) → Once ks free → find free is ≡ None → length is ≤ stood_among ks is
stood-all ks free [] o h = omega arith
stood-all ks free (i ∷ is) o h =
    let go : (b : Bool) → free i ≡ b → cond b (Some i) (find free is) ≡ None → 1 + length is ≤ times i ks + stood_among ks is =
    elim [
      | true ↦ λ e g. cc
      | false ↦ λ e g. omega (arith, o.once i, ap (λ b. bit (not b)) e, stood-all ks free is o g)
    ] in
    omega (arith, sum_by-cons (λ j. times j ks) i is, go (free i) refl h)

found-below : (free : ℕ → Bool) (a n k : ℕ) → find free (range_with_len a n) ≡ Some k → k < a + n
found-below free a zero k h = cc
found-below free a (suc n) k h =
    let go : (b : Bool) → cond b (Some a) (find free (range_with_len (a + 1) n)) ≡ Some k → k < a + suc n =
    elim [
      | true ↦ λ g. let it : a ≡ k = cc in omega arith
      | false ↦ λ g. omega (arith, found-below free (a + 1) n k g)
    ] in
    go (free a) h

pub index-below : (free : ℕ → Bool) (n k : ℕ) → find free (range_with_len 0 n) ≡ Some k → k < n
index-below free n k h = omega (arith, found-below free 0 n k h)

-- an index is below n + 1 where it is below n, or n
lt_more : (k n : ℕ) → bit (nat_lt k (n + 1)) ≡ bit (nat_lt k n) + bit (k == n)
lt_more k n = grind arith

below_more : (ks : List ℕ) (n : ℕ) → count_by (λ k. nat_lt k (n + 1)) ks ≡ count_by (λ k. nat_lt k n) ks + times n ks
below_more [] n = refl
below_more (k ∷ ks) n =
    omega (
      arith,
      count-cons (λ j. nat_lt j (n + 1)) k ks,
      count-cons (λ j. nat_lt j n) k ks,
      count-cons (λ j. j == n) k ks,
      lt_more k n,
      below_more ks n,
    )

stood-range : (ks : List ℕ) (a n : ℕ) → stood_among ks (range_with_len a n) + count_by (λ k. nat_lt k a) ks ≡ count_by (λ k. nat_lt k (a + n)) ks
stood-range ks a zero = let e : a ≡ a + 0 = omega arith in omega (arith, ap (λ b. count_by (λ k. nat_lt k b) ks) e)
stood-range ks a (suc n) =
    let next : (a + 1) + n ≡ a + suc n = omega arith in
    omega (
      arith,
      sum_by-cons (λ j. times j ks) a (range_with_len (a + 1) n),
      below_more ks a,
      stood-range ks (a + 1) n,
      ap (λ b. count_by (λ k. nat_lt k b) ks) next,
    )

not_below_zero : (k : ℕ) → bit (nat_lt k 0) ≡ 0
not_below_zero k = grind arith

none_below : (ks : List ℕ) → count_by (λ k. nat_lt k 0) ks ≡ 0
none_below [] = refl
none_below (k ∷ ks) = omega (arith, count-cons (λ j. nat_lt j 0) k ks, not_below_zero k, none_below ks)

lt_bit : (k n : ℕ) → k < n → bit (nat_lt k n) ≡ 1
lt_bit k n h = grind arith

-- each index of the list is below n
pub record Below (ks : List ℕ) (n : ℕ) : Type 0 where
  pub below : (k : ℕ) → 1 ≤ times k ks → k < n

all_below : (ks : List ℕ) (n : ℕ) → Below ks n → count_by (λ k. nat_lt k n) ks ≡ length ks
all_below [] n b = refl
all_below (k ∷ ks) n b =
    let rest : count_by (λ j. nat_lt j n) ks ≡ length ks =
    all_below ks n (record { below = λ j inside. b.below j (omega (arith, count-cons (λ x. x == j) k ks)) }) in
    let here : k < n = b.below k (omega (arith, count-cons (λ x. x == k) k ks, same_bit k)) in
    omega (arith, count-cons (λ j. nat_lt j n) k ks, lt_bit k n here)

stood-length : (ks : List ℕ) (n : ℕ) → Below ks n → stood_among ks (range_with_len 0 n) ≡ length ks
stood-length ks n b =
    let e : 0 + n ≡ n = omega arith in
    omega (arith, stood-range ks 0 n, none_below ks, ap (λ m. count_by (λ k. nat_lt k m) ks) e, all_below ks n b)

pub fits : (ks : List ℕ) (free : ℕ → Bool) (n : ℕ) → Once ks free → Below ks n → length ks ≤ n
fits ks free n o b = omega (arith, stood-length ks n b, stood-le ks free (range_with_len 0 n) o, length-range_with_len 0 n)

pub has_room : (ks : List ℕ) (free : ℕ → Bool) (n k : ℕ) → Once ks free → Below ks n → find free (range_with_len 0 n) ≡ Some k → length ks + 1 ≤ n
has_room ks free n k o b h = omega (arith, stood-length ks n b, stood-one ks free (range_with_len 0 n) k o h, length-range_with_len 0 n)

pub is_full : (ks : List ℕ) (free : ℕ → Bool) (n : ℕ) → Once ks free → Below ks n → find free (range_with_len 0 n) ≡ None → length ks ≡ n
is_full ks free n o b h =
    omega (arith, fits ks free n o b, stood-length ks n b, stood-all ks free (range_with_len 0 n) o h, length-range_with_len 0 n)
