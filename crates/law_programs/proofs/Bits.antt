-- Bits of signals and of their unions.
use Rattle.std.proofs.Common.{ℕ, zero, suc, ◌+◌, ◌*◌, ◌<◌, ◌≤◌, ◌≡◌, ◌==◌, ◌^◌, List, [], ◌∷◌, refl, ap, sym, ◌∙◌, arith, Bool, true, false, eqb-true, eq-eqb}
use Rattle.std.specs.Prelude.{Some, None, IsSome, if◌then◌else◌, not, ◌||◌, find, map, fold, min, max, bit_and, bit_or}
use Rattle.std.specs.Int.{bit_at}
use Rattle.std.specs.List.{AllByRecursion, list_any, range_with_len}
use Rattle.std.proofs.lemmas.Nat.Bits.{bit_at_and, bit_at_or, bit_at-zero, bit_at-lt, and_pow, same_from_bits}
use Rattle.ffm_model.proofs.RunLemmas.{some-is}
use Rattle.ffm_model.specs.Functions.{SfnService, asserts, lowest, signals_in}
use Rattle.ffm_model.specs.WellFormed.{is_signal_bit}

-- ---- a signal

-- a word is one bit from 4 to 31
pub record OneBit (w : ℕ) : Type 0 where
  pub bit : ℕ
  pub from : 4 ≤ bit
  pub to : bit < 32
  pub is : 2 ^ bit ≡ w

bit-by : (k : ℕ) (ks : List ℕ) (w : ℕ) (b : Bool) → 4 ≤ k → k < 32 → (2 ^ k == w) ≡ b → (b || list_any (λ k. 2 ^ k == w) ks) ≡ true → (list_any (λ k. 2 ^ k == w) ks ≡ true → OneBit w) → OneBit w
bit-by k ks w true from to e h go = record { bit = k; from = from; to = to; is = eqb-true (2 ^ k) w e }
bit-by k ks w false from to e h go = go h

bit-among : (n k w : ℕ) → 4 ≤ k → k + n ≤ 32 → list_any (λ k. 2 ^ k == w) (range_with_len k n) ≡ true → OneBit w
bit-among zero k w from to h = cc
bit-among (suc n) k w from to h = bit-by k (range_with_len (k + 1) n) w (2 ^ k == w) from (omega (arith, to)) refl h (bit-among n (k + 1) w (omega (arith, from)) (omega (arith, to)))

pub signal-bit : (w : ℕ) → is_signal_bit w ≡ true → OneBit w
signal-bit w h = bit-among 28 4 w (omega arith) (omega arith) h

-- ---- the signals of all services

union-quiet : (x i : ℕ) (xs : List ℕ) (a : ℕ) → AllByRecursion (λ s. bit_and x s ≡ 0) xs → min (bit_at x i) (bit_at (fold bit_or a xs) i) ≡ min (bit_at x i) (bit_at a i)
union-quiet x i [] a h = refl
union-quiet x i (s ∷ xs) a h =
    let both : min (bit_at x i) (bit_at s i) ≡ 0 = sym (bit_at_and x s i) ∙ (ap (λ (n : ℕ). bit_at n i) h.0 ∙ bit_at-zero i) in
    let or : bit_at (bit_or a s) i ≡ max (bit_at a i) (bit_at s i) = bit_at_or a s i in
    union-quiet x i xs (bit_or a s) h.1 ∙ omega (arith, both, or)

none-asserted : (w : ℕ) (xs : List ℕ) → AllByRecursion (λ s. bit_and (bit_and w (fold bit_or 0 xs)) s ≡ 0) xs → bit_and w (fold bit_or 0 xs) ≡ 0
none-asserted w xs h =
    let m : ℕ = fold bit_or 0 xs in
    let n : ℕ = bit_and w m in
    same_from_bits n 0 (λ i.
    let one : bit_at n i ≡ min (bit_at w i) (bit_at m i) = bit_at_and w m i in
    let two : min (bit_at n i) (bit_at m i) ≡ min (bit_at n i) (bit_at 0 i) = union-quiet n i xs 0 h in
    let nil : bit_at 0 i ≡ 0 = bit_at-zero i in
    omega (arith, one, two, nil))

find-none-by : (n : ℕ) (v : SfnService) (vs : List SfnService) (b : Bool) → (bit_and n v.signal == 0) ≡ b → (if not b then Some v else find (asserts n) vs) ≡ None
    → (find (asserts n) vs ≡ None → AllByRecursion (λ s. bit_and n s ≡ 0) (map (λ (v : SfnService). v.signal) vs)) → AllByRecursion (λ s. bit_and n s ≡ 0) (map (λ (v : SfnService). v.signal) (v ∷ vs))
find-none-by n v vs true e f go = (eqb-true (bit_and n v.signal) 0 e, go f)
find-none-by n v vs false e f go = cc

find-none : (n : ℕ) (vs : List SfnService) → find (asserts n) vs ≡ None → AllByRecursion (λ s. bit_and n s ≡ 0) (map (λ (v : SfnService). v.signal) vs)
find-none n [] e = tt
find-none n (v ∷ vs) e = find-none-by n v vs (bit_and n v.signal == 0) refl e (find-none n vs)

-- where the signals of all services meet a word, one of them has its signal there
pub lowest-some : (w : ℕ) (vs : List SfnService) → (bit_and w (signals_in vs) == 0) ≡ false → IsSome (lowest vs (bit_and w (signals_in vs)))
unfolding signals_in lowest
lowest-some w vs met =
    some-is (find (asserts (bit_and w (signals_in vs))) vs) (λ none.
    let nought : bit_and w (signals_in vs) ≡ 0 = none-asserted w (map (λ (v : SfnService). v.signal) vs) (find-none _ vs none) in
    let yes : (bit_and w (signals_in vs) == 0) ≡ true = eq-eqb (bit_and w (signals_in vs)) 0 nought in
    cc)

-- ---- one bit of a word

-- a word that meets one bit has it
pub has-bit : (n k : ℕ) → (bit_and n (2 ^ k) == 0) ≡ false → bit_at n k ≡ 1
has-bit n k met =
    let small : bit_at n k < 2 = bit_at-lt n k in
    let nought : bit_at n k ≡ 0 → ⊥ = λ e.
    let z : bit_and n (2 ^ k) ≡ 0 = and_pow n k ∙ (ap (λ (x : ℕ). x * 2 ^ k) e ∙ omega arith) in
    let yes : (bit_and n (2 ^ k) == 0) ≡ true = eq-eqb (bit_and n (2 ^ k)) 0 z in cc in
    omega (arith, small, nought)

not-zero-by : (n k : ℕ) (b : Bool) → bit_at n k ≡ 1 → (n == 0) ≡ b → (n == 0) ≡ false
not-zero-by n k false e h = h
not-zero-by n k true e h = absurd (omega (arith, e, ap (λ (x : ℕ). bit_at x k) (eqb-true n 0 h), bit_at-zero k))

-- and a word with a bit isn't 0
pub not-zero : (n k : ℕ) → bit_at n k ≡ 1 → (n == 0) ≡ false
not-zero n k e = not-zero-by n k (n == 0) e refl

pub union-none : (k : ℕ) (xs : List ℕ) (a : ℕ) → AllByRecursion (λ s. bit_at s k ≡ 0) xs → bit_at (fold bit_or a xs) k ≡ bit_at a k
union-none k [] a h = refl
union-none k (s ∷ xs) a h =
    let or : bit_at (bit_or a s) k ≡ max (bit_at a k) (bit_at s k) = bit_at_or a s k in
    union-none k xs (bit_or a s) h.1 ∙ omega (arith, or, h.0)

pub union-keeps : (k : ℕ) (xs : List ℕ) (a : ℕ) → bit_at a k ≡ 1 → bit_at (fold bit_or a xs) k ≡ 1
union-keeps k [] a h = h
union-keeps k (s ∷ xs) a h =
    let or : bit_at (bit_or a s) k ≡ max (bit_at a k) (bit_at s k) = bit_at_or a s k in
    union-keeps k xs (bit_or a s) (omega (arith, or, h, bit_at-lt s k))

pub or-right : (a s k : ℕ) → bit_at s k ≡ 1 → bit_at (bit_or a s) k ≡ 1
or-right a s k h = omega (arith, bit_at_or a s k, h, bit_at-lt a k)

pub or-left : (a s k : ℕ) → bit_at a k ≡ 1 → bit_at (bit_or a s) k ≡ 1
or-left a s k h = omega (arith, bit_at_or a s k, h, bit_at-lt s k)

pub or-first : (a b c k : ℕ) → bit_at (bit_or a (bit_or b c)) k ≡ 1 → bit_at b k ≡ 0 → bit_at c k ≡ 0 → bit_at a k ≡ 1
or-first a b c k h e f = omega (arith, bit_at_or a (bit_or b c) k, bit_at_or b c k, h, e, f)

pub and-both : (a s k : ℕ) → bit_at a k ≡ 1 → bit_at s k ≡ 1 → bit_at (bit_and a s) k ≡ 1
and-both a s k h g = omega (arith, bit_at_and a s k, h, g)

pub and-left : (a s k : ℕ) → bit_at (bit_and a s) k ≡ 1 → bit_at a k ≡ 1
and-left a s k h = omega (arith, bit_at_and a s k, h, bit_at-lt a k, bit_at-lt s k)
