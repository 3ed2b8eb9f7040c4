-- The places where the bytes of a range differ, as addresses.
use Rattle.std.proofs.Common.{◌≡◌, ◌≤◌, ◌<◌, ℕ, zero, suc, ◌+◌, Bool, true, false, cond, not, List, ◌&&◌, Option, None, Some, length, count_by, refl, ap, sym, ◌∙◌, arith, ◌⊎◌, inl, inr}
use Rattle.std.proofs.lemmas.Bool.Decides.{nat_tests}
use Rattle.std.proofs.lemmas.List.Sums.{sum_by-cons, count_by-le-length}
use Rattle.std.proofs.lemmas.List.FromFn.{length-range_with_len}
use Rattle.std.proofs.lemmas.Slice.Zip.{length-zip}
use Rattle.std.specs.List.{zip, position, position_or_len, range_with_len}
use Rattle.std.proofs.lemmas.Bool.{and_from}
use Rattle.memory_image.specs.Unequal.{are_unequal}
use Rattle.memory_image.specs.Differences.{differs, range_covers, IsLeast}
use Rattle.memory_image.proofs.Blocks.{told}
use Rattle.ffm_model.specs.Memory.{ByteMap, bytes_at}
use Rattle.ffm_model.proofs.BytesLemmas.{bytes-length}

abbrev pairs : ByteMap → ByteMap → ℕ → ℕ → List (ℕ × ℕ)
pairs m k a n = zip (bytes_at m a n) (bytes_at k a n)

-- slices that hold a range are of one length
pub same_length : (m k : ByteMap) (a n : ℕ) (xs ys : List ℕ) → xs ≡ bytes_at m a n → ys ≡ bytes_at k a n → length xs ≡ length ys
same_length m k a n xs ys one other = ap length one ∙ bytes-length m a n ∙ sym (ap length other ∙ bytes-length k a n)

pub counted_at : (m k : ByteMap) (a n : ℕ) → count_by are_unequal (pairs m k a n) ≡ count_by (differs m k) (range_with_len a n)
counted_at m k a zero = refl
counted_at m k a (suc n) =
    let one = sum_by-cons (λ (p : ℕ × ℕ). cond (are_unequal p) 1 0) (m a, k a) (pairs m k (a + 1) n) in
    let other = sum_by-cons (λ x. cond (differs m k x) 1 0) a (range_with_len (a + 1) n) in
    one ∙ (ap (λ c. cond (differs m k a) 1 0 + c) (counted_at m k (a + 1) n) ∙ sym other)

split_le : (a x : ℕ) → a ≤ x → (x ≡ a) ⊎ (a + 1 ≤ x)
split_le zero zero low = inl refl
split_le zero (suc x) low = inr (omega arith)
split_le (suc a) zero low = absurd (omega arith)
split_le (suc a) (suc x) low = elim (split_le a x (omega arith)) [ inl same ↦ inl (ap suc same) | inr more ↦ inr (omega arith) ]

pub counted_le : (m k : ByteMap) (a n : ℕ) → count_by (differs m k) (range_with_len a n) ≤ n
counted_le m k a n = omega (arith, count_by-le-length (differs m k) (range_with_len a n), length-range_with_len a n)

-- d addresses from a on are equal, and the next one below a + n is not
record IsRun (m k : ByteMap) (a n d : ℕ) : Type 0 where
  within : d ≤ n
  before : (x : ℕ) → a ≤ x → x < a + d → differs m k x ≡ false
  stops : d < n → differs m k (a + d) ≡ true

run_before : (m k : ByteMap) (a x d : ℕ) → differs m k a ≡ false → a ≤ x → (a + 1 ≤ x → differs m k x ≡ false) → differs m k x ≡ false
run_before m k a x d e low later = elim (split_le a x low) [ inl same ↦ ap (differs m k) same ∙ e | inr more ↦ later more ]

run_step : (b : Bool) (m k : ByteMap) (a n d : ℕ) → differs m k a ≡ b → IsRun m k (a + 1) n d → IsRun m k a (suc n) (cond (not b) (1 + d) 0)
run_step true m k a n d e rest = record {
  within = omega arith;
  before = λ x low high. absurd (omega arith);
  stops = λ some. let here : a ≡ a + 0 = omega arith in ap (differs m k) (sym here) ∙ e;
}
run_step false m k a n d e rest = record {
  within = omega (arith, rest.within);
  before = λ x low high. run_before m k a x d e low (λ l. rest.before x l (omega arith));
  stops = λ some. let here : (a + 1) + d ≡ a + (1 + d) = omega arith in ap (differs m k) (sym here) ∙ rest.stops (omega arith);
}

run_at : (m k : ByteMap) (a n : ℕ) → IsRun m k a n (position_or_len are_unequal (pairs m k a n))
run_at m k a zero = record { within = omega arith; before = λ x low high. absurd (omega arith); stops = λ some. absurd (omega arith) }
run_at m k a (suc n) = run_step (differs m k a) m k a n _ refl (run_at m k (a + 1) n)

length_of_pairs : (m k : ByteMap) (a n : ℕ) → length (pairs m k a n) ≡ n
length_of_pairs m k a n = grind (arith, length-zip (bytes_at m a n) (bytes_at k a n), bytes-length m a n, bytes-length k a n)

told_none : (b : Bool) (d : ℕ) → None ≡ cond b (Some d) None → b ≡ false
told_none true d e = absurd (grind (arith, e))
told_none false d e = refl

left_false : (b c : Bool) → (c ≡ true → b ≡ false) → (b && c) ≡ false
left_false true true h = h refl
left_false true false h = refl
left_false false c h = refl

-- what a search in two slices that hold a range found
found_in : (m k : ByteMap) (a n : ℕ) (xs ys : List ℕ) (r : Option ℕ) → xs ≡ bytes_at m a n → ys ≡ bytes_at k a n
    → r ≡ position are_unequal (zip xs ys) → r ≡ position are_unequal (pairs m k a n)
found_in m k a n xs ys r one other e =
    e ∙ (ap (λ l. position are_unequal (zip l ys)) one ∙ ap (λ l. position are_unequal (zip (bytes_at m a n) l)) other)

pub place_within : (m k : ByteMap) (a n : ℕ) (xs ys : List ℕ) (i : ℕ) → xs ≡ bytes_at m a n → ys ≡ bytes_at k a n → Some i ≡ position are_unequal (zip xs ys) → i < n
place_within m k a n xs ys i one other e =
    let t = told _ _ i (sym (found_in m k a n xs ys (Some i) one other e)) in
    let long = length_of_pairs m k a n in
    grind (arith, nat_tests, t.0, t.1, long)

pub least_at : (m k : ByteMap) (a n : ℕ) (xs ys : List ℕ) (i : ℕ) → xs ≡ bytes_at m a n → ys ≡ bytes_at k a n → Some i ≡ position are_unequal (zip xs ys)
    → IsLeast (λ x. differs m k x && range_covers (a, n) x) (Some (a + i))
least_at m k a n xs ys i one other e =
    let run = run_at m k a n in
    let t = told _ _ i (sym (found_in m k a n xs ys (Some i) one other e)) in
    let below = place_within m k a n xs ys i one other e in
    let there : differs m k (a + i) ≡ true = ap (λ d. differs m k (a + d)) (sym t.1) ∙ run.stops (omega (arith, t.1, below)) in (
      and_from _ _ there (grind (arith, nat_tests, below)),
      λ x low. left_false (differs m k x) (range_covers (a, n) x)
          (λ c. let from : a ≤ x = grind (arith, nat_tests) in run.before x from (omega (arith, t.1, low))),
    )

pub none_at : (m k : ByteMap) (a n : ℕ) (xs ys : List ℕ) → xs ≡ bytes_at m a n → ys ≡ bytes_at k a n → None ≡ position are_unequal (zip xs ys)
    → IsLeast (λ x. differs m k x && range_covers (a, n) x) None
none_at m k a n xs ys one other e =
    let run = run_at m k a n in
    let t = told_none _ _ (found_in m k a n xs ys None one other e) in
    let long = length_of_pairs m k a n in
    let whole : position_or_len are_unequal (pairs m k a n) ≡ n = grind (arith, nat_tests, t, long, run.within) in
    λ x. left_false (differs m k x) (range_covers (a, n) x)
    (λ c. let from : a ≤ x = grind (arith, nat_tests) in let to : x < a + n = grind (arith, nat_tests) in run.before x from (omega (arith, whole, to)))
