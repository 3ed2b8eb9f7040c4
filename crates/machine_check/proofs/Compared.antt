-- Differences in ranges, one range and one more, and bytes that are taken over.
use Rattle.std.proofs.Common.{ℕ, ◌≡◌, ◌<◌, ◌≤◌, ◌+◌, ◌*◌, Bool, true, false, not, ◌&&◌, ◌||◌, List, [], ◌∷◌, Option, None, count_by, ◌-◌, get_or, add-one, arith, ◌∙◌, ap, sym, refl, subst, inl, inr, ◌⊎◌}
use Rattle.std.specs.Prelude.{nat_le, nat_lt, slice_index, if◌then◌else◌}
use Rattle.std.specs.List.{range_with_len}
use Rattle.std.proofs.Math.Path.{fun_ext}
use Rattle.std.proofs.lemmas.List.Sums.{sum_by-cons}
use Rattle.law_lists.proofs.Bools.{or_false}
use Rattle.memory_image.specs.Differences.{any_covers, count_in, differs, lesser, range_covers, IsLeast}
use Rattle.memory_image.proofs.LaneRanges.{least_same, lesser_of}
use Rattle.ffm_model.specs.declared.system.System.{System}
use Rattle.ffm_model.specs.Memory.{ByteMap, bytes_at, write_bytes}
use Rattle.ffm_model.specs.Ranges.{ranges_of}
use Rattle.memory_image.specs.Pieces.{fit_an_image, is_inside}
use Rattle.memory_image.proofs.Compared.{both}
use Rattle.ffm_model.proofs.BytesLemmas.{byte-there, bytes-length}
use Rattle.memory_image.proofs.Stored.{ends_below}
use Rattle.machine_check.specs.declared.differences.Differences.{Differences}
use Rattle.machine_check.specs.Auditing.{own_ram}
use Rattle.machine_check.specs.declared.written.Ranges.{Ranges}
use Rattle.machine_check.specs.Written.{ranges_from, taken_from, AreDifferences, AreInside}
use Rattle.machine_check.proofs.OwnRam.{own-whole}

-- ---- one range

pub one-least : (p : ℕ → Bool) (a len : ℕ) (found : Option ℕ) → IsLeast (λ x. p x && range_covers (a, len) x) found → IsLeast (λ x. p x && any_covers ((a, len) ∷ []) x) found
one-least p a len found least = least_same _ _ found (λ x. ap (λ b. p x && b) (sym (or_false (range_covers (a, len) x)))) least

pub one-count : (p : ℕ → Bool) (a len : ℕ) → count_by p (range_with_len a len) ≡ count_in p ((a, len) ∷ [])
one-count p a len =
    let head = sum_by-cons (λ (r : ℕ × ℕ). count_by p (range_with_len r.0 r.1)) (a, len) [] in
    omega (arith, head)

none_own : (d o c : Bool) → (c ≡ true → o ≡ true) → ((d && not o) && c) ≡ false
none_own true false true own = let is : false ≡ true = own refl in cc
none_own d o c own = refl

all_other : (d o c : Bool) → (c ≡ true → o ≡ false) → (d && c) ≡ ((d && not o) && c)
all_other true true true other = let is : true ≡ false = other refl in cc
all_other d o c other = refl

-- a range of own RAM has no difference outside of it
pub own-outside : (s : System) (act a len : ℕ) (old new : ByteMap) → is_inside a len (ranges_of s.regions) ≡ true → own_ram s act a ≡ true
    → IsLeast (λ x. (differs old new x && not (own_ram s act x)) && any_covers ((a, len) ∷ []) x) None
own-outside s act a len old new inside own =
    λ x. none_own (differs old new x) (own_ram s act x) _ (λ here. own-whole s act a len x inside (sym (or_false (range_covers (a, len) x)) ∙ here) ∙ own)

-- and in another one each difference is
pub other-outside : (s : System) (act a len : ℕ) (old new : ByteMap) (found : Option ℕ) → is_inside a len (ranges_of s.regions) ≡ true → own_ram s act a ≡ false
    → IsLeast (λ x. differs old new x && range_covers (a, len) x) found → IsLeast (λ x. (differs old new x && not (own_ram s act x)) && any_covers ((a, len) ∷ []) x) found
other-outside s act a len old new found inside other least =
    least_same _ _ found (λ x. all_other (differs old new x) (own_ram s act x) _ (λ here. own-whole s act a len x inside (sym (or_false (range_covers (a, len) x)) ∙ here) ∙ other))
    (one-least (differs old new) a len found least)

-- ---- one more range

least-more : (p : ℕ → Bool) (r : ℕ × ℕ) (rs : List (ℕ × ℕ)) (one others : Option ℕ) → IsLeast (λ x. p x && any_covers (r ∷ []) x) one → IsLeast (λ x. p x && any_covers rs x) others
    → IsLeast (λ x. p x && any_covers (r ∷ rs) x) (lesser one others)
least-more p r rs one others first rest =
    least_same _ _ (lesser one others) (λ x. both (p x) (any_covers (r ∷ []) x) (any_covers rs x) ∙ ap (λ b. p x && (b || any_covers rs x)) (or_false (range_covers r x)))
    (lesser_of (λ x. p x && any_covers (r ∷ []) x) (λ x. p x && any_covers rs x) one others first rest)

count-more : (p : ℕ → Bool) (r : ℕ × ℕ) (rs : List (ℕ × ℕ)) → count_in p (r ∷ []) + count_in p rs ≡ count_in p (r ∷ rs)
count-more p r rs =
    let counts = λ (q : ℕ × ℕ). count_by p (range_with_len q.0 q.1) in
    let one = sum_by-cons counts r [] in
    let more = sum_by-cons counts r rs in
    omega (arith, one, more)

-- both are joined as the code does it
pub more-differences : (s : System) (a : ℕ) (old new : ByteMap) (r : ℕ × ℕ) (rs : List (ℕ × ℕ)) (one others both : Differences)
    → AreDifferences s a old new (r ∷ []) one → AreDifferences s a old new rs others
    → both.lowest ≡ lesser one.lowest others.lowest → both.count ≡ one.count + others.count → both.outside ≡ lesser one.outside others.outside
    → AreDifferences s a old new (r ∷ rs) both
more-differences s a old new r rs one others both first rest lowest count outside = record {
  lowest = subst (IsLeast (λ x. differs old new x && any_covers (r ∷ rs) x)) (sym lowest) (least-more (differs old new) r rs one.lowest others.lowest first.lowest rest.lowest);
  count = count ∙ omega (arith, first.count, rest.count, count-more (differs old new) r rs);
  outside = subst (IsLeast (λ x. (differs old new x && not (own_ram s a x)) && any_covers (r ∷ rs) x)) (sym outside)
      (least-more (λ x. differs old new x && not (own_ram s a x)) r rs one.outside others.outside first.outside rest.outside);
}

-- ---- the ranges, one by one

-- a range has a byte, and ends by 2^32
pub record IsPlaced (w : Ranges) (k : ℕ) : Type 0 where
  pub some : 0 < w.len
  pub end : (w.first + 8 * k) + w.len ≤ 4294967296
  pub few : k ≤ 3

pub placed : (regions : List (ℕ × ℕ)) (w : Ranges) (k : ℕ) → fit_an_image regions ≡ true → AreInside regions w → k < w.times → IsPlaced w k
placed regions w k fit inside below = record {
  some = some inside.some;
  end = ends_below (w.first + 8 * k) w.len regions fit (inside.inside k below) (some inside.some);
  few = few inside.few;
} where
  some : (w.times ≡ 0) ⊎ (0 < w.len) → 0 < w.len
  some (inl none) = absurd (omega arith)
  some (inr bytes) = bytes

  few : (w.times ≤ 1) ⊎ ((w.times ≤ 4) × (w.len ≡ 4)) → k ≤ 3
  few (inl one) = omega arith
  few (inr words) = omega (arith, words.0)

pub one_more : (first len k : ℕ) → ranges_from first len (k + 1) ≡ (first + 8 * k, len) ∷ ranges_from first len k
one_more first len k = ap (ranges_from first len) (add-one k)

-- a count so far and that of the next range
pub counts_fit : (w : Ranges) (k here so_far : ℕ) → (w.times ≤ 1) ⊎ ((w.times ≤ 4) × (w.len ≡ 4)) → k < w.times → here ≤ w.len → here < 4294967296 → (k ≡ 0 → so_far ≡ 0) → (w.len ≡ 4 → so_far ≤ 4 * k) → here + so_far < 4294967296
counts_fit w k here so_far (inl one) below bound small none words = let is : so_far ≡ 0 = none (omega arith) in omega (arith, is)
counts_fit w k here so_far (inr some) below bound small none words = let most : so_far ≤ 4 * k = words some.1 in omega (arith, most, some.0, some.1)

-- ---- bytes taken over

taken_at : (n m : ByteMap) (rs : List (ℕ × ℕ)) (a len x : ℕ) (b : Bool) → range_covers (a, len) x ≡ b
    → (if b then get_or (bytes_at n a len) (x - a) 0 else taken_from n rs m x) ≡ (if b || any_covers rs x then n x else m x)
taken_at n m rs a len x true inside = byte-there n a len x inside
taken_at n m rs a len x false outside = refl

pub taken-more : (n m : ByteMap) (rs : List (ℕ × ℕ)) (a len : ℕ) → write_bytes (taken_from n rs m) a (bytes_at n a len) ≡ taken_from n ((a, len) ∷ rs) m
taken-more n m rs a len = fun_ext (λ x. ap (λ k. if nat_le a x && nat_lt x (a + k) then slice_index (bytes_at n a len) (x - a) else taken_from n rs m x) (bytes-length n a len) ∙ taken_at n m rs a len x (range_covers (a, len) x) refl)

-- where the memories agree outside of the ranges, the whole is taken over
pub taken-all : (n m : ByteMap) (rs : List (ℕ × ℕ)) → ((x : ℕ) → any_covers rs x ≡ false → n x ≡ m x) → taken_from n rs m ≡ n
taken-all n m rs same = fun_ext (λ x. by_test x (any_covers rs x) refl) where
  by_test : (x : ℕ) (b : Bool) → any_covers rs x ≡ b → (if b then n x else m x) ≡ n x
  by_test x true is = refl
  by_test x false is = sym (same x is)
