-- From the lanes of one block to the rest of a list.
use Rattle.std.proofs.Common.{◌≡◌, ℕ, ◌+◌, ◌≤◌, ◌<◌, List, Bool, cond, not, length, drop, map, ap, sym, ◌∙◌, arith, count_ones}
use Rattle.std.proofs.Common.{Some, None, true, false, length-drop}
use Rattle.std.proofs.lemmas.Bool.Decides.{nat_tests}
use Rattle.memory_image.proofs.Zips.{zip_rest}
use Rattle.std.specs.List.{position, position_or_len, count_by, zip, slice_range}
use Rattle.std.specs.Simd.Lanes.{chunk, mask_l}
use Rattle.std.proofs.lemmas.Simd.{chunk-drop, length-chunk, leading_from_mask_l, ones-mask_l}
use Rattle.std.proofs.lemmas.List.Folds.{prefix_len-append}
use Rattle.std.proofs.lemmas.List.Sums.{sum_by-append, count_by-le-length}
use Rattle.std.proofs.lemmas.Slice.Zip.{length-zip}

pub zip_room : {A B : Type 0} (n : ℕ) (xs : List A) (ys : List B) → n ≤ length xs → n ≤ length ys → n ≤ length (zip xs ys)
zip_room n xs ys a b = grind (arith, length-zip xs ys)

-- a count of places is at most the length
pub count_le : (p : ℕ × ℕ → Bool) (xs ys : List ℕ) → count_by p (zip xs ys) ≤ length xs
count_le p xs ys = grind (arith, length-zip xs ys, count_by-le-length p (zip xs ys))

-- what a search that found a place says
pub told : (b : Bool) (m k : ℕ) → cond b (Some m) None ≡ Some k → (b ≡ true) × (m ≡ k)
told true m k e = grind (arith, e)
told false m k e = grind (arith, e)

-- no lane of a block passes
pub quiet_block : {A : Type 0} (p : A → Bool) (i n : ℕ) (xs : List A) → i + n ≤ length xs → mask_l (map p (chunk i n xs)) ≡ 0
    → position_or_len p (drop i xs) ≡ n + position_or_len p (drop (i + n) xs)
quiet_block p i n xs room none =
    let long = length-chunk i n xs room in
    let whole = leading_from_mask_l p (chunk i n xs) none in
    let split = ap (position_or_len p) (chunk-drop i n xs) in
    let joined = prefix_len-append (λ x. not (p x)) (chunk i n xs) (drop (i + n) xs) in
    grind (arith)

-- the lanes of a block that pass are counted
pub counted_block : {A : Type 0} (p : A → Bool) (i n : ℕ) (xs : List A)
    → count_by p (drop i xs) ≡ count_ones (mask_l (map p (chunk i n xs))) + count_by p (drop (i + n) xs)
counted_block p i n xs =
    ap (count_by p) (chunk-drop i n xs)
    ∙ (sum_by-append (λ x. cond (p x) 1 0) (chunk i n xs) (drop (i + n) xs)
    ∙ ap (λ k. k + count_by p (drop (i + n) xs)) (sym (ones-mask_l p (chunk i n xs))))

-- a search that may pass over the first n places goes on after them
pub found_after : (p : ℕ × ℕ → Bool) (xs ys : List ℕ) (n k : ℕ) → n ≤ length xs → length xs ≡ length ys
    → position_or_len p (zip xs ys) ≡ n + position_or_len p (drop n (zip xs ys)) → Some k ≡ position p (zip (slice_range xs n (length xs)) (slice_range ys n (length ys)))
    → (n + k < length xs) × (Some (n + k) ≡ position p (zip xs ys))
found_after p xs ys n k room same passed found =
    let rest = drop n (zip xs ys) in
    let place = told _ _ k (sym (found ∙ ap (position p) (zip_rest n xs ys))) in
    grind (arith, nat_tests, length-drop n (zip xs ys), length-zip xs ys, place.0, place.1)

pub none_after : (p : ℕ × ℕ → Bool) (xs ys : List ℕ) (n : ℕ) → n ≤ length xs → length xs ≡ length ys
    → position_or_len p (zip xs ys) ≡ n + position_or_len p (drop n (zip xs ys)) → None ≡ position p (zip (slice_range xs n (length xs)) (slice_range ys n (length ys)))
    → None ≡ position p (zip xs ys)
none_after p xs ys n room same passed none =
    let there = none ∙ ap (position p) (zip_rest n xs ys) in
    grind (arith, nat_tests, length-drop n (zip xs ys), length-zip xs ys, there)
