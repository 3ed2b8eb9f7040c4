-- Two images of the same regions differ in their regions alone, so the differences of all regions are those of the images.
use Rattle.std.proofs.Common.{ℕ, ◌≡◌, ◌≤◌, ◌<◌, ◌+◌, Bool, true, false, not, ◌&&◌, ◌||◌, List, [], ◌∷◌, Option, length, get_or, take, count_by, nat_eq, arith, ◌∙◌, ap, sym, refl}
use Rattle.std.specs.Prelude.{sum_by, nat_le}
use Rattle.std.specs.List.{list_all, range_with_len}
use Rattle.std.proofs.lemmas.Bool.Decides.{nat_tests}
use Rattle.std.proofs.lemmas.List.{get_or-map, length-map, take_all}
use Rattle.std.proofs.lemmas.List.Folds.{list_any_more, list_any_at}
use Rattle.std.proofs.lemmas.List.Sums.{sum_by_more, sum_by_more_le, sum_by-le-sum_by}
use Rattle.std.proofs.lemmas.Bool.{and_left, and_parts, or_parts, or_right}
use Rattle.memory_image.specs.Differences.{differs, range_covers, any_covers, count_in, IsLeast, lesser}
use Rattle.memory_image.proofs.LaneRanges.{covered, lesser_of, least_same}
use Rattle.ffm_model.specs.declared.scenario.Bytes.{Bytes}
use Rattle.ffm_model.specs.declared.constants.TheConstants.{MAX_IMAGE_BYTES}
use Rattle.ffm_model.specs.Memory.{ByteMap}
use Rattle.ffm_model.specs.Ranges.{has_range, share_no_byte}
use Rattle.memory_image.specs.Pieces.{byte_at, range_of, regions_of, is_inside, fit_an_image}
use Rattle.ffm_model.specs.WellFormed.{each_pair}
use Rattle.memory_image.proofs.Changed.{counted_le}

-- ---- one region of an image

-- the region at place k has n bytes from a on
pub record IsRegionAt (rs : List (ℕ × ℕ)) (k a n : ℕ) : Type 0 where
  pub exists : k < length rs
  pub range : get_or rs k (0, 0) ≡ (a, n)

pub piece_at : (ps items : List Bytes) (k n : ℕ) (p d : Bytes) → items ≡ ps → k < length items → p ≡ get_or items k d → n ≡ length p.content → IsRegionAt (regions_of ps) k p.address n
piece_at ps items k n p d same below is long = record {
  exists = omega (arith, length-map ps range_of, ap length same);
  range = get_or-map range_of ps k d (0, 0) (omega (arith, ap length same)) ∙ ap (λ l. range_of (get_or l k d)) (sym same) ∙ ap range_of (sym is) ∙ ap (λ m. (p.address, m)) (sym long);
}

pub has_itself : (a n : ℕ) → has_range a n (a, n) ≡ true
has_itself a n = grind (arith, nat_tests)

pub region_inside : (rs : List (ℕ × ℕ)) (k a n : ℕ) → IsRegionAt rs k a n → is_inside a n rs ≡ true
region_inside rs k a n at = or_right _ _ (list_any_at (has_range a n) rs k (0, 0) at.exists (ap (has_range a n) at.range ∙ has_itself a n))

-- all regions together are small
regions_small : (rs : List (ℕ × ℕ)) → fit_an_image rs ≡ true → sum_by (λ e. e.1) rs ≤ 16777216
unfolding fit_an_image
regions_small rs fit =
    let each = each_pair share_no_byte rs && list_all (λ e. nat_le (e.0 + e.1) 4294967296) rs in
    let sum : nat_le (sum_by (λ e. e.1) rs) MAX_IMAGE_BYTES ≡ true = (and_parts each _ fit).1 in
    grind (arith, nat_tests)

-- and so is each
pub region_small : (rs : List (ℕ × ℕ)) (k a n : ℕ) → IsRegionAt rs k a n → fit_an_image rs ≡ true → n ≤ 16777216
region_small rs k a n at fit =
    let part = sum_by_more_le (λ (e : ℕ × ℕ). e.1) rs k (0, 0) at.exists in
    let here = ap (λ (e : ℕ × ℕ). e.1) at.range in
    omega (arith, part, here, regions_small rs fit)

-- ---- the least, region by region

pub both : (a b c : Bool) → ((a && b) || (a && c)) ≡ (a && (b || c))
both true b c = refl
both false b c = refl

-- the least that passes in the first k regions
abbrev pub IsLeastWithin : (ℕ → Bool) → List (ℕ × ℕ) → ℕ → Option ℕ → Type 0
IsLeastWithin p rs k found = IsLeast (λ x. p x && any_covers (take k rs) x) found

pub least_step : (p : ℕ → Bool) (rs : List (ℕ × ℕ)) (k a n : ℕ) (least found : Option ℕ) → IsRegionAt rs k a n → IsLeastWithin p rs k least
    → IsLeast (λ x. p x && range_covers (a, n) x) found → IsLeastWithin p rs (k + 1) (lesser least found)
least_step p rs k a n least found at one other =
    let before = take k rs in
    let more = λ (x : ℕ). list_any_more (λ q. range_covers q x) rs k (0, 0) at.exists ∙ ap (λ q. any_covers before x || range_covers q x) at.range in
    least_same (λ x. (p x && any_covers before x) || (p x && range_covers (a, n) x)) (λ x. p x && any_covers (take (k + 1) rs) x) (lesser least found)
    (λ x. both (p x) (any_covers before x) (range_covers (a, n) x) ∙ ap (λ b. p x && b) (sym (more x)))
    (lesser_of (λ x. p x && any_covers before x) (λ x. p x && range_covers (a, n) x) least found one other)

-- where only addresses of regions pass, the least in all regions is the least
pub least_last : (p : ℕ → Bool) (rs : List (ℕ × ℕ)) (k : ℕ) (least : Option ℕ) → length rs ≤ k → ((x : ℕ) → any_covers rs x ≡ false → p x ≡ false) → IsLeastWithin p rs k least → IsLeast p least
least_last p rs k least all inside one =
    least_same (λ x. p x && any_covers (take k rs) x) p least (λ x. ap (λ l. p x && any_covers l x) (take_all k rs all) ∙ covered (p x) (any_covers rs x) (inside x)) one

-- ---- outside of the regions

zero_outside : (ps : List Bytes) (x : ℕ) → any_covers (regions_of ps) x ≡ false → byte_at ps x ≡ 0
zero_outside [] x off = refl
zero_outside (p ∷ ps) x off =
    let parts = or_parts (range_covers (range_of p) x) (any_covers (regions_of ps) x) off in
    rw parts.0 (zero_outside ps x parts.1)

same_byte : (a b : ℕ) → a ≡ 0 → b ≡ 0 → not (nat_eq a b) ≡ false
same_byte a b e f = rw (e, f) refl

-- images of the same regions agree outside of them
pub same_outside : (ps qs : List Bytes) → regions_of ps ≡ regions_of qs → (x : ℕ) → any_covers (regions_of ps) x ≡ false → differs (byte_at ps) (byte_at qs) x ≡ false
same_outside ps qs same x off =
    same_byte _ _ (zero_outside ps x off) (zero_outside qs x (ap (λ rs. any_covers rs x) (sym same) ∙ off))

pub same_outside_too : (ps qs : List Bytes) (s : ℕ → Bool) → regions_of ps ≡ regions_of qs → (x : ℕ) → any_covers (regions_of ps) x ≡ false → (differs (byte_at ps) (byte_at qs) x && s x) ≡ false
same_outside_too ps qs s same x off = and_left _ (s x) (same_outside ps qs same x off)

-- ---- the count, region by region

-- how many pass in the first k regions
abbrev pub count_within : (ℕ → Bool) → List (ℕ × ℕ) → ℕ → ℕ
count_within p rs k = count_in p (take k rs)

pub count_step : (p : ℕ → Bool) (rs : List (ℕ × ℕ)) (k a n : ℕ) → IsRegionAt rs k a n → count_within p rs (k + 1) ≡ count_within p rs k + count_by p (range_with_len a n)
count_step p rs k a n at =
    sum_by_more (λ (r : ℕ × ℕ). count_by p (range_with_len r.0 r.1)) rs k (0, 0) at.exists
    ∙ ap (λ (r : ℕ × ℕ). count_within p rs k + count_by p (range_with_len r.0 r.1)) at.range

pub count_last : (p : ℕ → Bool) (rs : List (ℕ × ℕ)) (k : ℕ) → length rs ≤ k → count_within p rs k ≡ count_in p rs
count_last p rs k all = ap (count_in p) (take_all k rs all)

-- a count so far and the next one are at most the number of all bytes
pub count_small : (m n : ByteMap) (rs : List (ℕ × ℕ)) (k a len : ℕ) → IsRegionAt rs k a len → fit_an_image rs ≡ true
    → count_within (differs m n) rs k + count_by (differs m n) (range_with_len a len) ≤ 16777216
count_small m n rs k a len at fit =
    let counts = λ (r : ℕ × ℕ). count_by (differs m n) (range_with_len r.0 r.1) in
    let part = sum_by_more_le counts rs k (0, 0) at.exists in
    let here = ap counts at.range in
    let each = sum_by-le-sum_by counts (λ (r : ℕ × ℕ). r.1) rs (λ r. counted_le m n r.0 r.1) in
    omega (arith, part, here, each, regions_small rs fit)
