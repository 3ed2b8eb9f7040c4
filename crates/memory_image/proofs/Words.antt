-- Words that are put into one piece, one after the other.
use Rattle.std.proofs.Common.{ℕ, zero, suc, ◌≡◌, ◌<◌, ◌≤◌, ◌+◌, ◌*◌, true, List, [], ◌∷◌, length, get_or, arith, ◌∙◌, ap, sym, refl}
use Rattle.std.proofs.lemmas.Bool.Decides.{nat_tests}
use Rattle.std.proofs.lemmas.List.{get_or-map, length-map}
use Rattle.ffm_model.specs.declared.scenario.Bytes.{Bytes}
use Rattle.ffm_model.specs.Ranges.{has_range}
use Rattle.memory_image.specs.Pieces.{range_of, regions_of, no_piece, fit_an_image, is_inside}
use Rattle.memory_image.proofs.Stored.{ends_below}

pub as-many : (ps qs : List Bytes) → regions_of ps ≡ regions_of qs → length ps ≡ length qs
as-many ps qs same = sym (length-map ps range_of) ∙ ap (λ rs. length rs) same ∙ length-map qs range_of

-- the piece at a place has the range that it had
same-range : (ps qs : List Bytes) (i : ℕ) → regions_of ps ≡ regions_of qs → i < length qs → range_of (get_or ps i no_piece) ≡ range_of (get_or qs i no_piece)
same-range ps qs i same below =
    let long : length ps ≡ length qs = as-many ps qs same in
    let inside : i < length ps = omega arith in
    sym (get_or-map range_of ps i no_piece (0, 0) inside) ∙ ap (λ rs. get_or rs i (0, 0)) same ∙ get_or-map range_of qs i no_piece (0, 0) below

-- each word lies in the piece that has all of them
pub word-inside : (ps qs : List Bytes) (i at n k : ℕ) → regions_of ps ≡ regions_of qs → i < length qs → k < n
    → has_range at (4 * n) (range_of (get_or qs i no_piece)) ≡ true → has_range (at + 4 * k) 4 (range_of (get_or ps i no_piece)) ≡ true
word-inside ps qs i at n k same below less has =
    let part : has_range (at + 4 * k) 4 (range_of (get_or qs i no_piece)) ≡ true = grind (arith, nat_tests) in
    ap (has_range (at + 4 * k) 4) (same-range ps qs i same below) ∙ part

-- words end by 2^32, also where there are none
pub words-end : (at len : ℕ) (regions : List (ℕ × ℕ)) → fit_an_image regions ≡ true → is_inside at len regions ≡ true → at < 4294967296 → at + len ≤ 4294967296
words-end at zero regions fits inside small = omega arith
words-end at (suc n) regions fits inside small = ends_below at (suc n) regions fits inside (omega arith)

-- four words, one by one
abbrev pub first_four : List ℕ → List ℕ
first_four xs = get_or xs 0 0 ∷ (get_or xs 1 0 ∷ (get_or xs 2 0 ∷ (get_or xs 3 0 ∷ [])))

pub all-four : (xs : List ℕ) → length xs ≡ 4 → first_four xs ≡ xs
all-four (a ∷ b ∷ c ∷ d ∷ []) e = refl
all-four _ e = absurd (omega arith)
