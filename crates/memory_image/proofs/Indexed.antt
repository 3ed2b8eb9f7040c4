-- The index of an image finds the piece that has a range.
use Rattle.std.proofs.Common.{ℕ, ◌≡◌, ◌<◌, true, false, List, length, get_or, arith, ◌∙◌, ap, sym, subst}
use Rattle.std.specs.Prelude.{map, Some, None}
use Rattle.std.specs.List.{list_any}
use Rattle.std.proofs.lemmas.List.{get_or-map, get_or_default, length-map}
use Rattle.std.proofs.lemmas.Bool.{false_from_ne_true}
use Rattle.std.proofs.lemmas.List.Folds.{list_any_at, list_any_none}
use Rattle.ffm_model.specs.declared.scenario.Bytes.{Bytes}
use Rattle.ffm_model.specs.declared.starts.Start.{Start}
use Rattle.ffm_model.specs.declared.system.Region.{Region}
use Rattle.ffm_model.specs.Ranges.{has_range, ranges_of, IsIndexOf, IsOnlyPlace}
use Rattle.memory_image.specs.Pieces.{range_of, regions_of, zero_piece, fit_an_image, no_piece, HasRangeAt}
use Rattle.memory_image.specs.Index.{IsImage}
use Rattle.memory_image.proofs.Opened.{regions_of-zero}

-- where no place has a region with the range, none has it
none_has : (rs : List (ℕ × ℕ)) (at len : ℕ) → ((i : ℕ) → i < length rs → has_range at len (get_or rs i (0, 0)) ≡ true → ⊥) → list_any (has_range at len) rs ≡ false
none_has rs at len none =
    list_any_none (has_range at len) rs (λ k d below. ap (has_range at len) (get_or_default rs k d (0, 0) below) ∙ false_from_ne_true _ (none k below))

-- the piece at a place has the range
pub found_there : (ps : List Bytes) (i at len : ℕ) (p : Bytes) → i < length ps → p ≡ get_or ps i p → has_range at len (range_of p) ≡ true → HasRangeAt ps i at len
found_there ps i at len p below is has =
    record { exists = below; inside = ap (λ q. has_range at len (range_of q)) (get_or_default ps i no_piece p below ∙ sym is) ∙ has }

-- the range of a piece at a place
piece_range : (ps : List Bytes) (i at len : ℕ) (p : Bytes) → i < length ps → p ≡ get_or ps i p → has_range at len (get_or (regions_of ps) i (0, 0)) ≡ has_range at len (range_of p)
piece_range ps i at len p below is =
    let here : get_or (regions_of ps) i (0, 0) ≡ range_of (get_or ps i no_piece) = get_or-map range_of ps i no_piece (0, 0) below in
    ap (has_range at len) (here ∙ ap range_of (get_or_default ps i no_piece p below ∙ sym is))

pub piece_below : (ps : List Bytes) (i : ℕ) → i < length (regions_of ps) → i < length ps
piece_below ps i below = let many : length (regions_of ps) ≡ length ps = length-map ps range_of in omega arith

-- ---- whether a piece has the range

pub no_piece_has : (ps : List Bytes) (at len : ℕ) → 0 < len → IsOnlyPlace (regions_of ps) at None → false ≡ list_any (has_range at len) (regions_of ps)
no_piece_has ps at len some only = sym (none_has (regions_of ps) at len (λ i below has. let never = only.only len i some below has in cc))

pub had_piece : (ps : List Bytes) (i at len : ℕ) (p : Bytes) → IsOnlyPlace (regions_of ps) at (Some i) → p ≡ get_or ps i p → has_range at len (range_of p) ≡ true → true ≡ list_any (has_range at len) (regions_of ps)
had_piece ps i at len p only is has =
    sym (list_any_at (has_range at len) (regions_of ps) i (0, 0) only.below (piece_range ps i at len p (piece_below ps i only.below) is ∙ has))

pub lacked_piece : (ps : List Bytes) (i at len : ℕ) (p : Bytes) → 0 < len → IsOnlyPlace (regions_of ps) at (Some i) → p ≡ get_or ps i p → has_range at len (range_of p) ≡ false → false ≡ list_any (has_range at len) (regions_of ps)
lacked_piece ps i at len p some only is lacks =
    sym (none_has (regions_of ps) at len (λ k below has. never k below has (only.only len k some below has))) where
      here : has_range at len (get_or (regions_of ps) i (0, 0)) ≡ false
      here = piece_range ps i at len p (piece_below ps i only.below) is ∙ lacks

      never : (k : ℕ) → k < length (regions_of ps) → has_range at len (get_or (regions_of ps) k (0, 0)) ≡ true → Some i ≡ Some k → ⊥
      never k below has same = let is : i ≡ k = cc in let there : has_range at len (get_or (regions_of ps) i (0, 0)) ≡ true = ap (λ j. has_range at len (get_or (regions_of ps) j (0, 0))) is ∙ has in let none : false ≡ true = sym here ∙ there in cc

-- pieces of zeros with the index of the regions are an image
pub zeros_are_image : (rs : List Region) (ps : List Bytes) (starts : List Start) → ps ≡ map zero_piece rs → fit_an_image (ranges_of rs) ≡ true → length rs < 2147483648
    → IsIndexOf starts (ranges_of rs) → IsImage ps starts
zeros_are_image rs ps starts is fit few index =
    let same : regions_of ps ≡ ranges_of rs = ap regions_of is ∙ regions_of-zero rs in
    let many : length ps ≡ length rs = ap length is ∙ length-map rs zero_piece in
    record { fit = ap fit_an_image same ∙ fit; few = omega arith; index = subst (IsIndexOf starts) (sym same) index }
