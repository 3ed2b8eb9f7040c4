-- Where the instruction of a line stands.
use Rattle.std.proofs.Common.{◌≡◌, ◌<◌, ◌≤◌, ℕ, List, None, Some, count_by, false, length, refl, take, true}
use Rattle.std.proofs.lemmas.List.{take-map}
use Rattle.std.proofs.lemmas.Option.{slice_get-map, slice_get_past, slice_get_read}
use Rattle.std.specs.Prelude.{get_or}
use Rattle.script_asm.specs.Views.{line_view, lines_view}
use Rattle.script_asm.specs.declared.lines.Line.{Line}
use Rattle.explore_commands.specs.Targets.{is_order, place_of}

-- there is no such line
pub beyond : (lines : List Line) (k : ℕ) → length lines ≤ k → None ≡ place_of (lines_view lines) k
beyond lines k past = rw (slice_get-map, slice_get_past lines k past) refl

-- the line makes no instruction
pub passed : (lines : List Line) (k : ℕ) (l : Line) → k < length lines → l ≡ get_or lines k l → is_order (line_view l) ≡ false → None ≡ place_of (lines_view lines) k
passed lines k l lt at is = rw (slice_get-map, slice_get_read lines (length lines) k l refl lt at, is) refl

-- it makes one
pub placed : (lines : List Line) (k n : ℕ) (l : Line) → k < length lines → l ≡ get_or lines k l → is_order (line_view l) ≡ true → n ≡ count_by is_order (lines_view (take k lines)) → Some n ≡ place_of (lines_view lines) k
placed lines k n l lt at is count = rw (slice_get-map, slice_get_read lines (length lines) k l refl lt at, is, count, take-map) refl
