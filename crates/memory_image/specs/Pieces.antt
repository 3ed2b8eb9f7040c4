-- An image as contracts see it: one piece for each region, in the order of the regions, with the region's bytes.
-- Source: FF-M 1.0, memory isolation of partitions; the limits of a system's memory are this profile's.
use Rattle.std.specs.Prelude.{ℕ, ◌+◌, ◌-◌, ◌==◌, nat_le, Bool, true, ◌&&◌, ◌||◌, if◌then◌else◌, ◌≡◌, List, [], ◌∷◌, length, slice_index, slice_index_or, slice_get, ◌<◌, IsSomeAnd, map, sum_by, replicate}
use Rattle.std.specs.List.{list_any, list_all}
use Rattle.memory_image.specs.Differences.{range_covers}
use Rattle.ffm_model.specs.declared.constants.TheConstants.{MAX_IMAGE_BYTES}
use Rattle.ffm_model.specs.declared.scenario.Bytes.{Bytes}
use Rattle.ffm_model.specs.declared.system.Region.{Region}
use Rattle.ffm_model.specs.Memory.{write_bytes, lies_in}
use Rattle.ffm_model.specs.Ranges.{has_range, share_no_byte}
use Rattle.ffm_model.specs.WellFormed.{each_pair}

-- where a piece begins, and how many bytes it has
abbrev pub range_of : Bytes → ℕ × ℕ
range_of piece = (piece.address, length piece.content)

-- the regions of an image
abbrev pub regions_of : List Bytes → List (ℕ × ℕ)
regions_of pieces = map range_of pieces

-- the byte at an address, and 0 where no region has the address
abbrev pub byte_at : List Bytes → ℕ → ℕ
byte_at [] x = 0
byte_at (p ∷ ps) x = if range_covers (range_of p) x then slice_index p.content (x - p.address) else byte_at ps x

-- the range is empty, or lies whole in one of the regions
abbrev pub is_inside : ℕ → ℕ → List (ℕ × ℕ) → Bool
is_inside at len regions = (len == 0) || list_any (has_range at len) regions

-- the place of an address: the number of the region that has it, and its offset there
abbrev pub IsPlaceOf : ℕ → ℕ × ℕ → List (ℕ × ℕ) → Type 0
IsPlaceOf address place regions = IsSomeAnd (slice_get regions place.0) (λ r. (r.0 + place.1 ≡ address) × (place.1 < r.1))

-- no two regions share a byte, each ends by 2^32, and all together have at most 16 MiB
unfoldable pub fit_an_image : List (ℕ × ℕ) → Bool
fit_an_image regions =
    each_pair share_no_byte regions
    && list_all (λ e. nat_le (e.0 + e.1) 4294967296) regions
    && nat_le (sum_by (λ e. e.1) regions) MAX_IMAGE_BYTES

-- each piece of an opening memory lies whole in one region
abbrev pub open_within : List Region → List Bytes → Bool
open_within regions opening = list_all (λ b. list_any (lies_in b.address (length b.content)) regions) opening

-- a region before any byte is put
abbrev pub zero_piece : Region → Bytes
zero_piece r = record { address = r.base; content = replicate r.size 0 }

-- what stands for a piece that isn't there
abbrev pub no_piece : Bytes
no_piece = record { address = 0; content = [] }

-- bytes are put into one piece
pub record IsPut (p q : Bytes) (at : ℕ) (bytes : List ℕ) : Type 0 where
  pub inside : has_range at (length bytes) (range_of p) ≡ true
  pub range : range_of q ≡ range_of p
  pub put : (x : ℕ) → slice_index q.content x ≡ write_bytes (λ y. slice_index p.content y) (at - p.address) bytes x

-- the piece at this place has the whole range
pub record HasRangeAt (pieces : List Bytes) (place at len : ℕ) : Type 0 where
  pub exists : place < length pieces
  pub inside : has_range at len (range_of (slice_index_or pieces place no_piece)) ≡ true
