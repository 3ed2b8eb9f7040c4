-- MMIO items with their regions, and the first item that names none.
-- Source: FF-M 1.0, `mmio_regions`.
use Rattle.std.specs.Prelude.{◌≡◌, List, Some, is_none, filter, option_map}
use Rattle.ffm_model.specs.declared.system.Region.{Region}
use Rattle.ffm_model.specs.ManifestItems.{MmioRecord}
use Rattle.ffm_model.specs.PartsItems.{RegionRecord}
use Rattle.ffm_model.specs.Repeats.{first}
use Rattle.ffm_model.specs.Layout.{Located, range_named}
use Rattle.region_map.specs.declared.error.LayoutError.{LayoutError}
use Rattle.region_map.specs.declared.error.LayoutError.TheVariants.{Unknown, Overlap, TooLarge, Memory}
use Rattle.region_map.specs.Seen.{spot}
use Rattle.region_map.specs.declared.place.Placed.{Placed}

-- the region, at its item's place
abbrev pub located_of : Placed → Located Region
located_of x = record { manifest = x.manifest; item = x.item; value = x.region }

-- the items that name no region
abbrev pub unknown_in : List RegionRecord → List (Located MmioRecord) → List (Located MmioRecord)
unknown_in regions items = filter (λ x. is_none (range_named regions x.value.location)) items

-- the error tells the first of them, or a want of memory
abbrev pub IsUnknown : List (Located MmioRecord) → LayoutError → Type 0
IsUnknown items (Unknown manifest item) = option_map spot (first items) ≡ Some (manifest, item)
IsUnknown items (Overlap manifest item) = ⊥
IsUnknown items (TooLarge manifest item total) = ⊥
IsUnknown items Memory = Unit {0}
