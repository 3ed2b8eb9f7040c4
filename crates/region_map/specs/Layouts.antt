-- What a layout answers.
-- Source: FF-M 1.0, a manifest's `stack_size`, `heap_size` and `mmio_regions`; the order of the errors is this profile's.
use Rattle.std.specs.Prelude.{◌≡◌, List, [], Some, None, true, false, option_map, Result, Ok, Err}
use Rattle.ffm_model.specs.declared.system.Region.{Region}
use Rattle.ffm_model.specs.PartsItems.{PartsRecord}
use Rattle.ffm_model.specs.Repeats.{first}
use Rattle.ffm_model.specs.Layout.{regions_laid_out, unknown_items, overlaps, too_large, TooLarge as Large, partition_ram, mmio_item, non_secure_ram, all_regions}
use Rattle.region_map.specs.Seen.{spot}
use Rattle.region_map.specs.declared.error.LayoutError.{LayoutError}
use Rattle.region_map.specs.declared.error.LayoutError.TheVariants.{Unknown, Overlap, TooLarge, Memory}

-- the error for what is too large
abbrev pub large_error : Large → LayoutError
large_error (partition_ram k) = TooLarge (Some k) None false
large_error (mmio_item k i) = TooLarge (Some k) (Some i) false
large_error non_secure_ram = TooLarge None None false
large_error all_regions = TooLarge None None true

-- the regions, where each name is known, no two regions share a byte and none is too large; else the first of
-- what is wrong in that order. Only a want of memory has no cause
abbrev pub LaysOut : PartsRecord → Result (List Region) LayoutError → Type 0
LaysOut p (Ok regions) = (regions ≡ regions_laid_out p) × (unknown_items p ≡ []) × (overlaps p ≡ []) × (too_large p ≡ [])
LaysOut p (Err (Unknown manifest item)) = option_map spot (first (unknown_items p)) ≡ Some (manifest, item)
LaysOut p (Err (Overlap manifest item)) = (unknown_items p ≡ []) × (option_map spot (first (overlaps p)) ≡ Some (manifest, item))
LaysOut p (Err (TooLarge manifest item total)) =
    (unknown_items p ≡ []) × (overlaps p ≡ []) × (option_map large_error (first (too_large p)) ≡ Some (TooLarge manifest item total))
LaysOut p (Err Memory) = Unit {0}
