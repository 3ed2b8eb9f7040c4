-- Which of two regions that are too large comes first.
-- Source: FF-M 1.0, `stack_size`, `heap_size` and `mmio_regions`; the limit and the order are this profile's.
use Rattle.std.specs.Prelude.{ℕ, nat_le, Bool, Option, Some, None, if◌then◌else◌}
use Rattle.ffm_model.specs.declared.system.Region.{Region}
use Rattle.ffm_model.specs.ManifestItems.{ManifestRecord}
use Rattle.ffm_model.specs.Layout.{Located, TooLarge, partition_ram, mmio_item, is_large, ram_needed}

-- the RAM of the manifest's partition is too large
abbrev pub has_large_ram : ManifestRecord → Bool
has_large_ram m = is_large (ram_needed m)

-- the region is too large
abbrev pub is_large_region : Located Region → Bool
is_large_region x = is_large x.value.size

-- the RAM of a manifest's partition comes before the MMIO items of that manifest
abbrev pub earlier_of : Option ℕ → Option (ℕ × ℕ) → Option TooLarge
earlier_of None None = None
earlier_of None (Some e) = Some (mmio_item e.0 e.1)
earlier_of (Some k) None = Some (partition_ram k)
earlier_of (Some k) (Some e) = Some (if nat_le k e.0 then partition_ram k else mmio_item e.0 e.1)
