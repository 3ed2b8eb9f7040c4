-- Where the memory of a system lies, and which regions can't be.
-- Source: FF-M 1.0, a manifest's `stack_size`, `heap_size` and `mmio_regions`, and the isolation levels; addresses and limits are this profile's.
use Rattle.std.specs.Prelude.{ℕ, ◌+◌, ◌*◌, ◌/◌, ◌==◌, nat_lt, Bool, false, not, if◌then◌else◌, List, [], ◌∷◌, ◌++◌, Option, Some, map, filter, find, is_none, sum_by}
use Rattle.std.specs.List.{list_any, filter_map}
use Rattle.std.specs.Option.{option_map, option_map_or}
use Rattle.std.specs.Str.{bytes_eq}
use Rattle.ffm_model.specs.declared.constants.TheConstants.{MAX_REGION_BYTES, MAX_IMAGE_BYTES, RAM_BASE, NON_SECURE_RAM_BASE}
use Rattle.ffm_model.specs.declared.manifest.Location.{Location}
use Rattle.ffm_model.specs.declared.manifest.Location.TheVariants.{Named, Numbered}
use Rattle.ffm_model.specs.declared.system.Region.{Region}
use Rattle.ffm_model.specs.declared.system.Class.TheVariants.{Ram, NonSecure, Mmio}
use Rattle.ffm_model.specs.declared.system.RotType.{RotType}
use Rattle.ffm_model.specs.declared.system.RotType.TheVariants.{PsaRot, ApplicationRot}
use Rattle.ffm_model.specs.ManifestItems.{ManifestRecord, MmioRecord}
use Rattle.ffm_model.specs.PartsItems.{PartsRecord, RegionRecord}
use Rattle.ffm_model.specs.Repeats.{only_if}
use Rattle.ffm_model.specs.WellFormed.{apart}

-- ---- items of manifests

-- an item, and where it stands: its manifest, and its place in that manifest's list
pub record Located (A : Type 0) : Type 0 where
  pub manifest : ℕ
  pub item : ℕ
  pub value : A

-- the items of one manifest, from the i-th on
abbrev pub located_in : {A : Type 0} → ℕ → ℕ → List A → List (Located A)
located_in manifest i [] = []
located_in manifest i (x ∷ xs) = record { manifest = manifest; item = i; value = x } ∷ located_in manifest (i + 1) xs

-- the items of the manifests from the k-th on, in manifest order and then in item order
abbrev pub located_from : {A : Type 0} → (ManifestRecord → List A) → ℕ → List ManifestRecord → List (Located A)
located_from items k [] = []
located_from items k (m ∷ ms) = located_in k 0 (items m) ++ located_from items (k + 1) ms

-- ---- RAM

-- up to a multiple of 32
abbrev pub rounded : ℕ → ℕ
rounded n = (n + 31) / 32 * 32

-- the bytes of a partition's RAM
abbrev pub ram_needed : ManifestRecord → ℕ
ram_needed m = rounded (m.stack_size + m.heap_size)

-- PSA Root of Trust and application partitions are in two domains
abbrev pub domain_of_rot : RotType → ℕ
domain_of_rot PsaRot = 1
domain_of_rot ApplicationRot = 2

-- level 1 has one domain, level 2 one for each kind of partition, level 3 one for each partition
abbrev pub domain_at : ℕ → RotType → ℕ → ℕ
domain_at level rot id = if level == 1 then 1 else (if level == 2 then domain_of_rot rot else id)

-- the RAM of the partitions from the k-th on, one after the other; a partition's ID is its place plus one
abbrev pub rams_from : ℕ → ℕ → ℕ → List ManifestRecord → List Region
rams_from level k base [] = []
rams_from level k base (m ∷ ms) =
    record { base = base; size = ram_needed m; class = Ram (domain_at level m.rot (k + 1)) } ∷ rams_from level (k + 1) (base + ram_needed m) ms

-- the RAM of all partitions
abbrev pub rams_of : PartsRecord → List Region
rams_of p = rams_from p.level 0 RAM_BASE p.manifests

-- the RAM of all non-secure clients
abbrev pub non_secure_of : PartsRecord → Region
non_secure_of p = record { base = NON_SECURE_RAM_BASE; size = rounded p.non_secure_ram; class = NonSecure }

-- ---- MMIO

-- the base and the size that a name or a range stands for; the first region of a name counts
abbrev pub range_named : List RegionRecord → Location → Option (ℕ × ℕ)
range_named regions (Named name) = option_map (λ r. (r.base, r.size)) (find (λ r. bytes_eq r.name name) regions)
range_named regions (Numbered base size) = Some (base, size)

-- the region of an MMIO item, which is its partition's alone
abbrev pub mmio_placed : List RegionRecord → Located MmioRecord → Option (Located Region)
mmio_placed regions x =
    option_map (λ e. record { manifest = x.manifest; item = x.item; value = record { base = e.0; size = e.1; class = Mmio x.manifest x.value.writable } })
    (range_named regions x.value.location)

-- the MMIO items of all manifests
abbrev pub mmio_items : PartsRecord → List (Located MmioRecord)
mmio_items p = located_from (λ m. m.mmio) 0 p.manifests

-- the MMIO regions of all manifests, each at its item's place
abbrev pub mmio_of : PartsRecord → List (Located Region)
mmio_of p = filter_map (mmio_placed p.regions) (mmio_items p)

-- the regions of a system: the RAM of each partition, non-secure RAM, and the MMIO regions
abbrev pub regions_laid_out : PartsRecord → List Region
regions_laid_out p = rams_of p ++ non_secure_of p ∷ map (λ x. x.value) (mmio_of p)

-- ---- regions that can't be

-- the MMIO items that name no region of the system file
abbrev pub unknown_items : PartsRecord → List (Located MmioRecord)
unknown_items p = filter (λ x. is_none (range_named p.regions x.value.location)) (mmio_items p)

-- the MMIO regions that share a byte with one of those in front or with an earlier MMIO region
abbrev pub overlapping : List Region → List (Located Region) → List (Located Region)
overlapping front [] = []
overlapping front (x ∷ xs) = only_if (list_any (λ r. not (apart r x.value)) front) x ++ overlapping (front ++ x.value ∷ []) xs

-- those that share a byte with the RAM of a partition, non-secure RAM or an earlier MMIO region
abbrev pub overlaps : PartsRecord → List (Located Region)
overlaps p = overlapping (rams_of p ++ non_secure_of p ∷ []) (mmio_of p)

-- what is too large: the RAM of a manifest's partition, an MMIO item of a manifest, non-secure RAM, or all together
pub data TooLarge : Type 0 where
  partition_ram : ℕ → TooLarge
  mmio_item : ℕ → ℕ → TooLarge
  non_secure_ram : TooLarge
  all_regions : TooLarge

-- above 1 MiB
abbrev pub is_large : ℕ → Bool
is_large size = nat_lt MAX_REGION_BYTES size

-- the item's region has more than 1 MiB
abbrev pub is_large_item : List RegionRecord → Located MmioRecord → Bool
is_large_item regions x = option_map_or (λ e. is_large e.1) (range_named regions x.value.location) false

-- manifest by manifest, its RAM and then its MMIO regions
abbrev pub large_from : List RegionRecord → ℕ → List ManifestRecord → List TooLarge
large_from regions k [] = []
large_from regions k (m ∷ ms) =
    only_if (is_large (ram_needed m)) (partition_ram k)
    ++ (map (λ x. mmio_item x.manifest x.item) (filter (is_large_item regions) (located_in k 0 m.mmio))
    ++ large_from regions (k + 1) ms)

-- no region has more than 1 MiB, and all together have at most 16 MiB
abbrev pub too_large : PartsRecord → List TooLarge
too_large p =
    large_from p.regions 0 p.manifests
    ++ (only_if (is_large (rounded p.non_secure_ram)) non_secure_ram
    ++ only_if (nat_lt MAX_IMAGE_BYTES (sum_by (λ r. r.size) (regions_laid_out p))) all_regions)
