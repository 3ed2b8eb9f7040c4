-- Regions that share a byte, with the earlier regions kept as sizes by their bases.
-- Source: of this repository; it serves the rule that no two regions of a system share a byte.
use Rattle.std.specs.Prelude.{ℕ, ◌≡◌, ◌+◌, ◌<◌, ◌≤◌, ◌⊎◌, ◌||◌, Bool, not, Some}
use Rattle.std.specs.Ordering.{nat_cmp}
use Rattle.std.specs.BTreeMap.{BTreeMap, get}
use Rattle.ffm_model.specs.declared.constants.TheConstants.{RAM_BASE, NON_SECURE_RAM_BASE}
use Rattle.ffm_model.specs.declared.system.Region.{Region}
use Rattle.ffm_model.specs.declared.system.Class.TheVariants.{NonSecure}
use Rattle.ffm_model.specs.WellFormed.{apart}

-- so many bytes at an address
abbrev pub extent : ℕ → ℕ → Region
extent base size = record { base = base; size = size; class = NonSecure }

-- a region shares a byte with the RAM of all partitions, or with non-secure RAM, of these sizes
abbrev pub meets_ram : ℕ → ℕ → Region → Bool
meets_ram ram non_secure x = not (apart (extent RAM_BASE ram) x) || not (apart (extent NON_SECURE_RAM_BASE non_secure) x)

-- the earlier regions have at least one byte, and each ends before the next begins
pub record IsDisjoint (m : BTreeMap ℕ ℕ) : Type 0 where
  pub filled : (base size : ℕ) → get nat_cmp m base ≡ Some size → 0 < size
  pub apart : (base size next next_size : ℕ) → get nat_cmp m base ≡ Some size → get nat_cmp m next ≡ Some next_size → base < next → base + size ≤ next

-- some byte of the region is an earlier one's
abbrev pub MeetsSome : BTreeMap ℕ ℕ → Region → Type 0
MeetsSome m x = (base : ℕ) × (size : ℕ) × (get nat_cmp m base ≡ Some size) × (base < x.base + x.size) × (x.base < base + size)

-- none is
abbrev pub MeetsNone : BTreeMap ℕ ℕ → Region → Type 0
MeetsNone m x = (base size : ℕ) → get nat_cmp m base ≡ Some size → (base + size ≤ x.base) ⊎ (x.base + x.size ≤ base)
