-- What the directory of a system file's regions tells.
-- Source: FF-M 1.0, `mmio_regions`; regions are named in this simulator's system file.
use Rattle.std.specs.Prelude.{ℕ, ◌≡◌, ◌+◌, ◌^◌, ◌<◌, ◌≤◌, List, position}
use Rattle.std.specs.Borrow.{Bor}
use Rattle.std.specs.Ordering.{nat_cmp}
use Rattle.std.specs.Cmp.Lexicographic.{slice_cmp}
use Rattle.std.specs.BTreeMap.{BTreeMap, get_by}
use Rattle.std.specs.Str.{bytes_eq}
use Rattle.ffm_model.specs.PartsItems.{RegionRecord}

-- the place of the first region of each name
abbrev pub TellsFirst : BTreeMap (Bor (List ℕ)) ℕ → List RegionRecord → Type 0
TellsFirst places regions = (name : List ℕ) → get_by (λ q. slice_cmp nat_cmp name q.now) places ≡ position (λ r. bytes_eq r.name name) regions

-- a base and a size: at least one byte, and the end by 2 ^ 32
abbrev pub IsRange : ℕ × ℕ → Type 0
IsRange e = (0 < e.1) × (e.0 + e.1 ≤ 2 ^ 32)
