-- The partitions that have the services, by the services' names, and which partitions depend on which.
-- Source: of this repository.
use Rattle.std.specs.Prelude.{◌≡◌, ℕ, ◌+◌, ◌*◌, ◌==◌, nat_lt, Bool, false, ◌&&◌, List, Option, is_some, get_or}
use Rattle.std.specs.BTreeMap as tree
use Rattle.std.specs.BTreeMap.{BTreeMap}
use Rattle.std.specs.Cmp.Lexicographic.{slice_cmp}
use Rattle.std.specs.Option.{option_map_or}
use Rattle.std.specs.Ordering.{nat_cmp}
use Rattle.std.specs.Borrow.{Bor}
use Rattle.ffm_model.specs.PartsItems.{PartsRecord}
use Rattle.ffm_model.specs.Rules.{is_known, has_service}

-- the partition that the map has for a name
abbrev pub owner_of : BTreeMap (Bor (List ℕ)) ℕ → List ℕ → Option ℕ
owner_of owners name = tree.get_by (λ k. slice_cmp nat_cmp name k.now) owners

-- the map has k for the name
abbrev pub is_owner : BTreeMap (Bor (List ℕ)) ℕ → ℕ → List ℕ → Bool
is_owner owners k name = option_map_or (λ owner. owner == k) (owner_of owners name) false

-- the map has the names of the services, each with its partition
pub record Owns (owners : BTreeMap (Bor (List ℕ)) ℕ) (p : PartsRecord) : Type 0 where
  pub known : (name : List ℕ) → is_some (owner_of owners name) ≡ is_known p name
  pub owned : (name : List ℕ) (k : ℕ) → is_owner owners k name ≡ has_service p k name

-- of at most 256 rows with 256 marks each: the mark of two numbers, and none beside the rows
abbrev pub is_marked : List Bool → ℕ → ℕ → Bool
is_marked marks k j = (nat_lt k 256 && nat_lt j 256) && get_or marks (k * 256 + j) false
