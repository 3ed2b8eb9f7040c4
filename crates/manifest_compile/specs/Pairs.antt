-- Permitted pairs, and the maps by which they are found, as the code keeps them.
-- Source: of this repository.
use Rattle.std.specs.Prelude.{◌≡◌, ℕ, List}
use Rattle.std.specs.BTreeSet as tree
use Rattle.std.specs.BTreeSet.{BTreeSet}
use Rattle.std.specs.Cmp.Lexicographic.{slice_cmp}
use Rattle.std.specs.List.{list_any}
use Rattle.std.specs.Ordering.{nat_cmp}
use Rattle.std.specs.Str.{bytes_eq}
use Rattle.std.specs.Borrow.{Bor}
use Rattle.ffm_model.specs.Permissions.{Permitted}
use Rattle.manifest_compile.specs.declared.pairs.Pair.{Pair}

-- the pair, as the definitions speak of it
abbrev pub pair_seen : Pair → Permitted
pair_seen pair = record { client = pair.client; client_name = pair.client_name.now; service = pair.service; service_name = pair.service_name.now; connects = pair.connects }

-- the set has these names and no others
abbrev pub HasNames : BTreeSet (Bor (List ℕ)) → List (List ℕ) → Type 0
HasNames set names = (q : Bor (List ℕ)) → tree.contains (λ x y. slice_cmp nat_cmp x.now y.now) set q ≡ list_any (bytes_eq q.now) names
