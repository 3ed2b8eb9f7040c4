-- Maps and sets by the names of a client and a service, as the code keeps them.
-- Source: of this repository.
use Rattle.std.specs.Prelude.{◌≡◌, ℕ, Bool, true, ◌&&◌, List, Option, if◌then◌else◌}
use Rattle.std.specs.BTreeMap as map
use Rattle.std.specs.BTreeMap.{BTreeMap}
use Rattle.std.specs.BTreeSet as set
use Rattle.std.specs.BTreeSet.{BTreeSet}
use Rattle.std.specs.Borrow.{Bor}
use Rattle.std.specs.Cmp.Lexicographic.{slice_cmp}
use Rattle.std.specs.List.{list_any}
use Rattle.std.specs.Option.{unwrap_or}
use Rattle.std.specs.Ordering.{nat_cmp, ordering_then}
use Rattle.std.specs.Str.{bytes_eq}
use Rattle.std.specs.declared.cmp.Ordering.{Ordering}
use Rattle.ffm_model.specs.declared.system.Budget.{Budget}
use Rattle.ffm_model.specs.PartsItems.{ConnectionRecord}
use Rattle.ffm_model.specs.Permissions.{Permitted, count_for}

-- two names against those of a key
abbrev pub names_cmp : List ℕ → List ℕ → Bor (List ℕ) × Bor (List ℕ) → Ordering
names_cmp client service key = ordering_then (slice_cmp nat_cmp client key.0.now) (slice_cmp nat_cmp service key.1.now)

abbrev pub count_in : BTreeMap (Bor (List ℕ) × Bor (List ℕ)) ℕ → List ℕ → List ℕ → Option ℕ
count_in counts client service = map.get_by (names_cmp client service) counts

abbrev pub has_pair : BTreeSet (Bor (List ℕ) × Bor (List ℕ)) → List ℕ → List ℕ → Bool
has_pair pairs client service = set.contains_by (names_cmp client service) pairs

-- an actor that connects to a service, with these names, at any places
abbrev pub named_pair : List ℕ → List ℕ → Permitted
named_pair client service = record { client = 0; client_name = client; service = 0; service_name = service; connects = true }

-- the map has what the items declare, and for others one connection counts
abbrev pub TellsCounts : BTreeMap (Bor (List ℕ) × Bor (List ℕ)) ℕ → List ConnectionRecord → Type 0
TellsCounts counts connections = (client service : List ℕ) → unwrap_or (count_in counts client service) 1 ≡ count_for connections (named_pair client service)

-- the set has the names of those of these pairs that connect, and no others
abbrev pub HasPairs : BTreeSet (Bor (List ℕ) × Bor (List ℕ)) → List Permitted → Type 0
HasPairs names pairs = (client service : List ℕ) → has_pair names client service ≡ list_any (λ pair. pair.connects && (bytes_eq client pair.client_name && bytes_eq service pair.service_name)) pairs

-- the budget of a pair by the map, with no connection for one that doesn't connect
abbrev pub budget_by : BTreeMap (Bor (List ℕ) × Bor (List ℕ)) ℕ → Permitted → Budget
budget_by counts pair = record { client = record { 0 = pair.client }; service = pair.service; count = if pair.connects then unwrap_or (count_in counts pair.client_name pair.service_name) 1 else 0 }
