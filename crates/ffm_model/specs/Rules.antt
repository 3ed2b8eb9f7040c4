-- The rules that manifests and a system file keep together, and the refusal for each place where one is broken.
-- Source: FF-M 1.0 and 1.1, the rules on manifests; codes, places and limits are this simulator's.
use Rattle.std.specs.Prelude.{ℕ, ◌+◌, ◌==◌, nat_lt, Bool, not, ◌&&◌, List, [], ◌∷◌, ◌++◌, length, Option, Some, None, map, filter, sum_by, count_by}
use Rattle.std.specs.List.{list_any, enumerate_from}
use Rattle.std.specs.Str.{bytes_eq}
use Rattle.ffm_model.specs.declared.codes.TheConstants.{DUPLICATE_PARTITION, DUPLICATE_SERVICE, DUPLICATE_SID, UNKNOWN_DEPENDENCY, SELF_DEPENDENCY, DEPENDENCY_CYCLE, TOO_MANY_SIGNALS, REGION_UNKNOWN, REGION_OVERLAP, TOO_MANY_PARTITIONS, TOO_MANY_CONNECTIONS, BUDGET_WITHOUT_PERMISSION, DUPLICATE_IRQ_SOURCE, MEMORY_TOO_LARGE, DUPLICATE_STATELESS_INDEX, TOO_MANY_STATELESS}
use Rattle.ffm_model.specs.declared.constants.TheConstants.{MAX_PARTITIONS, MAX_SIGNALS, MAX_CONNECTIONS, MAX_STATELESS}
use Rattle.ffm_model.specs.declared.key.Key.{Key}
use Rattle.ffm_model.specs.declared.key.Key.TheVariants as key
use Rattle.ffm_model.specs.declared.place.PathStep.{PathStep}
use Rattle.ffm_model.specs.declared.place.PathStep.TheVariants as step
use Rattle.ffm_model.specs.declared.place.Refusal.{Refusal}
use Rattle.ffm_model.specs.declared.place.Root.TheVariants as root
use Rattle.ffm_model.specs.ManifestItems.{ManifestRecord, IrqRecord}
use Rattle.ffm_model.specs.PartsItems.{PartsRecord}
use Rattle.ffm_model.specs.Repeats.{only_if, repeated}
use Rattle.ffm_model.specs.Circles.{first_circle}
use Rattle.ffm_model.specs.Layout.{Located, located_from, unknown_items, overlaps, TooLarge, partition_ram, mmio_item, non_secure_ram, all_regions, too_large}
use Rattle.ffm_model.specs.Permissions.{services_in, permitted, is_for, budgets_of}

-- ---- places

-- a refusal in the system file, with this path
abbrev pub refusal : ℕ → List PathStep → Refusal
refusal code steps = record { code = code; place = record { root = root.System; steps = steps }; cycle = [] }

-- a manifest
abbrev pub at_manifest : ℕ → List PathStep
at_manifest k = step.Key key.Manifests ∷ step.Index k ∷ []

-- an attribute of a manifest
abbrev pub at_attribute : ℕ → Key → List PathStep
at_attribute k attribute = step.Key key.Manifests ∷ step.Index k ∷ step.Key attribute ∷ []

-- an item of a manifest's list
abbrev pub at_item : Key → ℕ → ℕ → List PathStep
at_item list k i = step.Key key.Manifests ∷ step.Index k ∷ step.Key list ∷ step.Index i ∷ []

-- an attribute of an item of a manifest's list
abbrev pub at_part : Key → Key → ℕ → ℕ → List PathStep
at_part list part k i = step.Key key.Manifests ∷ step.Index k ∷ step.Key list ∷ step.Index i ∷ step.Key part ∷ []

-- ---- names and SIDs differ

-- the name of a partition or a client, and its place
pub record Title : Type 0 where
  pub name : List ℕ
  pub steps : List PathStep

-- a partition's name stands in its manifest
abbrev pub partition_title : ℕ × ManifestRecord → Title
partition_title e = record { name = e.1.name; steps = at_attribute e.0 key.Name }

-- a client's name stands among the clients
abbrev pub client_title : ℕ × List ℕ → Title
client_title e = record { name = e.1; steps = step.Key key.Clients ∷ step.Index e.0 ∷ [] }

-- partitions, and then clients
abbrev pub titles : PartsRecord → List Title
titles p = map partition_title (enumerate_from 0 p.manifests) ++ map client_title (enumerate_from 0 p.clients)

-- a partition or a client has an earlier one's name
abbrev pub duplicate_partitions : PartsRecord → List Refusal
duplicate_partitions p = map (λ (x : Title). refusal DUPLICATE_PARTITION x.steps) (repeated (λ x y. bytes_eq x.name y.name) (titles p))

-- a service has an earlier one's name
abbrev pub duplicate_services : PartsRecord → List Refusal
duplicate_services p =
    map (λ x. refusal DUPLICATE_SERVICE (at_part key.Services key.Name x.manifest x.item)) (repeated (λ x y. bytes_eq x.value.name y.value.name) (services_in p))

-- a service has an earlier one's SID
abbrev pub duplicate_sids : PartsRecord → List Refusal
duplicate_sids p =
    map (λ x. refusal DUPLICATE_SID (at_part key.Services key.Sid x.manifest x.item)) (repeated (λ x y. x.value.sid.0 == y.value.sid.0) (services_in p))

-- the interrupts of all manifests
abbrev pub irqs_in : PartsRecord → List (Located IrqRecord)
irqs_in p = located_from (λ m. m.irqs) 0 p.manifests

-- an interrupt source has an earlier one's name
abbrev pub duplicate_sources : PartsRecord → List Refusal
duplicate_sources p =
    map (λ x. refusal DUPLICATE_IRQ_SOURCE (at_part key.Irqs key.Source x.manifest x.item)) (repeated (λ x y. bytes_eq x.value.source y.value.source) (irqs_in p))

-- ---- dependencies

-- the dependencies of all manifests, repeats included
abbrev pub dependencies_in : PartsRecord → List (Located (List ℕ))
dependencies_in p = located_from (λ m. m.dependencies) 0 p.manifests

-- some service has the name
abbrev pub is_known : PartsRecord → List ℕ → Bool
is_known p name = list_any (λ v. bytes_eq v.value.name name) (services_in p)

-- a service of the k-th partition has the name
abbrev pub has_service : PartsRecord → ℕ → List ℕ → Bool
has_service p k name = list_any (λ v. (v.manifest == k) && bytes_eq v.value.name name) (services_in p)

-- no service has the name
abbrev pub unknown_dependencies : PartsRecord → List Refusal
unknown_dependencies p = map (λ d. refusal UNKNOWN_DEPENDENCY (at_item key.Dependencies d.manifest d.item)) (filter (λ d. not (is_known p d.value)) (dependencies_in p))

-- the service is the partition's own; it is a circle of one too, after this refusal
abbrev pub self_dependencies : PartsRecord → List Refusal
self_dependencies p = map (λ d. refusal SELF_DEPENDENCY (at_item key.Dependencies d.manifest d.item)) (filter (λ d. has_service p d.manifest d.value) (dependencies_in p))

-- the one partition depends on a service of the other
abbrev pub depends : PartsRecord → ℕ → ℕ → Bool
depends p k j = list_any (λ d. (d.manifest == k) && has_service p j d.value) (dependencies_in p)

-- the refusal stands at the first partition's dependencies, and tells the IDs
abbrev pub cycle_refusal : List ℕ → Refusal
cycle_refusal [] = refusal DEPENDENCY_CYCLE []
cycle_refusal (k ∷ ks) = record { code = DEPENDENCY_CYCLE; place = record { root = root.System; steps = at_attribute k key.Dependencies }; cycle = map (λ j. j + 1) (k ∷ ks) }

-- a refusal where there is a circle
abbrev pub cycle_refusals : Option (List ℕ) → List Refusal
cycle_refusals None = []
cycle_refusals (Some circle) = cycle_refusal circle ∷ []

-- partitions depend on each other in a circle; the first one counts
abbrev pub dependency_cycle : PartsRecord → List Refusal
dependency_cycle p = cycle_refusals (first_circle (length p.manifests) (depends p))

-- ---- limits

-- services and interrupts of a partition are more than its signals
abbrev pub too_many_signals : PartsRecord → List Refusal
too_many_signals p =
    map (λ (e : ℕ × ManifestRecord). refusal TOO_MANY_SIGNALS (at_manifest e.0))
    (filter (λ e. nat_lt MAX_SIGNALS (length e.1.services + length e.1.irqs)) (enumerate_from 0 p.manifests))

-- more manifests than a system may have partitions
abbrev pub too_many_partitions : PartsRecord → List Refusal
too_many_partitions p = only_if (nat_lt MAX_PARTITIONS (length p.manifests)) (refusal TOO_MANY_PARTITIONS (step.Key key.Manifests ∷ []))

-- the connections of all permitted pairs are more than 256
abbrev pub too_many_connections : PartsRecord → List Refusal
too_many_connections p = only_if (nat_lt MAX_CONNECTIONS (sum_by (λ b. b.count) (budgets_of p))) (refusal TOO_MANY_CONNECTIONS (step.Key key.Connections ∷ []))

-- an item of `connections` is for no permitted pair, or for one of a stateless service
abbrev pub budgets_without_permission : PartsRecord → List Refusal
budgets_without_permission p =
    map (λ e. refusal BUDGET_WITHOUT_PERMISSION (step.Key key.Connections ∷ step.Index e.0 ∷ []))
    (filter (λ e. not (list_any (λ pair. pair.connects && is_for pair e.1) (permitted p))) (enumerate_from 0 p.connections))

-- ---- memory

-- an MMIO item names no region of the system file
abbrev pub unknown_regions : PartsRecord → List Refusal
unknown_regions p = map (λ x. refusal REGION_UNKNOWN (at_item key.MmioRegions x.manifest x.item)) (unknown_items p)

-- an MMIO region shares a byte with RAM or an earlier MMIO region
abbrev pub overlapping_regions : PartsRecord → List Refusal
overlapping_regions p = map (λ x. refusal REGION_OVERLAP (at_item key.MmioRegions x.manifest x.item)) (overlaps p)

-- where the refusal for what is too large stands
abbrev pub place_of_large : TooLarge → List PathStep
place_of_large (partition_ram k) = at_attribute k key.StackSize
place_of_large (mmio_item k i) = at_item key.MmioRegions k i
place_of_large non_secure_ram = step.Key key.NonSecureRam ∷ []
place_of_large all_regions = step.Key key.Manifests ∷ []

-- a region, or all together, are too large
abbrev pub memory_too_large : PartsRecord → List Refusal
memory_too_large p = map (λ x. refusal MEMORY_TOO_LARGE (place_of_large x)) (too_large p)

-- ---- stateless services

-- a service states an index that an earlier one states
abbrev pub duplicate_indices : PartsRecord → List Refusal
duplicate_indices p =
    map (λ x. refusal DUPLICATE_STATELESS_INDEX (at_part key.Services key.StatelessHandle x.manifest x.item))
    (repeated (λ x y. not (y.value.stateless_handle == 0) && (x.value.stateless_handle == y.value.stateless_handle)) (services_in p))

-- more services without connections than there are indices
abbrev pub too_many_stateless : PartsRecord → List Refusal
too_many_stateless p = only_if (nat_lt MAX_STATELESS (count_by (λ x. not x.value.connection_based) (services_in p))) (refusal TOO_MANY_STATELESS (step.Key key.Manifests ∷ []))

-- ---- all rules

-- the refusals for all that is broken: by code, then by manifest, then by item, and clients last
abbrev pub broken : PartsRecord → List Refusal
broken p =
    duplicate_partitions p ++ (duplicate_services p ++ (duplicate_sids p
    ++ (unknown_dependencies p ++ (self_dependencies p ++ (dependency_cycle p
    ++ (too_many_signals p ++ (unknown_regions p ++ (overlapping_regions p
    ++ (too_many_partitions p ++ (too_many_connections p ++ (budgets_without_permission p
    ++ (duplicate_sources p ++ (memory_too_large p
    ++ (duplicate_indices p ++ too_many_stateless p))))))))))))))
