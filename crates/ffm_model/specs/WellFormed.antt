-- When the parts of a system fit each other. It names no `System`, which keeps this fact.
-- Source: FF-M 1.0 and 1.1, manifests and isolation levels; the limits are this profile's.
use Rattle.std.specs.Prelude.{ℕ, ◌+◌, ◌^◌, ◌==◌, nat_lt, nat_le, Bool, true, false, not, ◌&&◌, ◌||◌, List, [], ◌∷◌, length, count_by, sum_by, slice_get}
use Rattle.std.specs.List.{list_any, list_all, enumerate_from, range_with_len}
use Rattle.std.specs.Option.{option_map_or}
use Rattle.ffm_model.specs.declared.constants.TheConstants.{MAX_STATELESS}
use Rattle.ffm_model.specs.declared.system.Region.{Region}
use Rattle.ffm_model.specs.declared.system.Class.{Class}
use Rattle.ffm_model.specs.declared.system.Class.TheVariants.{Ram, NonSecure, Mmio}
use Rattle.ffm_model.specs.declared.system.Partition.{Partition}
use Rattle.ffm_model.specs.declared.system.Service.{Service}
use Rattle.ffm_model.specs.declared.system.Source.{Source}
use Rattle.ffm_model.specs.declared.system.Budget.{Budget}

-- each pair of items, the earlier first, passes the test
abbrev pub each_pair : {T : Type 0} → (T → T → Bool) → List T → Bool
each_pair p [] = true
each_pair p (x ∷ xs) = list_all (p x) xs && each_pair p xs

-- RAM of that domain
abbrev pub is_ram_in : ℕ → Class → Bool
is_ram_in domain (Ram d) = d == domain
is_ram_in domain _ = false

-- RAM of some domain
abbrev pub is_ram : Class → Bool
is_ram (Ram d) = true
is_ram _ = false

-- the RAM of non-secure clients
abbrev pub is_nonsecure : Class → Bool
is_nonsecure NonSecure = true
is_nonsecure _ = false

-- an MMIO region's owner is one of the partitions
abbrev pub owner_below : ℕ → Class → Bool
owner_below n (Mmio owner writable) = nat_lt owner n
owner_below n _ = true

-- no address lies in both regions
abbrev pub apart : Region → Region → Bool
apart r q = (r.size == 0) || ((q.size == 0) || (nat_le (r.base + r.size) q.base || nat_le (q.base + q.size) r.base))

-- each partition has RAM of its domain, no two the same, and all RAM is some partition's
abbrev pub partitions_fit : List Partition → List Region → Bool
partitions_fit partitions regions =
    list_all (λ p. option_map_or (λ r. is_ram_in p.domain r.class) (slice_get regions p.ram) false) partitions
    && each_pair (λ p q. not (p.ram == q.ram)) partitions
    && list_all (λ e. not (is_ram e.1.class) || list_any (λ p. p.ram == e.0) partitions) (enumerate_from 0 regions)

-- one region is non-secure; each has at most 1 MiB and ends by 2 ^ 32, all together at most 16 MiB, and no two share a byte
abbrev pub regions_fit : ℕ → List Region → Bool
regions_fit n regions =
    (count_by (λ r. is_nonsecure r.class) regions == 1)
    && list_all (λ r. owner_below n r.class && nat_le r.size 1048576 && nat_le (r.base + r.size) 4294967296) regions
    && nat_le (sum_by (λ r. r.size) regions) 16777216
    && each_pair apart regions

-- one bit from 4 to 31
abbrev pub is_signal_bit : ℕ → Bool
is_signal_bit w = list_any (λ k. 2 ^ k == w) (range_with_len 4 28)

-- the owner is a partition, and the signal is one bit
abbrev pub signal_fits : ℕ → ℕ → ℕ → Bool
signal_fits n owner signal = nat_lt owner n && is_signal_bit signal

-- of one partition's services and sources no two have the same signal
abbrev pub signals_fit : ℕ → List Service → List Source → Bool
signals_fit n services sources =
    list_all (λ v. signal_fits n v.owner v.signal) services
    && list_all (λ v. signal_fits n v.owner v.signal) sources
    && each_pair (λ v w. not ((v.owner == w.owner) && (v.signal == w.signal))) services
    && each_pair (λ v w. not ((v.owner == w.owner) && (v.signal == w.signal))) sources
    && list_all (λ v. list_all (λ w. not ((v.owner == w.owner) && (v.signal == w.signal))) sources) services

-- actors come in order, and for each of them services in order
abbrev pub budget_before : Budget → Budget → Bool
budget_before b c = nat_lt b.client.0 c.client.0 || ((b.client.0 == c.client.0) && nat_lt b.service c.service)

-- a budget is a partition's or a client's, for a service of another partition; all counts together are at most 256
abbrev pub budgets_fit : ℕ → List Service → List Budget → Bool
budgets_fit actors services budgets =
    list_all (λ b. nat_lt b.client.0 actors && option_map_or (λ v. not (v.owner == b.client.0)) (slice_get services b.service) false) budgets
    && each_pair budget_before budgets
    && nat_le (sum_by (λ b. b.count) budgets) 256

-- the bytes of a partition's RAM
abbrev pub ram_size : List Region → Partition → ℕ
ram_size regions p = option_map_or (λ r. r.size) (slice_get regions p.ram) 0

-- a partition whose services are functions has a service, and 48 bytes of RAM for its messages
abbrev pub functions_fit : List Service → List Region → ℕ × Partition → Bool
functions_fit services regions e = not e.1.sfn || (list_any (λ v. v.owner == e.0) services && nat_le 48 (ram_size regions e.1))

-- functions have what they need, and each heap lies in its partition's RAM
abbrev pub models_fit : List Partition → List Service → List Region → Bool
models_fit partitions services regions =
    list_all (functions_fit services regions) (enumerate_from 0 partitions)
    && list_all (λ p. nat_le p.heap (ram_size regions p)) partitions

-- a pair of a stateless service has no connection
abbrev pub budget_is_fitting : List Service → Budget → Bool
budget_is_fitting services b = option_map_or (λ v. (v.stateless == 0) || (b.count == 0)) (slice_get services b.service) true

-- an index is at most 32, no two services share one, and no connection is declared to a service that has one
abbrev pub stateless_fit : List Service → List Budget → Bool
stateless_fit services budgets =
    list_all (λ v. nat_le v.stateless MAX_STATELESS) services
    && each_pair (λ v w. (v.stateless == 0) || not (v.stateless == w.stateless)) services
    && list_all (budget_is_fitting services) budgets

-- the level is 1 to 3, there are at most 32 partitions and 16 clients, and all parts fit each other
unfoldable pub is_well_formed : ℕ → List Partition → List Service → List Source → List Region → List (List ℕ) → List Budget → Bool
is_well_formed level partitions services sources regions clients budgets =
    (nat_le 1 level && nat_le level 3 && nat_le (length partitions) 32 && nat_le (length clients) 16)
    && models_fit partitions services regions
    && stateless_fit services budgets
    && partitions_fit partitions regions
    && regions_fit (length partitions) regions
    && signals_fit (length partitions) services sources
    && each_pair (λ v w. not (v.sid.0 == w.sid.0)) services
    && budgets_fit (length partitions + length clients) services budgets
