-- What a system keeps, part by part.
use Rattle.std.proofs.Common.{◌≡◌, ◌≤◌, ◌+◌, ◌==◌, ◌&&◌, Bool, true, false, not, length, arith}
use Rattle.std.specs.Prelude.{nat_le, nat_lt, slice_get, sum_by}
use Rattle.std.specs.List.{list_all}
use Rattle.std.specs.Option.{option_map_or}
use Rattle.std.proofs.lemmas.Bool.{and_parts}
use Rattle.std.proofs.lemmas.Bool.Decides.{nat_tests}
use Rattle.ffm_model.specs.declared.system.Budget.{Budget}
use Rattle.ffm_model.specs.declared.system.System.{System}
use Rattle.ffm_model.specs.WellFormed.{is_well_formed, each_pair, models_fit, stateless_fit, partitions_fit, regions_fit, signal_fits, signals_fit, budget_before, budgets_fit}

left : (a b : Bool) → (a && b) ≡ true → a ≡ true
left a b h = (and_parts a b h).0

right : (a b : Bool) → (a && b) ≡ true → b ≡ true
right a b h = (and_parts a b h).1

-- ---- the parts, from the last to the first: each stands left of those that were named

pub budgets_hold : (s : System) → budgets_fit (length s.partitions + length s.clients) s.services s.budgets ≡ true
unfolding is_well_formed
budgets_hold s = right _ _ s.well_formed

-- no two services have one SID
pub sids_differ : (s : System) → each_pair (λ v w. not (v.sid.0 == w.sid.0)) s.services ≡ true
unfolding is_well_formed
sids_differ s = right _ _ (left _ _ s.well_formed)

pub signals_hold : (s : System) → signals_fit (length s.partitions) s.services s.sources ≡ true
unfolding is_well_formed
signals_hold s = right _ _ (left _ _ (left _ _ s.well_formed))

pub regions_hold : (s : System) → regions_fit (length s.partitions) s.regions ≡ true
unfolding is_well_formed
regions_hold s = right _ _ (left _ _ (left _ _ (left _ _ s.well_formed)))

pub partitions_hold : (s : System) → partitions_fit s.partitions s.regions ≡ true
unfolding is_well_formed
partitions_hold s = right _ _ (left _ _ (left _ _ (left _ _ (left _ _ s.well_formed))))

pub stateless_hold : (s : System) → stateless_fit s.services s.budgets ≡ true
unfolding is_well_formed
stateless_hold s = right _ _ (left _ _ (left _ _ (left _ _ (left _ _ (left _ _ s.well_formed)))))

pub models_hold : (s : System) → models_fit s.partitions s.services s.regions ≡ true
unfolding is_well_formed
models_hold s = right _ _ (left _ _ (left _ _ (left _ _ (left _ _ (left _ _ (left _ _ s.well_formed))))))

pub limits_hold : (s : System) → (nat_le 1 s.level && nat_le s.level 3 && nat_le (length s.partitions) 32 && nat_le (length s.clients) 16) ≡ true
unfolding is_well_formed
limits_hold s = left _ _ (left _ _ (left _ _ (left _ _ (left _ _ (left _ _ (left _ _ s.well_formed))))))

-- ---- signals

pub service_signals_hold : (s : System) → list_all (λ v. signal_fits (length s.partitions) v.owner v.signal) s.services ≡ true
service_signals_hold s = left _ _ (left _ _ (left _ _ (left _ _ (signals_hold s))))

pub source_signals_hold : (s : System) → list_all (λ v. signal_fits (length s.partitions) v.owner v.signal) s.sources ≡ true
source_signals_hold s = right _ _ (left _ _ (left _ _ (left _ _ (signals_hold s))))

pub sources_differ : (s : System) → each_pair (λ v w. not ((v.owner == w.owner) && (v.signal == w.signal))) s.sources ≡ true
sources_differ s = right _ _ (left _ _ (signals_hold s))

-- ---- budgets

-- its client is a partition or a client, and its service another partition's
abbrev pub is_between_actors : System → Budget → Bool
is_between_actors s b = nat_lt b.client.0 (length s.partitions + length s.clients) && option_map_or (λ v. not (v.owner == b.client.0)) (slice_get s.services b.service) false

pub budgets_between_actors : (s : System) → list_all (is_between_actors s) s.budgets ≡ true
budgets_between_actors s = left _ _ (left _ _ (budgets_hold s))

pub budgets_in_order : (s : System) → each_pair budget_before s.budgets ≡ true
budgets_in_order s = right _ _ (left _ _ (budgets_hold s))

-- a system declares at most 256 connections
pub few_connections : (s : System) → sum_by (λ b. b.count) s.budgets ≤ 256
few_connections s =
    let test = nat_le (sum_by (λ b. b.count) s.budgets) 256 in
    let h : test ≡ true = right (list_all (is_between_actors s) s.budgets && each_pair budget_before s.budgets) test (budgets_hold s) in
    grind (arith, nat_tests)
