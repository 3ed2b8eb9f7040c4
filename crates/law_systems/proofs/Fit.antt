-- Where no rule is broken, the parts fit each other and make a system.
use Rattle.std.proofs.Common.{ℕ, ◌≡◌, ◌+◌, ◌*◌, ◌^◌, ◌≤◌, true, List, [], ◌∷◌, ◌++◌, ◌==◌, ◌&&◌, map, length, Ok, Err, IsOkAnd, refl, ap, ap₂, sym, arith, nat_lt, le-leb, lt-ltb, ltb-false}
use Rattle.std.specs.List.{AllByRecursion as Each}
use Rattle.std.proofs.lemmas.Bool.{and_from}
use Rattle.law_lists.proofs.Lists.{append_nil, AllByRecursion-weaker}
use Rattle.ffm_model.specs.declared.place.Refusal.{Refusal}
use Rattle.ffm_model.specs.declared.system.System.{System}
use Rattle.ffm_model.specs.declared.system.Partition.{Partition}
use Rattle.ffm_model.specs.declared.system.Service.{Service}
use Rattle.ffm_model.specs.declared.system.Source.{Source}
use Rattle.ffm_model.specs.declared.system.Region.{Region}
use Rattle.ffm_model.specs.declared.system.Budget.{Budget}
use Rattle.ffm_model.specs.ManifestItems.{IsService}
use Rattle.ffm_model.specs.PartsItems.{PartsRecord, IsParts}
use Rattle.ffm_model.specs.Parts.{are_numbered, do_fit, system_from, parts_of_system}
use Rattle.ffm_model.specs.WellFormed.{is_well_formed}
use Rattle.ffm_model.specs.Compiled.{system_parts, partitions_of, services_of, sources_of, compiled, compiled_by}
use Rattle.ffm_model.specs.Layout.{regions_laid_out}
use Rattle.ffm_model.specs.Permissions.{services_in, budgets_of}
use Rattle.ffm_model.specs.Reading.{refused}
use Rattle.ffm_model.proofs.PartsLemmas.{system_of_parts, system_with}
use Rattle.ffm_model.specs.Rules.{broken, duplicate_partitions, duplicate_sids, unknown_dependencies, self_dependencies, dependency_cycle, too_many_signals, unknown_regions, overlapping_regions, too_many_partitions, too_many_connections, budgets_without_permission, duplicate_sources, memory_too_large, duplicate_indices, too_many_stateless}
use Rattle.law_systems.proofs.Lists.{four, eight}
use Rattle.law_systems.proofs.Models.{models_do_fit}
use Rattle.law_systems.proofs.Stateless.{items_right, stateless_do_fit}
use Rattle.law_systems.proofs.Enough.{all_have_indices}
use Rattle.law_systems.proofs.Partitions.{length_partitions, partitions_do_fit}
use Rattle.law_systems.proofs.Regions.{regions_do_fit, few_regions}
use Rattle.law_systems.proofs.Services.{sids_differ, few_services, all_signals_fit}
use Rattle.law_systems.proofs.Budgets.{budgets_do_fit}
use Rattle.ffm_model.proofs.RuleLemmas.{only_if_nil}

-- the rules on which the parts' fitting rests
record Kept (p : PartsRecord) : Type 0 where
  sids : duplicate_sids p ≡ []
  others : self_dependencies p ≡ []
  signals : too_many_signals p ≡ []
  apart : overlapping_regions p ≡ []
  partitions : too_many_partitions p ≡ []
  connections : too_many_connections p ≡ []
  memory : memory_too_large p ≡ []
  indices : duplicate_indices p ≡ []
  stateless : too_many_stateless p ≡ []

pub after : {A : Type 0} (xs ys : List A) → xs ++ ys ≡ [] → ys ≡ []
after xs ys e = (append_nil xs ys e).1

before : {A : Type 0} (xs ys : List A) → xs ++ ys ≡ [] → xs ≡ []
before xs ys e = (append_nil xs ys e).0

kept : (p : PartsRecord) → broken p ≡ [] → Kept p
kept p e =
    let from_sids = after _ _ (after (duplicate_partitions p) _ e) in
    let from_unknown = after (duplicate_sids p) _ from_sids in
    let from_self = after (unknown_dependencies p) _ from_unknown in
    let from_cycle = after (self_dependencies p) _ from_self in
    let from_signals = after (dependency_cycle p) _ from_cycle in
    let from_regions = after (too_many_signals p) _ from_signals in
    let from_overlaps = after (unknown_regions p) _ from_regions in
    let from_partitions = after (overlapping_regions p) _ from_overlaps in
    let from_connections = after (too_many_partitions p) _ from_partitions in
    let from_permissions = after (too_many_connections p) _ from_connections in
    let from_sources = after (budgets_without_permission p) _ from_permissions in
    let from_memory = after (duplicate_sources p) _ from_sources in
    let from_indices = after (memory_too_large p) _ from_memory in
    record {
      sids = before (duplicate_sids p) _ from_sids;
      others = before (self_dependencies p) _ from_self;
      signals = before (too_many_signals p) _ from_signals;
      apart = before (overlapping_regions p) _ from_overlaps;
      partitions = before (too_many_partitions p) _ from_partitions;
      connections = before (too_many_connections p) _ from_connections;
      memory = before (memory_too_large p) _ from_memory;
      indices = before (duplicate_indices p) (too_many_stateless p) from_indices;
      stateless = after (duplicate_indices p) (too_many_stateless p) from_indices;
    }

few_partitions : (p : PartsRecord) → too_many_partitions p ≡ [] → length p.manifests ≤ 32
few_partitions p rule = ltb-false _ _ (only_if_nil _ _ rule)

pub parts_fit : (p : PartsRecord) → IsParts p → broken p ≡ [] → do_fit (system_parts p) ≡ true
unfolding is_well_formed
parts_fit p parts none =
    let rules : Kept p = kept p none in
    let few : length p.manifests ≤ 32 = few_partitions p rules.partitions in
    let counted : length (partitions_of p) ≡ length p.manifests = sym (length_partitions p) in
    eight _ _ _ _ _ _ _ _
    (four _ _ _ _ (le-leb _ _ parts.level) (le-leb _ _ parts.level_end) (le-leb (length (partitions_of p)) 32 (omega arith)) (le-leb _ _ parts.client_count))
    (models_do_fit p parts)
    (stateless_do_fit p parts rules.indices)
    (partitions_do_fit p parts rules.memory)
    (regions_do_fit p (length (partitions_of p)) counted parts few rules.apart rules.memory)
    (all_signals_fit p (length (partitions_of p)) counted rules.signals)
    (sids_differ p rules.sids)
    (budgets_do_fit p (length (partitions_of p)) counted rules.others rules.connections)

pub parts_are_numbered : (p : PartsRecord) → IsParts p → broken p ≡ [] → are_numbered (system_parts p) ≡ true
parts_are_numbered p parts none =
    let rules : Kept p = kept p none in
    let few : length p.manifests ≤ 32 = few_partitions p rules.partitions in
    let services : length (services_of p) ≤ 28 * length p.manifests = few_services p rules.signals in
    let regions : length (regions_laid_out p) ≤ length p.manifests + 1 + 16777216 = few_regions p parts rules.memory in
    and_from _ _ (lt-ltb (length (services_of p)) (2 ^ 31) (omega arith)) (lt-ltb (length (regions_laid_out p)) (2 ^ 31) (omega arith))

pub stateless_have_indices : (p : PartsRecord) → IsParts p → broken p ≡ [] → map (λ v. v.stateless == 0) (services_of p) ≡ map (λ x. x.value.connection_based) (services_in p)
stateless_have_indices p parts none =
    let rules : Kept p = kept p none in
    let stated : Each (λ x. x.value.connection_based ≡ true → x.value.stateless_handle ≡ 0) (services_in p) =
    AllByRecursion-weaker (λ x. IsService x.value) (λ x. x.value.connection_based ≡ true → x.value.stateless_handle ≡ 0) (λ x v. v.unstated) (services_in p) (items_right p.manifests parts.manifests) in
    all_have_indices p stated rules.stateless

-- the same of lists that are the parts' fields
pub lists_fit : (p : PartsRecord) (level : ℕ) (partitions : List Partition) (services : List Service) (sources : List Source) (regions : List Region) (clients : List (List ℕ)) (budgets : List Budget)
    → IsParts p → broken p ≡ []
    → level ≡ p.level → partitions ≡ partitions_of p → services ≡ services_of p → sources ≡ sources_of p → regions ≡ regions_laid_out p → clients ≡ p.clients → budgets ≡ budgets_of p
    → is_well_formed level partitions services sources regions clients budgets ≡ true
lists_fit p level partitions services sources regions clients budgets parts none a b c d e f g = rw (a, b, c, d, e, f, g) (parts_fit p parts none)

pub lists_are_numbered : (p : PartsRecord) (services : List Service) (regions : List Region) → IsParts p → broken p ≡ [] → services ≡ services_of p → regions ≡ regions_laid_out p
    → (nat_lt (length services) (2 ^ 31) && nat_lt (length regions) (2 ^ 31)) ≡ true
lists_are_numbered p services regions parts none e f = rw (e, f) (parts_are_numbered p parts none)

-- ---- the system

-- a system of these parts is what the system file gives
pub compiled_is : (p : PartsRecord) (s : System) → broken p ≡ [] → parts_of_system s ≡ system_parts p → compiled p ≡ Ok s
unfolding compiled
compiled_is p s none same = ap₂ compiled_by none (system_of_parts s (system_parts p) same)

pub compiles : (p : PartsRecord) → IsParts p → broken p ≡ [] → IsOkAnd (compiled p) (λ s. parts_of_system s ≡ system_parts p)
compiles p parts none =
    rw (compiled_is p (system_with (system_parts p) (parts_are_numbered p parts none) (parts_fit p parts none)) none refl) refl

-- else it gives the first refusal
pub refuses : (p : PartsRecord) (r : Refusal) (rs : List Refusal) → broken p ≡ r ∷ rs → compiled p ≡ Err (refused r)
unfolding compiled
refuses p r rs e = ap (λ (rules : List Refusal). compiled_by rules (system_from (system_parts p))) e
