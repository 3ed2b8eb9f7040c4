-- The parts of a system, where no rule is broken.
use Rattle.std.proofs.Common.{ℕ, ◌≡◌, ◌≤◌, ◌+◌, List, [], ◌∷◌, Option, Some, Err, length, map, flat_map, All, ap, sym, ◌∙◌, subst}
use Rattle.std.specs.List.{enumerate_from}
use Rattle.law_lists.proofs.Lists.{append_nil}
use Rattle.ffm_model.specs.declared.system.Budget.{Budget}
use Rattle.ffm_model.specs.declared.system.Partition.{Partition}
use Rattle.ffm_model.specs.declared.system.Region.{Region}
use Rattle.ffm_model.specs.declared.system.Service.{Service}
use Rattle.ffm_model.specs.declared.system.Source.{Source}
use Rattle.ffm_model.specs.Compiled.{partition_of, partitions_of, services_of, sources_of, sources_of_manifest, system_parts, compiled, compiled_by}
use Rattle.ffm_model.specs.Layout.{regions_laid_out}
use Rattle.ffm_model.specs.ManifestItems.{ManifestRecord}
use Rattle.ffm_model.specs.Parts.{SystemParts, system_from}
use Rattle.ffm_model.specs.PartsItems.{PartsRecord}
use Rattle.ffm_model.specs.Permissions.{budgets_of}
use Rattle.ffm_model.specs.Reading.{refused}
use Rattle.ffm_model.specs.Repeats.{first}
use Rattle.ffm_model.specs.declared.place.Refusal.{Refusal}
use Rattle.ffm_model.specs.declared.system.System.{System}
use Rattle.ffm_model.specs.Rules.{broken, duplicate_partitions, duplicate_services, duplicate_sids, unknown_dependencies, self_dependencies, dependency_cycle, too_many_signals}
use Rattle.law_systems.proofs.Fit.{after}
use Rattle.law_systems.proofs.Numbered.{each_unnumbered}
use Rattle.law_systems.proofs.Signals.{few_signals}
use Rattle.manifest_compile.proofs.GraphLemmas.{each_at}

signals_are_few : (p : PartsRecord) → broken p ≡ [] → too_many_signals p ≡ []
signals_are_few p none =
    (append_nil (too_many_signals p) _
    (after (dependency_cycle p) _ (after (self_dependencies p) _ (after (unknown_dependencies p) _ (after (duplicate_sids p) _ (after (duplicate_services p) _ (after (duplicate_partitions p) _ none))))))).0

-- each manifest's services and interrupts have signals
pub signals_fit : (p : PartsRecord) (ms : List ManifestRecord) → broken p ≡ [] → ms ≡ p.manifests → All (λ m. length m.services + length m.irqs ≤ 28) ms
signals_fit p ms none e =
    let Fits : ManifestRecord → Type 0 = λ m. length m.services + length m.irqs ≤ 28 in
    let P : List ManifestRecord → Type 0 = All Fits in
    subst P (sym e) (λ k d below. each_at Fits p.manifests k d (each_unnumbered Fits 0 p.manifests (few_signals p (signals_are_few p none))) below)

pub partitions_are : (p : PartsRecord) (level : ℕ) (ms : List ManifestRecord) (partitions : List Partition) → level ≡ p.level → ms ≡ p.manifests
    → partitions ≡ map (partition_of level) (enumerate_from 0 ms) → partitions ≡ partitions_of p
partitions_are p level ms partitions l m e = e ∙ (λ i. map (partition_of (l i)) (enumerate_from 0 (m i)))

pub sources_are : (p : PartsRecord) (ms : List ManifestRecord) (sources : List Source) → ms ≡ p.manifests
    → sources ≡ flat_map sources_of_manifest (enumerate_from 0 ms) → sources ≡ sources_of p
sources_are p ms sources m e = e ∙ ap (λ ms. flat_map sources_of_manifest (enumerate_from 0 ms)) m

abbrev pub parts_with : ℕ → List Partition → List Service → List Source → List Region → List (List ℕ) → List Budget → SystemParts
parts_with level partitions services sources regions clients budgets =
    record { level = level; partitions = partitions; services = services; sources = sources; regions = regions; clients = clients; budgets = budgets }

pub same_parts : (p : PartsRecord) (level : ℕ) (partitions : List Partition) (services : List Service) (sources : List Source) (regions : List Region) (clients : List (List ℕ)) (budgets : List Budget)
    → level ≡ p.level → partitions ≡ partitions_of p → services ≡ services_of p → sources ≡ sources_of p → regions ≡ regions_laid_out p → clients ≡ p.clients → budgets ≡ budgets_of p
    → parts_with level partitions services sources regions clients budgets ≡ system_parts p
same_parts p level partitions services sources regions clients budgets a b c d e f g =
    λ i. record { level = a i; partitions = b i; services = c i; sources = d i; regions = e i; clients = f i; budgets = g i }

-- ---- what is compiled

refused_by : (rules : List Refusal) (s : Option System) (r : Refusal) → first rules ≡ Some r → compiled_by rules s ≡ Err (refused r)
refused_by [] s r e = cc
refused_by (x ∷ rules) s r e = let same : x ≡ r = cc in ap (λ y. Err (refused y)) same

pub refused_first : (p : PartsRecord) (r : Refusal) → first (broken p) ≡ Some r → compiled p ≡ Err (refused r)
unfolding compiled
refused_first p r e = refused_by (broken p) (system_from (system_parts p)) r e
