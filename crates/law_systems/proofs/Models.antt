-- A partition whose services are functions has a service, and each partition's stack and heap lie in its RAM.
use Rattle.std.proofs.Common.{ℕ, ◌≡◌, ◌+◌, ◌<◌, ◌≤◌, Bool, true, false, not, ◌&&◌, ◌||◌, ◌==◌, List, [], ◌∷◌, ◌++◌, map, length, slice_get, refl, ap, ◌∙◌, arith, append_assoc, subst, eq-eqb, le-leb, length-append}
use Rattle.std.specs.Prelude.{nat_le}
use Rattle.std.specs.List.{AllByRecursion as Each, enumerate_from, list_any}
use Rattle.std.specs.Option.{option_map_or}
use Rattle.std.proofs.lemmas.Bool.{or_left, and_from}
use Rattle.ffm_model.specs.declared.constants.TheConstants.{RAM_BASE}
use Rattle.ffm_model.specs.declared.system.Class.TheVariants.{Ram}
use Rattle.ffm_model.specs.declared.system.Partition.{Partition}
use Rattle.ffm_model.specs.declared.system.Region.{Region}
use Rattle.ffm_model.specs.declared.system.Service.{Service}
use Rattle.ffm_model.specs.ManifestItems.{ManifestRecord, ServiceRecord, IsManifest}
use Rattle.ffm_model.specs.PartsItems.{PartsRecord, IsParts}
use Rattle.ffm_model.specs.WellFormed.{ram_size, functions_fit, models_fit}
use Rattle.ffm_model.specs.Layout.{Located, located_in, located_from, ram_needed, domain_at, rams_from, non_secure_of, mmio_of, regions_laid_out}
use Rattle.ffm_model.specs.Permissions.{services_in}
use Rattle.ffm_model.specs.Compiled.{index_for, services_from, stated_indices, services_of, partition_of, partitions_of}
use Rattle.law_systems.proofs.Lists.{all_from}
use Rattle.law_systems.proofs.Numbered.{each_unnumbered}
use Rattle.law_lists.proofs.Tests.{list_any-left, list_any-right}
use Rattle.law_lists.proofs.Lists.{slice_get-after, AllByRecursion-weaker}
use Rattle.ffm_model.proofs.RuleLemmas.{rounded_up}

-- ---- services of a partition

has_one : (k i : ℕ) (xs : List ServiceRecord) → 0 < length xs → list_any (λ x. x.manifest == k) (located_in k i xs) ≡ true
has_one k i [] some = absurd (omega arith)
has_one k i (x ∷ xs) some = or_left _ _ (eq-eqb k k refl)

-- what the manifest of a partition with functions has
owners_in : (k : ℕ) (ms : List ManifestRecord) → Each IsManifest ms → Each (λ e. e.1.sfn ≡ true → list_any (λ x. x.manifest == e.0) (located_from (λ m. m.services) k ms) ≡ true) (enumerate_from k ms)
owners_in k [] h = tt
owners_in k (m ∷ ms) h =
    let here : List (Located ServiceRecord) = located_in k 0 m.services in
    let rest : List (Located ServiceRecord) = located_from (λ m. m.services) (k + 1) ms in (
      λ functions. list_any-left (λ x. x.manifest == k) here rest (has_one k 0 m.services (h.0.has_service functions)),
      AllByRecursion-weaker (λ e. e.1.sfn ≡ true → list_any (λ x. x.manifest == e.0) (located_from (λ m. m.services) (k + 1) ms) ≡ true)
          (λ e. e.1.sfn ≡ true → list_any (λ x. x.manifest == e.0) (located_from (λ m. m.services) k (m ∷ ms)) ≡ true)
          (λ e owned functions. list_any-right (λ x. x.manifest == e.0) here rest (owned functions)) (enumerate_from (k + 1) ms) (owners_in (k + 1) ms h.1),
    )

same_owners : (k : ℕ) (taken : List ℕ) (xs : List (Located ServiceRecord)) → list_any (λ v. v.owner == k) (services_from taken xs) ≡ list_any (λ x. x.manifest == k) xs
same_owners k taken [] = refl
same_owners k taken (x ∷ xs) = ap (λ b. (x.manifest == k) || b) (same_owners k (index_for taken x.value ∷ taken) xs)

abbrev Owned : List Service → ℕ × ManifestRecord → Type 0
Owned services e = e.1.sfn ≡ true → list_any (λ v. v.owner == e.0) services ≡ true

all_owned : (p : PartsRecord) → IsParts p → Each (Owned (services_of p)) (enumerate_from 0 p.manifests)
all_owned p parts =
    AllByRecursion-weaker (λ e. e.1.sfn ≡ true → list_any (λ x. x.manifest == e.0) (services_in p) ≡ true) (Owned (services_of p))
    (λ e owned functions. same_owners e.0 (stated_indices p) (services_in p) ∙ owned functions) (enumerate_from 0 p.manifests) (owners_in 0 p.manifests parts.manifests)

-- ---- RAM of a partition

stack_in_ram : (m : ManifestRecord) → 48 ≤ m.stack_size → 48 ≤ ram_needed m
stack_in_ram m h = let up : m.stack_size + m.heap_size ≤ ram_needed m = rounded_up (m.stack_size + m.heap_size) in omega arith

heap_in_ram : (m : ManifestRecord) → m.heap_size ≤ ram_needed m
heap_in_ram m = let up : m.stack_size + m.heap_size ≤ ram_needed m = rounded_up (m.stack_size + m.heap_size) in omega arith

functions_by : (sfn owned : Bool) (bytes size : ℕ) → bytes ≡ size → (sfn ≡ true → owned ≡ true) → (sfn ≡ true → 48 ≤ size) → (not sfn || (owned && nat_le 48 bytes)) ≡ true
functions_by false owned bytes size e h k = refl
functions_by true owned bytes size e h k = and_from _ _ (h refl) (let l : 48 ≤ size = k refl in le-leb 48 bytes (omega (arith, e, l)))

abbrev Fits : List Service → List Region → ℕ × Partition → Type 0
Fits services regions e = (functions_fit services regions e ≡ true) × (nat_le e.1.heap (ram_size regions e.1) ≡ true)

-- the k-th partition and those after it, whose RAM is after the regions in front
fit_from : (services : List Service) (level k base : ℕ) (ms : List ManifestRecord) (front rest : List Region) → length front ≡ k → Each IsManifest ms → Each (Owned services) (enumerate_from k ms)
    → Each (Fits services (front ++ (rams_from level k base ms ++ rest))) (enumerate_from k (map (partition_of level) (enumerate_from k ms)))
fit_from services level k base [] front rest e h owned = tt
fit_from services level k base (m ∷ ms) front rest e h owned =
    let ram : Region = record { base = base; size = ram_needed m; class = Ram (domain_at level m.rot (k + 1)) } in
    let behind = rams_from level (k + 1) (base + ram_needed m) ms ++ rest in
    let bytes : option_map_or (λ (r : Region). r.size) (slice_get (front ++ ram ∷ behind) k) 0 ≡ ram_needed m = ap (λ o. option_map_or (λ (r : Region). r.size) o 0) (slice_get-after front ram behind k e) in
    let heap : m.heap_size ≤ ram_needed m = heap_in_ram m in (
      (
        functions_by m.sfn _ _ (ram_needed m) bytes owned.0 (λ functions. stack_in_ram m (h.0.stack_size functions)),
        le-leb m.heap_size _ (omega (arith, bytes, heap)),
      ),
      subst (λ (regions : List Region). Each (Fits services regions) (enumerate_from (k + 1) (map (partition_of level) (enumerate_from (k + 1) ms)))) (append_assoc front (ram ∷ []) behind)
          (fit_from services level (k + 1) (base + ram_needed m) ms (front ++ ram ∷ []) rest (let l = length-append front (ram ∷ []) in omega arith) h.1 owned.1),
    )

pub models_do_fit : (p : PartsRecord) → IsParts p → models_fit (partitions_of p) (services_of p) (regions_laid_out p) ≡ true
models_do_fit p parts =
    let all : Each (Fits (services_of p) (regions_laid_out p)) (enumerate_from 0 (partitions_of p)) =
    fit_from (services_of p) p.level 0 RAM_BASE p.manifests [] (non_secure_of p ∷ map (λ x. x.value) (mmio_of p)) refl parts.manifests (all_owned p parts) in
    and_from _ _ (all_from (Fits (services_of p) (regions_laid_out p)) (functions_fit (services_of p) (regions_laid_out p)) (λ e h. h.0) (enumerate_from 0 (partitions_of p)) all)
    (all_from (λ q. nat_le q.heap (ram_size (regions_laid_out p) q) ≡ true) (λ q. nat_le q.heap (ram_size (regions_laid_out p) q)) (λ q h. h) (partitions_of p)
    (each_unnumbered (λ q. nat_le q.heap (ram_size (regions_laid_out p) q) ≡ true) 0 (partitions_of p)
    (AllByRecursion-weaker (Fits (services_of p) (regions_laid_out p)) (λ e. nat_le e.1.heap (ram_size (regions_laid_out p) e.1) ≡ true) (λ e h. h.1) (enumerate_from 0 (partitions_of p)) all)))
