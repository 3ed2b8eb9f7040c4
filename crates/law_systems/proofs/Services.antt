-- The system's services, one for each service of a manifest, in order.
use Rattle.std.proofs.Common.{ℕ, ◌≡◌, ◌+◌, ◌*◌, ◌≤◌, true, false, not, Bool, ◌&&◌, ◌==◌, List, [], ◌∷◌, ◌++◌, map, flat_map, length, suc, refl, ap, ap₂, sym, ◌∙◌, arith, length-append}
use Rattle.std.specs.List.{AllByRecursion as Each, enumerate_from, list_all}
use Rattle.std.proofs.lemmas.List.{map-append, length-map}
use Rattle.std.proofs.lemmas.List.Folds.{list_all-map}
use Rattle.std.proofs.lemmas.Bool.{not_from_false}
use Rattle.law_lists.proofs.Lists.{map_nil}
use Rattle.ffm_model.specs.declared.system.Service.{Service}
use Rattle.ffm_model.specs.declared.system.Source.{Source}
use Rattle.ffm_model.specs.ManifestItems.{ManifestRecord, ServiceRecord}
use Rattle.ffm_model.specs.PartsItems.{PartsRecord}
use Rattle.ffm_model.specs.WellFormed.{each_pair, signal_fits, signals_fit}
use Rattle.ffm_model.specs.Layout.{Located, located_in, located_from}
use Rattle.ffm_model.specs.Permissions.{services_in}
use Rattle.ffm_model.specs.Compiled.{index_for, service_of, services_from, stated_indices, services_of, sources_of}
use Rattle.ffm_model.specs.Rules.{duplicate_sids, too_many_signals}
use Rattle.law_systems.proofs.Lists.{repeated_nil, pairs_test, pairs_map}
use Rattle.law_systems.proofs.Signals.{Few, few_signals, plain_service, services_of_manifest, signals_do_fit}

-- ---- all but the indices of services

-- a service without its index
abbrev pub bare : Service → Service
bare v = record v { stateless = 0 }

abbrev pub service_at : Located ServiceRecord → Service
service_at x = service_of 0 x

bare_from : (taken : List ℕ) (xs : List (Located ServiceRecord)) → map bare (services_from taken xs) ≡ map service_at xs
bare_from taken [] = refl
bare_from taken (x ∷ xs) = ap (λ vs. service_at x ∷ vs) (bare_from (index_for taken x.value ∷ taken) xs)

-- without indices the services are those of the manifests, one by one
pub services_are : (p : PartsRecord) → map bare (services_of p) ≡ map service_at (services_in p)
services_are p = bare_from (stated_indices p) (services_in p)

each_pair-map : {A B : Type 0} (f : A → B) (t : B → B → Bool) (xs : List A) → each_pair t (map f xs) ≡ each_pair (λ x y. t (f x) (f y)) xs
each_pair-map f t [] = refl
each_pair-map f t (x ∷ xs) = ap₂ (λ a b. a && b) (list_all-map (t (f x)) f xs) (each_pair-map f t xs)

-- ---- SIDs

pub sids_differ : (p : PartsRecord) → duplicate_sids p ≡ [] → each_pair (λ v w. not (v.sid.0 == w.sid.0)) (services_of p) ≡ true
sids_differ p rule =
    let test : Service → Service → Bool = λ v w. not (v.sid.0 == w.sid.0) in
    let differ : each_pair test (map service_at (services_in p)) ≡ true =
    pairs_test (λ v w. (v.sid.0 == w.sid.0) ≡ false) test (λ v w. not_from_false _) (map service_at (services_in p))
    (pairs_map (λ v w. (v.sid.0 == w.sid.0) ≡ false) service_at (services_in p)
    (repeated_nil (λ x y. x.value.sid.0 == y.value.sid.0) (services_in p) (map_nil _ _ rule))) in
    sym (each_pair-map bare test (services_of p)) ∙ ap (each_pair test) (services_are p) ∙ differ

-- ---- how many services there are

length-located_in : {A : Type 0} (k i : ℕ) (xs : List A) → length (located_in k i xs) ≡ length xs
length-located_in k i [] = refl
length-located_in k i (x ∷ xs) = ap suc (length-located_in k (i + 1) xs)

few_located : (k : ℕ) (ms : List ManifestRecord) → Each (λ e. Few e) (enumerate_from k ms) → length (located_from (λ m. m.services) k ms) ≤ 28 * length ms
few_located k [] few = omega arith
few_located k (m ∷ ms) few =
    let fit : length m.services + length m.irqs ≤ 28 = few.0 in
    let same : length (located_in k 0 m.services) ≡ length m.services = length-located_in k 0 m.services in
    let here : length (located_in k 0 m.services) ≤ 28 = omega (arith, same, fit) in
    let rest : length (located_from (λ m. m.services) (k + 1) ms) ≤ 28 * length ms = few_located (k + 1) ms few.1 in
    rw (length-append (located_in k 0 m.services) (located_from (λ m. m.services) (k + 1) ms)) (omega (arith, here, rest))

pub few_items : (p : PartsRecord) → too_many_signals p ≡ [] → length (services_in p) ≤ 28 * length p.manifests
few_items p rule = few_located 0 p.manifests (few_signals p rule)

pub few_services : (p : PartsRecord) → too_many_signals p ≡ [] → length (services_of p) ≤ 28 * length p.manifests
few_services p rule =
    let same : length (services_of p) ≡ length (services_in p) =
    sym (length-map (services_of p) bare) ∙ ap length (services_are p) ∙ length-map (services_in p) service_at in
    let few : length (services_in p) ≤ 28 * length p.manifests = few_items p rule in
    omega (arith, same, few)

-- ---- signals

of_manifest : (k i : ℕ) (xs : List ServiceRecord) → map (plain_service k) (enumerate_from i xs) ≡ map service_at (located_in k i xs)
of_manifest k i [] = refl
of_manifest k i (x ∷ xs) = ap (λ vs. plain_service k (i, x) ∷ vs) (of_manifest k (i + 1) xs)

of_manifests : (k : ℕ) (ms : List ManifestRecord) → flat_map services_of_manifest (enumerate_from k ms) ≡ map service_at (located_from (λ m. m.services) k ms)
of_manifests k [] = refl
of_manifests k (m ∷ ms) = ap₂ (λ vs ws. vs ++ ws) (of_manifest k 0 m.services) (of_manifests (k + 1) ms) ∙ sym (map-append service_at (located_in k 0 m.services) (located_from (λ m. m.services) (k + 1) ms))

-- signals fit whatever the indices are
bare_signals : (n : ℕ) (vs : List Service) (sources : List Source) → signals_fit n (map bare vs) sources ≡ signals_fit n vs sources
bare_signals n vs sources =
    let differ : Service → Service → Bool = λ v w. not ((v.owner == w.owner) && (v.signal == w.signal)) in
    let from : Service → Bool = λ v. list_all (λ (w : Source). not ((v.owner == w.owner) && (v.signal == w.signal))) sources in
    λ i. list_all-map (λ (v : Service). signal_fits n v.owner v.signal) bare vs i
    && list_all (λ (v : Source). signal_fits n v.owner v.signal) sources
    && each_pair-map bare differ vs i
    && each_pair (λ (v w : Source). not ((v.owner == w.owner) && (v.signal == w.signal))) sources
    && list_all-map from bare vs i

pub all_signals_fit : (p : PartsRecord) (n : ℕ) → n ≡ length p.manifests → too_many_signals p ≡ [] → signals_fit n (services_of p) (sources_of p) ≡ true
all_signals_fit p n counted rule =
    sym (bare_signals n (services_of p) (sources_of p))
    ∙ ap (λ vs. signals_fit n vs (sources_of p)) (services_are p ∙ sym (of_manifests 0 p.manifests))
    ∙ signals_do_fit p n counted rule
