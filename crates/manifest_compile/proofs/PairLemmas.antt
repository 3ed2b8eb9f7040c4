-- Permitted pairs of one actor, service by service.
use Rattle.std.proofs.Common.{ℕ, ◌≡◌, ◌*◌, ◌≤◌, List, [], ◌++◌, length, refl, ◌∙◌, arith, ltb-false}
use Rattle.std.specs.List.{enumerate_from, flat_map}
use Rattle.ffm_model.specs.Layout.{Located}
use Rattle.ffm_model.specs.ManifestItems.{ManifestRecord, ServiceRecord}
use Rattle.ffm_model.specs.PartsItems.{PartsRecord}
use Rattle.ffm_model.specs.Permissions.{Permitted, services_in, permitted, permitted_to_partition, permitted_to_client}
use Rattle.ffm_model.specs.Rules.{too_many_signals, too_many_partitions}
use Rattle.law_systems.proofs.Services.{few_items}
use Rattle.ffm_model.proofs.RuleLemmas.{only_if_nil}

-- ---- how many services there are

pub services_few : (p : PartsRecord) → too_many_signals p ≡ [] → too_many_partitions p ≡ [] → length (services_in p) ≤ 896
services_few p signals partitions =
    let few : length p.manifests ≤ 32 = ltb-false _ _ (only_if_nil _ _ partitions) in
    let all : length (services_in p) ≤ 28 * length p.manifests = few_items p signals in
    omega arith

-- ---- all pairs

-- the pairs of partitions, and then those of clients
pub all_pairs : (p : PartsRecord) (services services_2 : List (Located ServiceRecord)) (ms : List ManifestRecord) (clients : List (List ℕ)) (n : ℕ) (start some all : List Permitted)
    → services ≡ services_in p → services_2 ≡ services_in p → ms ≡ p.manifests → clients ≡ p.clients → n ≡ length p.manifests → start ≡ []
    → some ≡ start ++ flat_map (permitted_to_partition services) (enumerate_from 0 ms)
    → all ≡ some ++ flat_map (permitted_to_client services_2) (enumerate_from n clients)
    → all ≡ permitted p
all_pairs p services services_2 ms clients n start some all a b c d e f g h = h ∙ rw (g, f, a, b, c, d, e) refl
