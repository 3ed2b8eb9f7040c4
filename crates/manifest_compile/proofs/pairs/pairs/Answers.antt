use Rattle.std.proofs.Common.{◌≡◌, ◌∙◌, length, map, ap}
use Rattle.ffm_model.specs.Layout.{located_from}
use Rattle.ffm_model.specs.PartsItems.{PartsRecord}
use Rattle.ffm_model.specs.Permissions.{services_in}
use Rattle.region_map.specs.Seen.{seen}
use Rattle.manifest_compile.specs.Pairs.{pair_seen}
use Rattle.manifest_compile.proofs.Lists.{short_image}
use Rattle.manifest_compile.proofs.PairLemmas.{services_few, all_pairs}
use Rattle.manifest_compile.proofs.pairs.pairs.Goals as goal

pub add_partitions-requires-clause-services : goal.add_partitions-requires-clause-services
add_partitions-requires-clause-services c =
    let all : map seen c.as_slice.result.now ≡ services_in c.args.parts.now =
    ap (map seen) c.as_slice.ensures.value ∙ c.in_ok-services.ensures ∙ ap (λ ms. located_from (λ m. m.services) 0 ms) c.as_slice-manifests.ensures ∙ ap services_in c.parts.view_is in
    short_image seen c.as_slice.result.now (services_in c.args.parts.now) 896 all (services_few c.args.parts.now c.requires.signals c.requires.partitions)

pub add_clients-requires-clause-services : goal.add_clients-requires-clause-services
add_clients-requires-clause-services c =
    let all : map seen c.as_slice-3.result.now ≡ services_in c.args.parts.now =
    ap (map seen) c.as_slice-3.ensures.value ∙ c.in_ok-services.ensures ∙ ap (λ ms. located_from (λ m. m.services) 0 ms) c.as_slice-manifests.ensures ∙ ap services_in c.parts.view_is in
    short_image seen c.as_slice-3.result.now (services_in c.args.parts.now) 896 all (services_few c.args.parts.now c.requires.signals c.requires.partitions)

pub returns : goal.returns
returns c =
    let located : map seen c.in_ok-services.services.items ≡ services_in c.args.parts.now =
    c.in_ok-services.ensures ∙ ap (λ ms. located_from (λ m. m.services) 0 ms) c.as_slice-manifests.ensures ∙ ap services_in c.parts.view_is in
    all_pairs c.args.parts.now (map seen c.as_slice.result.now) (map seen c.as_slice-3.result.now) c.as_slice-manifests.result.now c.as_slice-2.result.now (length c.as_slice-manifests.result.now)
    (map pair_seen c.new-found.result.items) (map pair_seen c.add_partitions.new.found.items) (map pair_seen c.add_clients.new.found.items)
    (ap (map seen) c.as_slice.ensures.value ∙ located) (ap (map seen) c.as_slice-3.ensures.value ∙ located)
    (c.as_slice-manifests.ensures ∙ ap (λ (p : PartsRecord). p.manifests) c.parts.view_is)
    (c.as_slice-2.ensures ∙ ap (λ (p : PartsRecord). p.clients) c.parts.view_is)
    (ap length c.as_slice-manifests.ensures ∙ ap (λ (p : PartsRecord). length p.manifests) c.parts.view_is)
    (ap (map pair_seen) c.new-found.ensures.items)
    c.in_ok-add_partitions.ensures
    c.in_ok-add_clients.ensures
