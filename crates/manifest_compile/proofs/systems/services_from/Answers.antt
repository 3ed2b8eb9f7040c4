use Rattle.std.proofs.Common.{◌+◌, ◌≤◌, ◌<◌, ◌∙◌, ap, arith, drop, length, map, subst, sym}
use Rattle.ffm_model.specs.Compiled.{index_for}
use Rattle.ffm_model.specs.ManifestItems.{ManifestRecord}
use Rattle.region_map.specs.Seen.{seen}
use Rattle.manifest_compile.proofs.IndexLemmas.{services_more}
use Rattle.manifest_compile.proofs.Lists.{image_at, below_image, images_from}
use Rattle.manifest_compile.proofs.PlaceLemmas.{HasPlace, place_of}
use Rattle.manifest_compile.proofs.systems.services_from.Goals as goal

pub bounds-manifests-at : goal.bounds-manifests-at
bounds-manifests-at c =
    let place : HasPlace c.args.manifests.now (seen c.at-item.result) =
    place_of c.args.manifests.now (map seen c.args.items.now) c.loop-at.at-index (seen c.at-item.result) c.requires.items (below_image seen c.args.items.now c.loop-at.at-index c.loop-at-test.true)
    (image_at seen c.args.items.now c.loop-at.at-index c.at-item.result c.loop-at-test.true c.at-item.is) in
    place.0

pub signals_of-signals-requires : goal.signals_of-signals-requires
signals_of-signals-requires c =
    let place : HasPlace c.args.manifests.now (seen c.at-item.result) =
    place_of c.args.manifests.now (map seen c.args.items.now) c.loop-at.at-index (seen c.at-item.result) c.requires.items (below_image seen c.args.items.now c.loop-at.at-index c.loop-at-test.true)
    (image_at seen c.args.items.now c.loop-at.at-index c.at-item.result c.loop-at-test.true c.at-item.is) in
    let Fits : ManifestRecord → Type 0 = λ m. length m.services + length m.irqs ≤ 28 in
    subst Fits (sym c.index-manifests-at.is) (c.requires.signals c.at-item.result.manifest c.index-manifests-at.result place.0)

pub service_of-requires : goal.service_of-requires
service_of-requires c =
    let m = c.index-manifests-at.result in
    let place : HasPlace c.args.manifests.now (seen c.at-item.result) =
    place_of c.args.manifests.now (map seen c.args.items.now) c.loop-at.at-index (seen c.at-item.result) c.requires.items (below_image seen c.args.items.now c.loop-at.at-index c.loop-at-test.true)
    (image_at seen c.args.items.now c.loop-at.at-index c.at-item.result c.loop-at-test.true c.at-item.is) in
    let Holds : ManifestRecord → Type 0 = λ n. c.at-item.result.item < length n.services in
    let below : c.at-item.result.item < length m.services = subst Holds (sym c.index-manifests-at.is) (place.1 m) in
    omega (arith, below, c.signals_of-signals.ensures.services)

pub loop-at-preserved : goal.loop-at-preserved
loop-at-preserved c =
    let x = seen c.at-item.result in
    services_more c.loop-at.services.items c.push.new.self.items _ c.loop-at.taken.items c.push-in-loop-at.new.self.items x (map seen (drop (c.loop-at.at-index + 1) c.args.items.now)) (map seen (drop c.loop-at.at-index c.args.items.now))
    c.index_for-index.result c.in_ok-service_of.field-0
    (images_from seen c.args.items.now c.loop-at.at-index c.at-item.result c.loop-at-test.true c.at-item.is)
    (c.index_for-index.ensures ∙ ap (λ taken. index_for taken x.value) c.as_slice.ensures.value)
    c.in_ok-service_of.ensures c.in_ok-push.ensures.items c.in_ok-push-2.ensures.items c.loop-at.invariant
