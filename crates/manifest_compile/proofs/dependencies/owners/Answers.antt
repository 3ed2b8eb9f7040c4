use Rattle.std.proofs.Common.{◌≡◌, ◌<◌, sym, ◌∙◌, ap, get_or, cond, map, length, Some, take}
use Rattle.std.proofs.lemmas.List.{take_all}
use Rattle.std.specs.Str.{bytes_eq}
use Rattle.std.proofs.lemmas.Map.Text.{btree_map_updates_str}
use Rattle.ffm_model.specs.Layout.{Located, located_from}
use Rattle.ffm_model.specs.Permissions.{services_in}
use Rattle.ffm_model.specs.ManifestItems.{ServiceRecord}
use Rattle.region_map.specs.Seen.{seen}
use Rattle.manifest_compile.specs.Owners.{owner_of}
use Rattle.manifest_compile.proofs.Lists.{image_at, below_image, image_past}
use Rattle.manifest_compile.proofs.OwnerLemmas.{owners_more, owns_all, last_owner}
use Rattle.manifest_compile.proofs.dependencies.owners.Goals as goal

pub loop-at-preserved : goal.loop-at-preserved
loop-at-preserved c =
    let xs = map seen c.deref-at-items.result.now in
    let i = c.loop-at.at-index in
    let x = seen c.at-item.result in
    let below : i < length xs = below_image seen c.deref-at-items.result.now i c.loop-at-test.true in
    let here : get_or xs i x ≡ x = image_at seen c.deref-at-items.result.now i c.at-item.result c.loop-at-test.true c.at-item.is in
    λ name. owners_more name xs i x (owner_of c.loop-at.owners name) (owner_of c.insert.new.self name) below
    (btree_map_updates_str c.name.result.now c.loop-at.owners c.insert.new.self _ c.in_ok-insert.ensures.updates name
    ∙ ap (λ n. cond (bytes_eq n name) (Some x.manifest) (owner_of c.loop-at.owners name)) c.name.ensures
    ∙ ap (λ (y : Located ServiceRecord). cond (bytes_eq y.value.name name) (Some y.manifest) (owner_of c.loop-at.owners name)) (sym here))
    (c.loop-at.invariant name)

pub returns : goal.returns
returns c =
    let xs = map seen c.deref-at-items.result.now in
    let all : take c.loop-at.at-index xs ≡ services_in c.args.parts.now =
    take_all c.loop-at.at-index xs (image_past seen c.deref-at-items.result.now c.loop-at.at-index c.loop-at-test.false)
    ∙ ap (map seen) c.deref-at-items.ensures.value
    ∙ c.in_ok-services.ensures
    ∙ ap (λ ms. located_from (λ m. m.services) 0 ms) c.as_slice.ensures
    ∙ ap services_in c.parts.view_is in
    owns_all c.loop-at.owners c.args.parts.now c.requires (λ name. c.loop-at.invariant name ∙ ap (last_owner name) all)
