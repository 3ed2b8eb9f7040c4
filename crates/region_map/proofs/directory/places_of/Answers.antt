use Rattle.std.proofs.Common.{◌∙◌, ap, arith, nat_cmp}
use Rattle.std.specs.BTreeMap.{get_by}
use Rattle.std.specs.Cmp.Lexicographic.{slice_cmp}
use Rattle.std.proofs.lemmas.Map.Text.{text_keys}
use Rattle.ffm_model.specs.PartsItems.{RegionRecord}
use Rattle.region_map.proofs.DirectoryLemmas.{position_next, same_text}
use Rattle.region_map.proofs.directory.places_of.Goals as goal

pub loop-place-preserved : goal.loop-place-preserved
loop-place-preserved c = λ name.
    position_next _ _ c.index-regions-place.result c.as_str.result.now name (get_by (λ q. slice_cmp nat_cmp name q.now) c.loop-place.places) _ c.loop-place-test.true c.index-regions-place.is
    (c.as_str.ensures ∙ ap (λ (y : RegionRecord). y.name) c.region.view_is) (c.loop-place.invariant name)
    (grind (arith, text_keys, same_text c.as_str.result.now name))
