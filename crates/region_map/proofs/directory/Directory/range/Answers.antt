use Rattle.std.proofs.Common.{ℕ, List, Some, ap, ◌∙◌, sym}
use Rattle.std.specs.Prelude.{find, option_map}
use Rattle.std.specs.Str.{bytes_eq}
use Rattle.ffm_model.specs.ManifestItems.{MmioRecord}
use Rattle.ffm_model.specs.PartsItems.{RegionRecord}
use Rattle.ffm_model.specs.Layout.{range_named}
use Rattle.region_map.proofs.directory.Directory.range.Goals as goal

pub returns-in-Some-clause-named : goal.returns-in-Some-clause-named
returns-in-Some-clause-named c =
    let regions = c.args.self.now.regions.now in
    let pair : RegionRecord → ℕ × ℕ = λ r. (r.base, r.size) in
    ap (λ (r : RegionRecord). Some (pair r)) c.region.view_is
    ∙ ap (option_map pair) c.in-Some.ensures
    ∙ ap (λ (t : List ℕ). option_map pair (find (λ r. bytes_eq r.name t) regions)) c.as_str.ensures
    ∙ ap (range_named regions) (sym c.in-Named.is ∙ ap (λ (y : MmioRecord). y.location) c.item.view_is)
