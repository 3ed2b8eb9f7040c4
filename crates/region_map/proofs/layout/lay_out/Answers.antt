use Rattle.std.proofs.Common.{List, ◌∙◌, ap, sym, map, option_map}
use Rattle.ffm_model.specs.declared.system.Region.{Region}
use Rattle.ffm_model.specs.ManifestItems.{ManifestRecord}
use Rattle.ffm_model.specs.PartsItems.{PartsRecord}
use Rattle.ffm_model.specs.Repeats.{first}
use Rattle.ffm_model.specs.Layout.{Located, located_from, overlaps, overlapping}
use Rattle.region_map.specs.Seen.{seen, spot}
use Rattle.region_map.specs.Placements.{located_of}
use Rattle.region_map.proofs.LayLemmas.{unknown_lays, unknown_same, placed_same, large_lays, none_first}
use Rattle.region_map.proofs.OverlapSteps.{front}
use Rattle.region_map.proofs.layout.lay_out.Goals as goal

pub returns-in_err-placed : goal.returns-in_err-placed
returns-in_err-placed c =
    let p = c.args.parts.now in
    let regions = c.in_ok-directory.ensures ∙ c.as_slice-2.ensures ∙ ap (λ (q : PartsRecord). q.regions) c.parts.view_is in
    let manifests = c.as_slice.ensures ∙ ap (λ (q : PartsRecord). q.manifests) c.parts.view_is in
    let items = ap (map seen) c.as_slice-4.ensures.value ∙ c.in_ok-items.ensures ∙ ap (λ (ms : List ManifestRecord). located_from (λ m. m.mmio) 0 ms) manifests in
    unknown_lays p _ c.from_residual-in_err-placed.result c.in_err-placed.field-0.0 (unknown_same p _ _ regions items) c.in_err-placed.ensures.unknown c.from_residual-in_err-placed.ensures.1

pub returns-in-Some-first_too_large : goal.returns-in-Some-first_too_large
returns-in-Some-first_too_large c =
    let p = c.args.parts.now in
    let regions = c.in_ok-directory.ensures ∙ c.as_slice-2.ensures ∙ ap (λ (q : PartsRecord). q.regions) c.parts.view_is in
    let manifests = c.as_slice.ensures ∙ ap (λ (q : PartsRecord). q.manifests) c.parts.view_is in
    let items = ap (map seen) c.as_slice-4.ensures.value ∙ c.in_ok-items.ensures ∙ ap (λ (ms : List ManifestRecord). located_from (λ m. m.mmio) 0 ms) manifests in
    let placed = ap (map located_of) c.as_slice-5.ensures.value ∙ c.in_ok-placed.ensures.placed ∙ placed_same p _ _ regions items in
    let apart = sym c.in_default.is ∙ c.in_ok-manifest.ensures ∙ ap (λ (xs : List (Located Region)). option_map spot (first (overlapping (front p) xs))) placed in
    large_lays p c.in-Some-first_too_large.error (sym (unknown_same p _ _ regions items) ∙ c.in_ok-placed.ensures.known) (none_first spot (overlaps p) apart) c.in-Some-first_too_large.ensures
