use Rattle.std.proofs.Common.{ℕ, List, Some, true, false, refl, ◌+◌, ◌∙◌, ap, sym}
use Rattle.std.specs.Prelude.{nat_lt, sum_by}
use Rattle.ffm_model.specs.declared.constants.TheConstants.{MAX_IMAGE_BYTES}
use Rattle.ffm_model.specs.ManifestItems.{ManifestRecord}
use Rattle.ffm_model.specs.PartsItems.{PartsRecord}
use Rattle.ffm_model.specs.Layout.{ram_needed, rounded}
use Rattle.region_map.specs.declared.place.Placed.{Placed}
use Rattle.region_map.proofs.SizeLemmas.{finds, told_some, told_none}
use Rattle.region_map.proofs.large.first_too_large.Goals as goal

pub returns-then-is_some : goal.returns-then-is_some
returns-then-is_some c =
    let manifests = c.as_slice-manifests.ensures ∙ ap (λ (q : PartsRecord). q.manifests) c.parts.view_is in
    let found = finds c.args.parts.now c.args.placed.now _ _ _ _ c.requires manifests c.first_large_ram.ensures c.first_large_item.ensures c.earlier_of-found.ensures in
    told_some _ _ _ found (sym c.is_some.ensures ∙ c.if-is_some.true)

pub returns-then-is_large : goal.returns-then-is_large
returns-then-is_large c =
    let manifests = c.as_slice-manifests.ensures ∙ ap (λ (q : PartsRecord). q.manifests) c.parts.view_is in
    let found = finds c.args.parts.now c.args.placed.now _ _ _ _ c.requires manifests c.first_large_ram.ensures c.first_large_item.ensures c.earlier_of-found.ensures in
    let non_secure = c.rounded-non_secure.ensures.size ∙ ap rounded (c.from.ensures ∙ ap (λ (q : PartsRecord). q.non_secure_ram) c.parts.view_is) in
    ap Some c.without_place.ensures ∙ told_none _ _ _ c.rounded-non_secure.result true _ found (sym c.is_some.ensures ∙ c.if-is_some.false) non_secure (sym c.is_large.ensures ∙ c.if-is_large.true) refl

pub returns-then-exceeds_image : goal.returns-then-exceeds_image
returns-then-exceeds_image c =
    let manifests = c.as_slice-manifests.ensures ∙ ap (λ (q : PartsRecord). q.manifests) c.parts.view_is in
    let found = finds c.args.parts.now c.args.placed.now _ _ _ _ c.requires manifests c.first_large_ram.ensures c.first_large_item.ensures c.earlier_of-found.ensures in
    let non_secure = c.rounded-non_secure.ensures.size ∙ ap rounded (c.from.ensures ∙ ap (λ (q : PartsRecord). q.non_secure_ram) c.parts.view_is) in
    let total = ap (λ (n : ℕ). nat_lt MAX_IMAGE_BYTES (n + c.rounded-non_secure.result + sum_by (λ (x : Placed). x.region.size) c.args.placed.now))
    (ap (λ (ms : List ManifestRecord). sum_by ram_needed ms) (sym manifests) ∙ sym c.ram_total.ensures.total) ∙ sym c.exceeds_image.ensures in
    ap Some c.without_place-then-exceeds_image.ensures ∙ told_none _ _ _ c.rounded-non_secure.result false true found (sym c.is_some.ensures ∙ c.if-is_some.false) non_secure (sym c.is_large.ensures ∙ c.if-is_large.false) (total ∙ c.if-exceeds_image.true)

pub returns : goal.returns
returns c =
    let manifests = c.as_slice-manifests.ensures ∙ ap (λ (q : PartsRecord). q.manifests) c.parts.view_is in
    let found = finds c.args.parts.now c.args.placed.now _ _ _ _ c.requires manifests c.first_large_ram.ensures c.first_large_item.ensures c.earlier_of-found.ensures in
    let non_secure = c.rounded-non_secure.ensures.size ∙ ap rounded (c.from.ensures ∙ ap (λ (q : PartsRecord). q.non_secure_ram) c.parts.view_is) in
    let total = ap (λ (n : ℕ). nat_lt MAX_IMAGE_BYTES (n + c.rounded-non_secure.result + sum_by (λ (x : Placed). x.region.size) c.args.placed.now))
    (ap (λ (ms : List ManifestRecord). sum_by ram_needed ms) (sym manifests) ∙ sym c.ram_total.ensures.total) ∙ sym c.exceeds_image.ensures in
    told_none _ _ _ c.rounded-non_secure.result false false found (sym c.is_some.ensures ∙ c.if-is_some.false) non_secure (sym c.is_large.ensures ∙ c.if-is_large.false) (total ∙ c.if-exceeds_image.false)
