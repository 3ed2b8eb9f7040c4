use Rattle.std.proofs.Common.{List, ◌∙◌, ap, sym, take, refl, option_map}
use Rattle.std.specs.Prelude.{sum_by}
use Rattle.ffm_model.specs.ManifestItems.{ManifestRecord}
use Rattle.ffm_model.specs.PartsItems.{PartsRecord}
use Rattle.ffm_model.specs.Layout.{ram_needed, rounded}
use Rattle.region_map.specs.Seen.{spot}
use Rattle.region_map.proofs.Earlier.{holds_more}
use Rattle.region_map.proofs.OverlapSteps.{front, regions_in, more_regions, meets_front, misses_front, overlap_step, overlap_found}
use Rattle.region_map.proofs.overlap.first_overlap.Goals as goal

pub returns-then-meets_any : goal.returns-then-meets_any
returns-then-meets_any c =
    let x = c.at-item.result in
    let p = c.args.parts.now in
    let ram = c.ram_total-ram.ensures.total ∙ ap (λ (ms : List ManifestRecord). sum_by ram_needed ms) (c.as_slice.ensures ∙ ap (λ (q : PartsRecord). q.manifests) c.parts.view_is) in
    let others = c.rounded-non_secure.ensures.size ∙ ap rounded (c.from.ensures ∙ ap (λ (q : PartsRecord). q.non_secure_ram) c.parts.view_is) in
    let hit = meets_front p c.ram_total-ram.result c.rounded-non_secure.result c.loop-at.earlier (regions_in (take c.loop-at.at-index c.args.placed.now)) x.region c.loop-at.invariant.1 x.filled.0 ram others (c.if-meets_any.ensures.hit refl) in
    sym (ap (option_map spot) (sym c.loop-at.invariant.0 ∙ overlap_found (front p) c.args.placed.now c.loop-at.at-index x c.loop-at-test.true c.at-item.is hit))

pub loop-at-preserved : goal.loop-at-preserved
loop-at-preserved c =
    let x = c.at-item.result in
    let p = c.args.parts.now in
    let ram = c.ram_total-ram.ensures.total ∙ ap (λ (ms : List ManifestRecord). sum_by ram_needed ms) (c.as_slice.ensures ∙ ap (λ (q : PartsRecord). q.manifests) c.parts.view_is) in
    let others = c.rounded-non_secure.ensures.size ∙ ap rounded (c.from.ensures ∙ ap (λ (q : PartsRecord). q.non_secure_ram) c.parts.view_is) in
    let miss = c.if-meets_any.ensures.miss refl in
    let none = misses_front p c.ram_total-ram.result c.rounded-non_secure.result c.loop-at.earlier (regions_in (take c.loop-at.at-index c.args.placed.now)) x.region c.loop-at.invariant.1 x.filled.0 ram others miss.0 miss.1 in (
      overlap_step (front p) c.args.placed.now c.loop-at.at-index x c.loop-at-test.true c.at-item.is none ∙ c.loop-at.invariant.0,
      rw (more_regions c.args.placed.now c.loop-at.at-index x c.loop-at-test.true c.at-item.is)
          (holds_more c.loop-at.earlier c.insert.new.self (regions_in (take c.loop-at.at-index c.args.placed.now)) x.region c.loop-at.invariant.1 x.filled.0 miss.1 c.in_ok-insert.ensures.updates),
    )
