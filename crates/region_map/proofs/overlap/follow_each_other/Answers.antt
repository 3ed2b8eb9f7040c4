use Rattle.std.proofs.Common.{List, ◌≡◌, ◌≤◌, ◌∙◌, ap, arith, map, sym, take, false}
use Rattle.std.specs.Prelude.{sum_by}
use Rattle.std.proofs.lemmas.Bool.{or_from}
use Rattle.std.proofs.lemmas.List.{append-nil}
use Rattle.ffm_model.specs.ManifestItems.{ManifestRecord}
use Rattle.ffm_model.specs.PartsItems.{PartsRecord}
use Rattle.ffm_model.specs.Layout.{overlapping, ram_needed, rounded}
use Rattle.ffm_model.specs.Repeats.{first}
use Rattle.region_map.specs.Overlaps.{meets_ram}
use Rattle.region_map.specs.Placements.{located_of}
use Rattle.region_map.proofs.OverlapSteps.{front, regions_in, misses_all, more_regions, one_after, overlap_step}
use Rattle.region_map.proofs.overlap.follow_each_other.Goals as goal

pub loop-at-init : goal.loop-at-init
loop-at-init c = (ap (λ t. first (overlapping t (map located_of c.args.placed.now))) (append-nil (front c.args.parts.now)), tt)

pub loop-at-preserved : goal.loop-at-preserved
loop-at-preserved c =
    let x = c.at-item.result in
    let p = c.args.parts.now in
    let placed = c.args.placed.now in
    let ram = c.ram_total-ram.ensures.total ∙ ap (λ (ms : List ManifestRecord). sum_by ram_needed ms) (c.as_slice.ensures ∙ ap (λ (q : PartsRecord). q.manifests) c.parts.view_is) in
    let others = c.rounded-non_secure.ensures.size ∙ ap rounded (c.from.ensures ∙ ap (λ (q : PartsRecord). q.non_secure_ram) c.parts.view_is) in
    let miss : meets_ram c.ram_total-ram.result c.rounded-non_secure.result x.region ≡ false =
    or_from _ _ (sym c.meets.ensures ∙ c.if-meets.false) (sym c.meets-else-meets.ensures ∙ c.if-meets-2.false) in
    let behind : c.loop-at.end ≤ x.region.base = omega (arith, c.if-from-end.false, c.from-in-loop-at.ensures) in
    let none = misses_all p c.ram_total-ram.result c.rounded-non_secure.result c.loop-at.end (regions_in (take c.loop-at.at-index placed)) x.region x.filled.0 ram others miss c.loop-at.invariant.1 behind in (
      overlap_step (front p) placed c.loop-at.at-index x c.loop-at-test.true c.at-item.is none ∙ c.loop-at.invariant.0,
      rw (c.from-in-loop-at-2.ensures, c.from-in-loop-at-3.ensures, more_regions placed c.loop-at.at-index x c.loop-at-test.true c.at-item.is)
          (one_after c.loop-at.end (regions_in (take c.loop-at.at-index placed)) x.region c.loop-at.invariant.1 behind),
    )
