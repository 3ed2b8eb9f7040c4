use Rattle.std.proofs.Common.{◌≡◌, ◌≤◌, ◌+◌, ◌∙◌, ◌<◌, ap, cond, get_or, length, map, sym, take}
use Rattle.region_map.specs.Seen.{seen}
use Rattle.manifest_compile.proofs.IndexLemmas.{stateless_in, stateless_more}
use Rattle.manifest_compile.proofs.Lists.{image_at, below_image}
use Rattle.manifest_compile.proofs.indices.are_too_many.Goals.{then-is_stateless, else-is_stateless}
use Rattle.manifest_compile.proofs.indices.are_too_many.Goals as goal

pub loop-at-preserved : goal.loop-at-preserved
loop-at-preserved c =
    let xs = map seen c.args.services.now in
    let i = c.loop-at.at-index in
    let old = c.loop-at.stateless in
    let x = seen c.at-item.result in
    let below : i < length xs = below_image seen c.args.services.now i c.loop-at-test.true in
    let here : get_or xs i x ≡ x = image_at seen c.args.services.now i c.at-item.result c.loop-at-test.true c.at-item.is in
    let step : c.if-is_stateless.stateless ≡ cond c.is_stateless.result (old + 1) old =
    elim c.if-is_stateless.branch [
      | then-is_stateless w ↦ w.stateless-is ∙ ap (λ b. cond b (old + 1) old) (sym w.if-is_stateless.true)
      | else-is_stateless w ↦ w.stateless-is ∙ ap (λ b. cond b (old + 1) old) (sym w.if-is_stateless.false)
    ] in
    let more : (c.if-is_stateless.stateless ≡ stateless_in (take (i + 1) xs)) × (c.if-is_stateless.stateless ≤ i + 1) =
    stateless_more xs i x old c.if-is_stateless.stateless c.is_stateless.result below here c.is_stateless.ensures c.loop-at.invariant.counted c.loop-at.invariant.few step in
    record { counted = more.0; few = more.1 }
