use Rattle.std.proofs.Common.{◌≡◌, ◌<◌, ◌≤◌, ◌+◌, ◌*◌, ◌&&◌, ◌||◌, ℕ, List, sym, ◌∙◌, ap, get_or, map, length, subst}
use Rattle.std.specs.Prelude.{◌==◌}
use Rattle.ffm_model.specs.Layout.{Located}
use Rattle.region_map.specs.Seen.{seen}
use Rattle.manifest_compile.specs.Owners.{is_owner, is_marked}
use Rattle.manifest_compile.proofs.GraphLemmas.{each_at, marks_more}
use Rattle.manifest_compile.proofs.Lists.{image_at, below_image}
use Rattle.manifest_compile.proofs.dependencies.mark_dependencies.Goals as goal

pub mark_dependency-requires-clause-from : goal.mark_dependency-requires-clause-from
mark_dependency-requires-clause-from c =
    let xs = map seen c.args.dependencies.now in
    let i = c.loop-at.at-index in
    let x = seen c.at-item.result in
    let below : i < length xs = below_image seen c.args.dependencies.now i c.loop-at-test.true in
    let here : get_or xs i x ≡ x = image_at seen c.args.dependencies.now i c.at-item.result c.loop-at-test.true c.at-item.is in
    let P : Located (List ℕ) → Type 0 = λ d. d.manifest < 256 in
    subst P here (each_at P xs i x c.requires.from below)

pub mark_dependency-requires-clause-room : goal.mark_dependency-requires-clause-room
mark_dependency-requires-clause-room c =
    let xs = map seen c.args.dependencies.now in
    let i = c.loop-at.at-index in
    let x = seen c.at-item.result in
    let below : i < length xs = below_image seen c.args.dependencies.now i c.loop-at-test.true in
    let here : get_or xs i x ≡ x = image_at seen c.args.dependencies.now i c.at-item.result c.loop-at-test.true c.at-item.is in
    let P : Located (List ℕ) → Type 0 = λ d. d.manifest * 256 + 256 ≤ length c.args.marks.now in
    let fits : P x = subst P here (each_at P xs i x c.requires.room below) in
    rw c.loop-at.auto.marks fits

pub loop-at-preserved : goal.loop-at-preserved
loop-at-preserved c =
    let xs = map seen c.args.dependencies.now in
    let i = c.loop-at.at-index in
    let x = seen c.at-item.result in
    let below : i < length xs = below_image seen c.args.dependencies.now i c.loop-at-test.true in
    let here : get_or xs i x ≡ x = image_at seen c.args.dependencies.now i c.at-item.result c.loop-at-test.true c.at-item.is in
    λ k j.
    let t = λ (d : Located (List ℕ)). (d.manifest == k) && is_owner c.args.owners.now j d.value in
    marks_more t xs i x (is_marked c.args.marks.now k j) (is_marked c.loop-at.marks k j) (is_marked c.mark_dependency.new.marks k j) below
    (c.mark_dependency.ensures k j ∙ ap (λ d. is_marked c.loop-at.marks k j || t d) (sym here))
    (c.loop-at.invariant k j)
