use Rattle.std.proofs.Common.{◌≡◌, ◌&&◌, ◌||◌, ◌<◌, ◌≤◌, ◌+◌, ◌*◌, ℕ, List, map, length, subst, sym, ◌∙◌, ap, drop}
use Rattle.std.specs.Prelude.{◌==◌}
use Rattle.std.specs.List.{list_any, AllByRecursion as Each}
use Rattle.ffm_model.specs.Layout.{Located, located_from}
use Rattle.ffm_model.specs.PartsItems.{PartsRecord}
use Rattle.ffm_model.specs.Rules.{dependencies_in}
use Rattle.region_map.specs.Seen.{seen}
use Rattle.manifest_compile.specs.Owners.{is_owner, is_marked}
use Rattle.manifest_compile.proofs.GraphLemmas.{written, unmarked, few_manifests, all_below, owners_below, rows_fit, depends_by}
use Rattle.manifest_compile.proofs.dependencies.graph_of.Goals as goal

pub mark_dependencies-requires-clause-room : goal.mark_dependencies-requires-clause-room
mark_dependencies-requires-clause-room c =
    let all : map seen c.as_slice-2.result.now ≡ dependencies_in c.args.parts.now =
    ap (map seen) c.as_slice-2.ensures.value ∙ c.in_ok-dependencies.ensures ∙ ap (λ ms. located_from (λ m. m.dependencies) 0 ms) c.as_slice.ensures ∙ ap dependencies_in c.parts.view_is in
    let long : length c.as_mut_slice.result.now ≡ length c.args.parts.now.manifests * 256 =
    c.as_mut_slice.ensures.len ∙ c.in_ok-marks.ensures.len ∙ ap (λ n. n * 256) (c.len.ensures ∙ ap (λ (p : PartsRecord). length p.manifests) c.parts.view_is) in
    let P : List (Located (List ℕ)) → Type 0 = Each (λ d. d.manifest * 256 + 256 ≤ length c.as_mut_slice.result.now) in
    subst P (sym all) (rows_fit (λ m. m.dependencies) c.args.parts.now.manifests (length c.as_mut_slice.result.now) long)

pub mark_dependencies-requires-clause-from : goal.mark_dependencies-requires-clause-from
mark_dependencies-requires-clause-from c =
    let all : map seen c.as_slice-2.result.now ≡ dependencies_in c.args.parts.now =
    ap (map seen) c.as_slice-2.ensures.value ∙ c.in_ok-dependencies.ensures ∙ ap (λ ms. located_from (λ m. m.dependencies) 0 ms) c.as_slice.ensures ∙ ap dependencies_in c.parts.view_is in
    let P : List (Located (List ℕ)) → Type 0 = Each (λ d. d.manifest < 256) in
    subst P (sym all) (all_below (λ m. m.dependencies) c.args.parts.now.manifests (few_manifests _ _ c.parts.view_is c.parts.invariant.manifest_count))

pub mark_dependencies-requires-clause-owners : goal.mark_dependencies-requires-clause-owners
mark_dependencies-requires-clause-owners c =
    owners_below c.args.owners.now c.args.parts.now (few_manifests _ _ c.parts.view_is c.parts.invariant.manifest_count) c.requires

pub returns : goal.returns
returns c =
    let all : map seen c.as_slice-2.result.now ≡ dependencies_in c.args.parts.now =
    ap (map seen) c.as_slice-2.ensures.value ∙ c.in_ok-dependencies.ensures ∙ ap (λ ms. located_from (λ m. m.dependencies) 0 ms) c.as_slice.ensures ∙ ap dependencies_in c.parts.view_is in
    λ k j.
    let t = λ (d : Located (List ℕ)). (d.manifest == k) && is_owner c.args.owners.now j d.value in
    ap (λ ms. is_marked ms k j) (written c.mark_dependencies.new.marks (drop (length c.mark_dependencies.new.marks) c.in_ok-marks.marks.items) c.in_ok-marks.marks.len (c.mark_dependencies.auto.marks ∙ c.as_mut_slice.ensures.len))
    ∙ c.mark_dependencies.ensures k j
    ∙ ap (λ b. b || list_any t (map seen c.as_slice-2.result.now)) (unmarked c.as_mut_slice.result.now (c.len.result * 256) k j (c.as_mut_slice.ensures.value ∙ c.in_ok-marks.ensures.items_if_clones_equal (λ y e. e)))
    ∙ ap (list_any t) all
    ∙ depends_by c.args.owners.now c.args.parts.now c.requires k j
