use Rattle.std.proofs.Common.{◌≤◌, ◌∙◌, ap, length, option_map, Some, subst, sym, List, ℕ, All, ◌<◌}
use Rattle.ffm_model.specs.PartsItems.{PartsRecord}
use Rattle.ffm_model.specs.Rules.{cycle_refusal, dependency_cycle}
use Rattle.manifest_compile.specs.Owners.{is_marked}
use Rattle.manifest_compile.proofs.CycleLemmas.{found_below, keeps_one, cycle_is}
use Rattle.manifest_compile.proofs.dependencies.dependencies_end.Goals as goal

pub refused_cycle-requires-clause-numbers : goal.refused_cycle-requires-clause-numbers
refused_cycle-requires-clause-numbers c =
    let few : c.len.result ≤ 256 = rw c.len.ensures c.parts.invariant.manifest_count in
    let P : List ℕ → Type 0 = All (λ k. k < 256) in
    subst P (sym c.as_slice.ensures.value)
    (found_below c.len.result (is_marked c.in_ok-graph.graph.marks.items) (option_map (λ v. v.items) c.in_ok-circle.field-0) c.in-Some.circle.items few c.in_ok-circle.ensures.first
    (ap (option_map (λ v. v.items)) c.in-Some.is))

pub returns-in-Some : goal.returns-in-Some
returns-in-Some c =
    keeps_one c.refused_cycle.result (cycle_refusal c.as_slice.result.now) (dependency_cycle c.args.parts.now) c.refused_cycle.ensures
    (cycle_is c.args.parts.now (is_marked c.in_ok-graph.graph.marks.items) c.len.result (option_map (λ v. v.items) c.in_ok-circle.field-0) c.as_slice.result.now c.in_ok-graph.ensures
    (c.len.ensures ∙ ap (λ (p : PartsRecord). length p.manifests) c.parts.view_is) c.in_ok-circle.ensures.computed
    (ap (option_map (λ v. v.items)) c.in-Some.is ∙ ap Some (sym c.as_slice.ensures.value)))
