use Rattle.std.proofs.Common.{◌≡◌, List, ℕ, sym, ◌∙◌, ap, subst, Bool, false}
use Rattle.std.specs.Prelude.{Option, Some, None}
use Rattle.ffm_model.specs.Circles.{is_circle}
use Rattle.dependency_circle.specs.Ways.{IsNext}
use Rattle.dependency_circle.proofs.Lists.{kept, smaller, none}
use Rattle.dependency_circle.proofs.FirstLemmas.{answer_is}
use Rattle.dependency_circle.proofs.circle.first_circle.Goals as goal

next_at : (n : ℕ) (edge : ℕ → ℕ → Bool) (at front : List ℕ) (o r : Option ℕ) → at ≡ front → o ≡ r → IsNext n edge at o → IsNext n edge front r
next_at n edge at front o r e f h =
    let P : List ℕ → Type 0 = λ x. IsNext n edge x r in
    let Q : Option ℕ → Type 0 = λ x. IsNext n edge at x in
    subst P e (subst Q f h)

pub returns-in_default : goal.returns-in_default
returns-in_default g c =
    let n = c.args.count in
    let edge = g.G.Graph.edge c.args.graph.now in
    let no_circle : (d : List ℕ) → is_circle n edge d ≡ false =
    none n edge c.steps.front.items (ap (is_circle n edge) (sym c.as_slice.ensures.value) ∙ sym c.steps-test.ensures) c.steps.invariant.1
    (next_at n edge _ _ _ _ c.as_slice-in-steps.ensures.value c.in_default.is c.in_ok-next.ensures) in
    record { first = no_circle; computed = answer_is n edge None no_circle }

pub steps-smaller : goal.steps-smaller
steps-smaller g c =
    let n = c.args.count in
    let edge = g.G.Graph.edge c.args.graph.now in
    smaller n edge c.steps.front.items c.push.new.self.items c.in-Some.next
    (next_at n edge _ _ _ _ c.as_slice-in-steps.ensures.value c.in-Some.is c.in_ok-next.ensures) c.in_ok-push.ensures.items

pub steps-preserved : goal.steps-preserved
steps-preserved g c =
    let n = c.args.count in
    let edge = g.G.Graph.edge c.args.graph.now in
    kept n edge c.steps.front.items c.push.new.self.items c.in-Some.next (ap (is_circle n edge) (sym c.as_slice.ensures.value) ∙ sym c.steps-test.ensures)
    c.steps.invariant.0 (next_at n edge _ _ _ _ c.as_slice-in-steps.ensures.value c.in-Some.is c.in_ok-next.ensures) c.in_ok-push.ensures.items

pub returns-clause-computed : goal.returns-clause-computed
returns-clause-computed g c =
    let n = c.args.count in
    let edge = g.G.Graph.edge c.args.graph.now in
    answer_is n edge (Some c.steps.front.items) (record {
      circle = ap (is_circle n edge) (sym c.as_slice.ensures.value) ∙ sym c.is_circle.ensures ∙ c.steps-test.false;
      least = c.steps.invariant.0;
    })
