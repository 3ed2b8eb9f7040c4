use Rattle.std.proofs.Common.{ℕ, ◌<◌, sym, ◌∙◌, subst}
use Rattle.std.specs.Prelude.{Option, IfSome}
use Rattle.ffm_model.specs.Contexts.{DeskView}
use Rattle.ns_contexts.proofs.DeskLemmas.{pick-none, none-pick, first-within}
use Rattle.ns_contexts.proofs.desk.Desk.pick.Goals as goal

pub returns-clause-none : goal.returns-clause-none
returns-clause-none c = rw (← c.self.view_is) (
    let desk : DeskView = record { count = c.self.inside.count; turn = c.self.inside.turn } in
    let inside = c.self.invariant.within in
    ((λ e. pick-none desk c.args.ended inside (sym c.first_from.ensures ∙ e)), (λ h. c.first_from.ensures ∙ none-pick desk c.args.ended inside h)))

pub returns-clause-within : goal.returns-clause-within
returns-clause-within c = rw (← c.self.view_is) (
    let count = c.self.inside.count in
    subst (λ (o : Option ℕ). IfSome o (λ k. k < count)) (sym c.first_from.ensures)
    (first-within count c.args.ended count c.self.inside.turn c.self.invariant.within))
