use Rattle.std.proofs.Common.{◌≡◌, ◌<◌, ◌+◌, length, arith, ◌∙◌, rules}
use Rattle.std.specs.Prelude.{None, Some}
use Rattle.std.proofs.lemmas.Grind.{common_steps}
use Rattle.ffm_model.specs.Actors.{actor_count}
use Rattle.spm_tables.specs.TablesView.{spm_of}
use Rattle.spm_core.specs.Manager.{refusal_at}
use Rattle.spm_core.proofs.Made.{IsCalled}
use Rattle.spm_core.proofs.Kept.{IsFree, free, keeps-next, made-next, may-kept, premises-kept, reach-next, refusal-kept, refused-answers, takes-kept}
use Rattle.spm_core.proofs.spm.Spm.step.Goals as goal

pub returns-in-Some-clause-answer : goal.returns-in-Some-clause-answer
returns-in-Some-clause-answer c =
    let due : refusal_at c.self.inside.system c.self.inside.limit (length c.self.inside.history.items) (spm_of c.self.inside.tables) c.args.actor.0 ≡ Some c.in-Some.answer = search rules in
    rw (← c.self.view_is) (refused-answers _ _ _ _ _ c.args.actor.0 c.args.call c.in-Some.answer c.self.invariant due)

pub perform-outcome-requires-clause-may : goal.perform-outcome-requires-clause-may
perform-outcome-requires-clause-may c =
    let below : c.args.actor.0 < actor_count c.self.inside.system = rw (← c.self.view_is) at c.requires.exists in
    let none : refusal_at c.self.inside.system c.self.inside.limit (length c.self.inside.history.items) (spm_of c.self.inside.tables) c.args.actor.0 ≡ None = search rules in
    may-kept _ _ _ _ _ c.args.actor.0 c.args.call c.self.invariant below (rw (← c.self.view_is) at c.requires.due) none

pub perform-outcome-requires-clause-premises : goal.perform-outcome-requires-clause-premises
perform-outcome-requires-clause-premises c = premises-kept _ _ _ _ _ c.self.invariant

pub perform-outcome-requires-clause-takes : goal.perform-outcome-requires-clause-takes
perform-outcome-requires-clause-takes c = takes-kept _ _ _ _ _ c.self.invariant

pub invariant_of-self : goal.invariant_of-self
invariant_of-self c =
    let below : c.args.actor.0 < actor_count c.self.inside.system = rw (← c.self.view_is) at c.requires.exists in
    let none : refusal_at c.self.inside.system c.self.inside.limit (length c.self.inside.history.items) (spm_of c.self.inside.tables) c.args.actor.0 ≡ None = search rules in
    let left : IsFree c.self.inside.system c.self.inside.limit (length c.self.inside.history.items) (spm_of c.self.inside.tables) c.args.actor.0 = free _ _ _ _ _ none in
    let called : IsCalled c.self.inside.system c.self.inside.tables c.self.inside.memory c.args.actor.0 c.args.call c.perform-outcome.result c.perform-outcome.new.tables c.perform-outcome.new.image = record {
      may = may-kept _ _ _ _ _ c.args.actor.0 c.args.call c.self.invariant below (rw (← c.self.view_is) at c.requires.due) none;
      does = c.perform-outcome.ensures.does;
      shown = c.perform-outcome.ensures.shown;
      names = c.perform-outcome.ensures.names;
    } in
    rw c.push_reserved.ensures.items
    (keeps-next _ _ _ _ _ _ _ _ _ _ _ c.self.invariant called c.perform-outcome.ensures.regions c.perform-outcome.ensures.shape left.room c.push_reserved.ensures.capacity)

pub returns-clause-answer : goal.returns-clause-answer
returns-clause-answer c =
    let below : c.args.actor.0 < actor_count c.self.inside.system = rw (← c.self.view_is) at c.requires.exists in
    let none : refusal_at c.self.inside.system c.self.inside.limit (length c.self.inside.history.items) (spm_of c.self.inside.tables) c.args.actor.0 ≡ None = search rules in
    let called : IsCalled c.self.inside.system c.self.inside.tables c.self.inside.memory c.args.actor.0 c.args.call c.perform-outcome.result c.perform-outcome.new.tables c.perform-outcome.new.image = record {
      may = may-kept _ _ _ _ _ c.args.actor.0 c.args.call c.self.invariant below (rw (← c.self.view_is) at c.requires.due) none;
      does = c.perform-outcome.ensures.does;
      shown = c.perform-outcome.ensures.shown;
      names = c.perform-outcome.ensures.names;
    } in
    let last : c.len.result ≡ length c.self.inside.history.items + 1 = grind (arith, common_steps) in
    rw (c.push_reserved.ensures.items, ← c.self.view_is)
    (made-next _ _ _ _ _ _ _ _ _ _ _ c.self.invariant called none last)

pub returns-clause-unchanged : goal.returns-clause-unchanged
returns-clause-unchanged c refused =
    let none : refusal_at c.self.inside.system c.self.inside.limit (length c.self.inside.history.items) (spm_of c.self.inside.tables) c.args.actor.0 ≡ None = search rules in
    absurd (refused (rw (← c.self.view_is) (refusal-kept _ _ _ _ _ c.args.actor.0 c.self.invariant ∙ none)))

pub returns-clause-reach : goal.returns-clause-reach
returns-clause-reach c =
    let below : c.args.actor.0 < actor_count c.self.inside.system = rw (← c.self.view_is) at c.requires.exists in
    let none : refusal_at c.self.inside.system c.self.inside.limit (length c.self.inside.history.items) (spm_of c.self.inside.tables) c.args.actor.0 ≡ None = search rules in
    let called : IsCalled c.self.inside.system c.self.inside.tables c.self.inside.memory c.args.actor.0 c.args.call c.perform-outcome.result c.perform-outcome.new.tables c.perform-outcome.new.image = record {
      may = may-kept _ _ _ _ _ c.args.actor.0 c.args.call c.self.invariant below (rw (← c.self.view_is) at c.requires.due) none;
      does = c.perform-outcome.ensures.does;
      shown = c.perform-outcome.ensures.shown;
      names = c.perform-outcome.ensures.names;
    } in
    rw (← c.self.view_is) (reach-next _ _ _ _ _ _ _ _ _ _ c.self.invariant called)
