use Rattle.std.proofs.Common.{arith, ap, sym, ◌∙◌}
use Rattle.ffm_model.specs.Signals.{may_resume}
use Rattle.ffm_model.specs.Step.{returns_when_due}
use Rattle.machine_calls.specs.Machine.{state_of}
use Rattle.view_places.proofs.Rules.{no_such_actor, not_enabled, no_return_due, return_due}
use Rattle.view_places.proofs.reasons.broken_before.Goals as goal

pub returns-then-actor-actor_count : goal.returns-then-actor-actor_count
returns-then-actor-actor_count c = λ given.
    no_such_actor c.args.system.now c.args.limit c.args.count (state_of c.args.machine.now given) c.args.entry.now (omega (arith, c.if-count-limit.false)) (omega (arith, c.actor_count.ensures, c.if-actor-actor_count.true))

pub returns-then-not-is_enabled : goal.returns-then-not-is_enabled
returns-then-not-is_enabled c = λ given.
    not_enabled c.args.system.now c.args.limit c.args.count (state_of c.args.machine.now given) c.args.entry.now (omega (arith, c.if-count-limit.false)) (omega (arith, c.actor_count.ensures, c.if-actor-actor_count.false))
    (sym c.is_enabled.ensures ∙ c.if-not-is_enabled.true)

pub returns-then-returns : goal.returns-then-returns
returns-then-returns c = λ given.
    return_due c.args.system.now c.args.limit c.args.count (state_of c.args.machine.now given) c.args.entry.now (omega (arith, c.if-count-limit.false)) (omega (arith, c.actor_count.ensures, c.if-actor-actor_count.false))
    (sym c.is_enabled.ensures ∙ c.if-not-is_enabled.false)
    (ap (returns_when_due c.args.entry.now.call) (sym c.phase-phase.ensures) ∙ sym c.returns_when_due.ensures ∙ c.if-returns_when_due.false)
    (ap may_resume (sym c.phase-phase.ensures) ∙ sym c.returns.ensures ∙ c.if-returns.true)

pub returns-else-returns : goal.returns-else-returns
returns-else-returns c = λ given.
    no_return_due c.args.system.now c.args.limit c.args.count (state_of c.args.machine.now given) c.args.entry.now (omega (arith, c.if-count-limit.false)) (omega (arith, c.actor_count.ensures, c.if-actor-actor_count.false))
    (sym c.is_enabled.ensures ∙ c.if-not-is_enabled.false)
    (ap (returns_when_due c.args.entry.now.call) (sym c.phase-phase.ensures) ∙ sym c.returns_when_due.ensures ∙ c.if-returns_when_due.false)
    (ap may_resume (sym c.phase-phase.ensures) ∙ sym c.returns.ensures ∙ c.if-returns.false)
