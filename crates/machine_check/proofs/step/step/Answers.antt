use Rattle.std.proofs.Common.{◌≡◌, ap, sym, subst, ◌∙◌, true, ℤ}
use Rattle.std.specs.Prelude.{Ok, IfOk, ◌&&◌, ◌||◌, not, pos, int_le}
use Rattle.std.specs.BTreeSet.{contains}
use Rattle.std.specs.Ordering.{int_cmp, int_eq}
use Rattle.machine_check.specs.Performed.{gave_handle, Performs}
use Rattle.machine_check.proofs.Steps.{by_given, none_by_call, none_by_due, some_without}
use Rattle.machine_check.proofs.step.step.Goals as goal

pub returns-then-not-may_call-clause-steps : goal.returns-then-not-may_call-clause-steps
returns-then-not-may_call-clause-steps c all knows = none_by_call _ _ _ (sym (c.if-not-may_call.ensures))

pub returns-then-not-is_due-clause-steps : goal.returns-then-not-is_due-clause-steps
returns-then-not-is_due-clause-steps c all knows =
    none_by_due _ c.args.machine.now c.perform.new.machine all c.args.entry.now c.in_ok-due.due
    (subst (λ h. Performs c.args.system.now c.args.entry.now.actor.0 c.args.entry.now.call h c.args.machine.now (Ok c.in_ok-due.due) c.perform.new.machine) c.handle_shown-handle.ensures (c.in_ok-due.ensures).performs)
    (sym (c.if-not-is_due.ensures))

pub returns-then-gave_handle-clause-steps : goal.returns-then-gave_handle-clause-steps
returns-then-gave_handle-clause-steps c all knows =
    by_given _ c.args.machine.now c.perform.new.machine c.args.given.now _ all c.args.entry.now c.in_ok-due.due c.give.result (sym (c.if-not-may_call.ensures))
    (subst (λ h. Performs c.args.system.now c.args.entry.now.actor.0 c.args.entry.now.call h c.args.machine.now (Ok c.in_ok-due.due) c.perform.new.machine) c.handle_shown-handle.ensures (c.in_ok-due.ensures).performs)
    (sym (c.if-not-is_due.ensures))
    (ap (λ p. gave_handle p c.args.entry.now.call c.in_ok-due.due) (sym c.phase-phase.ensures) ∙ sym (c.if-gave_handle.ensures))
    knows
    (subst (λ h. IfOk c.give.result (λ b. b ≡ (int_le (pos 1) h.0 && int_le h.0 (pos 0x3fffffff) && not (contains int_cmp c.args.given.now h.0)))) c.handle_shown-handle.ensures c.give.ensures.fresh)
    (subst (λ h. IfOk c.give.result (λ b. b ≡ true → (k : ℤ) → contains int_cmp c.give.new.given k ≡ (int_eq k h.0 || contains int_cmp c.args.given.now k))) c.handle_shown-handle.ensures c.give.ensures.given)

pub returns-else-gave_handle-clause-steps : goal.returns-else-gave_handle-clause-steps
returns-else-gave_handle-clause-steps c all knows = (
  all,
  knows,
  some_without _ c.args.machine.now c.perform.new.machine all c.args.entry.now c.in_ok-due.due (sym (c.if-not-may_call.ensures))
      (subst (λ h. Performs c.args.system.now c.args.entry.now.actor.0 c.args.entry.now.call h c.args.machine.now (Ok c.in_ok-due.due) c.perform.new.machine) c.handle_shown-handle.ensures (c.in_ok-due.ensures).performs)
      (sym (c.if-not-is_due.ensures))
      (ap (λ p. gave_handle p c.args.entry.now.call c.in_ok-due.due) (sym c.phase-phase.ensures) ∙ sym (c.if-gave_handle.ensures)),
)
