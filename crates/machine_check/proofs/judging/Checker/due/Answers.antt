use Rattle.std.proofs.Common.{◌∙◌, ap, sym, subst}
use Rattle.std.specs.Prelude.{pos, Ok}
use Rattle.ffm_model.specs.declared.machine.Handle.{Handle}
use Rattle.machine_check.specs.Performed.{gave_handle, Performs}
use Rattle.machine_check.proofs.Due.{due_with, due_without}
use Rattle.machine_check.proofs.Steps.{none_by_call}
use Rattle.machine_check.proofs.judging.Checker.due.Goals as goal
use Rattle.machine_check.proofs.judging.Checker.due.Goals.{else-is_none-via-then-is_none+else-gave_handle, else-is_none-via-else-is_none}

pub returns-then-not-may_call : goal.returns-then-not-may_call
returns-then-not-may_call c handles knows o = none_by_call _ _ _ (sym c.if-not-may_call.ensures)

pub returns-then-gave_handle : goal.returns-then-gave_handle
returns-then-gave_handle c handles knows =
    let m = c.args.self.machine in
    due_without c.args.system.now m c.perform.new.machine c.args.self.given handles c.args.actor.0 c.args.call c.least_left-handle.result c.unwrap_or.result c.in_ok-outcome.outcome knows c.least_left-handle.ensures c.if-is_none.ensures (c.in_ok-outcome.ensures).performs
    (ap (λ p. gave_handle p c.args.call c.in_ok-outcome.outcome) (sym c.phase-phase.ensures) ∙ sym c.if-gave_handle.ensures)

pub returns : goal.returns
returns c handles knows =
    let s = c.args.system.now in
    let m = c.args.self.machine in
    let a = c.args.actor.0 in
    let o = c.in_ok-outcome.outcome in
    due_with s m c.perform.new.machine c.args.self.given handles a c.args.call c.least_left-handle.result (record { 0 = pos 0 }) o knows (sym c.if-not-may_call.ensures) c.least_left-handle.ensures
    (subst (λ (h : Handle). Performs s a c.args.call h m (Ok o) c.perform.new.machine) c.unwrap_or.ensures (c.in_ok-outcome.ensures).performs)
    (λ none. elim c.else-is_none.branch [
      | else-is_none-via-then-is_none+else-gave_handle w ↦ ap (λ p. gave_handle p c.args.call o) (sym c.phase-phase.ensures) ∙ sym w.if-gave_handle.ensures
      | else-is_none-via-else-is_none w ↦ let some = w.if-is_none.ensures in absurd cc
    ])
