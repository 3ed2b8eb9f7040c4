use Rattle.std.proofs.Common.{ap, sym, subst, ◌∙◌, ◌&&◌}
use Rattle.ffm_model.specs.Step.{handle_shown, outcome_eq}
use Rattle.machine_calls.specs.Machine.{state_of}
use Rattle.machine_check.specs.Performed.{gave_handle}
use Rattle.machine_check.specs.Reaching.{IsDue}
use Rattle.view_places.specs.Why.{with_handle}
use Rattle.view_places.proofs.Rules.{no_handle_left, other_answer, other_handle, stale_handle}
use Rattle.view_places.proofs.reasons.broken_rule.Goals as goal

pub returns-then-is_answer_but_handle : goal.returns-then-is_answer_but_handle
returns-then-is_answer_but_handle c = λ handles knows illegal.
    let before = c.in_default.ensures handles in
    let e = c.args.entry.now in
    let answer = c.in-Some-2.answer in
    let due = subst (λ o. IsDue c.args.system.now (state_of c.args.checker.machine handles) e.actor.0 e.call o) c.in-Some-2.is (c.in_ok-answer.ensures handles knows) in
    stale_handle c.args.system.now c.args.limit c.args.checker.count (state_of c.args.checker.machine handles) e answer before.0 before.1 illegal due
    (ap (λ p. gave_handle p e.call answer && outcome_eq (with_handle (handle_shown e.outcome) answer) e.outcome) (sym c.phase-phase.ensures) ∙ sym c.is_answer_but_handle.ensures ∙ c.if-is_answer_but_handle.true)

pub returns-then-gave_handle : goal.returns-then-gave_handle
returns-then-gave_handle c = λ handles knows illegal.
    let before = c.in_default.ensures handles in
    let e = c.args.entry.now in
    let answer = c.in-Some-2.answer in
    let due = subst (λ o. IsDue c.args.system.now (state_of c.args.checker.machine handles) e.actor.0 e.call o) c.in-Some-2.is (c.in_ok-answer.ensures handles knows) in
    other_handle c.args.system.now c.args.limit c.args.checker.count (state_of c.args.checker.machine handles) e answer before.0 before.1 illegal due
    (ap (λ p. gave_handle p e.call answer && outcome_eq (with_handle (handle_shown e.outcome) answer) e.outcome) (sym c.phase-phase.ensures) ∙ sym c.is_answer_but_handle.ensures ∙ c.if-is_answer_but_handle.false)
    (ap (λ p. gave_handle p e.call answer) (sym c.phase-phase.ensures) ∙ sym c.gave_handle.ensures ∙ c.if-gave_handle.true)

pub returns-else-gave_handle : goal.returns-else-gave_handle
returns-else-gave_handle c = λ handles knows illegal.
    let before = c.in_default.ensures handles in
    let e = c.args.entry.now in
    let answer = c.in-Some-2.answer in
    let due = subst (λ o. IsDue c.args.system.now (state_of c.args.checker.machine handles) e.actor.0 e.call o) c.in-Some-2.is (c.in_ok-answer.ensures handles knows) in
    other_answer c.args.system.now c.args.limit c.args.checker.count (state_of c.args.checker.machine handles) e answer before.0 before.1 illegal due
    (ap (λ p. gave_handle p e.call answer && outcome_eq (with_handle (handle_shown e.outcome) answer) e.outcome) (sym c.phase-phase.ensures) ∙ sym c.is_answer_but_handle.ensures ∙ c.if-is_answer_but_handle.false)
    (ap (λ p. gave_handle p e.call answer) (sym c.phase-phase.ensures) ∙ sym c.gave_handle.ensures ∙ c.if-gave_handle.false)

pub returns-in-None : goal.returns-in-None
returns-in-None c = λ handles knows illegal.
    let before = c.in_default.ensures handles in
    let e = c.args.entry.now in
    let due = subst (λ o. IsDue c.args.system.now (state_of c.args.checker.machine handles) e.actor.0 e.call o) c.in-None.is (c.in_ok-answer.ensures handles knows) in
    no_handle_left c.args.system.now c.args.limit c.args.checker.count (state_of c.args.checker.machine handles) e before.0 before.1 illegal due
