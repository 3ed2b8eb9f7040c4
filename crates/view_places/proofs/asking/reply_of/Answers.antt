use Rattle.std.proofs.Common.{ap, subst, ◌∙◌}
use Rattle.machine_calls.specs.Machine.{state_of}
use Rattle.machine_check.specs.Performed.{gave_handle}
use Rattle.machine_check.specs.Reaching.{IsDue}
use Rattle.view_places.proofs.Asked.{answered, none_left}
use Rattle.view_places.proofs.asking.reply_of.Goals as goal

pub returns-in-Some-2 : goal.returns-in-Some-2
returns-in-Some-2 c = λ handles knows.
    let before = c.in_default.ensures handles in
    let e = c.args.entry.now in
    let o = c.in-Some-2.outcome in
    let due = subst (λ x. IsDue c.args.system.now (state_of c.args.checker.machine handles) e.actor.0 e.call x) c.in-Some-2.is (c.in_ok-outcome.ensures handles knows) in
    answered c.args.system.now c.args.limit c.args.checker.count (state_of c.args.checker.machine handles) e o c.gave_handle.result before.0 due
    (c.gave_handle.ensures ∙ ap (λ p. gave_handle p e.call o) c.phase-phase.ensures)

pub returns-in-None : goal.returns-in-None
returns-in-None c = λ handles knows.
    let before = c.in_default.ensures handles in
    let e = c.args.entry.now in
    let due = subst (λ x. IsDue c.args.system.now (state_of c.args.checker.machine handles) e.actor.0 e.call x) c.in-None.is (c.in_ok-outcome.ensures handles knows) in
    none_left c.args.system.now c.args.limit c.args.checker.count (state_of c.args.checker.machine handles) e before.0 before.1 due
