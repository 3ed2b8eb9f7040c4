use Rattle.std.proofs.Common.{refl, arith, ◌+◌, inr}
use Rattle.machine_check.proofs.Judged.{accepted, none_by}
use Rattle.machine_check.proofs.judging.Checker.accept.Goals as goal

pub returns-then-not-is_step-clause-accepts : goal.returns-then-not-is_step-clause-accepts
returns-then-not-is_step-clause-accepts c all knows = (inr (none_by _ c.args.self.now.machine c.step.new.machine all _ c.step.new.given c.in_ok-is_step.is_step (c.in_ok-is_step.ensures.steps all knows) c.if-not-is_step.true), refl)

pub returns-clause-accepts : goal.returns-clause-accepts
returns-clause-accepts c all knows =
    accepted _ c.args.limit c.args.self.now (record { machine = c.step.new.machine; given = c.step.new.given; count = c.args.self.now.count + 1 }) all _ c.in_ok-is_step.is_step c.if-self-limit.false (c.in_ok-is_step.ensures.steps all knows) c.if-not-is_step.false
    c.in_ok-is_step.ensures.kept (omega (arith, c.step.ensures.made, c.requires.made)) refl
