use Rattle.std.proofs.Common.{subst}
use Rattle.std.specs.Prelude.{Ok}
use Rattle.machine_check.specs.Performed.{Attempts}
use Rattle.machine_check.proofs.Performed.{by_refusal}
use Rattle.machine_check.proofs.step.perform.Goals as goal

pub returns-in-None-clause-performs : goal.returns-in-None-clause-performs
returns-in-None-clause-performs c =
    by_refusal _ c.actor_kind-kind.result _ _ _ _ c.attempt.new.machine _ c.refuse-in-None.result c.actor_kind-kind.ensures
    (subst (λ o. Attempts c.args.system.now c.args.actor.0 c.args.call c.args.handle c.args.machine.now (Ok o) c.attempt.new.machine) c.in-None.is (c.in_ok-outcome.ensures).attempts)
    c.refuse-in-None.ensures.refused
