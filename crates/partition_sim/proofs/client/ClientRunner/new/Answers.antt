use Rattle.std.proofs.Common.{ℕ, refl, ap, sym, ◌∙◌, false}
use Rattle.std.specs.Prelude.{replicate}
use Rattle.partition_sim.specs.declared.context.Context.{Context}
use Rattle.partition_sim.specs.Clients.{ClientStanding}
use Rattle.partition_sim.proofs.ClientLemmas.{opened}
use Rattle.partition_sim.proofs.client.ClientRunner.new.Goals as goal

pub returns-clause-follows : goal.returns-clause-follows
returns-clause-follows c = λ scripts e.
    let new : ClientStanding = record { contexts = replicate 8 c.new-context.result; desk = c.new.result; caller = 0; waiting = false } in
    opened scripts 8 new refl (c.new.ensures ∙ ap (λ (n : ℕ). record { count = n; turn = 0 }) (sym e)) (ap (λ (x : Context). replicate 8 x) c.new-context.ensures)
