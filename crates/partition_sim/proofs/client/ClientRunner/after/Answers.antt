use Rattle.std.proofs.Common.{refl, sym, ◌∙◌, true, false}
use Rattle.partition_sim.specs.Clients.{ClientStanding}
use Rattle.partition_sim.proofs.ClientLemmas.{after-blocked, after-answer}
use Rattle.partition_sim.proofs.client.ClientRunner.after.Goals as goal

pub returns-then-is_blocked-clause-follows : goal.returns-then-is_blocked-clause-follows
returns-then-is_blocked-clause-follows c = rw (← c.self.view_is) (λ scripts os a.
    let old : ClientStanding = record { contexts = c.self.inside.contexts; desk = c.self.inside.desk; caller = c.self.inside.caller; waiting = c.self.inside.waiting } in
    after-blocked scripts os c.args.outcome.now old (record old { waiting = true }) (sym c.is_blocked.ensures ∙ c.if-is_blocked.true) refl refl refl a)

pub returns-clause-follows : goal.returns-clause-follows
returns-clause-follows c = rw (← c.self.view_is) (λ scripts os a.
    let old : ClientStanding = record { contexts = c.self.inside.contexts; desk = c.self.inside.desk; caller = c.self.inside.caller; waiting = c.self.inside.waiting } in
    let new : ClientStanding = record { contexts = c.answer_at.new.contexts; desk = c.served.new.self; caller = c.self.inside.caller; waiting = false } in
    after-answer scripts os c.args.outcome.now old new (sym c.is_blocked.ensures ∙ c.if-is_blocked.false) refl c.served.ensures c.self.invariant.0
    c.answer_at.ensures.answered c.answer_at.ensures.others a)
