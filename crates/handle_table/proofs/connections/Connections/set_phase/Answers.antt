use Rattle.std.proofs.Common.{refl}
use Rattle.handle_table.proofs.TableLemmas.{IsTable-put, spm-put, told-at}
use Rattle.handle_table.proofs.connections.Connections.set_phase.Goals as goal

pub invariant_of-self : goal.invariant_of-self
invariant_of-self c =
    let kept = rw (← c.self.view_is) at c.open_at-connection.ensures.kept in
    let live = rw (← c.self.view_is) at c.open_at-connection.ensures.item in
    rw c.set.ensures
    (IsTable-put _ c.self.inside.pool c.args.slot c.open_at-connection.result (λ d. record d { phase = c.args.phase }) (λ d. refl) kept c.self.invariant live
    (told-at c.self.inside.pool c.args.slot c.open_at-connection.result c.self.invariant live))

pub returns-clause-state : goal.returns-clause-state
returns-clause-state c =
    let kept = rw (← c.self.view_is) at c.open_at-connection.ensures.kept in
    let live = rw (← c.self.view_is) at c.open_at-connection.ensures.item in
    rw (← c.self.view_is, live, c.set.ensures)
    (spm-put _ c.self.inside.pool c.args.slot c.open_at-connection.result (λ d. record d { phase = c.args.phase }) kept c.self.invariant live)
