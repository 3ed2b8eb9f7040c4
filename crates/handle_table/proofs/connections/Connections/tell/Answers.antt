use Rattle.std.proofs.Common.{refl, Some}
use Rattle.handle_table.specs.declared.handles.Family.TheVariants.{Connection}
use Rattle.handle_table.proofs.SlotLemmas.{nameable-at}
use Rattle.handle_table.proofs.TableLemmas.{IsTable-put, spm-put}
use Rattle.handle_table.proofs.connections.Connections.tell.Goals as goal

pub handle_of-handle-requires : goal.handle_of-handle-requires
handle_of-handle-requires c = nameable-at Connection _ c.args.slot _ c.open_at-connection.ensures.kept c.open_at-connection.ensures.item

pub invariant_of-self : goal.invariant_of-self
invariant_of-self c =
    let kept = rw (← c.self.view_is) at c.open_at-connection.ensures.kept in
    let live = rw (← c.self.view_is) at c.open_at-connection.ensures.item in
    rw c.set.ensures
    (IsTable-put _ c.self.inside.pool c.args.slot c.open_at-connection.result (λ d. record d { handle = Some c.handle_of-handle.result }) (λ d. refl) kept c.self.invariant live
    c.handle_of-handle.ensures.value)

pub returns-clause-state : goal.returns-clause-state
returns-clause-state c =
    let kept = rw (← c.self.view_is) at c.open_at-connection.ensures.kept in
    let live = rw (← c.self.view_is) at c.open_at-connection.ensures.item in
    rw (← c.self.view_is, live, c.set.ensures)
    (spm-put _ c.self.inside.pool c.args.slot c.open_at-connection.result (λ d. record d { handle = Some c.handle_of-handle.result }) kept c.self.invariant live)
