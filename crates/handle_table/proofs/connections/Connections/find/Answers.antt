use Rattle.std.proofs.Common.{◌≡◌, Some, None, ◌∙◌, sym, ap, cond}
use Rattle.std.specs.Prelude.{option_and_then}
use Rattle.std.specs.Option.{option_copied}
use Rattle.ffm_model.specs.declared.objects.OpenConnection.{OpenConnection}
use Rattle.object_pools.specs.Pool.{item_at}
use Rattle.handle_table.proofs.TableLemmas.{found-none, found-at, is_shown}
use Rattle.handle_table.proofs.connections.Connections.find.Goals as goal

pub returns-in_err-slot-clause-connection : goal.returns-in_err-slot-clause-connection
returns-in_err-slot-clause-connection c =
    rw (← c.self.view_is, c.from_residual.ensures)
    (sym (found-none c.self.inside.pool c.args.owner.0 c.args.handle c.law.ensures c.self.invariant (λ s n e. sym c.in_err-slot.was ∙ c.connection_slot.ensures s n e)))

pub returns-in_err-connection-clause-connection : goal.returns-in_err-connection-clause-connection
returns-in_err-connection-clause-connection c =
    let item : item_at c.self.inside.pool c.in_ok-slot.slot ≡ None = sym c.get.ensures ∙ ap option_copied c.in_err-connection.was in
    rw (← c.self.view_is, c.from_residual-in_err-connection.ensures) (sym (
    found-at c.self.inside.pool c.args.owner.0 c.args.handle c.in_ok-slot.slot c.law.ensures c.self.invariant (λ s n e. sym c.in_ok-slot.was ∙ c.connection_slot.ensures s n e)
    ∙ ap (option_and_then (λ (x : OpenConnection). cond (is_shown c.args.owner.0 c.args.handle x) (Some x) None)) item
    ))

pub returns-then-is_held_by-clause-connection : goal.returns-then-is_held_by-clause-connection
returns-then-is_held_by-clause-connection c =
    let item : item_at c.self.inside.pool c.in_ok-slot.slot ≡ Some c.in_ok-connection.connection.now = sym c.get.ensures ∙ ap option_copied c.in_ok-connection.was in
    rw (← c.self.view_is) (item ∙ sym (
    found-at c.self.inside.pool c.args.owner.0 c.args.handle c.in_ok-slot.slot c.law.ensures c.self.invariant (λ s n e. sym c.in_ok-slot.was ∙ c.connection_slot.ensures s n e)
    ∙ ap (option_and_then (λ (x : OpenConnection). cond (is_shown c.args.owner.0 c.args.handle x) (Some x) None)) item
    ∙ ap (λ b. cond b (Some c.in_ok-connection.connection.now) None) (sym c.is_held_by.ensures ∙ c.if-is_held_by.true)
    ))

pub returns-else-is_held_by-clause-connection : goal.returns-else-is_held_by-clause-connection
returns-else-is_held_by-clause-connection c =
    let item : item_at c.self.inside.pool c.in_ok-slot.slot ≡ Some c.in_ok-connection.connection.now = sym c.get.ensures ∙ ap option_copied c.in_ok-connection.was in
    rw (← c.self.view_is) (sym (
    found-at c.self.inside.pool c.args.owner.0 c.args.handle c.in_ok-slot.slot c.law.ensures c.self.invariant (λ s n e. sym c.in_ok-slot.was ∙ c.connection_slot.ensures s n e)
    ∙ ap (option_and_then (λ (x : OpenConnection). cond (is_shown c.args.owner.0 c.args.handle x) (Some x) None)) item
    ∙ ap (λ b. cond b (Some c.in_ok-connection.connection.now) None) (sym c.is_held_by.ensures ∙ c.if-is_held_by.false)
    ))
