use Rattle.std.proofs.Common.{◌≡◌, ap, sym, subst, ◌∙◌, rules}
use Rattle.std.specs.Prelude.{Option, Some, IsSome, slice_get}
use Rattle.ffm_model.specs.declared.objects.OpenConnection.{OpenConnection}
use Rattle.object_pools.specs.Pool.{Places, item_at}
use Rattle.handle_table.proofs.SlotLemmas.{live-nth}
use Rattle.panic_state.proofs.places.connection_at.Goals as goal

pub returns-clause-item : goal.returns-clause-item
returns-clause-item c =
    live-nth 256 c.args.tables.now.connections c.args.place c.nth.result c.law.ensures.connections
    (ap (λ (p : Places OpenConnection). slice_get p.held c.args.place) (sym c.connections.ensures) ∙ c.nth.ensures)

pub returns-clause-live : goal.returns-clause-live
returns-clause-live c =
    let item : item_at c.args.tables.now.connections c.nth.result.slot ≡ Some c.nth.result.item =
    live-nth 256 c.args.tables.now.connections c.args.place c.nth.result c.law.ensures.connections
    (ap (λ (p : Places OpenConnection). slice_get p.held c.args.place) (sym c.connections.ensures) ∙ c.nth.ensures) in
    subst (λ (o : Option OpenConnection). IsSome o) (sym item) (search rules)
