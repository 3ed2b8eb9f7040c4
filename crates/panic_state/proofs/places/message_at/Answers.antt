use Rattle.std.proofs.Common.{ap, sym, ◌∙◌}
use Rattle.std.specs.Prelude.{slice_get}
use Rattle.object_pools.specs.Pool.{Places}
use Rattle.handle_table.proofs.SlotLemmas.{live-nth}
use Rattle.spm_tables.specs.declared.item.QueuedMessage.{QueuedMessage}
use Rattle.panic_state.proofs.places.message_at.Goals as goal

pub returns-clause-item : goal.returns-clause-item
returns-clause-item c =
    live-nth 304 c.args.tables.now.messages c.args.place c.nth.result c.law.ensures.messages
    (ap (λ (p : Places QueuedMessage). slice_get p.held c.args.place) (sym c.messages.ensures) ∙ c.nth.ensures)
