use Rattle.handle_table.specs.declared.handles.Family.TheVariants.{Message}
use Rattle.handle_table.proofs.SlotLemmas.{nameable-at}
use Rattle.service_calls.proofs.delivery.shown.Goals as goal

pub handle_of-requires : goal.handle_of-requires
handle_of-requires c = nameable-at Message c.args.tables.now.messages c.args.slot c.args.message c.law.ensures.messages c.requires.item
