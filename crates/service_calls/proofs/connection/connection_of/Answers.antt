use Rattle.service_calls.proofs.Partners.{link-is}
use Rattle.service_calls.proofs.connection.connection_of.Goals as goal

pub returns-in-Some : goal.returns-in-Some
returns-in-Some c =
    link-is c.args.tables.now c.args.slot c.args.message c.in-Some.field-0 c.law.ensures.connections c.law.ensures.slots c.requires.item c.in-Some.is c.requires.there
