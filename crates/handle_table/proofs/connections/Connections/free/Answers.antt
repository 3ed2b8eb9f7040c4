use Rattle.handle_table.proofs.TableLemmas.{IsTable-out, spm-out}
use Rattle.handle_table.proofs.connections.Connections.free.Goals as goal

pub invariant_of-self : goal.invariant_of-self
invariant_of-self c = rw c.put_back.ensures.rest (IsTable-out _ c.self.inside.pool c.args.slot c.put_back.result c.law.ensures c.self.invariant c.put_back.ensures.item)

pub returns-clause-state : goal.returns-clause-state
returns-clause-state c =
    rw (← c.self.view_is, c.put_back.ensures.item, c.put_back.ensures.rest)
    (spm-out _ c.self.inside.pool c.args.slot c.put_back.result c.law.ensures c.self.invariant c.put_back.ensures.item)
