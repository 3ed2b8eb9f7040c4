use Rattle.std.proofs.Common.{rules}
use Rattle.std.specs.Prelude.{None}
use Rattle.object_pools.specs.Pool.{item_at}
use Rattle.spm_tables.specs.TablesView.{spm_of}
use Rattle.spm_core.proofs.Accepted.{accepted-first, live-nameable}
use Rattle.spm_core.proofs.returns.accepted.Goals as goal

pub unreachable-requires : goal.unreachable-requires
unreachable-requires c = accepted-first c.args.actor.0 c.args.serial (spm_of c.args.tables.now).connections None c.requires (search rules) (search rules)

pub returns-clause-live : goal.returns-clause-live
returns-clause-live c = accepted-first c.args.actor.0 c.args.serial (spm_of c.args.tables.now).connections (item_at c.args.tables.now.connections c.in-Some.slot) c.requires (search rules) (search rules)

pub returns-clause-nameable : goal.returns-clause-nameable
returns-clause-nameable c = live-nameable c.args.tables.now.connections c.in-Some.slot c.args.serial c.law.ensures.connections (returns-clause-live c)
