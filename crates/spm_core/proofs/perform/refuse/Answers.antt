use Rattle.std.proofs.Common.{refl}
use Rattle.law_calls.proofs.Changes.{names-same}
use Rattle.spm_core.proofs.perform.refuse.Goals as goal

pub returns-in-Client-clause-names : goal.returns-in-Client-clause-names
returns-in-Client-clause-names c = names-same c.args.system.now c.args.tables.now c.args.tables.now refl refl

pub returns-in-Device-clause-names : goal.returns-in-Device-clause-names
returns-in-Device-clause-names c = names-same c.args.system.now c.args.tables.now c.args.tables.now refl refl
