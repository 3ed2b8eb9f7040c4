use Rattle.std.proofs.Common.{◌≡◌, true, rules}
use Rattle.ffm_model.specs.Signals.{enabled}
use Rattle.ffm_model.specs.Verdicts.{some_enabled}
use Rattle.spm_tables.specs.TablesView.{spm_of}
use Rattle.spm_core.proofs.Kept.{some-enabled}
use Rattle.spm_core.proofs.actors.is_over.Goals as goal

pub returns-else-not-is_enabled : goal.returns-else-not-is_enabled
returns-else-not-is_enabled c =
    let on : enabled c.args.system.now (spm_of c.args.tables.now) c.args.actor.0 ≡ true = search rules in
    let some : some_enabled c.args.system.now (spm_of c.args.tables.now) ≡ true = some-enabled c.args.system.now (spm_of c.args.tables.now) c.args.actor.0 c.requires.exists on in
    search rules
