use Rattle.std.proofs.Common.{refl, ap}
use Rattle.law_calls.proofs.Changes.{names-same}
use Rattle.spm_tables.specs.TablesView.{TablesView}
use Rattle.spm_core.proofs.perform.end.Goals as goal

pub returns-in-Stop-clause-names : goal.returns-in-Stop-clause-names
returns-in-Stop-clause-names c s =
    names-same s c.args.tables.now c.set_phase.new.self (ap (λ (d : TablesView). d.connections) c.set_phase.ensures.after) (ap (λ (d : TablesView). d.messages) c.set_phase.ensures.after)

pub returns-in-Panic-clause-names : goal.returns-in-Panic-clause-names
returns-in-Panic-clause-names c s = names-same s c.args.tables.now c.args.tables.now refl refl
