-- The system is the one that its parts make.
use Rattle.std.proofs.Common.{◌∙◌, ap, sym}
use Rattle.ffm_model.specs.Parts.{system_from}
use Rattle.ffm_model.proofs.PartsLemmas.{system_from-parts_of_system}
use Rattle.ffm_model.proofs.system.System.new.Goals as goal

pub returns-clause-made : goal.returns-clause-made
returns-clause-made c =
    sym (system_from-parts_of_system _)
    ∙ ap (λ vs. system_from (record { level = c.args.level; partitions = c.args.partitions; services = vs; sources = c.args.sources; regions = c.of-2.result; clients = c.args.clients; budgets = c.args.budgets })) c.of.ensures
    ∙ ap (λ rs. system_from (record { level = c.args.level; partitions = c.args.partitions; services = c.args.services; sources = c.args.sources; regions = rs; clients = c.args.clients; budgets = c.args.budgets })) c.of-2.ensures
