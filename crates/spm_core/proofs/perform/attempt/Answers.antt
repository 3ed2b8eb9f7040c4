use Rattle.std.proofs.Common.{refl}
use Rattle.law_calls.proofs.Changes.{names-same}
use Rattle.spm_core.proofs.perform.attempt.Goals as goal

pub client_call-requires-clause-premises : goal.client_call-requires-clause-premises
client_call-requires-clause-premises c = record { tables = c.requires.premises.tables; regions = c.requires.premises.regions }

pub transfer-requires-clause-premises : goal.transfer-requires-clause-premises
transfer-requires-clause-premises c = record {
  made = c.requires.premises.tables.made;
  regions = c.requires.premises.regions;
  vectors = c.requires.premises.vectors;
}

pub returns-in-Memory-clause-names : goal.returns-in-Memory-clause-names
returns-in-Memory-clause-names c = names-same c.args.system.now c.args.tables.now c.args.tables.now refl refl

pub returns-in-Actor-clause-names : goal.returns-in-Actor-clause-names
returns-in-Actor-clause-names c = c.end.ensures.names c.args.system.now
