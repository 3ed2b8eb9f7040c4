use Rattle.machine_rules.specs.Vectors.{AreMovedWithin, AreWithin}
use Rattle.service_calls.proofs.Kept.{IsMoved, was-moved, moved-all, moved-names}
use Rattle.service_calls.proofs.transfer.set_vectors.Goals as goal

moved-so : (c : goal.After-set_vectors) → IsMoved c.args.tables.now c.set_vectors.new.self c.args.slot c.args.vectors
moved-so c = was-moved c.args.tables.now c.set_vectors.new.self c.args.slot c.args.vectors c.requires c.set_vectors.ensures.after

pub returns-clause-moved : goal.returns-clause-moved
returns-clause-moved c = moved-all AreMovedWithin c.args.tables.now c.set_vectors.new.self c.args.slot c.args.vectors (moved-so c)

pub returns-clause-within : goal.returns-clause-within
returns-clause-within c = λ regions. moved-all (AreWithin regions) c.args.tables.now c.set_vectors.new.self c.args.slot c.args.vectors (moved-so c)

pub returns-clause-names : goal.returns-clause-names
returns-clause-names c = λ s. moved-names s c.args.tables.now c.set_vectors.new.self c.args.slot c.args.vectors c.law.ensures.messages (moved-so c)
