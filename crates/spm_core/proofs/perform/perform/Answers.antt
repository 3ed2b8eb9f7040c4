use Rattle.memory_image.specs.Pieces.{byte_at}
use Rattle.spm_core.proofs.Attempted.{does-return}
use Rattle.spm_core.proofs.perform.perform.Goals as goal

pub returns-in-Resume-clause-does : goal.returns-in-Resume-clause-does
returns-in-Resume-clause-does c =
    rw c.in-Resume.is (does-return c.args.system.now c.args.actor.0 c.args.tables.now c.resume.new.tables c.args.image.now c.resume.result c.resume.ensures.returned)

pub returns-in-Resume-clause-shown : goal.returns-in-Resume-clause-shown
returns-in-Resume-clause-shown c = rw c.in-Resume.is (c.resume.ensures.shown (byte_at c.args.image.now))
