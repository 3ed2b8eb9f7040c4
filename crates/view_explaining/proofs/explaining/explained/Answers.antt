use Rattle.std.proofs.Common.{Ok}
use Rattle.work_orders.specs.View.{work as work_seen}
use Rattle.outside_io.proofs.FilesSteps.{asks_lost}
use Rattle.view_explaining.specs.Orders.{files_explained}
use Rattle.view_explaining.proofs.ToldLemmas.{explained_answer}
use Rattle.view_explaining.proofs.explaining.explained.Goals as goal

pub returns-in-Ok-unrefused-clause-answers : goal.returns-in-Ok-unrefused-clause-answers
returns-in-Ok-unrefused-clause-answers g c =
    explained_answer c.args.names _ _ (Ok (work_seen c.in-Ok.work)) c.in-Ok-unrefused.answer (rw c.command_of.ensures at c.in-Ok.ensures.asks) c.in-Ok-unrefused.ensures.text

pub returns-in-Ok-clause-answers : goal.returns-in-Ok-clause-answers
returns-in-Ok-clause-answers g c =
    asks_lost _ _ (work_seen c.in-Ok.work) (files_explained c.args.names) (rw c.command_of.ensures at c.in-Ok.ensures.asks)
