use Rattle.std.proofs.Common.{[], Err, Global}
use Rattle.outside_io.specs.declared.files.FileError.TheVariants.{Failed}
use Rattle.outside_io.proofs.FilesSteps.{asks_file}
use Rattle.work_orders.proofs.work.bytes_of.Goals as goal

pub returns-in-Err-Failed-clause-asks : goal.returns-in-Err-Failed-clause-asks
returns-in-Err-Failed-clause-asks g c =
    asks_file {A = Global} (record { root = c.args.root; steps = [] }) _ _ (Err Failed) c.args.limit c.args.name.now (rw c.in-Err-Failed.field-0-is at c.in-Err-Failed.ensures)
