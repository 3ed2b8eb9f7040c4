use Rattle.std.proofs.lemmas.Result.{err_from_is_err_and}
use Rattle.ffm_model.specs.declared.constants.TheConstants.{MAX_FILE_BYTES}
use Rattle.ffm_model.specs.Reading.{file_at}
use Rattle.outside_io.proofs.FilesSteps.{asks_then, asks_stops}
use Rattle.work_orders.specs.Work.{system_at, system_in, system_place}
use Rattle.work_orders.proofs.work.system_at.Goals as goal

pub returns-in_err-bytes : goal.returns-in_err-bytes
unfolding system_at
returns-in_err-bytes g c =
    let p = err_from_is_err_and c.from_residual.result c.from_residual.ensures.1 in
    rw (p.1, p.2) (asks_stops _ _ _ (λ of. file_at of system_place MAX_FILE_BYTES c.args.name.now) (λ of bytes. system_in of bytes) c.in_err-bytes.ensures.asks)

pub returns : goal.returns
unfolding system_at
returns g c =
    asks_then _ _ _ _ (λ of. file_at of system_place MAX_FILE_BYTES c.args.name.now) (λ of bytes. system_in of bytes) c.in_ok-bytes.bytes.items c.in_ok-bytes.ensures.asks (rw c.deref.ensures.value at c.system_in.ensures)
