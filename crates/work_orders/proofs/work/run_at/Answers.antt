use Rattle.std.proofs.lemmas.Result.{err_from_is_err_and}
use Rattle.outside_io.proofs.FilesSteps.{asks_then, asks_stops}
use Rattle.work_orders.specs.Work.{Work, run_at, run_in, system_at}
use Rattle.work_orders.proofs.work.run_at.Goals as goal

pub returns-in_err-system-clause-asks : goal.returns-in_err-system-clause-asks
unfolding run_at
returns-in_err-system-clause-asks g c =
    let p = err_from_is_err_and c.from_residual.result c.from_residual.ensures.1 in
    rw (p.1, p.2) (asks_stops {Z = Work} _ _ _ (λ of. system_at of c.args.system.now) (λ of s. run_in of c.args.threads s c.args.scenario.now) c.in_err-system.ensures)

pub returns-clause-asks : goal.returns-clause-asks
unfolding run_at
returns-clause-asks g c =
    asks_then _ _ _ _ (λ of. system_at of c.args.system.now) (λ of s. run_in of c.args.threads s c.args.scenario.now) c.in_ok-system.system c.in_ok-system.ensures c.run_in.ensures.asks
