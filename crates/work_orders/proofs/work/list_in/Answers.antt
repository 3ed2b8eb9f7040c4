use Rattle.std.proofs.lemmas.Result.{err_from_is_err_and}
use Rattle.std.proofs.Common.{Ok}
use Rattle.ffm_model.specs.Reading.{asks_nothing}
use Rattle.outside_io.proofs.FilesSteps.{asks_given, asks_then, asks_stops}
use Rattle.work_orders.specs.Work.{Work, list_in, listing_of, system_at}
use Rattle.work_orders.proofs.work.list_in.Goals as goal

pub returns-in_err-system-clause-asks : goal.returns-in_err-system-clause-asks
unfolding list_in
returns-in_err-system-clause-asks g c =
    let p = err_from_is_err_and c.from_residual.result c.from_residual.ensures.1 in
    rw (p.1, p.2) (asks_stops {Z = Work} _ _ _ (λ of. system_at of c.args.name.now) (λ of s. asks_nothing (Ok (listing_of s))) c.in_err-system.ensures)

pub returns-clause-asks : goal.returns-clause-asks
unfolding list_in
returns-clause-asks g c =
    asks_then _ _ _ (Ok (listing_of c.in_ok-system.system)) (λ of. system_at of c.args.name.now) (λ of s. asks_nothing (Ok (listing_of s))) c.in_ok-system.system c.in_ok-system.ensures (asks_given _ (listing_of c.in_ok-system.system))
