use Rattle.std.proofs.lemmas.Result.{err_from_is_err_and}
use Rattle.std.proofs.Common.{Ok, Err}
use Rattle.ffm_model.specs.declared.system.System.{System}
use Rattle.ffm_model.specs.Compiled.{compiled}
use Rattle.ffm_model.specs.Reading.{asks_nothing}
use Rattle.ffm_model.specs.Systems.{system_of}
use Rattle.outside_io.proofs.FilesSteps.{asks_part, asks_stops}
use Rattle.work_orders.specs.Work.{system_in}
use Rattle.work_orders.proofs.work.system_in.Goals as goal

pub returns-in_err-parts : goal.returns-in_err-parts
unfolding system_in
returns-in_err-parts g c =
    let p = err_from_is_err_and c.from_residual.result c.from_residual.ensures.1 in
    rw (p.1, p.2) (asks_stops _ _ _ (λ of. system_of of c.args.bytes.now) (λ of parts. asks_nothing (compiled parts)) c.in_err-parts.ensures)

pub returns-in_err-compile : goal.returns-in_err-compile
unfolding system_in
returns-in_err-compile g c =
    let p = err_from_is_err_and c.from_residual-in_err-compile.result c.from_residual-in_err-compile.ensures.1 in
    rw (p.1, p.2) (asks_part _ _ (λ (s : System). s) (Err c.in_err-compile.field-0.0) (λ of. system_of of c.args.bytes.now) (λ parts. compiled parts) c.in_ok-parts.parts c.in_ok-parts.ensures c.in_err-compile.ensures)

pub returns : goal.returns
unfolding system_in
returns g c = asks_part _ _ (λ (s : System). s) (Ok c.in_ok-compile.field-0) (λ of. system_of of c.args.bytes.now) (λ parts. compiled parts) c.in_ok-parts.parts c.in_ok-parts.ensures c.in_ok-compile.ensures
