use Rattle.std.proofs.lemmas.Result.{err_from_is_err_and}
use Rattle.std.proofs.Common.{Ok, Err}
use Rattle.ffm_model.specs.declared.constants.TheConstants.{MAX_FILE_BYTES}
use Rattle.ffm_model.specs.declared.scenario.Scenario.{Scenario}
use Rattle.ffm_model.specs.Reading.{asks_nothing, file_at}
use Rattle.ffm_model.specs.Scenarios.{scenario_in}
use Rattle.ffm_model.specs.Systems.{stopped}
use Rattle.outside_io.proofs.FilesSteps.{asks_part, asks_stops}
use Rattle.work_orders.specs.Work.{scenario_at, scenario_place}
use Rattle.work_orders.proofs.work.scenario_at.Goals as goal

pub returns-in_err-bytes-clause-asks : goal.returns-in_err-bytes-clause-asks
unfolding scenario_at
returns-in_err-bytes-clause-asks g c =
    let p = err_from_is_err_and c.from_residual.result c.from_residual.ensures.1 in
    rw (p.1, p.2) (asks_stops _ _ _ (λ of. file_at of scenario_place MAX_FILE_BYTES c.args.name.now) (λ of bytes. asks_nothing (stopped (scenario_in c.args.system.now bytes))) c.in_err-bytes.ensures.asks)

pub returns-in_err-read_scenario-clause-asks : goal.returns-in_err-read_scenario-clause-asks
unfolding scenario_at
returns-in_err-read_scenario-clause-asks g c =
    let p = err_from_is_err_and c.from_residual-in_err-read_scenario.result c.from_residual-in_err-read_scenario.ensures.1 in
    rw (p.1, p.2) (asks_part _ _ (λ (s : Scenario). s) (Err c.in_err-read_scenario.field-0.0) (λ of. file_at of scenario_place MAX_FILE_BYTES c.args.name.now) (λ bytes. stopped (scenario_in c.args.system.now bytes)) c.in_ok-bytes.bytes.items c.in_ok-bytes.ensures.asks (rw c.deref.ensures.value at c.in_err-read_scenario.ensures.given))

pub returns-clause-asks : goal.returns-clause-asks
unfolding scenario_at
returns-clause-asks g c =
    asks_part _ _ (λ (s : Scenario). s) (Ok c.in_ok-read_scenario.field-0) (λ of. file_at of scenario_place MAX_FILE_BYTES c.args.name.now) (λ bytes. stopped (scenario_in c.args.system.now bytes)) c.in_ok-bytes.bytes.items c.in_ok-bytes.ensures.asks (rw c.deref.ensures.value at c.in_ok-read_scenario.ensures.given)
