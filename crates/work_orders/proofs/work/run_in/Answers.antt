use Rattle.std.proofs.lemmas.Result.{err_from_is_err_and}
use Rattle.std.proofs.Common.{Ok}
use Rattle.actor_programs.specs.Programs.{programs_of}
use Rattle.ffm_model.specs.Reading.{asks_nothing}
use Rattle.outside_io.proofs.FilesSteps.{asks_given}
use Rattle.work_orders.specs.Work.{run_in, run_of, scenario_at, scenario_for}
use Rattle.work_orders.proofs.Scenarios.{no_scenario, no_programs, no_run, with_run}
use Rattle.work_orders.proofs.work.run_in.Goals as goal

pub returns-in_err-scenario-clause-asks : goal.returns-in_err-scenario-clause-asks
unfolding run_in
returns-in_err-scenario-clause-asks g c =
    let p = err_from_is_err_and c.from_residual.result c.from_residual.ensures.1 in
    rw (p.1, p.2) (no_scenario _ _ _ (λ of. scenario_at of c.args.system c.args.name.now) (λ scenario. programs_of c.args.system scenario) (λ scenario. scenario_for c.args.threads scenario) (λ of ps runs. asks_nothing (Ok (run_of c.args.threads c.args.system runs ps))) c.in_err-scenario.ensures.asks)

pub returns-in_err-programs-clause-asks : goal.returns-in_err-programs-clause-asks
unfolding run_in
returns-in_err-programs-clause-asks g c =
    let p = err_from_is_err_and c.from_residual-in_err-programs.result c.from_residual-in_err-programs.ensures.1 in
    rw (p.1, p.2) (no_programs _ _ c.in_err-programs.field-0.0 (λ of. scenario_at of c.args.system c.args.name.now) (λ scenario. programs_of c.args.system scenario) (λ scenario. scenario_for c.args.threads scenario) (λ of ps runs. asks_nothing (Ok (run_of c.args.threads c.args.system runs ps))) c.in_ok-scenario.scenario c.in_ok-scenario.ensures.asks c.in_err-programs.ensures.reads)

pub returns-in_err-scenario-2-clause-asks : goal.returns-in_err-scenario-2-clause-asks
unfolding run_in
returns-in_err-scenario-2-clause-asks g c =
    let p = err_from_is_err_and c.from_residual-in_err-scenario-2.result c.from_residual-in_err-scenario-2.ensures.1 in
    rw (p.1, p.2) (no_run _ _ c.in_err-scenario-2.field-0.0 (λ of. scenario_at of c.args.system c.args.name.now) (λ scenario. programs_of c.args.system scenario) (λ scenario. scenario_for c.args.threads scenario) (λ of ps runs. asks_nothing (Ok (run_of c.args.threads c.args.system runs ps))) c.in_ok-scenario.scenario c.in_ok-programs.programs c.in_ok-scenario.ensures.asks c.in_ok-programs.ensures.reads c.in_err-scenario-2.ensures.reads)

pub returns-clause-asks : goal.returns-clause-asks
unfolding run_in
returns-clause-asks g c =
    with_run _ _ _ _ (λ of. scenario_at of c.args.system c.args.name.now) (λ scenario. programs_of c.args.system scenario) (λ scenario. scenario_for c.args.threads scenario) (λ of ps runs. asks_nothing (Ok (run_of c.args.threads c.args.system runs ps))) c.in_ok-scenario.scenario c.in_ok-programs.programs c.in_ok-scenario-2.scenario c.in_ok-scenario.ensures.asks c.in_ok-programs.ensures.reads c.in_ok-scenario-2.ensures.reads (asks_given _ (run_of c.args.threads c.args.system c.in_ok-scenario-2.scenario c.in_ok-programs.programs))
