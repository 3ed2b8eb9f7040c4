use Rattle.std.proofs.lemmas.Result.{err_from_is_err_and}
use Rattle.std.proofs.Common.{true}
use Rattle.actor_programs.specs.Programs.{programs_of}
use Rattle.work_orders.specs.Work.{judge_in, trace_in, scenario_at, scenario_for}
use Rattle.work_orders.proofs.Scenarios.{no_scenario, no_programs, no_run, with_run}
use Rattle.work_orders.proofs.work.judge_in.Goals as goal

pub returns-in_err-scenario-clause-asks : goal.returns-in_err-scenario-clause-asks
unfolding judge_in
returns-in_err-scenario-clause-asks g c =
    let p = err_from_is_err_and c.from_residual.result c.from_residual.ensures.1 in
    rw (p.1, p.2) (no_scenario _ _ _ (λ of. scenario_at of c.args.system c.args.scenario.now) (λ scenario. programs_of c.args.system scenario) (λ scenario. scenario_for true scenario) (λ of ps runs. trace_in of c.args.inspection c.args.system runs c.args.trace.now) c.in_err-scenario.ensures.asks)

pub returns-in_err-_programs-clause-asks : goal.returns-in_err-_programs-clause-asks
unfolding judge_in
returns-in_err-_programs-clause-asks g c =
    let p = err_from_is_err_and c.from_residual-in_err-_programs.result c.from_residual-in_err-_programs.ensures.1 in
    rw (p.1, p.2) (no_programs _ _ c.in_err-_programs.field-0.0 (λ of. scenario_at of c.args.system c.args.scenario.now) (λ scenario. programs_of c.args.system scenario) (λ scenario. scenario_for true scenario) (λ of ps runs. trace_in of c.args.inspection c.args.system runs c.args.trace.now) c.in_ok-scenario.scenario c.in_ok-scenario.ensures.asks c.in_err-_programs.ensures.reads)

pub returns-in_err-scenario-2-clause-asks : goal.returns-in_err-scenario-2-clause-asks
unfolding judge_in
returns-in_err-scenario-2-clause-asks g c =
    let p = err_from_is_err_and c.from_residual-in_err-scenario-2.result c.from_residual-in_err-scenario-2.ensures.1 in
    rw (p.1, p.2) (no_run _ _ c.in_err-scenario-2.field-0.0 (λ of. scenario_at of c.args.system c.args.scenario.now) (λ scenario. programs_of c.args.system scenario) (λ scenario. scenario_for true scenario) (λ of ps runs. trace_in of c.args.inspection c.args.system runs c.args.trace.now) c.in_ok-scenario.scenario c.in_ok-_programs._programs c.in_ok-scenario.ensures.asks c.in_ok-_programs.ensures.reads c.in_err-scenario-2.ensures.reads)

pub returns-clause-asks : goal.returns-clause-asks
unfolding judge_in
returns-clause-asks g c =
    with_run _ _ _ _ (λ of. scenario_at of c.args.system c.args.scenario.now) (λ scenario. programs_of c.args.system scenario) (λ scenario. scenario_for true scenario) (λ of ps runs. trace_in of c.args.inspection c.args.system runs c.args.trace.now) c.in_ok-scenario.scenario c.in_ok-_programs._programs c.in_ok-scenario-2.scenario c.in_ok-scenario.ensures.asks c.in_ok-_programs.ensures.reads c.in_ok-scenario-2.ensures.reads c.trace_in.ensures.asks
