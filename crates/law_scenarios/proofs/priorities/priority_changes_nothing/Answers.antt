use Rattle.law_scenarios.proofs.Fitting.{fit_alike}
use Rattle.law_scenarios.proofs.MachinePriorities.{judge_alike}
use Rattle.law_scenarios.proofs.RunPriorities.{run_alike}
use Rattle.law_scenarios.proofs.ProgramPriorities.{read_alike}
use Rattle.law_scenarios.proofs.priorities.priority_changes_nothing.Goals as goal

pub returns-clause-fit : goal.returns-clause-fit
returns-clause-fit c = fit_alike

pub returns-clause-read : goal.returns-clause-read
returns-clause-read c = read_alike

pub returns-clause-run : goal.returns-clause-run
returns-clause-run c = run_alike

pub returns-clause-judge : goal.returns-clause-judge
returns-clause-judge c = judge_alike
