use Rattle.std.proofs.Common.{◌∷◌, [], List, map, refl, subst, sym, true}
use Rattle.ffm_model.specs.declared.trace.Trace.{Trace}
use Rattle.ffm_model.specs.Restarts.{FinishedRun}
use Rattle.actor_programs.specs.declared.program.Program.TheVariants.{Plain}
use Rattle.scenario_runs.specs.Restarting.{AreRuns, finished}
use Rattle.scenario_runs.proofs.Programs.{have_contexts}
use Rattle.scenario_runs.proofs.RunsLemmas.{few_events, one_run, runs_of_programs}
use Rattle.scenario_runs.proofs.threads.run_in_threads.Goals as goal

pub alone-requires : goal.alone-requires
alone-requires g c = few_events _ _ c.args.scenario.now _ _ _ _ c.requires.scenario.limit_end c.in_ok-ran.ensures.ran

pub returns-clause-ran : goal.returns-clause-ran
returns-clause-ran g c =
    let scripts = c.in_ok-scripts.scripts in
    let run : FinishedRun = record { entries = c.in_ok-ran.ran.spm.history; verdict = c.in_ok-ran.ran.verdict } in
    subst (λ (ts : List Trace). AreRuns c.args.system c.args.scenario.now c.args.programs true 0 (map finished ts)) (sym c.in_ok-alone.ensures.trace)
    (runs_of_programs c.args.system c.args.scenario.now c.args.programs scripts true 0 (run ∷ []) c.scripts_that_map_nothing.ensures.run c.requires.programs c.requires.fit c.in_ok-scripts.ensures
    (one_run c.args.system c.args.scenario.now (map Plain scripts) true 0 run refl c.in_ok-ran.ensures.ran))

pub run_scripts-requires-clause-contexts : goal.run_scripts-requires-clause-contexts
run_scripts-requires-clause-contexts g c κs within = have_contexts c.args.system c.args.programs c.in_ok-scripts.scripts c.requires.programs c.requires.fit c.in_ok-scripts.ensures
