use Rattle.std.proofs.Common.{◌∷◌, [], List, false, map, subst, sym}
use Rattle.ffm_model.specs.declared.trace.Trace.{Trace}
use Rattle.ffm_model.specs.Memory.{ByteMap, opening_memory}
use Rattle.ffm_model.specs.Restarts.{FinishedRun}
use Rattle.actor_programs.specs.declared.program.Program.TheVariants.{Plain}
use Rattle.scenario_runs.specs.Restarting.{AreRuns, finished}
use Rattle.scenario_runs.specs.Runs.{RanBy}
use Rattle.scenario_runs.proofs.Programs.{have_contexts}
use Rattle.scenario_runs.proofs.RunsLemmas.{all_runs, one_run, runs_of_programs}
use Rattle.scenario_runs.proofs.restarting.run_in_turns.Goals as goal

pub returns-then-scenario-eq0-clause-ran : goal.returns-then-scenario-eq0-clause-ran
returns-then-scenario-eq0-clause-ran c =
    let s = c.args.system in
    let scenario = c.args.scenario.now in
    let scripts = c.in_ok-scripts.scripts in
    let run : FinishedRun = record { entries = c.in_ok-ran.ran.spm.history; verdict = c.in_ok-ran.ran.verdict } in
    let ran : RanBy s (opening_memory scenario.memory) scenario (map Plain scripts) false run.entries run.verdict =
    subst (λ (m : ByteMap). RanBy s m scenario (map Plain scripts) false run.entries run.verdict) c.in_ok-memory.ensures.bytes c.in_ok-ran.ensures.ran in
    subst (λ (ts : List Trace). AreRuns s scenario c.args.programs false scenario.restarts (map finished ts)) (sym c.in_ok-alone.ensures.trace)
    (runs_of_programs s scenario c.args.programs scripts false scenario.restarts (run ∷ []) c.scripts_that_map_nothing.ensures.run c.requires.programs c.requires.fit c.in_ok-scripts.ensures
    (one_run s scenario (map Plain scripts) false scenario.restarts run c.if-scenario-eq0.true ran))

pub returns-clause-ran : goal.returns-clause-ran
returns-clause-ran c =
    all_runs c.args.system c.args.scenario.now c.args.programs c.in_ok-scripts.scripts false c.args.scenario.now.restarts c.runs_from.result c.scripts_that_map_nothing.ensures.run c.requires.programs c.requires.fit c.in_ok-scripts.ensures c.runs_from.ensures.ran

pub run_from-requires-clause-contexts : goal.run_from-requires-clause-contexts
run_from-requires-clause-contexts c = have_contexts c.args.system c.args.programs c.in_ok-scripts.scripts c.requires.programs c.requires.fit c.in_ok-scripts.ensures

pub runs_from-requires-clause-contexts : goal.runs_from-requires-clause-contexts
runs_from-requires-clause-contexts c = have_contexts c.args.system c.args.programs c.in_ok-scripts.scripts c.requires.programs c.requires.fit c.in_ok-scripts.ensures
