use Rattle.std.proofs.Common.{subst}
use Rattle.std.specs.Prelude.{IfOk, false, map}
use Rattle.ffm_model.specs.Memory.{ByteMap, opening_memory}
use Rattle.actor_programs.specs.declared.program.Program.TheVariants.{Plain}
use Rattle.scenario_runs.specs.Runs.{RanBy}
use Rattle.scenario_runs.proofs.Programs.{all_ran, have_contexts}
use Rattle.scenario_runs.proofs.scheduled.run_once.Goals as goal

pub returns-clause-ran : goal.returns-clause-ran
returns-clause-ran c =
    all_ran c.args.system (opening_memory c.args.scenario.now.memory) c.args.scenario.now c.args.programs c.in_ok-scripts.scripts false c.run_from.result c.scripts_that_map_nothing.ensures.run c.requires.programs c.requires.fit c.in_ok-scripts.ensures
    (subst (λ (m : ByteMap). IfOk c.run_from.result (λ ran. RanBy c.args.system m c.args.scenario.now (map Plain c.in_ok-scripts.scripts) false ran.spm.history ran.verdict)) c.in_ok-memory.ensures.bytes c.run_from.ensures.ran)

pub run_from-requires-clause-contexts : goal.run_from-requires-clause-contexts
run_from-requires-clause-contexts c = have_contexts c.args.system c.args.programs c.in_ok-scripts.scripts c.requires.programs c.requires.fit c.in_ok-scripts.ensures
