use Rattle.actor_programs.proofs.ScriptLemmas.{all-read, of-scripts}
use Rattle.actor_programs.proofs.programs.programs_of.Goals as goal

pub returns-clause-scripts : goal.returns-clause-scripts
returns-clause-scripts c =
    of-scripts c.args.system.now c.args.scenario.now c.in_ok-all_joined.field-0 c.requires
    (all-read c.args.system.now c.args.scenario.now c.in_ok-made.made.items c.in_ok-all_joined.field-0 c.in_ok-made.ensures.reads c.in_ok-all_joined.ensures)
