use Rattle.std.proofs.Common.{ℕ, ◌<◌, ◌≤◌, length, arith}
use Rattle.serde_json.specs.View.{view}
use Rattle.ffm_model.specs.declared.constants.TheConstants.{MAX_SCRIPT_LINES}
use Rattle.ffm_model.specs.declared.script_item.ScriptItem.{ScriptItem}
use Rattle.ffm_model.specs.Actors.{actor_count}
use Rattle.system_json.proofs.Files.{all_actors}
use Rattle.system_json.proofs.Gathered.{length-lines_by_actor}
use Rattle.system_json.proofs.Scripts.{first_kept, second_kept, fitting, few_scripts, scripts_of, short_lines}
use Rattle.system_json.proofs.scenario.scenario.Goals as goal

abbrev IsActor : ℕ → ScriptItem → Type 0
IsActor n script = script.actor.0 < n

abbrev IsShort : ScriptItem → Type 0
IsShort script = length script.lines ≤ MAX_SCRIPT_LINES

pub lines_by_actor-requires : goal.lines_by_actor-requires
lines_by_actor-requires c =
    let n = actor_count c.args.system.now in
    rw c.actor_count.ensures (first_kept (IsActor n) IsShort c.in_ok-scripts.scripts c.in_ok-scripts.ensures.kept)

pub returns-clause-kept : goal.returns-clause-kept
returns-clause-kept c =
    let limits = c.in_ok-limit.ensures.kept in
    let n = actor_count c.args.system.now in
    let scripts = c.in_ok-scripts.scripts in
    let actors = first_kept (IsActor n) IsShort scripts c.in_ok-scripts.ensures.kept in
    let given = rw (c.of-none.ensures, c.new.ensures.items) at c.in_ok-scripts.ensures.given in
    let fits = fitting c.args.system.now (view c.args.tree.now) scripts given in
    let short = second_kept (IsActor n) IsShort scripts c.in_ok-scripts.ensures.kept in
    let lines = rw (c.actor_count.ensures) at c.in_ok-lines.ensures in
    record {
      limit = omega (arith, limits.0);
      limit_end = limits.1;
      lines = rw (c.of.ensures, lines) (length-lines_by_actor n scripts);
      short = rw (c.of.ensures, lines) (short_lines n scripts short);
      scripts = λ a lt. rw (c.of.ensures, lines) (scripts_of c.args.system.now n scripts fits a lt);
      order = rw (c.of-2.ensures, c.in_ok-order.ensures, c.as_slice.ensures) (all_actors n scripts actors);
      few = rw (c.of.ensures, lines, c.of-2.ensures, c.in_ok-order.ensures, c.as_slice.ensures) (few_scripts n scripts actors);
      schedule = c.in_ok-schedule.ensures.kept;
      raises = c.in_ok-raises.ensures.kept;
      memory = c.in_ok-memory.ensures.kept;
      restarts = c.in_ok-restarts.ensures.kept.1;
    }
