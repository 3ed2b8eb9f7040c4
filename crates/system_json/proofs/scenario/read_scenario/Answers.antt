use Rattle.std.proofs.Common.{[]}
use Rattle.std.proofs.lemmas.Result.{err_from_is_err_and}
use Rattle.serde_json.specs.View.{view}
use Rattle.ffm_model.specs.declared.place.Root.TheVariants as root
use Rattle.ffm_model.specs.Scenarios.{scenario_of, IsScenarioOf}
use Rattle.system_json.proofs.Files.{no_scenario, scenario_at, reads_given, kept_placed}
use Rattle.system_json.proofs.scenario.read_scenario.Goals as goal

pub returns-in_err-tree-clause-given : goal.returns-in_err-tree-clause-given
returns-in_err-tree-clause-given c =
    let p = err_from_is_err_and c.from_residual.result c.from_residual.ensures.1 in
    let failed = rw (c.of.ensures, c.new.ensures.items) at c.in_err-tree.ensures in
    rw (p.1, p.2) (no_scenario c.args.system.now c.args.bytes.now c.in_err-tree.field-0.0 failed)

pub returns-clause-given : goal.returns-clause-given
returns-clause-given c =
    let tree = c.in_ok-tree.tree in
    let given = rw c.new-2.ensures.items at (c.placed.ensures (scenario_of c.args.system.now (view tree)) c.scenario-read.ensures.given) in
    rw (scenario_at c.args.system.now c.args.bytes.now (view tree) c.in_ok-tree.ensures) (reads_given c.placed.result _ given)

pub returns-clause-kept : goal.returns-clause-kept
returns-clause-kept c =
    let given = rw c.new-2.ensures.items at c.placed.ensures in
    kept_placed (IsScenarioOf c.args.system.now) root.Scenario [] c.scenario-read.result c.placed.result given c.scenario-read.ensures.kept
