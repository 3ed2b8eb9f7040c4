use Rattle.std.proofs.Common.{◌≡◌, List, ◌++◌, ap₂, subst, sym, ◌∙◌}
use Rattle.std.specs.List.{enumerate_from, flat_map}
use Rattle.actor_programs.specs.Programs.{AreScriptsOf}
use Rattle.script_points.specs.Points.{Parts}
use Rattle.view_scripts.specs.declared.rows.ScriptRow.{ScriptRow}
use Rattle.view_scripts.specs.declared.standing.Standing.{Standing}
use Rattle.view_scripts.specs.Standings.{AreShown}
use Rattle.view_scripts.specs.Rows.{actor_rows}
use Rattle.view_scripts.proofs.Fits.{all-shown}
use Rattle.view_scripts.proofs.rows.rows_of.Goals as goal

pub push_standings-requires-clause-shown : goal.push_standings-requires-clause-shown
push_standings-requires-clause-shown c =
    let s = c.args.system.now in
    let scripts : List Parts = c.as_slice-scripts.result.now in
    subst (AreShown s scripts) (sym c.deref.ensures.value) (all-shown s scripts c.args.entries.now c.in_ok-found.found.items c.in_ok-found.ensures)

pub returns : goal.returns
returns c =
    let s = c.args.system.now in
    let scripts : List Parts = c.as_slice-scripts.result.now in
    let same : scripts ≡ c.in_ok-made.made = c.as_slice-scripts.ensures in
    record {
      scripts = scripts;
      standings = c.in_ok-found.found.items;
      of_programs = subst (AreScriptsOf s c.args.programs) (sym same) c.in_ok-made.ensures;
      are = c.in_ok-found.ensures;
      rows_are = c.in_ok-push_standings.ensures
          ∙ ap₂ (λ (u : List ScriptRow) (l : List Standing). u ++ flat_map (actor_rows s c.args.scenario.now scripts) (enumerate_from 0 l)) c.new-rows.ensures.items c.deref.ensures.value;
    }
