use Rattle.std.proofs.Common.{◌≡◌, ◌++◌, drop}
use Rattle.std.specs.List.{enumerate_from, flat_map}
use Rattle.view_scripts.specs.Rows.{actor_rows}
use Rattle.view_scripts.proofs.rows.push_standings.Given as goal

-- the rows so far, and then those of the other actors
abbrev pub invariant-loop-actor : goal.invariant-loop-actor
invariant-loop-actor l =
    l.rows.items ++ flat_map (actor_rows l.system l.scenario l.scripts) (enumerate_from l.actor (drop l.actor l.standings))
    ≡ l.initial.rows.items ++ flat_map (actor_rows l.system l.scenario l.scripts) (enumerate_from 0 l.standings)
