use Rattle.std.proofs.Common.{◌≡◌, ◌++◌, drop, map}
use Rattle.std.specs.List.{enumerate_from}
use Rattle.view_scripts.specs.Rows.{context_row}
use Rattle.view_scripts.proofs.rows.push_contexts.Given as goal

-- the rows so far, and then those of the other contexts
abbrev pub invariant-loop-k : goal.invariant-loop-k
invariant-loop-k l =
    l.rows.items ++ map (context_row l.system l.scenario l.actor l.parts l.contexts) (enumerate_from l.k (drop l.k l.parts))
    ≡ l.initial.rows.items ++ map (context_row l.system l.scenario l.actor l.parts l.contexts) (enumerate_from 0 l.parts)
