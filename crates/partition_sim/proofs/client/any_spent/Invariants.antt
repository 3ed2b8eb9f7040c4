use Rattle.std.proofs.Common.{ℕ, ◌≡◌, ◌<◌, List, get_or, false}
use Rattle.ffm_model.specs.Contexts.{is_spent, script_of}
use Rattle.ffm_model.specs.ScriptRuns.{Point, start}
use Rattle.partition_sim.specs.Clients.{EachAtCall, call_from}
use Rattle.partition_sim.proofs.client.any_spent.Given as goal

abbrev pub invariant-loop-k : goal.invariant-loop-k
invariant-loop-k l = (ps : List Point) → EachAtCall l.parts ps l.contexts → (j : ℕ) → j < l.k
    → is_spent (call_from (script_of l.parts j) (get_or ps j start)) ≡ false
