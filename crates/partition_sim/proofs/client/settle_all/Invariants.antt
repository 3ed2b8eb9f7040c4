use Rattle.std.proofs.Common.{ℕ, ◌≡◌, ◌<◌, ◌≤◌, List, get_or}
use Rattle.ffm_model.specs.Contexts.{script_of}
use Rattle.ffm_model.specs.ScriptRuns.{Point, start}
use Rattle.partition_sim.specs.Clients.{AtCall, EachReaches, first_context}
use Rattle.partition_sim.proofs.client.settle_all.Given as goal

abbrev pub invariant-loop-k : goal.invariant-loop-k
invariant-loop-k l = record {
  at : (ps : List Point) → EachReaches l.parts ps l.initial.contexts → (j : ℕ) → j < l.k → AtCall (script_of l.parts j) (get_or ps j start) (get_or l.contexts j first_context);
  others : (j : ℕ) → l.k ≤ j → get_or l.contexts j first_context ≡ get_or l.initial.contexts j first_context;
}
