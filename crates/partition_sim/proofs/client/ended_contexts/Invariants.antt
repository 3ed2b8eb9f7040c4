use Rattle.std.proofs.Common.{ℕ, ◌≡◌, ◌<◌, List, length, get_or, false}
use Rattle.ffm_model.specs.Contexts.{script_of}
use Rattle.ffm_model.specs.Plans.{is_stop}
use Rattle.ffm_model.specs.ScriptRuns.{Point, start}
use Rattle.partition_sim.specs.Clients.{EachAtCall, call_from}
use Rattle.partition_sim.proofs.client.ended_contexts.Given as goal

abbrev pub invariant-loop-k : goal.invariant-loop-k
invariant-loop-k l = record {
  long : length l.ended ≡ 8;
  ended : (ps : List Point) → EachAtCall l.parts ps l.contexts → (j : ℕ) → j < l.k
      → get_or l.ended j false ≡ is_stop (call_from (script_of l.parts j) (get_or ps j start));
}
