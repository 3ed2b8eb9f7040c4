use Rattle.std.proofs.Common.{take}
use Rattle.ffm_model.specs.Contexts.{context_engine, opening_contexts}
use Rattle.script_points.specs.Points.{AreContexts}
use Rattle.view_scripts.proofs.Following.{Followed}
use Rattle.view_scripts.proofs.standing.contexts_standing.Given as goal

-- the entries so far followed the contexts
abbrev pub invariant-loop-index : goal.invariant-loop-index
invariant-loop-index l = record {
  followed : Followed (context_engine l.parts) (opening_contexts l.parts) l.actor (take l.index l.entries) l.contexts l.pending;
  are : AreContexts l.parts l.contexts;
}
