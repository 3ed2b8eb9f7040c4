use Rattle.std.proofs.Common.{◌≡◌, take}
use Rattle.ffm_model.specs.Held.{holder_of}
use Rattle.ffm_model.specs.HeldPlans.{held_engine, holding_none}
use Rattle.view_scripts.proofs.Following.{Followed}
use Rattle.view_scripts.proofs.standing.holding_standing.Given as goal

-- the entries so far followed the script
abbrev pub invariant-loop-index : goal.invariant-loop-index
invariant-loop-index l = record {
  followed : Followed (held_engine (holder_of l.system l.actor) l.instructions) holding_none l.actor (take l.index l.entries) l.holding l.pending;
  holder : l.held.holder ≡ holder_of l.system l.actor;
}
