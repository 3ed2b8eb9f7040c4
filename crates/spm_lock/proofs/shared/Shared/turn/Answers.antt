use Rattle.std.proofs.Common.{◌<◌, sym, subst, ◌∙◌}
use Rattle.spm_core.specs.Manager.{Managed}
use Rattle.spm_lock.specs.Histories.{actors}
use Rattle.spm_lock.proofs.Turns.{pending_made, pending_after}
use Rattle.spm_lock.proofs.shared.Shared.turn.Goals as goal

pub invariant_of-pass : goal.invariant_of-pass
invariant_of-pass g c =
    let idle = c.take_turn-answer.ensures.idle in
    record {
      idle = idle.0;
      exists = subst (λ (m : Managed). c.pass.inside.actor.0 < actors m.opening) (sym idle.1) c.pass.invariant.exists;
      pending_is = c.is_blocked-pass-inside.ensures ∙ pending_made _ _ _ _ _ _ _ c.in-Made.ensures.turn;
    }

pub invariant_of-pass-in_default : goal.invariant_of-pass-in_default
invariant_of-pass-in_default g c =
    let idle = c.take_turn-answer.ensures.idle in
    record {
      idle = idle.0;
      exists = subst (λ (m : Managed). c.pass.inside.actor.0 < actors m.opening) (sym idle.1) c.pass.invariant.exists;
      pending_is = c.pass.invariant.pending_is ∙ pending_after _ _ _ _ _ _ c.in_default.not-Made c.take_turn-answer.ensures.turn;
    }
