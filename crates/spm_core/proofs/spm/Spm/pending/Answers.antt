use Rattle.std.proofs.Common.{◌≡◌, Bool, ap, sym, ◌∙◌}
use Rattle.std.specs.Prelude.{Some}
use Rattle.ffm_model.specs.State.{phase_of}
use Rattle.spm_tables.specs.TablesView.{spm_of}
use Rattle.law_counting.specs.Pending.{is_pending}
use Rattle.spm_core.proofs.Kept.{last-kept, pending-kept}
use Rattle.spm_core.proofs.spm.Spm.pending.Goals as goal

pub returns-clause-phase : goal.returns-clause-phase
returns-clause-phase c =
    let is : c.is_pending.result ≡ is_pending (phase_of (spm_of c.self.inside.tables) c.args.actor.0) = c.is_pending.ensures ∙ ap is_pending c.phase.ensures in
    rw (← c.self.view_is) (pending-kept _ _ _ _ _ c.args.actor.0 c.self.invariant ∙ ap (λ (b : Bool). Some b) (sym is))

pub returns-clause-last : goal.returns-clause-last
returns-clause-last c stays =
    let is : c.is_pending.result ≡ is_pending (phase_of (spm_of c.self.inside.tables) c.args.actor.0) = c.is_pending.ensures ∙ ap is_pending c.phase.ensures in
    rw (← c.self.view_is) (is ∙ last-kept _ _ _ _ _ c.args.actor.0 c.self.invariant (rw (← c.self.view_is) at stays))
