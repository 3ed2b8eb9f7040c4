use Rattle.std.proofs.Common.{Bool, ap, sym, ◌∙◌}
use Rattle.std.specs.Prelude.{Some}
use Rattle.spm_core.proofs.Kept.{enabled-kept}
use Rattle.spm_core.proofs.spm.Spm.enabled.Goals as goal

pub returns : goal.returns
returns c = rw (← c.self.view_is) (enabled-kept _ _ _ _ _ c.args.actor.0 c.self.invariant ∙ ap (λ (b : Bool). Some b) (sym (c.is_enabled.ensures c.self.inside.system c.self.invariant.made)))
