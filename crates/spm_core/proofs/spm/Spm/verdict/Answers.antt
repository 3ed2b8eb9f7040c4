use Rattle.std.proofs.Common.{◌≡◌, length, sym, rules, ◌∙◌}
use Rattle.std.specs.Prelude.{Some, None}
use Rattle.ffm_model.specs.declared.machine.Verdict.TheVariants.{Quiet, Stalled, Full}
use Rattle.ffm_model.specs.Verdicts.{verdict_at}
use Rattle.spm_tables.specs.TablesView.{spm_of}
use Rattle.spm_core.proofs.Kept.{verdict-kept}
use Rattle.spm_core.proofs.spm.Spm.verdict.Goals as goal

pub returns-then-len-self : goal.returns-then-len-self
returns-then-len-self c =
    let at : verdict_at c.self.inside.system c.self.inside.limit (length c.self.inside.history.items) (spm_of c.self.inside.tables) ≡ Some Full = search rules in
    rw (← c.self.view_is) (sym (verdict-kept _ _ _ _ _ c.self.invariant ∙ at))

pub returns-else-len-self : goal.returns-else-len-self
returns-else-len-self c =
    let at : verdict_at c.self.inside.system c.self.inside.limit (length c.self.inside.history.items) (spm_of c.self.inside.tables) ≡ None = search rules in
    rw (← c.self.view_is) (sym (verdict-kept _ _ _ _ _ c.self.invariant ∙ at))

pub returns-then-is_some_blocked : goal.returns-then-is_some_blocked
returns-then-is_some_blocked c =
    let at : verdict_at c.self.inside.system c.self.inside.limit (length c.self.inside.history.items) (spm_of c.self.inside.tables) ≡ Some Stalled = search rules in
    rw (← c.self.view_is) (sym (verdict-kept _ _ _ _ _ c.self.invariant ∙ at))

pub returns-else-is_some_blocked : goal.returns-else-is_some_blocked
returns-else-is_some_blocked c =
    let at : verdict_at c.self.inside.system c.self.inside.limit (length c.self.inside.history.items) (spm_of c.self.inside.tables) ≡ Some Quiet = search rules in
    rw (← c.self.view_is) (sym (verdict-kept _ _ _ _ _ c.self.invariant ∙ at))
