use Rattle.std.proofs.Common.{refl, ap, ap₂, sym, ◌∙◌, List, ℕ}
use Rattle.ffm_model.specs.Held.{HeldMessage}
use Rattle.mm_iovec.specs.HeldView.{HeldView}
use Rattle.script_engines.specs.Holdings.{holding}
use Rattle.partition_sim.proofs.HeldLemmas.{after-blocked, after-answer}
use Rattle.partition_sim.proofs.partition.PartitionRunner.after.Goals as goal

pub returns-then-is_blocked : goal.returns-then-is_blocked
returns-then-is_blocked c = rw (← c.self.view_is) (λ p script os a.
    after-blocked p script os c.args.outcome.now _ (sym c.is_blocked.ensures ∙ c.if-is_blocked.true) a)

pub returns : goal.returns
returns c = rw (← c.self.view_is) (λ p script os a.
    after-answer p script os c.args.outcome.now _ _ (sym c.is_blocked.ensures ∙ c.if-is_blocked.false) refl refl (ap (λ (h : HeldView). h.holder) c.noted.ensures)
    (ap₂ (λ (rs : List ℕ) (t : List HeldMessage). holding rs c.self.inside.after t) c.note_held.ensures (ap (λ (h : HeldView). h.table) c.noted.ensures)) a)
