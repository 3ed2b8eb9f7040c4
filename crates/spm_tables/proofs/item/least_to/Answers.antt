use Rattle.std.proofs.Common.{ℕ, ◌≡◌, ◌≤◌, arith, rules, sym, subst}
use Rattle.std.specs.Prelude.{Option, IfSome, IsSome, All, Some}
use Rattle.object_pools.specs.Pool.{item_at}
use Rattle.spm_tables.specs.declared.item.QueuedMessage.{QueuedMessage}
use Rattle.spm_tables.proofs.MessageLemmas.{least-all, none-all, found-live, found-index}
use Rattle.spm_tables.proofs.item.least_to.Goals as goal

some-live : (o : Option QueuedMessage) (m : QueuedMessage) → o ≡ Some m → IsSome o
some-live o m e = rw e (search rules)

pub returns-in-loop-index-clause-service : goal.returns-in-loop-index-clause-service
returns-in-loop-index-clause-service c =
    subst (λ (o : Option QueuedMessage). IfSome o (λ m. m.service ≡ c.args.service))
    (sym (found-live c.args.messages.now c.loop-index.index c.in-Some.held c.law.ensures (sym c.in-Some.ensures))) c.if-held-service.true

pub returns-in-loop-index-clause-live : goal.returns-in-loop-index-clause-live
returns-in-loop-index-clause-live c =
    some-live (item_at c.args.messages.now c.in-Some.held.slot) c.in-Some.held.item (found-live c.args.messages.now c.loop-index.index c.in-Some.held c.law.ensures (sym c.in-Some.ensures))

pub returns-in-loop-index-clause-least : goal.returns-in-loop-index-clause-least
returns-in-loop-index-clause-least c =
    subst (λ (n : ℕ). All (λ h. h.item.service ≡ c.args.service → n ≤ h.slot.index) c.args.messages.now.held)
    (sym (found-index c.args.messages.now c.loop-index.index c.in-Some.held (sym c.in-Some.ensures)))
    (least-all c.args.messages.now c.args.service c.loop-index.index c.law.ensures c.loop-index.invariant)

pub returns-clause-none : goal.returns-clause-none
returns-clause-none c =
    λ e. none-all c.args.messages.now c.args.service c.loop-index.index c.law.ensures (omega (arith, c.size-index-end.ensures)) c.loop-index.invariant
