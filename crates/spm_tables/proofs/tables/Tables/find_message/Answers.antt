use Rattle.std.proofs.Common.{ap, sym, ◌∙◌}
use Rattle.object_pools.specs.Pool.{Places, item_at}
use Rattle.spm_tables.specs.declared.item.QueuedMessage.{QueuedMessage}
use Rattle.std.specs.Prelude.{true, false}
use Rattle.spm_tables.specs.contracts.tables.Tables.{the_view}
use Rattle.spm_tables.proofs.MessageLemmas.{find-none, find-gone, find-shown}
use Rattle.spm_tables.proofs.tables.Tables.find_message.Goals as goal

pub returns-in_default-clause-message : goal.returns-in_default-clause-message
returns-in_default-clause-message c =
    let names = rw c.in_default.is at c.message_slot.ensures.only in
    rw (← c.self.view_is) (λ s made. find-none (the_view c.self.inside) s c.args.partition.0 c.args.handle c.law.ensures names made)

pub returns-in_default-item_at-clause-message : goal.returns-in_default-item_at-clause-message
returns-in_default-item_at-clause-message c =
    rw (← c.self.view_is)
    (λ s made. find-gone (the_view c.self.inside) s c.args.partition.0 c.args.handle c.in-Some.slot c.law.ensures c.in-Some.ensures.only c.in-Some.ensures.gives made
    (sym c.in_default-item_at.is ∙ c.item_at.ensures ∙ ap (λ (p : Places QueuedMessage). item_at p c.in-Some.slot) c.messages.ensures))

pub returns-then-is_held-clause-message : goal.returns-then-is_held-clause-message
returns-then-is_held-clause-message c =
    let live = c.in-Some-item_at.ensures ∙ ap (λ (p : Places QueuedMessage). item_at p c.in-Some.slot) c.messages.ensures in
    let test = rw c.inputs.ensures at c.if-is_held.ensures in
    rw (← c.self.view_is, ← live)
    (λ s made. find-shown (the_view c.self.inside) s c.args.partition.0 c.args.handle c.in-Some.slot c.in-Some-item_at.message true c.law.ensures c.in-Some.ensures.only c.in-Some.ensures.gives made
    live test)

pub returns-else-is_held-clause-message : goal.returns-else-is_held-clause-message
returns-else-is_held-clause-message c =
    let live = c.in-Some-item_at.ensures ∙ ap (λ (p : Places QueuedMessage). item_at p c.in-Some.slot) c.messages.ensures in
    let test = rw c.inputs.ensures at c.if-is_held.ensures in
    rw (← c.self.view_is)
    (λ s made. find-shown (the_view c.self.inside) s c.args.partition.0 c.args.handle c.in-Some.slot c.in-Some-item_at.message false c.law.ensures c.in-Some.ensures.only c.in-Some.ensures.gives made
    live test)
