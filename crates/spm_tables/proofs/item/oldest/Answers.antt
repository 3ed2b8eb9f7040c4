use Rattle.std.proofs.Common.{ap, ◌∙◌}
use Rattle.std.specs.Option.{option_map}
use Rattle.object_pools.specs.declared.slot.Held.{Held}
use Rattle.spm_tables.specs.declared.item.QueuedMessage.{QueuedMessage}
use Rattle.spm_tables.proofs.QueueMessages.{oldest-at}
use Rattle.spm_tables.proofs.item.oldest.Goals as goal

pub returns-in-Some : goal.returns-in-Some
returns-in-Some c =
    ap (option_map (λ (h : Held QueuedMessage). h.slot)) c.in-Some.ensures
    ∙ oldest-at c.args.messages.now c.args.service c.ends_at.result.first c.law.ensures (rw c.ends_at.ensures c.requires)

pub returns-in-None : goal.returns-in-None
returns-in-None c =
    ap (option_map (λ (h : Held QueuedMessage). h.slot)) c.in-None.ensures
    ∙ oldest-at c.args.messages.now c.args.service c.ends_at.result.first c.law.ensures (rw c.ends_at.ensures c.requires)
