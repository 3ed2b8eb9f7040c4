use Rattle.std.proofs.Common.{◌≡◌, ◌+◌, length, arith, ap, sym, ◌∙◌}
use Rattle.object_pools.specs.Pool.{Places}
use Rattle.spm_tables.specs.declared.item.QueuedMessage.{QueuedMessage}
use Rattle.panic_state.proofs.Walks.{messages_from-all, messages_from-other, messages_from-gone, messages_from-none, gone-shorter}
use Rattle.panic_state.proofs.services.drop_messages.Goals as goal

pub loop-place-init : goal.loop-place-init
loop-place-init c = messages_from-none c.args.system.now c.args.partition.0 c.args.tables.now

pub loop-place-smaller-then-is_service_of : goal.loop-place-smaller-then-is_service_of
loop-place-smaller-then-is_service_of c =
    let n = c.loop-place.place in
    let shorter : length c.drop_message.new.tables.messages.held + 1 ≡ length c.loop-place.tables.messages.held =
    gone-shorter n c.loop-place.tables c.drop_message.new.tables c.message_at-held.result c.message_at-held.ensures.kept c.message_at-held.ensures.at c.drop_message.ensures in
    omega (arith, shorter, c.live.ensures, c.loop-place-test.true, ap (λ (q : Places QueuedMessage). length q.held) c.messages.ensures)

pub loop-place-preserved-then-is_service_of : goal.loop-place-preserved-then-is_service_of
loop-place-preserved-then-is_service_of c =
    let n = c.loop-place.place in
    messages_from-gone c.args.system.now c.args.partition.0 n c.loop-place.tables c.drop_message.new.tables c.message_at-held.result c.message_at-held.ensures.kept c.message_at-held.ensures.at
    (sym c.is_service_of.ensures ∙ c.if-is_service_of.true) c.drop_message.ensures
    ∙ c.loop-place.invariant

pub loop-place-preserved : goal.loop-place-preserved
loop-place-preserved c =
    let n = c.loop-place.place in
    messages_from-other c.args.system.now c.args.partition.0 n c.loop-place.tables c.message_at-held.result c.message_at-held.ensures.at (sym c.is_service_of.ensures ∙ c.if-is_service_of.false) ∙ c.loop-place.invariant

pub returns : goal.returns
returns c =
    sym (messages_from-all c.args.system.now c.args.partition.0 c.loop-place.place c.loop-place.tables
    (omega (arith, c.live.ensures, c.loop-place-test.false, ap (λ (q : Places QueuedMessage). length q.held) c.messages.ensures)))
    ∙ c.loop-place.invariant
