use Rattle.std.proofs.Common.{◌≡◌, ◌++◌, [], ◌∷◌, ℤ, w32, ap, subst, ◌∙◌}
use Rattle.std.specs.Prelude.{IfSome}
use Rattle.std.proofs.lemmas.Int.{to_z-of_z}
use Rattle.std.proofs.lemmas.Option.{IfSome_then}
use Rattle.law_lists.proofs.Options.{some-and}
use Rattle.ffm_model.specs.declared.machine.ActorId.{ActorId}
use Rattle.ffm_model.specs.declared.objects.ActorPhase.TheVariants.{Blocked}
use Rattle.ffm_model.specs.State.{SpmState, with_phase}
use Rattle.object_pools.specs.Pool.{free_slot, item_at, taken}
use Rattle.spm_tables.specs.declared.item.QueuedMessage.{QueuedMessage}
use Rattle.spm_tables.specs.TablesView.{TablesView, fresh_message, queued, spm_of}
use Rattle.client_calls.specs.Sending.{item_on, message_on}
use Rattle.client_calls.proofs.SendLemmas.{queued-on}
use Rattle.client_calls.proofs.sending.send.Goals as goal

queued-so : (c : goal.After-set_phase) → IfSome (item_at c.args.tables.now.connections c.args.slot) (λ x. queued c.args.tables.now.connections c.item_on-item.result ≡ message_on c.args.slot x c.args.kind c.args.vectors)
queued-so c =
    let is : ℤ → Type 0 = λ k. IfSome (item_at c.args.tables.now.connections c.args.slot) (λ x. c.item_on-item.result ≡ item_on c.args.slot x k c.args.vectors) in
    queued-on c.args.tables.now.connections c.args.slot c.args.kind c.args.vectors c.item_on-item.result (subst is (to_z-of_z w32 c.args.kind c.ranges.kind) (rw c.connections.ensures at c.item_on-item.ensures.item))

pub returns-clause-messages : goal.returns-clause-messages
returns-clause-messages c =
    let d = c.args.tables.now in
    IfSome_then (item_at d.connections c.args.slot) (queued-so c)
    (λ x is.
    some-and (free_slot d.messages) c.enqueue.result (λ place. c.set_phase.new.self.messages ≡ taken d.messages place (message_on c.args.slot x c.args.kind c.args.vectors)) c.enqueue.ensures.slot
    (ap (λ (e : TablesView). e.messages) c.set_phase.ensures.after ∙ ap (λ (e : TablesView). e.messages) c.enqueue.ensures.after ∙ ap (λ (m : QueuedMessage). taken d.messages c.enqueue.result m) is))

pub returns-clause-state : goal.returns-clause-state
returns-clause-state c =
    let d = c.args.tables.now in
    let with_sent : QueuedMessage → SpmState = λ m. record (spm_of d) { messages = (spm_of d).messages ++ fresh_message m ∷ [] } in
    IfSome_then (item_at d.connections c.args.slot) (queued-so c)
    (λ x is.
    c.set_phase.ensures.state
    ∙ ap (λ (a : ActorId). with_phase (spm_of c.enqueue.new.self) a.0 Blocked) (ap (λ (m : QueuedMessage). m.client) is)
    ∙ ap (λ (b : SpmState). with_phase b x.client.0 Blocked) (c.enqueue.ensures.state ∙ ap with_sent is))
