use Rattle.std.proofs.Common.{map}
use Rattle.ffm_model.specs.declared.machine.Call.TheVariants as call
use Rattle.ffm_model.specs.declared.machine.Outcome.TheVariants as outcome
use Rattle.mm_iovec.specs.Items.{message_of}
use Rattle.mm_iovec.proofs.WindowLemmas.{windows-after}
use Rattle.mm_iovec.proofs.held.Held.got.Goals as goal

pub invariant_of-self : goal.invariant_of-self
invariant_of-self c =
    rw c.got.ensures
    (windows-after c.self.inside.holder (call.Get c.args.signal 0) (outcome.Got c.args.message) (map message_of c.self.inside.messages.items) c.self.invariant)
