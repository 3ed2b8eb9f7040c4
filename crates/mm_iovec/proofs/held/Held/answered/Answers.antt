use Rattle.std.proofs.Common.{map}
use Rattle.mm_iovec.specs.Items.{message_of}
use Rattle.mm_iovec.proofs.WindowLemmas.{windows-without}
use Rattle.mm_iovec.proofs.held.Held.answered.Goals as goal

pub invariant_of-self : goal.invariant_of-self
invariant_of-self c = rw c.take_out.ensures (windows-without c.self.inside.holder c.args.handle (map message_of c.self.inside.messages.items) c.self.invariant)
