use Rattle.std.proofs.Common.{map, ◌∙◌, sym}
use Rattle.mm_iovec.specs.Items.{message_of}
use Rattle.mm_iovec.proofs.WindowLemmas.{windows-done}
use Rattle.mm_iovec.proofs.held.Held.act.Goals as goal

pub invariant_of-self : goal.invariant_of-self
invariant_of-self c =
    rw c.change.ensures
    (windows-done c.self.inside.holder c.args.line (map message_of c.self.inside.messages.items) c.self.invariant
    (rw (← c.self.view_is) at (sym c.allows.ensures ∙ c.if-not-allows.false)))
