use Rattle.std.proofs.Common.{map}
use Rattle.mm_iovec.specs.Items.{message_of}
use Rattle.mm_iovec.proofs.WindowLemmas.{unmappable-out}
use Rattle.mm_iovec.proofs.steps.step_done.Goals as goal

pub output_window-requires-in-UnmapOut-clause-some : goal.output_window-requires-in-UnmapOut-clause-some
output_window-requires-in-UnmapOut-clause-some c =
    unmappable-out c.args.holder.now (map message_of c.args.items.now) c.in-UnmapOut.handle c.in-UnmapOut.index c.in-UnmapOut.len c.requires.windows
    (rw c.in-UnmapOut.is at c.requires.can)
