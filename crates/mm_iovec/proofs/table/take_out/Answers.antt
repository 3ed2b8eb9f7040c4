use Rattle.std.proofs.Common.{map, sym}
use Rattle.mm_iovec.specs.Items.{message_of}
use Rattle.mm_iovec.proofs.TableLemmas.{without_place, without-none}
use Rattle.mm_iovec.proofs.table.take_out.Goals as goal

pub returns-in-Some : goal.returns-in-Some
returns-in-Some c =
    rw c.remove.ensures.items (without_place message_of c.args.handle c.args.items.now.items c.in-Some.place (rw c.as_slice.ensures.value at c.in-Some.ensures))

pub returns-in_default : goal.returns-in_default
returns-in_default c = sym (without-none c.args.handle (map message_of c.args.items.now.items) (rw c.as_slice.ensures.value at (sym c.in_default.ensures)))
