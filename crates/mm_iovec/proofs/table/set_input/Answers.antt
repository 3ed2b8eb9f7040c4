use Rattle.std.proofs.Common.{map, sym}
use Rattle.ffm_model.specs.Held.{with_input}
use Rattle.mm_iovec.specs.Items.{message_of, state_of}
use Rattle.mm_iovec.proofs.TableLemmas.{changed_place, changed-none}
use Rattle.mm_iovec.proofs.table.set_input.Goals as goal

pub returns-in-Some : goal.returns-in-Some
returns-in-Some c =
    rw c.put.ensures
    (changed_place message_of c.args.handle (with_input (state_of c.args.state) c.args.index) c.args.items.now.items c.in-Some.place _ _
    (rw c.as_slice.ensures.value at c.in-Some.ensures) (rw c.as_slice-in-Some.ensures.value at c.with_input.ensures))

pub returns-in_default : goal.returns-in_default
returns-in_default c =
    sym (changed-none c.args.handle (with_input (state_of c.args.state) c.args.index) (map message_of c.args.items.now.items) (rw c.as_slice.ensures.value at (sym c.in_default.ensures)))
