use Rattle.std.proofs.Common.{map, sym}
use Rattle.ffm_model.specs.Held.{touched}
use Rattle.mm_iovec.specs.Items.{message_of}
use Rattle.mm_iovec.proofs.TableLemmas.{changed_place, changed-none}
use Rattle.mm_iovec.proofs.table.touch_input.Goals as goal

pub returns-in-Some : goal.returns-in-Some
returns-in-Some c =
    rw c.put.ensures
    (changed_place message_of c.args.handle (λ m. record m { input = touched c.args.index m.input }) c.args.items.now.items c.in-Some.place _ _
    (rw c.as_slice.ensures.value at c.in-Some.ensures) (rw c.as_slice-in-Some.ensures.value at c.with_input_touched.ensures))

pub returns-in_default : goal.returns-in_default
returns-in_default c =
    sym (changed-none c.args.handle (λ m. record m { input = touched c.args.index m.input }) (map message_of c.args.items.now.items) (rw c.as_slice.ensures.value at (sym c.in_default.ensures)))
