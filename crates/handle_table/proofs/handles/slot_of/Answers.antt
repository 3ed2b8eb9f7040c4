use Rattle.std.proofs.Common.{arith, ◌≡◌, ap, sym}
use Rattle.std.specs.Prelude.{pos}
use Rattle.std.proofs.lemmas.Int.{ints}
use Rattle.ffm_model.specs.declared.machine.Handle.{Handle}
use Rattle.handle_table.specs.Handles.{handle_number}
use Rattle.handle_table.proofs.handles.slot_of.Goals as goal

pub returns-in-Ok-clause-only : goal.returns-in-Ok-clause-only
returns-in-Ok-clause-only c = λ family slot named e.
    let whole : c.args.handle.0 ≡ pos (handle_number family slot) = ap (λ (h : Handle). h.0) (sym e) in
    let same : handle_number family slot ≡ c.in-Ok.number = omega (arith, ints, c.in-Ok.ensures) in
    c.slot_of_number.ensures.only family slot named same
