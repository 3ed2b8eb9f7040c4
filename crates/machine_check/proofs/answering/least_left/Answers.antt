use Rattle.std.proofs.Common.{◌∙◌, ℤ, ap, arith, sym, w32}
use Rattle.std.specs.BTreeSet.{contains}
use Rattle.std.specs.Ordering.{int_cmp}
use Rattle.std.proofs.lemmas.Int.{to_z_pos}
use Rattle.machine_check.proofs.Due.{more_given, none_is_left}
use Rattle.machine_check.proofs.answering.least_left.Goals as goal

pub loop-number-preserved : goal.loop-number-preserved
loop-number-preserved c =
    more_given c.args.given.now c.loop-number.number c.loop-number.invariant
    (ap (λ (z : ℤ). contains int_cmp c.args.given.now z) (sym (to_z_pos w32 c.loop-number.number (omega arith))) ∙ sym c.if-not-contains.ensures)

pub returns : goal.returns
returns c = none_is_left c.args.given.now c.loop-number.number c.loop-number-test.false c.loop-number.invariant
