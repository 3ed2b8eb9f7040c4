use Rattle.std.proofs.Common.{arith, sym, ◌∙◌}
use Rattle.memory_image.specs.Differences.{differs}
use Rattle.memory_image.specs.Pieces.{byte_at}
use Rattle.memory_image.proofs.Changed.{counted_le}
use Rattle.machine_check.proofs.Compared.{one-count, one-least, other-outside, own-outside}
use Rattle.machine_check.proofs.differences.Differences.in_range.Goals as goal

pub returns-then-is_own-clause-differences : goal.returns-then-is_own-clause-differences
returns-then-is_own-clause-differences c =
    let m = byte_at c.args.old.now in
    let n = byte_at c.args.new.now in
    record {
      lowest = one-least (differs m n) c.args.address c.args.len _ c.first_difference_in-lowest.ensures;
      count = c.count_differences_in.ensures ∙ one-count (differs m n) c.args.address c.args.len;
      outside = own-outside c.args.system.now c.args.actor.0 c.args.address c.args.len m n c.requires.inside (sym c.is_own_ram-is_own.ensures ∙ c.if-is_own.true);
    }

pub returns-then-is_own-clause-count : goal.returns-then-is_own-clause-count
returns-then-is_own-clause-count c = omega (arith, c.count_differences_in.ensures, counted_le (byte_at c.args.old.now) (byte_at c.args.new.now) c.args.address c.args.len)

pub returns-else-is_own-clause-differences : goal.returns-else-is_own-clause-differences
returns-else-is_own-clause-differences c =
    let m = byte_at c.args.old.now in
    let n = byte_at c.args.new.now in
    record {
      lowest = one-least (differs m n) c.args.address c.args.len _ c.first_difference_in-lowest.ensures;
      count = c.count_differences_in.ensures ∙ one-count (differs m n) c.args.address c.args.len;
      outside = other-outside c.args.system.now c.args.actor.0 c.args.address c.args.len m n _ c.requires.inside (sym c.is_own_ram-is_own.ensures ∙ c.if-is_own.false) c.first_difference_in-lowest.ensures;
    }

pub returns-else-is_own-clause-count : goal.returns-else-is_own-clause-count
returns-else-is_own-clause-count c = omega (arith, c.count_differences_in.ensures, counted_le (byte_at c.args.old.now) (byte_at c.args.new.now) c.args.address c.args.len)
