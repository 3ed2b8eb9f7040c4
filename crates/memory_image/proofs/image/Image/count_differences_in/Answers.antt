use Rattle.std.proofs.Common.{rules, ◌≤◌, count_by, ap, ◌∙◌, arith}
use Rattle.std.specs.List.{zip}
use Rattle.memory_image.specs.Unequal.{are_unequal}
use Rattle.ffm_model.specs.Memory.{bytes_at}
use Rattle.memory_image.specs.Pieces.{byte_at}
use Rattle.memory_image.proofs.Changed.{same_length, counted_at, counted_le}
use Rattle.memory_image.proofs.image.Image.count_differences_in.Goals as goal

pub count_unequal-requires : goal.count_unequal-requires
count_unequal-requires c = same_length (byte_at c.args.self.now) (byte_at c.args.other.now) c.args.address c.args.len _ _ c.bytes-before.ensures c.bytes-after.ensures

pub returns : goal.returns
returns c =
    c.count_unequal.ensures
    ∙ (ap (λ l. count_by are_unequal (zip l c.bytes-after.result.now)) c.bytes-before.ensures
    ∙ (ap (λ l. count_by are_unequal (zip (bytes_at (byte_at c.args.self.now) c.args.address c.args.len) l)) c.bytes-after.ensures
    ∙ counted_at (byte_at c.args.self.now) (byte_at c.args.other.now) c.args.address c.args.len))

pub overflow_cast-result : goal.overflow_cast-result
overflow_cast-result c =
    let bound : c.count_unequal.result ≤ c.args.len = omega (arith, returns c, counted_le (byte_at c.args.self.now) (byte_at c.args.other.now) c.args.address c.args.len) in
    let top = c.ranges.len.fits in
    search rules
