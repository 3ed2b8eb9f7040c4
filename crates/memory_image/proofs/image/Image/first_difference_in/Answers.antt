use Rattle.std.proofs.Common.{rules, sym, ◌∙◌, arith}
use Rattle.memory_image.specs.Pieces.{byte_at, regions_of}
use Rattle.memory_image.proofs.Stored.{ends_below}
use Rattle.memory_image.proofs.Changed.{same_length, place_within, least_at, none_at}
use Rattle.memory_image.proofs.image.Image.first_difference_in.Goals as goal

pub first_unequal-requires : goal.first_unequal-requires
first_unequal-requires c = same_length (byte_at c.args.self.now) (byte_at c.args.other.now) c.args.address c.args.len _ _ c.bytes-before.ensures c.bytes-after.ensures

pub overflow_cast-result : goal.overflow_cast-result
overflow_cast-result c =
    let bound = place_within (byte_at c.args.self.now) (byte_at c.args.other.now) c.args.address c.args.len _ _ c.in-Some.place c.bytes-before.ensures c.bytes-after.ensures (sym c.in-Some.is ∙ c.first_unequal.ensures) in
    let top = c.ranges.len.fits in
    search rules

pub overflow_add-result : goal.overflow_add-result
overflow_add-result c =
    let bound = place_within (byte_at c.args.self.now) (byte_at c.args.other.now) c.args.address c.args.len _ _ c.in-Some.place c.bytes-before.ensures c.bytes-after.ensures (sym c.in-Some.is ∙ c.first_unequal.ensures) in
    let end = ends_below c.args.address c.args.len (regions_of c.args.self.now) c.keeps_its_limits.ensures c.requires.one (omega (arith, bound)) in
    search rules

pub returns-in-Some : goal.returns-in-Some
returns-in-Some c =
    least_at (byte_at c.args.self.now) (byte_at c.args.other.now) c.args.address c.args.len _ _ c.in-Some.place c.bytes-before.ensures c.bytes-after.ensures (sym c.in-Some.is ∙ c.first_unequal.ensures)

pub returns-in-None : goal.returns-in-None
returns-in-None c =
    none_at (byte_at c.args.self.now) (byte_at c.args.other.now) c.args.address c.args.len _ _ c.bytes-before.ensures c.bytes-after.ensures (sym c.in-None.is ∙ c.first_unequal.ensures)
