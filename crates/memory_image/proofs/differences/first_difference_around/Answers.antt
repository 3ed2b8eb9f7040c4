use Rattle.std.proofs.Common.{rules, arith, ℕ, List}
use Rattle.memory_image.specs.Pieces.{regions_of}
use Rattle.memory_image.proofs.Stored.{ends_below, part_inside}
use Rattle.memory_image.proofs.differences.first_difference_around.Goals as goal

pub first_difference_in-found-requires : goal.first_difference_in-found-requires
first_difference_in-found-requires c =
    let part = λ (regions : List (ℕ × ℕ)). part_inside c.args.address c.args.len c.args.address c.min-before.result regions (omega arith) (grind (arith, c.min-before.ensures)) in
    record { one = part _ c.requires.one; other = part _ c.requires.other }

pub overflow_add-address : goal.overflow_add-address
overflow_add-address c =
    let end = ends_below c.args.address c.args.len (regions_of c.args.one.now) c.keeps_its_limits.ensures c.requires.one (omega arith) in
    search rules

pub first_difference_in-requires : goal.first_difference_in-requires
first_difference_in-requires c =
    record { one = part_inside c.args.address c.args.len _ _ _ (omega arith) (omega arith) c.requires.one; other = part_inside c.args.address c.args.len _ _ _ (omega arith) (omega arith) c.requires.other }
