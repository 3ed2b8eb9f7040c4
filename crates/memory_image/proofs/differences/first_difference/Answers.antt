use Rattle.std.proofs.Common.{rules, arith, ap, ◌∙◌, sym, length, ◌≤◌}
use Rattle.std.proofs.lemmas.List.{length-map}
use Rattle.memory_image.specs.Differences.{differs}
use Rattle.memory_image.specs.Pieces.{byte_at, range_of, regions_of, is_inside}
use Rattle.memory_image.proofs.Compared.{piece_at, region_inside, region_small, least_step, least_last, same_outside}
use Rattle.memory_image.proofs.differences.first_difference.Goals as goal

pub overflow_cast-len : goal.overflow_cast-len
overflow_cast-len c =
    let at = piece_at c.args.one.now _ _ c.len.result _ _ c.pieces-piece-items.ensures c.loop-piece-test.true c.piece-item.is c.len.ensures in
    let small = region_small _ _ _ _ at c.keeps_its_limits.ensures in
    search rules

pub first_difference_in-found-requires : goal.first_difference_in-found-requires
first_difference_in-found-requires c =
    let inside = region_inside _ _ _ _ (piece_at c.args.one.now _ _ c.len.result _ _ c.pieces-piece-items.ensures c.loop-piece-test.true c.piece-item.is c.len.ensures) in
    record { one = inside; other = ap (is_inside c.piece-item.result.address c.len.result) (sym c.requires) ∙ inside }

pub loop-piece-preserved : goal.loop-piece-preserved
loop-piece-preserved c =
    let at = piece_at c.args.one.now _ _ c.len.result _ _ c.pieces-piece-items.ensures c.loop-piece-test.true c.piece-item.is c.len.ensures in
    rw c.lesser-least.ensures (least_step (differs (byte_at c.args.one.now) (byte_at c.args.other.now)) _ _ _ _ _ _ at c.loop-piece.invariant c.first_difference_in-found.ensures)

pub returns : goal.returns
returns c =
    let all : length (regions_of c.args.one.now) ≤ c.loop-piece.piece-index = omega (arith, length-map c.args.one.now range_of, ap length c.pieces-piece-items.ensures, c.loop-piece-test.false) in
    least_last (differs (byte_at c.args.one.now) (byte_at c.args.other.now)) _ _ _ all (same_outside _ _ c.requires) c.loop-piece.invariant
