use Rattle.std.proofs.Common.{rules, arith, ap, ◌∙◌, sym, length, ◌≤◌, not, ◌&&◌}
use Rattle.std.proofs.lemmas.List.{length-map}
use Rattle.memory_image.specs.Differences.{differs}
use Rattle.ffm_model.specs.Reach.{covers}
use Rattle.memory_image.specs.Pieces.{byte_at, range_of, regions_of, is_inside}
use Rattle.memory_image.proofs.Compared.{piece_at, region_inside, region_small, least_step, least_last, same_outside_too}
use Rattle.memory_image.proofs.differences.first_difference_outside.Goals as goal

pub overflow_cast-len : goal.overflow_cast-len
overflow_cast-len c =
    let at = piece_at c.args.one.now _ _ c.len-len.result _ _ c.pieces-piece-items.ensures c.loop-piece-test.true c.piece-item.is c.len-len.ensures in
    let small = region_small _ _ _ _ at c.keeps_its_limits.ensures in
    search rules

pub first_difference_around-found-requires : goal.first_difference_around-found-requires
first_difference_around-found-requires c =
    let inside = region_inside _ _ _ _ (piece_at c.args.one.now _ _ c.len-len.result _ _ c.pieces-piece-items.ensures c.loop-piece-test.true c.piece-item.is c.len-len.ensures) in
    record { one = inside; other = ap (is_inside c.piece-item.result.address c.len-len.result) (sym c.requires) ∙ inside }

pub loop-piece-preserved : goal.loop-piece-preserved
loop-piece-preserved c =
    let at = piece_at c.args.one.now _ _ c.len-len.result _ _ c.pieces-piece-items.ensures c.loop-piece-test.true c.piece-item.is c.len-len.ensures in
    rw c.lesser-least.ensures (least_step (λ x. differs (byte_at c.args.one.now) (byte_at c.args.other.now) x && not (covers c.args.skip x)) _ _ _ _ _ _ at c.loop-piece.invariant c.first_difference_around-found.ensures)

pub returns : goal.returns
returns c =
    let all : length (regions_of c.args.one.now) ≤ c.loop-piece.piece-index = omega (arith, length-map c.args.one.now range_of, ap length c.pieces-piece-items.ensures, c.loop-piece-test.false) in
    least_last (λ x. differs (byte_at c.args.one.now) (byte_at c.args.other.now) x && not (covers c.args.skip x)) _ _ _ all (same_outside_too _ _ (λ x. not (covers c.args.skip x)) c.requires) c.loop-piece.invariant
