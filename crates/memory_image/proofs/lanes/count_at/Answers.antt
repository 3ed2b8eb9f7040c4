use Rattle.std.proofs.Common.{◌+◌, ap, ◌∙◌, sym, drop, count_by, count_ones}
use Rattle.std.specs.List.{zip}
use Rattle.memory_image.specs.Unequal.{are_unequal}
use Rattle.memory_image.proofs.Blocks.{counted_block}
use Rattle.memory_image.proofs.lanes.count_at.Goals as goal

pub returns : goal.returns
returns c =
    let pairs = zip c.args.a.now c.args.b.now in
    counted_block are_unequal c.args.at 32 pairs
    ∙ ap (λ bits. count_ones bits + count_by are_unequal (drop (c.args.at + 32) pairs)) (sym c.unequal_bits.ensures)
