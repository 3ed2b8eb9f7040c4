use Rattle.std.proofs.Common.{sym, ◌∙◌}
use Rattle.std.specs.List.{zip}
use Rattle.std.proofs.lemmas.Bool.{eqb-true}
use Rattle.memory_image.specs.Unequal.{are_unequal}
use Rattle.memory_image.proofs.Blocks.{quiet_block, zip_room}
use Rattle.memory_image.proofs.lanes.are_equal_at.Goals as goal

pub returns : goal.returns
returns c none =
    let room = zip_room _ c.args.a.now c.args.b.now c.requires.a c.requires.b in
    quiet_block are_unequal c.args.at 32 (zip c.args.a.now c.args.b.now) room (sym c.unequal_bits.ensures ∙ eqb-true _ _ none)
