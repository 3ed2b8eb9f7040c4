use Rattle.std.proofs.Common.{refl}
use Rattle.memory_image.specs.Pieces.{regions_of}
use Rattle.test_manager.proofs.Kept.{premises-after}
use Rattle.test_manager.proofs.lives.connected.Goals as goal

pub answered-requires : goal.answered-requires
answered-requires c = record {
  premises = premises-after c.args.system.now c.args.tables.now c.connect.new.tables c.args.image.now c.args.image.now c.requires.premises
      c.connect.ensures.shape c.connect.ensures.fits refl (c.connect.ensures.within (regions_of c.args.image.now) c.requires.premises.vectors);
}
