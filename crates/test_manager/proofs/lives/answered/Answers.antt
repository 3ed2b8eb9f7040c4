use Rattle.memory_image.specs.Pieces.{regions_of}
use Rattle.test_manager.proofs.Kept.{premises-after}
use Rattle.test_manager.proofs.lives.answered.Goals as goal

pub reply-requires : goal.reply-requires
reply-requires c = record {
  premises = premises-after c.args.system.now c.args.tables.now c.get.new.tables c.args.image.now c.get.new.image c.requires.premises
      c.get.ensures.shape c.get.ensures.fits c.get.ensures.regions (c.get.ensures.within (regions_of c.args.image.now) c.requires.premises.vectors);
}
