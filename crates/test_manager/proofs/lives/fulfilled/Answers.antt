use Rattle.std.proofs.Common.{◌∙◌}
use Rattle.memory_image.specs.Pieces.{regions_of}
use Rattle.test_manager.proofs.Kept.{premises-after}
use Rattle.test_manager.proofs.lives.fulfilled.Goals as goal

pub read-requires : goal.read-requires
read-requires c =
    let got = premises-after c.args.system.now c.args.tables.now c.get.new.tables c.args.image.now c.get.new.image c.requires.premises
    c.get.ensures.shape c.get.ensures.fits c.get.ensures.regions (c.get.ensures.within (regions_of c.args.image.now) c.requires.premises.vectors) in
    record { premises = record { made = got.tables.made; regions = got.regions; vectors = got.vectors } }

pub reply-requires : goal.reply-requires
reply-requires c = record {
  premises = record {
    tables = record { made = c.read.ensures.shape ∙ c.get.ensures.shape ∙ c.requires.premises.tables.made; fits = c.read.ensures.fits c.get.ensures.fits };
    regions = c.read.ensures.regions ∙ c.get.ensures.regions ∙ c.requires.premises.regions;
    vectors = c.read.ensures.vectors;
  };
}
