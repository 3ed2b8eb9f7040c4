use Rattle.std.proofs.Common.{refl}
use Rattle.memory_image.specs.Pieces.{regions_of}
use Rattle.test_manager.proofs.Kept.{premises-after, premises-returned}
use Rattle.test_manager.proofs.lives.closed.Goals as goal

pub answered-requires : goal.answered-requires
answered-requires c = record {
  premises = premises-after c.args.system.now c.args.tables.now c.close.new.tables c.args.image.now c.args.image.now c.requires.premises
      c.close.ensures.shape (c.close.ensures.fits c.args.system.now c.requires.premises.tables.fits) refl (c.close.ensures.within (regions_of c.args.image.now) c.requires.premises.vectors);
}

pub returns-clause-premises : goal.returns-clause-premises
returns-clause-premises c =
    let p = c.in_ok-message.ensures.premises in
    premises-returned c.args.system.now c.answered.new.tables c.returned.new.tables c.answered.new.image p c.returned.ensures.shape (c.returned.ensures.fits c.args.system.now p.tables.fits) c.returned.ensures.queue
