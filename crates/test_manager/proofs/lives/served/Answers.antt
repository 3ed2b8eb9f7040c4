use Rattle.std.proofs.Common.{refl}
use Rattle.test_manager.proofs.Kept.{premises-after, premises-returned}
use Rattle.test_manager.proofs.lives.served.Goals as goal

pub fulfilled-requires : goal.fulfilled-requires
fulfilled-requires c = record {
  premises = premises-after c.args.system.now c.args.tables.now c.invoke.new.tables c.args.image.now c.args.image.now c.requires.premises
      c.invoke.ensures.shape c.invoke.ensures.fits refl (c.invoke.ensures.vectors c.requires.premises.vectors);
}

pub returns-clause-premises : goal.returns-clause-premises
returns-clause-premises c =
    let p = c.in_ok-moved.ensures.premises in
    premises-returned c.args.system.now c.fulfilled.new.tables c.returned.new.tables c.fulfilled.new.image p c.returned.ensures.shape (c.returned.ensures.fits c.args.system.now p.tables.fits) c.returned.ensures.queue
