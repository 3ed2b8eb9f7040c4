use Rattle.memory_image.proofs.Copied.{copied, range_at}
use Rattle.memory_image.proofs.Stored.{regions-kept}
use Rattle.memory_image.proofs.pieces.copy_within.Goals as goal

pub returns-clause-copied : goal.returns-clause-copied
returns-clause-copied c =
    copied _ c.args.place c.args.place _ c.index-pieces-place.result c.index-pieces-place.result c.args.from c.args.to c.args.len c.requires.exists c.requires.exists c.requires.apart (range_at _ _ _ _ _ _ c.requires.exists c.requires.from) c.copy_in.ensures

pub returns-clause-regions : goal.returns-clause-regions
returns-clause-regions c = regions-kept _ _ _ c.index-pieces-place.result c.requires.exists c.copy_in.ensures.range
