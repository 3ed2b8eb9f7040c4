use Rattle.memory_image.proofs.Stored.{stored, regions-kept}
use Rattle.memory_image.proofs.pieces.store_among.Goals as goal

pub returns-clause-stored : goal.returns-clause-stored
returns-clause-stored c = stored _ _ _ c.index-pieces-place.result _ _ c.requires.exists c.requires.apart c.put_in.ensures

pub returns-clause-regions : goal.returns-clause-regions
returns-clause-regions c = regions-kept _ _ _ c.index-pieces-place.result c.requires.exists c.put_in.ensures.range
