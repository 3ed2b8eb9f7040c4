use Rattle.std.proofs.Common.{◌∙◌}
use Rattle.memory_image.proofs.Copied.{bytes_read}
use Rattle.memory_image.proofs.pieces.bytes_among.Goals as goal

pub returns : goal.returns
returns c = c.part_of.ensures ∙ bytes_read _ _ _ _ _ _ c.requires.exists c.requires.apart c.requires.inside c.index-pieces-place.is
