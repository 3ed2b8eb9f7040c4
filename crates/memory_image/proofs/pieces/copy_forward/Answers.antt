use Rattle.memory_image.proofs.Copied.{copied_forward}
use Rattle.memory_image.proofs.pieces.copy_forward.Goals as goal

pub returns-clause-copied : goal.returns-clause-copied
returns-clause-copied c =
    let split = c.split_at_mut-front.ensures in
    copied_forward _ _ _ c.args.source _ c.index-front-source.result c.index-back-0.result _ _ _ c.args.from c.args.to c.args.len split.value split.front_len c.requires.before c.requires.exists
    c.requires.apart c.requires.from c.part_of-bytes.ensures c.put_in.ensures
