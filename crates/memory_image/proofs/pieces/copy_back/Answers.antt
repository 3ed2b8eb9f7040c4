use Rattle.memory_image.proofs.Copied.{copied_back, front_kept}
use Rattle.memory_image.proofs.pieces.copy_back.Goals as goal

pub returns-clause-copied : goal.returns-clause-copied
returns-clause-copied c =
    let split = c.split_at_mut-front.ensures in
    copied_back _ _ _ _ c.args.target c.index-back-0.result c.index-front-target.result _ _ _ c.args.from c.args.to c.args.len split.value split.front_len c.requires.before c.requires.exists
    c.requires.apart c.requires.from c.part_of-bytes.ensures c.put_in.ensures

pub returns-clause-regions : goal.returns-clause-regions
returns-clause-regions c =
    let split = c.split_at_mut-front.ensures in
    front_kept _ _ _ _ _ _ c.index-front-target.result split.value split.front_len c.requires.before c.put_in.ensures.range
