use Rattle.std.proofs.Common.{◌≡◌, true, rules}
use Rattle.ffm_model.specs.Memory.{may_read}
use Rattle.memory_image.proofs.Systems.{readable_inside}
use Rattle.spm_core.proofs.accesses.load.Goals as goal

pub load-requires-clause-inside : goal.load-requires-clause-inside
load-requires-clause-inside c =
    let may : may_read c.args.system.now c.args.actor.0 c.args.address c.args.size ≡ true = search rules in
    rw c.requires (readable_inside c.args.system.now c.args.actor.0 c.args.address c.args.size may)
