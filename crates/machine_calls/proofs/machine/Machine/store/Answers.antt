use Rattle.std.proofs.Common.{◌≡◌, true, rules}
use Rattle.ffm_model.specs.Memory.{may_write}
use Rattle.memory_image.proofs.Systems.{writable_inside}
use Rattle.machine_calls.proofs.machine.Machine.store.Goals as goal

pub store-requires-clause-inside : goal.store-requires-clause-inside
store-requires-clause-inside c =
    let may : may_write c.args.system.now c.args.actor.0 c.args.address c.args.size ≡ true = search rules in
    rw c.requires.regions (writable_inside c.args.system.now c.args.actor.0 c.args.address c.args.size may)
