use Rattle.std.proofs.Common.{rules}
use Rattle.mm_iovec.specs.Items.{service_of}
use Rattle.mm_iovec.proofs.OwnLemmas.{own_room}
use Rattle.mm_iovec.proofs.holder.services_of.Goals as goal

pub push-requires : goal.push-requires
push-requires c = (
  search rules,
  own_room service_of c.loop-service.own.items c.args.partition c.loop-service.service-index c.args.services.now c.service-item.result
      c.loop-service.invariant c.loop-service-test.true c.service-item.is c.if-service-partition.true c.requires,
)
