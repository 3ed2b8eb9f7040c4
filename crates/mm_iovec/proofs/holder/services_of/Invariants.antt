use Rattle.std.proofs.Common.{◌≡◌, map, take}
use Rattle.mm_iovec.specs.Items.{own_services, service_of}
use Rattle.mm_iovec.proofs.holder.services_of.Given as goal

abbrev pub invariant-loop-service : goal.invariant-loop-service
invariant-loop-service l = map service_of l.own.items ≡ own_services l.partition (take l.service-index l.services)
