use Rattle.std.proofs.Common.{map, refl}
use Rattle.std.proofs.lemmas.Option.{slice_get_read}
use Rattle.mm_iovec.specs.Items.{service_of}
use Rattle.mm_iovec.proofs.OwnLemmas.{few_services, ram_there, end_if, heap_if, holder_if}
use Rattle.mm_iovec.proofs.holder.Holder.of.Goals as goal

pub services_of-services-requires : goal.services_of-services-requires
services_of-services-requires c = rw c.as_slice.ensures (few_services c.args.system.now c.args.partition)

pub with_services-requires-clause-there : goal.with_services-requires-clause-there
with_services-requires-clause-there c =
    rw c.as_slice-2.ensures (ram_there c.args.system.now c.args.partition c.index-partitions-partition.result
    (slice_get_read c.args.system.now.partitions _ c.args.partition c.index-partitions-partition.result refl c.requires (rw c.as_slice-partitions.ensures at c.index-partitions-partition.is)))

pub with_services-requires-clause-end : goal.with_services-requires-clause-end
with_services-requires-clause-end c =
    rw c.as_slice-2.ensures (end_if c.args.system.now c.args.partition c.index-partitions-partition.result
    (slice_get_read c.args.system.now.partitions _ c.args.partition c.index-partitions-partition.result refl c.requires (rw c.as_slice-partitions.ensures at c.index-partitions-partition.is)))

pub with_services-requires-clause-heap : goal.with_services-requires-clause-heap
with_services-requires-clause-heap c =
    rw c.as_slice-2.ensures (heap_if c.args.system.now c.args.partition c.index-partitions-partition.result
    (slice_get_read c.args.system.now.partitions _ c.args.partition c.index-partitions-partition.result refl c.requires (rw c.as_slice-partitions.ensures at c.index-partitions-partition.is)))

pub returns : goal.returns
returns c =
    holder_if c.args.system.now c.args.partition c.index-partitions-partition.result (map service_of c.services_of-services.result.items) c.with_services.result
    (slice_get_read c.args.system.now.partitions _ c.args.partition c.index-partitions-partition.result refl c.requires (rw c.as_slice-partitions.ensures at c.index-partitions-partition.is))
    (rw c.as_slice.ensures at c.services_of-services.ensures) (rw c.as_slice-2.ensures at c.with_services.ensures)
