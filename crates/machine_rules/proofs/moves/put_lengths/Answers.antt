use Rattle.std.proofs.Common.{◌+◌, ◌*◌, arith, refl, ◌∙◌}
use Rattle.memory_image.proofs.Stored.{part_inside}
use Rattle.memory_image.proofs.Vectors.{descriptor_ends, lengths_step}
use Rattle.machine_rules.proofs.moves.put_lengths.Goals as goal

pub overflow_cast-k : goal.overflow_cast-k
overflow_cast-k c = omega (arith, descriptor_ends c.args.at c.loop-k.k _ c.keeps_its_limits.ensures (c.requires c.loop-k.k c.loop-k-test.true))

pub overflow_mul-k : goal.overflow_mul-k
overflow_mul-k c = omega (arith, descriptor_ends c.args.at c.loop-k.k _ c.keeps_its_limits.ensures (c.requires c.loop-k.k c.loop-k-test.true))

pub overflow_add-at : goal.overflow_add-at
overflow_add-at c = omega (arith, descriptor_ends c.args.at c.loop-k.k _ c.keeps_its_limits.ensures (c.requires c.loop-k.k c.loop-k-test.true))

pub overflow_add-at-in-loop-k : goal.overflow_add-at-in-loop-k
overflow_add-at-in-loop-k c = omega (arith, descriptor_ends c.args.at c.loop-k.k _ c.keeps_its_limits.ensures (c.requires c.loop-k.k c.loop-k-test.true))

pub store-requires-clause-inside : goal.store-requires-clause-inside
store-requires-clause-inside c =
    rw c.loop-k.invariant.regions
    (part_inside (c.args.at + 8 * c.loop-k.k) 8 (c.args.at + 8 * c.loop-k.k + 4) 4 _ (omega arith) (omega arith) (c.requires c.loop-k.k c.loop-k-test.true))

pub loop-k-preserved : goal.loop-k-preserved
loop-k-preserved c = record {
  stored = lengths_step _ _ _ c.args.at c.loop-k.k _ c.args.spans.now c.loop-k-test.true refl c.store.ensures.stored c.loop-k.invariant.stored;
  regions = c.store.ensures.regions ∙ c.loop-k.invariant.regions;
}
