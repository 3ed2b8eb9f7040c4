use Rattle.std.proofs.Common.{◌<◌, arith, rules, sym, subst}
use Rattle.memory_image.specs.Pieces.{byte_at}
use Rattle.memory_image.proofs.Systems.{system_fits}
use Rattle.machine_check.specs.Written.{AreDifferences}
use Rattle.machine_check.proofs.Compared.{counts_fit, more-differences, one_more, placed}
use Rattle.machine_check.proofs.differences.differences_in.Goals as goal

pub overflow_mul-address : goal.overflow_mul-address
overflow_mul-address c =
    let at = placed _ c.args.written c.loop-k.k (system_fits c.args.system.now) c.requires.inside c.loop-k-test.true in
    omega (arith, at.few)

pub overflow_add-address : goal.overflow_add-address
overflow_add-address c =
    let at = placed _ c.args.written c.loop-k.k (system_fits c.args.system.now) c.requires.inside c.loop-k-test.true in
    omega (arith, at.end, at.some)

pub in_range-here-requires-clause-inside : goal.in_range-here-requires-clause-inside
in_range-here-requires-clause-inside c = c.requires.inside.inside c.loop-k.k c.loop-k-test.true

pub with-found-requires : goal.with-found-requires
with-found-requires c =
    let small : c.in_range-here.result.count < 4294967296 = search rules in
    counts_fit c.args.written c.loop-k.k c.in_range-here.result.count c.loop-k.found.count c.requires.inside.few c.loop-k-test.true c.in_range-here.ensures.count small c.loop-k.invariant.none c.loop-k.invariant.words

pub loop-k-preserved : goal.loop-k-preserved
loop-k-preserved c = record {
  found = subst (λ rs. AreDifferences c.args.system.now c.args.actor.0 (byte_at c.args.old.now) (byte_at c.args.new.now) rs c.with-found.result) (sym (one_more c.args.written.first c.args.written.len c.loop-k.k))
      (more-differences _ _ _ _ _ _ _ _ _ c.in_range-here.ensures.differences c.loop-k.invariant.found c.with-found.ensures.lowest c.with-found.ensures.count c.with-found.ensures.outside);
  none = λ zero. absurd (omega arith);
  words = λ four. let most = c.loop-k.invariant.words four in omega (arith, most, c.in_range-here.ensures.count, c.with-found.ensures.count);
}
