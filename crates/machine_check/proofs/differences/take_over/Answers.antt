use Rattle.std.proofs.Common.{◌+◌, ◌*◌, length, arith, ap, sym, ◌∙◌}
use Rattle.ffm_model.specs.Memory.{bytes_at, write_bytes}
use Rattle.memory_image.specs.Pieces.{byte_at, is_inside, regions_of}
use Rattle.ffm_model.proofs.BytesLemmas.{bytes-length}
use Rattle.machine_check.specs.Written.{ranges_from, taken_from}
use Rattle.machine_check.proofs.Compared.{one_more, placed, taken-more}
use Rattle.machine_check.proofs.differences.take_over.Goals as goal

pub overflow_mul-address : goal.overflow_mul-address
overflow_mul-address c =
    let at = placed _ c.args.written c.loop-k.k c.keeps_its_limits.ensures c.requires.inside c.loop-k-test.true in
    omega (arith, at.few)

pub overflow_add-address : goal.overflow_add-address
overflow_add-address c =
    let at = placed _ c.args.written c.loop-k.k c.keeps_its_limits.ensures c.requires.inside c.loop-k-test.true in
    omega (arith, at.end, at.some)

pub store_bytes-requires : goal.store_bytes-requires
store_bytes-requires c =
    let a = c.args.written.first + 8 * c.loop-k.k in
    ap (λ n. is_inside a n (regions_of c.loop-k.memory)) (ap length c.bytes.ensures ∙ bytes-length (byte_at c.args.other.now) a c.args.written.len)
    ∙ ap (λ rs. is_inside a c.args.written.len rs) c.loop-k.invariant.regions ∙ c.requires.inside.inside c.loop-k.k c.loop-k-test.true

pub loop-k-preserved : goal.loop-k-preserved
loop-k-preserved c =
    let a = c.args.written.first + 8 * c.loop-k.k in
    let m = byte_at c.args.memory.now in
    let n = byte_at c.args.other.now in
    let rs = ranges_from c.args.written.first c.args.written.len c.loop-k.k in
    record {
      bytes =
          c.store_bytes.ensures.stored ∙ ap (λ bs. write_bytes (byte_at c.loop-k.memory) a bs) c.bytes.ensures ∙ ap (λ old. write_bytes old a (bytes_at n a c.args.written.len)) c.loop-k.invariant.bytes
          ∙ taken-more n m rs a c.args.written.len ∙ ap (λ all. taken_from n all m) (sym (one_more c.args.written.first c.args.written.len c.loop-k.k));
      regions = c.store_bytes.ensures.regions ∙ c.loop-k.invariant.regions;
    }
