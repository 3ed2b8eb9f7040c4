use Rattle.std.proofs.Common.{ℕ, eqb, not, map, ap, sym, ◌∙◌, ◌%◌, ◌^◌, w8, arith}
use Rattle.std.specs.Simd.Lanes.{chunk, mask_l, zip2}
use Rattle.std.proofs.lemmas.Simd.{tops_compared, mask_l-mod, length-chunk, length-zip2}
use Rattle.memory_image.specs.Unequal.{are_unequal}
use Rattle.memory_image.proofs.Zips.{zip2-zip, chunk-zip}
use Rattle.memory_image.proofs.lanes.unequal_bits.Goals as goal

pub returns : goal.returns
returns c =
    let xs = chunk c.args.at 32 c.args.a.now in
    let ys = chunk c.args.at 32 c.args.b.now in
    let ne = λ (x y : ℕ). not (eqb x y) in
    let a_long = length-chunk c.args.at 32 c.args.a.now c.requires.a in
    let b_long = length-chunk c.args.at 32 c.args.b.now c.requires.b in
    let long = length-zip2 ne xs ys (a_long ∙ sym b_long) ∙ a_long in
    ap (λ ms. mask_l ms % 2 ^ 64) (tops_compared w8 ne xs ys)
    ∙ (mask_l-mod (zip2 ne xs ys) 64 (omega arith)
    ∙ ap mask_l (zip2-zip ne xs ys ∙ ap (map are_unequal) (chunk-zip c.args.at 32 c.args.a.now c.args.b.now)))
