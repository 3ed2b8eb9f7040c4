use Rattle.std.proofs.Common.{◌≡◌, arith, rules, ap, ◌∙◌, sym, true}
use Rattle.std.specs.Prelude.{nat_le}
use Rattle.std.proofs.lemmas.Bool.Decides.{nat_tests}
use Rattle.ffm_model.specs.ServiceCalls.{rest_of, output_of}
use Rattle.ffm_model.specs.Memory.{no_span}
use Rattle.memory_image.proofs.Outside.{copy_bytes-outside}
use Rattle.memory_image.proofs.Vectors.{next_inside}
use Rattle.machine_rules.proofs.Reached.{rest-outside}
use Rattle.machine_rules.proofs.moves.write.Goals as goal

pub copy-requires-clause-to : goal.copy-requires-clause-to
copy-requires-clause-to c =
    let fits : nat_le c.args.len (rest_of (output_of c.args.vectors.now c.args.index)) ≡ true = sym c.in_ok-advance.ensures.exact in
    let moved = c.requires.within.moved.outputs c.args.index no_span (search rules) in
    next_inside _ (output_of c.args.vectors.now c.args.index) _ _ c.next_byte-to.ensures (grind (arith, nat_tests)) (c.requires.within.outputs c.args.index no_span (search rules))

pub returns-then-len-gt0-clause-changed : goal.returns-then-len-gt0-clause-changed
returns-then-len-gt0-clause-changed c = λ x out.
    let fits : nat_le c.args.len (rest_of (output_of c.args.vectors.now c.args.index)) ≡ true = sym c.in_ok-advance.ensures.exact in
    ap (λ m. m x) c.copy.ensures.copied
    ∙ copy_bytes-outside _ _ _ _ x
    (rest-outside (output_of c.args.vectors.now c.args.index) _ _ x c.next_byte-to.ensures (grind (arith, nat_tests)) (c.requires.within.moved.outputs c.args.index no_span (search rules)) out)
