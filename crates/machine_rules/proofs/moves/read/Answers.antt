use Rattle.std.proofs.Common.{arith, rules, ap, ◌∙◌}
use Rattle.ffm_model.specs.Memory.{no_span}
use Rattle.memory_image.proofs.Stored.{part_inside}
use Rattle.ffm_model.specs.ServiceCalls.{input_of}
use Rattle.memory_image.proofs.Outside.{copy_bytes-outside}
use Rattle.memory_image.proofs.Vectors.{next_inside}
use Rattle.machine_rules.proofs.Reached.{range-part}
use Rattle.machine_rules.proofs.moves.read.Goals as goal

pub copy-requires-clause-from : goal.copy-requires-clause-from
copy-requires-clause-from c =
    let moved = c.requires.within.moved.inputs c.args.index no_span (search rules) in
    next_inside _ (input_of c.args.vectors.now c.args.index) _ _ c.next_byte-from.ensures (omega arith) (c.requires.within.inputs c.args.index no_span (search rules))

pub copy-requires-clause-to : goal.copy-requires-clause-to
copy-requires-clause-to c = part_inside c.args.buffer c.args.len c.args.buffer c.skip-count.result _ (omega arith) (omega arith) c.requires.buffer

pub returns-then-count-gt0-clause-changed : goal.returns-then-count-gt0-clause-changed
returns-then-count-gt0-clause-changed c = λ x out.
    ap (λ m. m x) c.copy.ensures.copied ∙ copy_bytes-outside _ _ _ _ x (range-part x c.args.buffer c.args.len c.skip-count.result (omega arith) out)
