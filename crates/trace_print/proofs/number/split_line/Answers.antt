use Rattle.std.proofs.Common.{refl}
use Rattle.std.proofs.lemmas.List.{take_rest}
use Rattle.trace_print.proofs.Parts.{found_at, found_nowhere}
use Rattle.trace_print.proofs.number.split_line.Goals as goal

pub returns-in-Some-clause-parts : goal.returns-in-Some-clause-parts
returns-in-Some-clause-parts c =
    let cut = found_at 10 c.args.text.now c.in-Some.end c.in-Some.ensures.0 c.in-Some.ensures.1 in
    rw (cut, take_rest) refl

pub returns-in-None-clause-parts : goal.returns-in-None-clause-parts
returns-in-None-clause-parts c = found_nowhere 10 c.args.text.now c.in-None.ensures
