use Rattle.std.proofs.Common.{refl, rules}
use Rattle.std.proofs.lemmas.List.{take_rest}
use Rattle.trace_print.proofs.Parts.{cut_at, none_before}
use Rattle.trace_print.proofs.number.split_once.Goals as goal

pub returns-then-byte-separator-clause-parts : goal.returns-then-byte-separator-clause-parts
returns-then-byte-separator-clause-parts c =
    let cut = cut_at c.args.separator c.args.text.now c.loop-end.end c.loop-end-test.true (search rules) c.loop-end.invariant in
    rw (cut, take_rest) refl

pub returns-clause-parts : goal.returns-clause-parts
returns-clause-parts c = none_before c.args.separator c.args.text.now c.loop-end.end c.loop-end-test.false c.loop-end.invariant
