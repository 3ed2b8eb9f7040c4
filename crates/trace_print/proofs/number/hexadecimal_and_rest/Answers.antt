use Rattle.std.proofs.Common.{refl, rules}
use Rattle.std.proofs.lemmas.List.{take_rest}
use Rattle.trace_print.proofs.Parts.{hexadecimal_first}
use Rattle.trace_print.proofs.number.hexadecimal_and_rest.Goals as goal

pub returns-in_ok-hexadecimal_of : goal.returns-in_ok-hexadecimal_of
returns-in_ok-hexadecimal_of c =
    let found = hexadecimal_first c.args.text.now c.in_ok-hexadecimal_of.field-0 c.if-text-gt10.true (search rules) (search rules) in
    rw (found, take_rest) refl
