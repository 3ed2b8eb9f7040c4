use Rattle.std.proofs.Common.{◌≡◌, ◌<◌, length, sym, rules}
use Rattle.std.proofs.lemmas.Bool.Decides.{nat_tests}
use Rattle.trace_print.proofs.Entries.{FewActors}
use Rattle.trace_print.proofs.FirstLine.{wrong_unended, begins_with_entry, wrong_room, ends_with_verdict, wrong_past, wrong_neither}
use Rattle.trace_print.proofs.whole.first_line.Goals as goal

pub returns-in_default : goal.returns-in_default
returns-in_default c = wrong_unended c.args.counts c.args.count c.args.text.now _ (rw c.in_default.is at c.split_line.ensures.parts)

pub returns-in-Some-entry_of : goal.returns-in-Some-entry_of
returns-in-Some-entry_of c =
    let joined = rw c.in-Some.is at c.split_line.ensures.joined in
    let fits = rw c.in-Some-entry_of.is at c.entry_of.ensures.fits in
    begins_with_entry c.args.counts c.args.count c.args.text.now _ _ c.in-Some-entry_of.entry joined (sym (rw c.in-Some-entry_of.is at c.entry_of.ensures.gives)) fits (search (rules, nat_tests))

pub returns-in-Some-2 : goal.returns-in-Some-2
returns-in-Some-2 c =
    let fits = rw c.in-Some-2.is at c.entry_of.ensures.fits in
    wrong_room c.args.counts c.args.count c.args.text.now _ _ c.in-Some-2.field-0 c.split_line.ensures.parts (sym (rw c.in-Some-2.is at c.entry_of.ensures.gives)) fits (search (rules, nat_tests))

pub returns-in-Some-verdict_of : goal.returns-in-Some-verdict_of
returns-in-Some-verdict_of c =
    let joined = rw c.in-Some.is at c.split_line.ensures.joined in
    let none : length c.in-Some.rest.now ≡ 0 = search (rules, nat_tests) in
    ends_with_verdict c.args.count c.args.text.now _ c.in-Some.rest.now c.in-Some-verdict_of.verdict joined (sym (rw c.in-Some-verdict_of.is at c.verdict_of.ensures)) none

pub returns-in-Some-2-verdict_of : goal.returns-in-Some-2-verdict_of
returns-in-Some-2-verdict_of c =
    let some : 0 < length c.in-Some.rest.now = search (rules, nat_tests) in
    wrong_past c.args.counts c.args.count c.args.text.now _ c.in-Some.rest.now c.in-Some-2-verdict_of.field-0 (rw c.in-Some.is at c.split_line.ensures.parts) (sym (rw c.in-Some-2-verdict_of.is at c.verdict_of.ensures)) some

pub returns-in-None-verdict_of : goal.returns-in-None-verdict_of
returns-in-None-verdict_of c =
    let few : FewActors c.args.counts = search rules in
    wrong_neither c.args.counts c.args.count c.args.text.now _ _ few c.split_line.ensures.parts (sym (rw c.in-None.is at c.entry_of.ensures.gives)) (sym (rw c.in-None-verdict_of.is at c.verdict_of.ensures))
