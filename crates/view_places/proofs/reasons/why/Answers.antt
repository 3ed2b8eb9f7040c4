use Rattle.std.proofs.Common.{ap, arith, get_or, length, subst, sym, ◌∙◌}
use Rattle.ffm_model.specs.declared.machine.Entry.{Entry}
use Rattle.memory_image.specs.Pieces.{byte_at}
use Rattle.machine_check.specs.Reaching.{IsReached}
use Rattle.view_places.proofs.Judged.{wrong_entry, wrong_verdict}
use Rattle.view_places.proofs.reasons.why.Goals as goal

pub returns-in-Some : goal.returns-in-Some
returns-in-Some c =
    let s = c.args.system.now in
    let m = byte_at c.args.memory.now in
    let r = c.in_ok-checker.checker in
    let e : Entry = c.in-Some.entry.now in
    let same = c.as_slice-entries.ensures in
    let it = subst (λ xs. IsReached s m c.args.limit xs r) same c.in_ok-checker.ensures in
    let found = c.in-Some.ensures.lookup in
    wrong_entry s m c.args.limit c.args.trace.now.entries c.args.trace.now.verdict r e c.in_ok-illegal_entry.field-0 it (omega (arith, found.3.0, ap length same)) (found.1 ∙ ap (λ xs. get_or xs r.count e) same) c.in_ok-illegal_entry.ensures

pub returns : goal.returns
returns c =
    let s = c.args.system.now in
    let m = byte_at c.args.memory.now in
    let r = c.in_ok-checker.checker in
    let same = c.as_slice-entries.ensures in
    let it = subst (λ xs. IsReached s m c.args.limit xs r) same c.in_ok-checker.ensures in
    let none = c.in_default.ensures.lookup.3 in
    wrong_verdict s m c.args.limit c.args.trace.now.entries c.args.trace.now.verdict r c.verdict-due.result it (omega (arith, none, ap length same)) c.verdict-due.ensures (sym c.is_due.ensures ∙ c.if-is_due.false)
