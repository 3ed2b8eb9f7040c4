use Rattle.std.proofs.Common.{◌+◌, drop, length, arith, subst, sym, ap, ◌∙◌}
use Rattle.std.proofs.lemmas.List.{drop_all, drop_more}
use Rattle.ffm_model.specs.Verdicts.{judged}
use Rattle.memory_image.specs.Pieces.{byte_at}
use Rattle.machine_check.specs.Answers.{judgement}
use Rattle.machine_check.specs.Audited.{AuditsTo}
use Rattle.machine_check.proofs.Audited.{audit_begins, illegal_report, next_audited, ready, was_audited, whole_report}
use Rattle.machine_check.proofs.auditing.audit.Goals as goal

pub loop-entry-init : goal.loop-entry-init
loop-entry-init c =
    let begin = c.in_ok-auditor.ensures in
    let m = byte_at c.args.memory.now in
    record {
      audits = subst (λ es. AuditsTo c.args.system.now m c.args.limit c.args.trace.now.entries c.args.trace.now.verdict c.in_ok-auditor.auditor es) (sym c.as_slice-entry-items.ensures)
          (audit_begins c.args.system.now m c.args.limit c.args.trace.now.entries c.args.trace.now.verdict c.in_ok-auditor.auditor begin);
      few = omega (arith, begin.starts.count);
    }

pub accept-requires-clause-ready : goal.accept-requires-clause-ready
accept-requires-clause-ready c = ready _ _ _ _ _ _ _ c.loop-entry.invariant.audits

pub overflow_add-place : goal.overflow_add-place
overflow_add-place c = omega (arith, c.accept.ensures.count, c.loop-entry.invariant.few, ap length c.as_slice-entry-items.ensures, c.requires.few)

pub returns-then-not-branch : goal.returns-then-not-branch
returns-then-not-branch c =
    let s = c.args.system.now in
    let m = byte_at c.args.memory.now in
    let left = drop (c.loop-entry.entry-index + 1) c.as_slice-entry-items.result.now in
    let k = subst (λ es. AuditsTo s m c.args.limit c.args.trace.now.entries c.args.trace.now.verdict c.loop-entry.auditor es) (drop_more _ _ _ c.loop-entry-test.true) c.loop-entry.invariant.audits in
    illegal_report s m c.args.limit c.args.trace.now.entries c.args.trace.now.verdict c.loop-entry.auditor c.accept.new.self _ left _ k c.report.result
    (c.in_ok-accept.ensures.audits k.checks.all k.checks.knows) c.if-not-branch.true c.report.ensures.changes c.report.ensures.result

pub loop-entry-preserved : goal.loop-entry-preserved
loop-entry-preserved c =
    let s = c.args.system.now in
    let m = byte_at c.args.memory.now in
    let left = drop (c.loop-entry.entry-index + 1) c.as_slice-entry-items.result.now in
    let k = subst (λ es. AuditsTo s m c.args.limit c.args.trace.now.entries c.args.trace.now.verdict c.loop-entry.auditor es) (drop_more _ _ _ c.loop-entry-test.true) c.loop-entry.invariant.audits in
    record {
      audits = next_audited s m c.args.limit c.args.trace.now.entries c.args.trace.now.verdict c.loop-entry.auditor c.accept.new.self _ left k
          (was_audited _ _ c.loop-entry.auditor c.accept.new.self _ _ _ (c.in_ok-accept.ensures.audits k.checks.all k.checks.knows) c.if-not-branch.false);
      few = omega (arith, c.accept.ensures.count, c.loop-entry.invariant.few);
    }

pub returns : goal.returns
returns c =
    let s = c.args.system.now in
    let m = byte_at c.args.memory.now in
    let es = c.args.trace.now.entries in
    let v = c.args.trace.now.verdict in
    let k = subst (λ left. AuditsTo s m c.args.limit es v c.loop-entry.auditor left) (drop_all _ _ c.loop-entry-test.false) c.loop-entry.invariant.audits in
    whole_report s m c.args.limit es v c.loop-entry.auditor k c.report-2.result c.report-2.ensures.changes (ap judgement c.report-2.ensures.result ∙ c.finish-judged.ensures (judged s m c.args.limit es v) k.checks)
