use Rattle.std.proofs.Common.{refl, ap, ◌∙◌, sym}
use Rattle.machine_check.proofs.Audited.{audited, covered, was_refused}
use Rattle.machine_check.proofs.Judged.{was_accepted}
use Rattle.machine_check.proofs.auditing.Auditor.accept.Goals as goal

pub returns-then-not-branch-clause-audits : goal.returns-then-not-branch-clause-audits
returns-then-not-branch-clause-audits c all knows = (was_refused _ _ c.args.self.now.checker c.accept.new.self all _ _ (c.in_ok-accept.ensures.accepts all knows) c.if-not-branch.true, refl)

pub tell-requires-clause-kept : goal.tell-requires-clause-kept
tell-requires-clause-kept c =
    let accepted = was_accepted c.args.system.now c.args.limit c.args.self.now.checker c.accept.new.self c.requires.ready.all c.args.entry.now _ (c.in_ok-accept.ensures.accepts c.requires.ready.all c.requires.ready.knows) c.if-not-branch.false in
    accepted.kept

pub tell-requires-clause-inside : goal.tell-requires-clause-inside
tell-requires-clause-inside c =
    let accepted = was_accepted c.args.system.now c.args.limit c.args.self.now.checker c.accept.new.self c.requires.ready.all c.args.entry.now _ (c.in_ok-accept.ensures.accepts c.requires.ready.all c.requires.ready.knows) c.if-not-branch.false in
    let law = covered c.args.system.now c.args.self.now c.accept.new.self c.args.limit c.args.entry.now c.written-written.result c.requires.ready accepted c.written-written.ensures.sizes c.written-written.ensures.written in
    law.inside

pub tell-requires-clause-stays : goal.tell-requires-clause-stays
tell-requires-clause-stays c =
    let accepted = was_accepted c.args.system.now c.args.limit c.args.self.now.checker c.accept.new.self c.requires.ready.all c.args.entry.now _ (c.in_ok-accept.ensures.accepts c.requires.ready.all c.requires.ready.knows) c.if-not-branch.false in
    let law = covered c.args.system.now c.args.self.now c.accept.new.self c.args.limit c.args.entry.now c.written-written.result c.requires.ready accepted c.written-written.ensures.sizes c.written-written.ensures.written in
    λ x out. law.stays x out ∙ sym (ap (λ m. m x) c.requires.ready.same.bytes)

pub returns-clause-audits : goal.returns-clause-audits
returns-clause-audits c all knows =
    audited c.args.system.now c.args.limit c.args.self.now c.tell.new.self c.accept.new.self all c.args.entry.now
    (was_accepted _ _ c.args.self.now.checker c.accept.new.self all _ _ (c.in_ok-accept.ensures.accepts all knows) c.if-not-branch.false) c.tell.ensures.checker c.requires.ready.same c.in_ok-tell.ensures.tells
