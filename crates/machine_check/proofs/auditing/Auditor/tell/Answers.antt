use Rattle.std.proofs.Common.{◌++◌, [], ◌∙◌, ap}
use Rattle.std.specs.Prelude.{Option}
use Rattle.std.specs.List.{cons_option}
use Rattle.memory_image.specs.Pieces.{byte_at}
use Rattle.machine_check.specs.declared.auditing.Change.{Change}
use Rattle.machine_check.specs.Audited.{change_of}
use Rattle.machine_check.specs.Written.{ranges_in}
use Rattle.machine_check.proofs.Audited.{if_ok_more, tells}
use Rattle.machine_check.proofs.Compared.{taken-all}
use Rattle.machine_check.proofs.Told.{change-told}
use Rattle.machine_check.proofs.auditing.Auditor.tell.Goals as goal

pub returns-clause-tells : goal.returns-clause-tells
returns-clause-tells c =
    let old = c.args.self.now in
    let told = change_of old.checker.count c.differences_in-found.result in
    if_ok_more c.push_change.result _ _
    (λ u changes. tells c.args.system.now c.args.actor.0 old (record { checker = old.checker; before = c.take_over.new.memory; changes = c.push_change.new.changes }) told
    (change-told c.args.system.now old.checker.count c.args.actor.0 old.before old.checker.machine.memory c.args.written c.differences_in-found.result c.requires.regions c.requires.kept.regions c.requires.inside c.requires.stays c.differences_in-found.ensures)
    (changes ∙ ap (λ (o : Option Change). old.changes.items ++ cons_option o []) c.change_of.ensures)
    (c.take_over.ensures.regions ∙ c.requires.regions)
    (c.take_over.ensures.bytes ∙ taken-all (byte_at old.checker.machine.memory) (byte_at old.before) (ranges_in c.args.written) c.requires.stays))
    c.push_change.ensures
