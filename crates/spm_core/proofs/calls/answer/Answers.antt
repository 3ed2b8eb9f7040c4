use Rattle.std.proofs.Common.{◌≡◌, rules}
use Rattle.std.specs.Prelude.{Some}
use Rattle.law_calls.specs.Replies.{reply_on}
use Rattle.law_calls.proofs.Owed.{names-owed}
use Rattle.spm_tables.specs.TablesView.{spm_of}
use Rattle.spm_core.proofs.calls.answer.Goals as goal

pub returns-in-Some-clause-names : goal.returns-in-Some-clause-names
returns-in-Some-clause-names c =
    let left : reply_on c.args.system.now (spm_of c.args.tables.now) c.args.actor.0 c.args.handle c.args.status.0 ≡ Some (record { spm = spm_of c.reply.new.tables; owing = Some c.in-Some.client.0 }) = search rules in
    names-owed c.args.system.now c.args.tables.now c.reply.new.tables c.panic.new.tables c.args.actor.0 c.in-Some.client.0 c.args.handle c.args.status.0
    c.requires.premises.tables.fits left c.panic.ensures.state c.reply.ensures.names c.panic.ensures.names
