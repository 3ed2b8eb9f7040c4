use Rattle.ffm_model.specs.State.{has_handle}
use Rattle.ffm_model.specs.Actors.{is_service_of}
use Rattle.std.specs.Prelude.{◌&&◌}
use Rattle.spm_tables.specs.TablesView.{message_of, spm_of}
use Rattle.service_calls.proofs.Held.{message-is}
use Rattle.service_calls.proofs.Partners.{connection-there}
use Rattle.service_calls.proofs.Kept.{unchanged-names}
use Rattle.std.proofs.Common.{refl}
use Rattle.service_calls.proofs.Kept.{rhandle-names}
use Rattle.service_calls.proofs.replies.set_rhandle.Goals as goal
use Rattle.std.specs.Prelude.{IsSome}
use Rattle.object_pools.specs.Pool.{item_at}
use Rattle.std.proofs.Common.{rules}
use Rattle.service_calls.proofs.Kept.{rhandle-fit, rhandle-within}

pub connection_of-requires-clause-there : goal.connection_of-requires-clause-there
connection_of-requires-clause-there c =
    let s = c.requires.premises.0 in
    connection-there s (spm_of c.args.tables.now) (λ m. is_service_of s c.args.actor.0 m.service && has_handle m.handle c.args.handle) (message_of c.in-Some.slot c.queued-message.result) c.requires.premises.1.fits
    (message-is c.args.tables.now c.in-Some.slot c.queued-message.result _ c.queued-message.ensures (c.in-Some.ensures.message s c.requires.premises.1.made))

pub returns-in_default-clause-names : goal.returns-in_default-clause-names
returns-in_default-clause-names c = λ s made. unchanged-names s c.args.tables.now c.args.tables.now refl

pub returns-in_default-connection_of-clause-names : goal.returns-in_default-connection_of-clause-names
returns-in_default-connection_of-clause-names c = λ s made. unchanged-names s c.args.tables.now c.args.tables.now refl

pub returns-clause-names : goal.returns-clause-names
returns-clause-names c = λ s made.
    rhandle-names s c.args.tables.now c.set_rhandle.new.self c.in-Some-connection_of.connection c.queued-message.result c.args.rhandle c.law.ensures.connections c.in-Some-connection_of.ensures c.set_rhandle.ensures.item

pub returns-clause-fits : goal.returns-clause-fits
returns-clause-fits c = λ s fit.
    let live : IsSome (item_at c.args.tables.now.connections c.in-Some-connection_of.connection) = search rules in
    rhandle-fit s (spm_of c.args.tables.now) (spm_of c.set_rhandle.new.self) c.args.rhandle _ live c.set_rhandle.ensures.state fit

pub returns-clause-within : goal.returns-clause-within
returns-clause-within c = λ ranges all.
    let live : IsSome (item_at c.args.tables.now.connections c.in-Some-connection_of.connection) = search rules in
    rhandle-within ranges (spm_of c.args.tables.now) (spm_of c.set_rhandle.new.self) c.args.rhandle _ live c.set_rhandle.ensures.state all
