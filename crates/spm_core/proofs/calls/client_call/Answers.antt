use Rattle.std.proofs.Common.{◌≡◌, refl, rules, subst, ℤ, to_z, of_z, w32, SFits}
use Rattle.std.specs.Prelude.{List}
use Rattle.std.proofs.Math.Facts.{to_z-of_z}
use Rattle.ffm_model.specs.declared.machine.Call.TheVariants as call
use Rattle.ffm_model.specs.declared.machine.Handle.{Handle}
use Rattle.ffm_model.specs.ClientCalls.{psa_call}
use Rattle.memory_image.specs.Pieces.{byte_at}
use Rattle.law_calls.proofs.Changes.{names-same}
use Rattle.spm_tables.specs.Answers.{Answers, state_with}
use Rattle.spm_core.proofs.Attempted.{attempts-answer, shows-all}
use Rattle.spm_core.proofs.calls.client_call.Goals as goal

pub close-requires-clause-premises : goal.close-requires-clause-premises
close-requires-clause-premises c = (c.args.system.now, c.requires.premises.tables)

pub returns-in-FrameworkVersion-clause-names : goal.returns-in-FrameworkVersion-clause-names
returns-in-FrameworkVersion-clause-names c = names-same c.args.system.now c.args.tables.now c.args.tables.now refl refl

pub returns-in-Version-clause-names : goal.returns-in-Version-clause-names
returns-in-Version-clause-names c = names-same c.args.system.now c.args.tables.now c.args.tables.now refl refl

pub returns-in-Invoke-clause-attempts : goal.returns-in-Invoke-clause-attempts
returns-in-Invoke-clause-attempts c =
    let fits : SFits w32 c.in-Invoke.kind = search rules in
    let same : to_z w32 (of_z w32 c.in-Invoke.kind) ≡ c.in-Invoke.kind = to_z-of_z fits in
    let answers : ℤ → Type 0 = λ kind. (given : List Handle) → Answers (λ o. o) (psa_call c.args.system.now (state_with c.args.tables.now given (byte_at c.args.image.now)) c.args.actor.0 c.in-Invoke.handle kind c.in-Invoke.in_vec c.in-Invoke.in_len c.in-Invoke.out_vec c.in-Invoke.out_len) c.args.tables.now c.invoke.result c.invoke.new.tables in
    rw c.in-Invoke.is
    (attempts-answer c.args.system.now c.args.actor.0 (call.Invoke c.in-Invoke.handle c.in-Invoke.kind c.in-Invoke.in_vec c.in-Invoke.in_len c.in-Invoke.out_vec c.in-Invoke.out_len)
    c.args.tables.now c.invoke.new.tables c.args.image.now
    (λ given. psa_call c.args.system.now (state_with c.args.tables.now given (byte_at c.args.image.now)) c.args.actor.0 c.in-Invoke.handle c.in-Invoke.kind c.in-Invoke.in_vec c.in-Invoke.in_len c.in-Invoke.out_vec c.in-Invoke.out_len)
    c.invoke.result (λ given h. refl) (subst answers same c.invoke.ensures.answer))

pub returns-in-Invoke-clause-shown : goal.returns-in-Invoke-clause-shown
returns-in-Invoke-clause-shown c =
    rw c.in-Invoke.is (shows-all c.args.system.now c.args.actor.0 (call.Invoke c.in-Invoke.handle c.in-Invoke.kind c.in-Invoke.in_vec c.in-Invoke.in_len c.in-Invoke.out_vec c.in-Invoke.out_len) c.args.tables.now (byte_at c.args.image.now) c.invoke.result (λ st k. refl))
