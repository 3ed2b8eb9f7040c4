use Rattle.std.proofs.Common.{◌≡◌, true, false, ◌∙◌, ap, sym, refl, rules, to_z, of_z, w32}
use Rattle.std.specs.Ordering.{int_eq}
use Rattle.ffm_model.specs.declared.constants.TheConstants.{PSA_ERROR_PROGRAMMER_ERROR}
use Rattle.ffm_model.specs.declared.machine.Outcome.TheVariants.{Value}
use Rattle.ffm_model.specs.declared.objects.ActorPhase.TheVariants.{Ready}
use Rattle.ffm_model.specs.State.{SpmState, with_phase}
use Rattle.spm_tables.specs.TablesView.{fresh_message, spm_of}
use Rattle.service_calls.proofs.ReplyLemmas.{request-is}
use Rattle.service_calls.proofs.replies.answer_request.Goals as goal

pub returns-then-status-ne-PSA_ERROR_PROGRAMMER_ERROR-clause-state : goal.returns-then-status-ne-PSA_ERROR_PROGRAMMER_ERROR-clause-state
returns-then-status-ne-PSA_ERROR_PROGRAMMER_ERROR-clause-state c =
    let other : int_eq c.args.status.0 PSA_ERROR_PROGRAMMER_ERROR ≡ false = search rules in
    let value : to_z w32 (of_z w32 c.args.status.0) ≡ c.args.status.0 = search rules in
    c.set_phase.ensures.state ∙ ap (λ z. with_phase (spm_of c.set_request_phase.new.tables) c.args.message.client.0 (Ready (Value z))) value
    ∙ ap (λ (b : SpmState). with_phase b c.args.message.client.0 (Ready (Value c.args.status.0))) (c.set_request_phase.ensures.state c.args.message c.requires.connection)
    ∙ sym (request-is c.args.system.now (spm_of c.args.tables.now) (fresh_message c.args.message) c.args.status.0 false _ other refl)

pub returns-then-is_partition-clause-state : goal.returns-then-is_partition-clause-state
returns-then-is_partition-clause-state c =
    let failed : int_eq c.args.status.0 PSA_ERROR_PROGRAMMER_ERROR ≡ true = search rules in
    c.set_request_phase-2.ensures.state c.args.message c.requires.connection
    ∙ sym (request-is c.args.system.now (spm_of c.args.tables.now) (fresh_message c.args.message) c.args.status.0 true true failed (sym c.is_partition.ensures ∙ c.if-is_partition.true))

pub returns-clause-state : goal.returns-clause-state
returns-clause-state c =
    let failed : int_eq c.args.status.0 PSA_ERROR_PROGRAMMER_ERROR ≡ true = search rules in
    c.set_phase-2.ensures.state ∙ ap (λ (b : SpmState). with_phase b c.args.message.client.0 (Ready (Value PSA_ERROR_PROGRAMMER_ERROR))) (c.set_request_phase-2.ensures.state c.args.message c.requires.connection)
    ∙ sym (request-is c.args.system.now (spm_of c.args.tables.now) (fresh_message c.args.message) c.args.status.0 true false failed (sym c.is_partition.ensures ∙ c.if-is_partition.false))
