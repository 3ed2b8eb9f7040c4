use Rattle.std.proofs.Common.{refl, rules}
use Rattle.std.specs.Prelude.{IsErr, [], ◌∷◌, ◌++◌}
use Rattle.ffm_model.specs.declared.machine.Call.TheVariants.{Get}
use Rattle.ffm_model.specs.declared.machine.Outcome.TheVariants.{Got}
use Rattle.memory_image.specs.Pieces.{byte_at}
use Rattle.spm_tables.specs.Answers.{state_with}
use Rattle.spm_core.proofs.Attempted.{attempts-effect, attempts-err, shows-due}
use Rattle.spm_core.proofs.calls.service_call.Goals as goal

pub get-requires : goal.get-requires
get-requires c = record { premises = record { tables = c.requires.premises.tables; regions = c.requires.premises.regions } }

pub set_rhandle-requires : goal.set_rhandle-requires
set_rhandle-requires c = record { premises = (c.args.system.now, c.requires.premises.tables) }

pub returns-in_err-message-in-Get-clause-attempts : goal.returns-in_err-message-in-Get-clause-attempts
returns-in_err-message-in-Get-clause-attempts c =
    let fails : IsErr c.from_residual.result = search rules in
    let kept = (c.in_err-message-in-Get.ensures.answer []).1 in
    rw c.in-Get.is
    (attempts-err c.args.system.now c.args.actor.0 (Get c.in-Get.signal c.in-Get.msg) c.args.tables.now c.get.new.tables c.args.image.now c.get.new.image c.from_residual.result
    fails (λ given h. (c.in_err-message-in-Get.ensures.answer given).0 h) kept.0 kept.1)

pub returns-in_ok-message-in-Get-clause-attempts : goal.returns-in_ok-message-in-Get-clause-attempts
returns-in_ok-message-in-Get-clause-attempts c =
    rw c.in-Get.is
    (attempts-effect c.args.system.now c.args.actor.0 (Get c.in-Get.signal c.in-Get.msg) c.args.tables.now c.get.new.tables c.args.image.now c.get.new.image (Got c.in_ok-message-in-Get.message)
    (λ given. state_with c.get.new.tables (given ++ c.in_ok-message-in-Get.message.handle ∷ []) (byte_at c.get.new.image)) (λ given. c.in_ok-message-in-Get.ensures.answer given) (λ given. refl) (λ given. refl))

pub returns-in_ok-message-in-Get-clause-shown : goal.returns-in_ok-message-in-Get-clause-shown
returns-in_ok-message-in-Get-clause-shown c =
    rw c.in-Get.is
    (shows-due c.args.system.now c.args.actor.0 (Get c.in-Get.signal c.in-Get.msg) c.args.tables.now (byte_at c.args.image.now) (Got c.in_ok-message-in-Get.message)
    (λ given k are. c.in_ok-message-in-Get.ensures.name k are given))
