use Rattle.std.proofs.Common.{◌≡◌, rules, ap, sym, ◌∙◌, w32, SFits}
use Rattle.std.specs.Prelude.{get_or}
use Rattle.std.proofs.Math.Facts.{to_z-of_z}
use Rattle.ffm_model.specs.declared.objects.ActorPhase.TheVariants.{Connected}
use Rattle.ffm_model.specs.declared.machine.Handle.{Handle}
use Rattle.ffm_model.specs.declared.machine.Outcome.TheVariants.{Value}
use Rattle.ffm_model.specs.declared.machine.Phase.TheVariants.{Ready}
use Rattle.ffm_model.specs.Names.{name_of, no_slot}
use Rattle.ffm_model.specs.State.{phase_of}
use Rattle.spm_tables.specs.TablesView.{spm_of}
use Rattle.spm_core.specs.Views.{shown_phase}
use Rattle.spm_core.proofs.Accepted.{accepted-name, joined-accepted}
use Rattle.spm_core.proofs.actors.shown.Goals as goal

pub accepted-slot-requires : goal.accepted-slot-requires
accepted-slot-requires c =
    let joined : phase_of (spm_of c.args.tables.now) c.args.actor.0 ≡ Connected c.in-Connected.serial = search rules in
    joined-accepted c.args.system.now c.args.tables.now c.args.actor.0 c.in-Connected.serial c.requires joined

pub returns-in-Connected : goal.returns-in-Connected
returns-in-Connected c k are =
    let joined : phase_of (spm_of c.args.tables.now) c.args.actor.0 ≡ Connected c.in-Connected.serial = search rules in
    let fits : SFits w32 c.handle_of.result.0 = search rules in
    let named : c.handle_of.result ≡ name_of 0 (get_or k.connections c.in-Connected.serial no_slot) =
    c.handle_of.ensures.value ∙ sym (accepted-name c.args.tables.now k c.accepted-slot.result c.in-Connected.serial are c.accepted-slot.ensures.live) in
    ap (λ z. Ready (Value z)) (to_z-of_z fits ∙ ap (λ (h : Handle). h.0) named) ∙ ap (shown_phase k) (sym joined)
