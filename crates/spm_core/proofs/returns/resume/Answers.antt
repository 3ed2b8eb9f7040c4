use Rattle.std.proofs.Common.{◌≡◌, rules, ap, sym, ◌∙◌, subst, w32, SFits, ℤ}
use Rattle.std.specs.Prelude.{IsSomeAnd}
use Rattle.std.proofs.Math.Facts.{to_z-of_z}
use Rattle.ffm_model.specs.declared.machine.Call.TheVariants.{Resume}
use Rattle.ffm_model.specs.declared.machine.Outcome.TheVariants.{Value}
use Rattle.ffm_model.specs.declared.objects.ActorPhase.TheVariants as phase
use Rattle.ffm_model.specs.declared.objects.OpenConnection.{OpenConnection}
use Rattle.ffm_model.specs.Signals.{signals_of}
use Rattle.ffm_model.specs.State.{phase_of}
use Rattle.object_pools.specs.Pool.{Places, item_at}
use Rattle.law_calls.proofs.Changes.{names-same}
use Rattle.spm_tables.specs.TablesView.{TablesView, spm_of, MadeFor}
use Rattle.spm_core.specs.Performed.{ShowsName}
use Rattle.spm_core.proofs.Accepted.{returned-waiting, told-name, told-names}
use Rattle.spm_core.proofs.returns.resume.Goals as goal

pub returns-in-Ready-clause-names : goal.returns-in-Ready-clause-names
returns-in-Ready-clause-names c =
    names-same c.args.system.now c.args.tables.now c.set_phase.new.self (ap (λ (d : TablesView). d.connections) c.set_phase.ensures.after) (ap (λ (d : TablesView). d.messages) c.set_phase.ensures.after)

pub returns-in-Waiting-clause-returned : goal.returns-in-Waiting-clause-returned
returns-in-Waiting-clause-returned c =
    let waits : phase_of (spm_of c.args.tables.now) c.args.actor.0 ≡ phase.Waiting c.in-Waiting.mask = search rules in
    let made : MadeFor c.set_phase.new.self c.args.system.now = c.set_phase.ensures.shape ∙ c.requires.premises.made in
    let asserted : c.signals.result ≡ signals_of c.args.system.now (spm_of c.args.tables.now) c.args.actor.0 =
    c.signals.ensures c.args.system.now made ∙ ap (λ b. signals_of c.args.system.now b c.args.actor.0) c.set_phase.ensures.state in
    returned-waiting c.args.system.now c.args.actor.0 c.in-Waiting.mask c.signals.result c.args.tables.now c.set_phase.new.self waits c.set_phase.ensures.state asserted

pub returns-in-Waiting-clause-names : goal.returns-in-Waiting-clause-names
returns-in-Waiting-clause-names c =
    names-same c.args.system.now c.args.tables.now c.set_phase.new.self (ap (λ (d : TablesView). d.connections) c.set_phase.ensures.after) (ap (λ (d : TablesView). d.messages) c.set_phase.ensures.after)

pub returns-in-Connected-clause-shown : goal.returns-in-Connected-clause-shown
returns-in-Connected-clause-shown c m =
    let waits : phase_of (spm_of c.args.tables.now) c.args.actor.0 ≡ phase.Connected c.in-Connected.serial = search rules in
    let fits : SFits w32 c.tell.result.0 = search rules in
    let live : IsSomeAnd (item_at c.args.tables.now.connections c.accepted-slot.result) (λ x. x.serial ≡ c.in-Connected.serial) =
    subst (λ (p : Places OpenConnection). IsSomeAnd (item_at p c.accepted-slot.result) (λ x. x.serial ≡ c.in-Connected.serial)) (ap (λ (d : TablesView). d.connections) c.set_phase.ensures.after) c.accepted-slot.ensures.live in
    subst (λ (z : ℤ). ShowsName c.args.system.now c.args.actor.0 Resume c.args.tables.now m (Value z)) (sym (to_z-of_z fits))
    (told-name c.args.system.now c.args.actor.0 c.in-Connected.serial c.args.tables.now m c.accepted-slot.result c.tell.result waits live c.tell.ensures.handle)

pub returns-in-Connected-clause-names : goal.returns-in-Connected-clause-names
returns-in-Connected-clause-names c =
    told-names c.args.system.now c.args.tables.now c.set_phase.new.self c.tell.new.self c.accepted-slot.result c.in-Connected.serial c.tell.result c.accepted-slot.ensures.kept
    (ap (λ (d : TablesView). d.connections) c.set_phase.ensures.after) (ap (λ (d : TablesView). d.messages) c.set_phase.ensures.after) c.accepted-slot.ensures.live c.tell.ensures.item
