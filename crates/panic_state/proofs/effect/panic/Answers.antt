use Rattle.std.proofs.Common.{◌<◌, ◌+◌, length, arith, ap, sym, subst}
use Rattle.std.specs.Prelude.{All}
use Rattle.spm_tables.specs.TablesView.{TablesView, Shape}
use Rattle.panic_state.specs.Losses.{disconnect_messages}
use Rattle.panic_state.proofs.EffectLemmas.{effect-is, names-are, shape-is, room-of, services-of, few-disconnects}
use Rattle.panic_state.proofs.effect.panic.Goals as goal
use Rattle.law_counting.specs.Objects.{ObjectsFit}
use Rattle.ffm_model.specs.State.{SpmState}
use Rattle.law_calls.proofs.CallsWithin.{panic-within}
use Rattle.machine_rules.specs.Vectors.{AreWithin}
use Rattle.spm_tables.specs.TablesView.{spm_of}
use Rattle.panic_state.proofs.EffectLemmas.{panicked-fits}

pub leave_services-requires-clause-services : goal.leave_services-requires-clause-services
leave_services-requires-clause-services c =
    let s = c.args.system.now in
    let p = c.args.partition.0 in
    subst (λ (d : TablesView). All (λ h. h.item.service < length d.services) d.connections.held) (sym c.end_services.ensures) (services-of s p c.args.tables.now c.requires.made c.requires.fits)

pub leave_services-requires-clause-room : goal.leave_services-requires-clause-room
leave_services-requires-clause-room c =
    let s = c.args.system.now in
    let p = c.args.partition.0 in
    omega (
      arith,
      room-of s p c.args.tables.now c.requires.made c.requires.partition c.requires.fits,
      ap (λ (x : Shape). x.messages) c.requires.made,
      ap (λ (d : TablesView). length d.messages.held + length (disconnect_messages p d.connections)) c.end_services.ensures,
      ap (λ (d : TablesView). length d.messages.generations) c.end_services.ensures,
    )

pub leave_services-requires-clause-few : goal.leave_services-requires-clause-few
leave_services-requires-clause-few c =
    let s = c.args.system.now in
    let p = c.args.partition.0 in
    omega (
      arith,
      few-disconnects s p c.args.tables.now c.requires.fits,
      c.requires.takes,
      ap (λ (d : TablesView). d.messages.takes + length (disconnect_messages p d.connections)) c.end_services.ensures,
    )

pub returns-clause-state : goal.returns-clause-state
returns-clause-state c =
    let s = c.args.system.now in
    let p = c.args.partition.0 in
    effect-is s p c.args.tables.now c.end_services.new.tables c.leave_services.new.tables c.end_services.ensures c.leave_services.ensures.connections c.leave_services.ensures.messages c.leave_services.ensures.rest

pub returns-clause-names : goal.returns-clause-names
returns-clause-names c =
    let s = c.args.system.now in
    let p = c.args.partition.0 in
    let effect = effect-is s p c.args.tables.now c.end_services.new.tables c.leave_services.new.tables c.end_services.ensures c.leave_services.ensures.connections c.leave_services.ensures.messages c.leave_services.ensures.rest in
    names-are s p c.args.tables.now c.end_services.new.tables c.leave_services.new.tables c.requires.made c.requires.fits c.end_services.ensures effect c.leave_services.ensures.names c.leave_services.ensures.given

pub returns-clause-shape : goal.returns-clause-shape
returns-clause-shape c =
    let s = c.args.system.now in
    let p = c.args.partition.0 in
    shape-is s p c.args.tables.now c.end_services.new.tables c.leave_services.new.tables c.end_services.ensures c.leave_services.ensures.connections c.leave_services.ensures.size c.leave_services.ensures.rest

pub returns-clause-message_takes : goal.returns-clause-message_takes
returns-clause-message_takes c =
    let s = c.args.system.now in
    let p = c.args.partition.0 in
    omega (
      arith,
      few-disconnects s p c.args.tables.now c.requires.fits,
      c.leave_services.ensures.takes,
      ap (λ (d : TablesView). d.messages.takes + length (disconnect_messages p d.connections)) c.end_services.ensures,
    )

pub returns-clause-fits : goal.returns-clause-fits
returns-clause-fits c =
    subst (λ (b : SpmState). ObjectsFit c.args.system.now b) (sym (returns-clause-state c))
    (panicked-fits c.args.system.now c.args.partition.0 c.args.tables.now c.requires.made c.requires.partition c.requires.fits)

pub returns-clause-within : goal.returns-clause-within
returns-clause-within c = λ ranges all.
    subst (λ (b : SpmState). All (λ m. AreWithin ranges m.vectors) b.messages) (sym (returns-clause-state c))
    (panic-within ranges c.args.system.now (spm_of c.args.tables.now) c.args.partition.0 all)
