use Rattle.std.proofs.Common.{◌≡◌, ◌∙◌, sym, rules}
use Rattle.ffm_model.specs.declared.objects.ActorPhase.TheVariants.{Connected}
use Rattle.ffm_model.specs.State.{phase_of}
use Rattle.spm_tables.specs.TablesView.{spm_of}
use Rattle.test_manager.proofs.Told.{told-left}
use Rattle.test_manager.proofs.lives.told.Goals as goal

pub returns-clause-fits : goal.returns-clause-fits
returns-clause-fits c =
    let d = c.args.tables.now in
    let joined : phase_of (spm_of d) c.args.client.0 ≡ Connected c.in-Connected.serial = sym c.phase.ensures ∙ c.in-Connected.is in
    told-left c.args.system.now d c.tell-handle.new.self c.set_phase.new.self c.args.client.0 c.in-Connected.serial c.in-Some.slot c.tell-handle.result
    c.law.ensures.connections c.law.ensures.messages c.law.ensures.table c.requires.premises.fits joined (search rules) (search rules) c.tell-handle.ensures.handle c.tell-handle.ensures.state c.set_phase.ensures.state
