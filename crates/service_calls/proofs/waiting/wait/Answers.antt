use Rattle.std.proofs.Common.{refl}
use Rattle.service_calls.proofs.Kept.{phase-names, unchanged-names}
use Rattle.service_calls.proofs.waiting.wait.Goals as goal
use Rattle.std.proofs.Common.{subst, sym}
use Rattle.std.specs.Prelude.{All}
use Rattle.ffm_model.specs.State.{SpmState}
use Rattle.law_counting.specs.Objects.{ObjectsFit}
use Rattle.law_counting.proofs.CallsFit.{wait-fits}
use Rattle.machine_rules.specs.Vectors.{AreWithin}
use Rattle.spm_tables.specs.TablesView.{spm_of}

pub returns-then-assigned_to-mask-eq0-clause-names : goal.returns-then-assigned_to-mask-eq0-clause-names
returns-then-assigned_to-mask-eq0-clause-names c = unchanged-names c.args.system.now c.args.tables.now c.args.tables.now refl

pub returns-then-timeout-lt-PSA_BLOCK-clause-names : goal.returns-then-timeout-lt-PSA_BLOCK-clause-names
returns-then-timeout-lt-PSA_BLOCK-clause-names c = unchanged-names c.args.system.now c.args.tables.now c.args.tables.now refl

pub returns-clause-names : goal.returns-clause-names
returns-clause-names c = phase-names c.args.system.now c.args.tables.now c.set_phase.new.self _ c.set_phase.ensures.after

pub returns-clause-fits : goal.returns-clause-fits
returns-clause-fits c = λ running fit.
    subst (λ (b : SpmState). ObjectsFit c.args.system.now b) (sym c.set_phase.ensures.state) (wait-fits c.args.system.now (spm_of c.args.tables.now) c.args.actor.0 c.args.mask fit running)

pub returns-clause-within : goal.returns-clause-within
returns-clause-within c = λ ranges all. subst (λ (b : SpmState). All (λ m. AreWithin ranges m.vectors) b.messages) (sym c.set_phase.ensures.state) all
