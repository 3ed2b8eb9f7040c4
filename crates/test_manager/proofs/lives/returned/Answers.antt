use Rattle.std.proofs.Common.{ℕ, ◌≡◌, ◌<◌, ap, sym, refl, subst, ◌∙◌, length}
use Rattle.std.specs.Prelude.{count_by}
use Rattle.ffm_model.specs.State.{SpmState, phase_of}
use Rattle.ffm_model.specs.declared.objects.ActorPhase.TheVariants.{Ready, Running}
use Rattle.law_counting.specs.Objects.{ObjectsFit, accepted_as, is_joining}
use Rattle.law_counting.proofs.Balance.{balanced-fit, fit-balanced, one}
use Rattle.law_counting.proofs.Keeps.{ready-quiet}
use Rattle.law_counting.proofs.Parts.{is_there, phase_same}
use Rattle.law_counting.proofs.Updates.{phased-keeps}
use Rattle.spm_tables.specs.TablesView.{spm_of}
use Rattle.test_manager.proofs.lives.returned.Goals as goal

ready : (c : goal.After-set_phase) → phase_of (spm_of c.args.tables.now) c.args.client.0 ≡ Ready c.in-Ready.outcome
ready c = sym c.phase.ensures ∙ c.in-Ready.is

inside : (c : goal.After-set_phase) → c.args.client.0 < length (spm_of c.args.tables.now).phases
inside c = is_there (spm_of c.args.tables.now).phases c.args.client.0 (λ e. cc (sym (ready c) ∙ e))

pub returns-in-Ready-clause-running : goal.returns-in-Ready-clause-running
returns-in-Ready-clause-running c = ap (λ (b : SpmState). phase_of b c.args.client.0) c.set_phase.ensures.state ∙ phase_same (spm_of c.args.tables.now).phases c.args.client.0 Running (inside c)

pub returns-in-Ready-clause-fits : goal.returns-in-Ready-clause-fits
returns-in-Ready-clause-fits c s fits =
    let b : SpmState = spm_of c.args.tables.now in
    let a : ℕ = c.args.client.0 in
    subst (ObjectsFit s) (sym c.set_phase.ensures.state)
    (balanced-fit s one _ (phased-keeps s one b a Running (fit-balanced s b fits) (inside c) (λ k. ap (λ q. is_joining q k) (ready c)) (λ k. refl)
    (ready-quiet (phase_of b a) c.in-Ready.outcome _ _ (λ k. count_by (accepted_as a k) b.connections) (ready c) (fits.phases a))))
