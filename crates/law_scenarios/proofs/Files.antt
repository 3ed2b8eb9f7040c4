-- What is read of files is in range.
use Rattle.std.proofs.Common.{ℕ, ◌≡◌, List, subst}
use Rattle.std.specs.Prelude.{Result, Ok, IfOk}
use Rattle.ffm_model.specs.declared.system.System.{System}
use Rattle.ffm_model.specs.Reading.{Contents}
use Rattle.law_scenarios.specs.Fitting.{ScenarioIsInRange, SystemIsInRange}
use Rattle.law_scenarios.specs.Ranges.{ProgramsFit, VersionsFit}
use Rattle.law_scenarios.proofs.Openings.{ScenarioFits, opening-fits, scenario-fits}
use Rattle.law_scenarios.proofs.ProgramRanges.{programs-fit}
use Rattle.law_scenarios.proofs.Versions.{PartsFit, compiled-fits, system-of-fits}

-- what is said of an Ok, of its value
of-ok : {A E : Type 0} (P : A → Type 0) (r : Result A E) (x : A) → r ≡ Ok x → IfOk r P → P x
of-ok P r x e h = subst (λ (q : Result _ _). IfOk q P) e h

pub system_is_in_range : (of : Contents) (bytes : List ℕ) → SystemIsInRange of bytes
system_is_in_range of bytes parts s read made = of-ok VersionsFit _ s made (compiled-fits parts (of-ok PartsFit _ parts read (system-of-fits of bytes)))

pub scenario_is_in_range : (s : System) (bytes : List ℕ) → ScenarioIsInRange s bytes
scenario_is_in_range s bytes c read =
    let fits : ScenarioFits c = of-ok ScenarioFits _ c read (scenario-fits s bytes) in
    record { limit = fits.limit; memory = opening-fits c.memory fits.memory; programs = λ programs made. of-ok (ProgramsFit s) _ programs made (programs-fit s c fits.raises) }
