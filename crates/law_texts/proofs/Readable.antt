-- The runs that files call for have texts that are traces.
use Rattle.std.proofs.Common.{ℕ, ◌≡◌, ◌≤◌, ◌-◌, Bool, true, false, List, [], ◌∷◌, arith, refl, ap, sym, subst, ◌∙◌}
use Rattle.std.specs.Prelude.{Result, Ok, Err, ◌&&◌, if◌then◌else◌, nat_lt}
use Rattle.std.specs.List.{AllByRecursion}
use Rattle.ffm_model.specs.declared.constants.TheConstants.{MAX_ENTRIES, MAX_FILE_BYTES}
use Rattle.ffm_model.specs.declared.place.Refusal.{Refusal}
use Rattle.ffm_model.specs.declared.scenario.Scenario.{Scenario}
use Rattle.ffm_model.specs.declared.system.System.{System}
use Rattle.ffm_model.specs.Actors.{counts_of}
use Rattle.ffm_model.specs.Compiled.{compiled}
use Rattle.ffm_model.specs.Memory.{ByteMap, opening_memory}
use Rattle.ffm_model.specs.Reading.{Contents, Stop, asks_nothing, file_at}
use Rattle.ffm_model.specs.Restarts.{FinishedRun, RunsFrom, memory_after, memory_reset}
use Rattle.ffm_model.specs.Scenarios.{scenario_in}
use Rattle.ffm_model.specs.Systems.{stopped, system_of}
use Rattle.ffm_model.specs.TraceText.{EntryFits}
use Rattle.actor_programs.specs.declared.program.Program.{Program}
use Rattle.actor_programs.specs.Programs.{programs_of}
use Rattle.scenario_runs.specs.Restarting.{AreRuns}
use Rattle.scenario_runs.specs.Runs.{RanBy}
use Rattle.trace_print.proofs.LineLengths.{short_lines}
use Rattle.law_scenarios.proofs.Every.{have_fitting_runs}
use Rattle.law_scenarios.proofs.Files.{scenario_is_in_range, system_is_in_range}
use Rattle.law_scenarios.specs.Fitting.{IsInRange}
use Rattle.law_scenarios.specs.Ranges.{VersionsFit}
use Rattle.work_orders.specs.Work.{Work, run_at, run_in, run_of, scenario_at, scenario_for, scenario_place, system_at, system_in, system_place}
use Rattle.law_texts.specs.Replayed.{AreReadable, IsReadable}
use Rattle.law_texts.proofs.Chains.{chain-of}

-- ---- files

stopped-ok : {A : Type 0} (r : Result A Refusal) (x : A) → stopped r ≡ Ok x → r ≡ Ok x
stopped-ok {A} (Ok y) x e = let same : y ≡ x = cc in ap (λ (z : A). Ok z) same
stopped-ok (Err y) x e = absurd (cc)

-- the system of a file is in range
pub system-in-range : (of : Contents) (name : List ℕ) (s : System) → (system_at of name).gives ≡ Ok s → VersionsFit s
unfolding system_at system_in
system-in-range of name s is =
    let file = chain-of (file_at of system_place MAX_FILE_BYTES name) (system_in of) s is in
    let parts = chain-of (system_of of file.value) (λ p. asks_nothing (compiled p)) s file.rest in
    system_is_in_range of file.value parts.value s parts.first parts.rest

-- and so is the scenario
pub scenario-in-range : (of : Contents) (s : System) (name : List ℕ) (c : Scenario) → (scenario_at of s name).gives ≡ Ok c → IsInRange s c
unfolding scenario_at
scenario-in-range of s name c is =
    let file = chain-of (file_at of scenario_place MAX_FILE_BYTES name) (λ bytes. asks_nothing (stopped (scenario_in s bytes))) c is in
    scenario_is_in_range s file.value c (stopped-ok (scenario_in s file.value) c file.rest)

-- ---- what a run's files give

pub record RunFiles (of : Contents) (threads : Bool) (system scenario : List ℕ) (w : Work) : Type 0 where
  pub s : System
  pub c : Scenario
  pub programs : List Program
  pub system_is : (system_at of system).gives ≡ Ok s
  pub scenario_is : (scenario_at of s scenario).gives ≡ Ok c
  pub programs_are : programs_of s c ≡ Ok programs
  pub work : w ≡ run_of threads s c programs

-- the scenario is the one that was read
allowed : (threads : Bool) (c d : Scenario) → scenario_for threads c ≡ Ok d → d ≡ c
allowed threads c d is =
    let go : (b : Bool) (r : Stop) → (if b then Err r else Ok c) ≡ Ok d → d ≡ c = elim [ true ↦ λ r e. absurd (cc) | false ↦ λ r e. (let same : c ≡ d = cc in sym same) ] in
    go (threads && nat_lt 0 c.restarts) _ is

same-work : (v w : Work) → ◌≡◌ {A = Result Work Stop} (Ok v) (Ok w) → w ≡ v
same-work v w e = let same : v ≡ w = cc in sym same

pub run-files : (of : Contents) (threads : Bool) (system scenario : List ℕ) (w : Work) → (run_at of threads system scenario).gives ≡ Ok w → RunFiles of threads system scenario w
unfolding run_at run_in
run-files of threads system scenario w is =
    let one = chain-of (system_at of system) (λ s. run_in of threads s scenario) w is in
    let s : System = one.value in
    let two = chain-of (scenario_at of s scenario) _ w one.rest in
    let c : Scenario = two.value in
    let three = chain-of (asks_nothing (programs_of s c)) _ w two.rest in
    let four = chain-of (asks_nothing (scenario_for threads c)) (λ runs. asks_nothing (Ok (run_of threads s runs three.value))) w three.rest in
    record {
      s = s;
      c = c;
      programs = three.value;
      system_is = one.first;
      scenario_is = two.first;
      programs_are = three.first;
      work = same-work _ w four.rest ∙ ap (λ (d : Scenario). run_of threads s d three.value) (allowed threads c four.value four.first);
    }

-- a system, a scenario and programs that are those of the work
abbrev system_of_work : System → Work → System
system_of_work s (run_of threads d e ps) = d
system_of_work s _ = s

abbrev scenario_of_work : Scenario → Work → Scenario
scenario_of_work c (run_of threads d e ps) = e
scenario_of_work c _ = c

abbrev programs_of_work : List Program → Work → List Program
programs_of_work programs (run_of threads d e ps) = ps
programs_of_work programs _ = programs

-- ---- runs

one-readable : (s : System) (c : Scenario) (programs : List Program) (threads : Bool) (m : ByteMap) (r : FinishedRun) → c.limit ≤ MAX_ENTRIES → RanBy s m c programs threads r.entries r.verdict
    → AllByRecursion (EntryFits (counts_of s)) r.entries → IsReadable s r
one-readable s c programs threads m r few ran fits = record {
  read = record { text = refl; fits = fits; few = omega (arith, few, ran.within) };
  short = short_lines s m r.entries ran.is_run fits;
}

module _ (s : System) (c : Scenario) (programs : List Program) (threads : Bool) (first : ByteMap) (few : c.limit ≤ MAX_ENTRIES) where
  all-readable : (m : ByteMap) (left : ℕ) (rs : List FinishedRun) → RunsFrom s (λ m r. RanBy s m c programs threads r.entries r.verdict) first m left rs
      → AllByRecursion (λ r. AllByRecursion (EntryFits (counts_of s)) r.entries) rs → AllByRecursion (IsReadable s) rs
  all-readable m left [] h fits = tt
  all-readable m left (r ∷ []) h fits = (one-readable s c programs threads m r few h.0 fits.0, tt)
  all-readable m left (r ∷ q ∷ rs) h fits =
      (one-readable s c programs threads m r few h.0 fits.0, all-readable (memory_reset s first (memory_after s m r.entries)) (left - 1) (q ∷ rs) h.2 fits.1)

pub run-readable : (of : Contents) (threads : Bool) (system scenario : List ℕ) (w : Work) (f : RunFiles of threads system scenario w) (runs : List FinishedRun) → AreRuns f.s f.c f.programs threads f.c.restarts runs → AllByRecursion (IsReadable f.s) runs
run-readable of threads system scenario w f runs ran =
    let range : IsInRange f.s f.c = scenario-in-range of f.s scenario f.c f.scenario_is in
    let fits = have_fitting_runs f.s f.c f.programs f.c.restarts (system-in-range of system f.s f.system_is) (range.programs f.programs f.programs_are) range.memory threads runs ran in
    all-readable f.s f.c f.programs threads (opening_memory f.c.memory) range.limit (opening_memory f.c.memory) f.c.restarts runs ran fits

pub are_readable : (of : Contents) (threads : Bool) (system scenario : List ℕ) → AreReadable of threads system scenario
are_readable of threads system scenario s c programs runs is ran =
    let f : RunFiles of threads system scenario (run_of threads s c programs) = run-files of threads system scenario (run_of threads s c programs) is in
    let same_system : s ≡ f.s = ap (system_of_work s) f.work in
    let same_scenario : c ≡ f.c = ap (scenario_of_work c) f.work in
    let same_programs : programs ≡ f.programs = ap (programs_of_work programs) f.work in
    let one : AreRuns f.s c programs threads c.restarts runs = subst (λ (x : System). AreRuns x c programs threads c.restarts runs) same_system ran in
    let two : AreRuns f.s f.c programs threads f.c.restarts runs = subst (λ (x : Scenario). AreRuns f.s x programs threads x.restarts runs) same_scenario one in
    let three : AreRuns f.s f.c f.programs threads f.c.restarts runs = subst (λ (x : List Program). AreRuns f.s f.c x threads f.c.restarts runs) same_programs two in
    subst (λ (x : System). AllByRecursion (IsReadable x) runs) (sym same_system) (run-readable of threads system scenario (run_of threads s c programs) f runs three)
