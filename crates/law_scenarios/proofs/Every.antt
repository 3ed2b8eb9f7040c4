-- Each entry of a scenario's runs fits.
use Rattle.std.proofs.Common.{ℕ, ◌≡◌, ◌<◌, ◌-◌, Bool, true, false, List, [], ◌∷◌, refl}
use Rattle.std.specs.Prelude.{Option, Some, None, ◌&&◌, if◌then◌else◌}
use Rattle.std.specs.List.{AllByRecursion, list_any}
use Rattle.std.specs.Option.{option_map_or}
use Rattle.std.proofs.lemmas.List.Elements.{All-nil, All-replicate}
use Rattle.ffm_model.specs.declared.machine.Entry.{Entry}
use Rattle.ffm_model.specs.declared.objects.ActorPhase.TheVariants.{Running}
use Rattle.ffm_model.specs.declared.objects.OpenConnection.{OpenConnection}
use Rattle.ffm_model.specs.declared.objects.PendingMessage.{PendingMessage}
use Rattle.ffm_model.specs.declared.scenario.Scenario.{Scenario}
use Rattle.ffm_model.specs.declared.system.System.{System}
use Rattle.ffm_model.specs.Actors.{actor_count, counts_of}
use Rattle.ffm_model.specs.Memory.{ByteMap, opening_memory}
use Rattle.ffm_model.specs.Reach.{covers}
use Rattle.ffm_model.specs.Restarts.{FinishedRun, RunsFrom, is_mmio, memory_after, memory_reset}
use Rattle.ffm_model.specs.State.{State, opening}
use Rattle.ffm_model.specs.Step.{Run, after}
use Rattle.ffm_model.specs.TraceText.{EntryFits, IsU32, IsI32}
use Rattle.actor_programs.specs.declared.program.Program.{Program}
use Rattle.scenario_runs.specs.Runs.{RanBy}
use Rattle.law_scenarios.specs.Fitting.{HaveFittingEntries, HaveFittingRuns}
use Rattle.law_scenarios.specs.Ranges.{HasBytes, ProgramsFit, VersionsFit}
use Rattle.law_scenarios.proofs.MachineRanges.{PhaseFits, StateFits}
use Rattle.law_scenarios.proofs.RunRanges.{Programmed, RunFits, entries-fit}

opening-fits : (s : System) (m : ByteMap) → HasBytes m → StateFits (opening s m)
opening-fits s m bytes = record {
  spm = record { rhandles = All-nil (λ (c : OpenConnection). IsU32 c.rhandle); kinds = All-nil (λ (p : PendingMessage). IsI32 p.kind); phases = All-replicate PhaseFits (actor_count s) Running tt };
  bytes = bytes;
}

run-fits : (s : System) (m : ByteMap) (programs : List Program) → VersionsFit s → ProgramsFit s programs → HasBytes m → (es : List Entry) → Run s m es → Programmed s programs es → RunFits s (Some (opening s m)) es
run-fits s m programs v fit bytes es run programmed = entries-fit s m programs v fit es [] (opening s m) refl (opening-fits s m bytes) tt programmed run

pub have_fitting_entries : (s : System) (m : ByteMap) (programs : List Program) → HaveFittingEntries s m programs
have_fitting_entries s m programs v fit bytes c threads es verdict ran = (run-fits s m programs v fit bytes es ran.is_run ran.programmed).entries

-- ---- restarts

then-fits : (s : System) (m : ByteMap) (es : List Entry) → HasBytes m → RunFits s (Some (opening s m)) es → HasBytes (memory_after s m es)
then-fits s m es bytes f =
    let go : (o : Option State) → ((st : State) → o ≡ Some st → StateFits st) → HasBytes (option_map_or (λ st. st.memory) o m) = elim [ None ↦ λ h. bytes | Some st ↦ λ h. (h st refl).bytes ] in
    go (after s m es) f.last

reset-fits : (s : System) (first last : ByteMap) → HasBytes first → HasBytes last → HasBytes (memory_reset s first last)
reset-fits s first last h k x = elim (list_any (λ r. is_mmio r.class && covers r x) s.regions) as (λ (b : Bool). (if b then last x else first x) < 256) [ true ↦ k x | false ↦ h x ]

module _ (s : System) (c : Scenario) (programs : List Program) (threads : Bool) (first : ByteMap) (v : VersionsFit s) (fit : ProgramsFit s programs) (bytes : HasBytes first) where
  IsRun : ByteMap → FinishedRun → Type 0
  IsRun m r = RanBy s m c programs threads r.entries r.verdict

  next-fits : (m : ByteMap) (r : FinishedRun) → HasBytes m → RanBy s m c programs threads r.entries r.verdict → HasBytes (memory_reset s first (memory_after s m r.entries))
  next-fits m r own ran = reset-fits s first (memory_after s m r.entries) bytes (then-fits s m r.entries own (run-fits s m programs v fit own r.entries ran.is_run ran.programmed))

  pub runs-fit : (m : ByteMap) (left : ℕ) (rs : List FinishedRun) → HasBytes m → RunsFrom s (λ m r. RanBy s m c programs threads r.entries r.verdict) first m left rs → AllByRecursion (λ r. AllByRecursion (EntryFits (counts_of s)) r.entries) rs
  runs-fit m left [] own h = tt
  runs-fit m left (r ∷ []) own h = (have_fitting_entries s m programs v fit own c threads r.entries r.verdict h.0, tt)
  runs-fit m left (r ∷ q ∷ rs) own h =
      (have_fitting_entries s m programs v fit own c threads r.entries r.verdict h.0, runs-fit (memory_reset s first (memory_after s m r.entries)) (left - 1) (q ∷ rs) (next-fits m r own h.0) h.2)

pub have_fitting_runs : (s : System) (c : Scenario) (programs : List Program) (restarts : ℕ) → HaveFittingRuns s c programs restarts
have_fitting_runs s c programs restarts v fit bytes threads rs h = runs-fit s c programs threads (opening_memory c.memory) v fit bytes (opening_memory c.memory) restarts rs bytes h
