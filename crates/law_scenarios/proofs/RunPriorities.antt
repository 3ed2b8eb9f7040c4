-- A scenario has the same runs where priorities are others.
use Rattle.std.proofs.Common.{ℕ, zero, suc, ◌≡◌, ◌<◌, ◌+◌, ◌-◌, ◌%◌, ◌&&◌, Bool, false, List, [], ◌∷◌, ◌++◌, length, get_or, refl, ap, ap₂, sym, subst, ◌∙◌}
use Rattle.std.specs.Prelude.{Option, Some, IsSome, nat_lt, slice_get, if◌then◌else◌}
use Rattle.std.specs.List.{list_any, range_with_len}
use Rattle.std.specs.Option.{option_map_or, option_to_list}
use Rattle.ffm_model.specs.declared.machine.ActorId.{ActorId}
use Rattle.ffm_model.specs.declared.machine.Entry.{Entry}
use Rattle.ffm_model.specs.declared.machine.Verdict.{Verdict}
use Rattle.ffm_model.specs.declared.scenario.Scenario.{Scenario}
use Rattle.ffm_model.specs.declared.script.SfnFunction.{SfnFunction}
use Rattle.ffm_model.specs.declared.system.Partition.{Partition}
use Rattle.ffm_model.specs.declared.system.Region.{Region}
use Rattle.ffm_model.specs.declared.system.System.{System}
use Rattle.ffm_model.specs.Actors.{actor_count}
use Rattle.ffm_model.specs.Functions.{SfnPartition, SfnService}
use Rattle.ffm_model.specs.Held.{Holder, holder_of}
use Rattle.ffm_model.specs.Memory.{ByteMap, opening_memory}
use Rattle.ffm_model.specs.PartitionRam.{heap_of, ram_base, ram_size_of}
use Rattle.ffm_model.specs.Plans.{PlanRun}
use Rattle.ffm_model.specs.Records.{entries_of}
use Rattle.ffm_model.specs.Restarts.{FinishedRun, RunsFrom, ends_panicked, is_ended, memory_after, memory_reset}
use Rattle.ffm_model.specs.Schedule.{IsNext, Scheduled, Turns, enabled_in, turn_at}
use Rattle.ffm_model.specs.SfnRuns.{SfnRun, sfn_partition, sfn_service_at, sfn_services_from}
use Rattle.ffm_model.specs.Signals.{is_panicked}
use Rattle.ffm_model.specs.State.{State, opening, phase_of}
use Rattle.ffm_model.specs.Step.{after, step_on}
use Rattle.ffm_model.specs.WellFormed.{ram_size}
use Rattle.actor_programs.specs.declared.program.Program.{Program}
use Rattle.actor_programs.specs.declared.program.Program.TheVariants.{Plain, Functions}
use Rattle.law_calls.proofs.KeptPromises.{run_keeps}
use Rattle.partition_sim.specs.ActorPlans.{Role, plan_of_role, role_at, role_of_kind}
use Rattle.scenario_runs.proofs.Programs.{programs_keep}
use Rattle.scenario_runs.specs.Runs.{ProgramRun, RanBy}
use Rattle.law_scenarios.specs.Priorities.{DoFit, RunAlike, aside, with_partitions}
use Rattle.law_scenarios.proofs.Fields.{chosen-same, count-same, made-same}
use Rattle.law_scenarios.proofs.MachinePriorities.{actors-same, after-same, kind-same, names-same, on-same, opening-same, verdict-same}

module _ (s : System) (qs : List Partition) (fits : DoFit s qs) (same : aside qs ≡ aside s.partitions) where
  abbrev other : System
  other = with_partitions s qs fits

  -- ---- programs

  base-same : (a : ℕ) → ram_base other a ≡ ram_base s a
  base-same a = ap (λ (o : Option Region). option_map_or (λ r. r.base) o 0) (chosen-same s.partitions qs same (λ p. slice_get s.regions p.ram) (λ p. refl) a)

  holder-same : (a : ℕ) → holder_of other a ≡ holder_of s a
  holder-same a =
      let made : ℕ → ℕ → ℕ → Holder = λ base size heap. record { base = base; size = size; heap = heap; services = (holder_of s a).services } in
      ap (λ (n : ℕ). made n (ram_size_of other a) (heap_of other a)) (base-same a)
      ∙ ap₂ (λ (n k : ℕ). made (ram_base s a) n k) (made-same s.partitions qs same (ram_size s.regions) 0 (λ p. refl) a) (made-same s.partitions qs same (λ (p : Partition). p.heap) 0 (λ p. refl) a)

  role-same : (a : ℕ) → role_at other a ≡ role_at s a
  role-same a = ap₂ role_of_kind (kind-same s qs fits same a) (holder-same a)

  services-same : (a : ℕ) (functions : List SfnFunction) (bit n : ℕ) → sfn_services_from other a functions bit n ≡ sfn_services_from s a functions bit n
  unfolding sfn_services_from
  services-same a functions bit zero = refl
  services-same a functions bit (suc n) = ap (λ (vs : List SfnService). option_to_list (sfn_service_at s a functions bit) ++ vs) (services-same a functions (bit + 1) n)

  sfn-same : (a : ℕ) (functions : List SfnFunction) → sfn_partition other a functions ≡ sfn_partition s a functions
  unfolding sfn_partition
  sfn-same a functions = let made : ℕ → List SfnService → SfnPartition = λ base services. record { base = base; services = services } in ap₂ made (base-same a) (services-same a functions 4 28)

  program-alike : (a : ℕ) (p : Program) (es : List Entry) → ProgramRun s a p es → ProgramRun other a p es
  program-alike a (Plain parts) es h = subst (λ (role : Role). PlanRun (plan_of_role role parts) es) (sym (role-same a)) h
  program-alike a (Functions functions) es h = subst (λ (p : SfnPartition). SfnRun p es) (sym (sfn-same a functions)) h

  -- ---- turns

  turn-same : (schedule : List ActorId) (t : ℕ) → turn_at other schedule t ≡ turn_at s schedule t
  turn-same schedule t = ap (λ (n : ℕ). if nat_lt t (length schedule) then (get_or schedule t (record { 0 = 0 })).0 else (t - length schedule) % n) (actors-same s qs fits same)

  next-alike : (schedule : List ActorId) (st : Option State) (t u : ℕ) → IsNext s schedule st t u → IsNext other schedule st t u
  next-alike schedule st t u h = record {
    from = h.from;
    on = ap (enabled_in s st) (turn-same schedule u) ∙ h.on;
    passed = λ w from below. ap (enabled_in s st) (turn-same schedule w) ∙ h.passed w from below;
  }

  turns-alike : (schedule : List ActorId) (es : List Entry) (st : Option State) (t end : ℕ) → Turns s schedule st t es end → Turns other schedule st t es end
  turns-alike schedule [] st t end h = h
  turns-alike schedule (e ∷ es) st t end h =
      let u : ℕ = h.0 in
      let later : Turns other schedule (step_on s st e) (u + 1) es end = turns-alike schedule es (step_on s st e) (u + 1) end h.3 in
      (u, next-alike schedule st t u h.1, h.2 ∙ sym (turn-same schedule u), subst (λ (o : Option State). Turns other schedule o (u + 1) es end) (sym (on-same s qs fits same st e)) later)

  scheduled-alike : (m : ByteMap) (schedule : List ActorId) (es : List Entry) → Scheduled s m schedule es → Scheduled other m schedule es
  scheduled-alike m schedule es h =
      (h.0, subst (λ (st : State). Turns other schedule (Some st) 0 es h.0) (sym (opening-same s qs fits same m)) (turns-alike schedule es (Some (opening s m)) 0 h.0 h.1))

  -- ---- runs

  programmed-alike : (programs : List Program) (es : List Entry) → ((a : ℕ) → a < actor_count s → ProgramRun s a (get_or programs a (Plain [])) (entries_of a es))
      → (a : ℕ) → a < actor_count other → ProgramRun other a (get_or programs a (Plain [])) (entries_of a es)
  programmed-alike programs es h a inside = program-alike a (get_or programs a (Plain [])) (entries_of a es) (h a (subst (λ (n : ℕ). a < n) (actors-same s qs fits same) inside))

  ran-alike : (m : ByteMap) (c : Scenario) (programs : List Program) (threads : Bool) (es : List Entry) (v : Verdict) → RanBy s m c programs threads es v → RanBy other m c programs threads es v
  ran-alike m c programs threads es v h =
      let run : IsSome (after other m es) = subst IsSome (sym (after-same s qs fits same m es)) h.is_run in
      let programmed = programmed-alike programs es h.programmed in
      record {
        is_run = run;
        within = h.within;
        kept = run_keeps other m es run;
        verdict = verdict-same s qs fits same m c.limit es ∙ h.verdict;
        programmed = programmed;
        mapped = programs_keep other m programs es programmed;
        named = names-same s qs fits same m es ∙ h.named;
        scheduled = λ none. scheduled-alike m c.schedule es (h.scheduled none);
      }

  -- ---- restarts

  panicked-same : (m : ByteMap) (r : FinishedRun) → ends_panicked other m r ≡ ends_panicked s m r
  panicked-same m r =
      ap₂ (λ (n : ℕ) (o : Option State). is_ended r.verdict && option_map_or (λ st. list_any (λ p. is_panicked (phase_of st.spm p)) (range_with_len 0 n)) o false)
      (count-same s.partitions qs same) (after-same s qs fits same m r.entries)

  then-same : (m : ByteMap) (es : List Entry) → memory_after other m es ≡ memory_after s m es
  then-same m es = ap (λ (o : Option State). option_map_or (λ st. st.memory) o m) (after-same s qs fits same m es)

  module _ (c : Scenario) (programs : List Program) (threads : Bool) (first : ByteMap) where
    OfSystem : System → ByteMap → FinishedRun → Type 0
    OfSystem x m r = RanBy x m c programs threads r.entries r.verdict

    runs-alike : (m : ByteMap) (left : ℕ) (rs : List FinishedRun) → RunsFrom s (λ m r. RanBy s m c programs threads r.entries r.verdict) first m left rs
        → RunsFrom other (λ m r. RanBy other m c programs threads r.entries r.verdict) first m left rs
    runs-alike m left [] h = h
    runs-alike m left (r ∷ []) h = (ran-alike m c programs threads r.entries r.verdict h.0, ap (λ (b : Bool). nat_lt 0 left && b) (panicked-same m r) ∙ h.1)
    runs-alike m left (r ∷ q ∷ rs) h =
        let next : ByteMap = memory_reset s first (memory_after s m r.entries) in
        let rest : RunsFrom other (λ m r. RanBy other m c programs threads r.entries r.verdict) first next (left - 1) (q ∷ rs) = runs-alike next (left - 1) (q ∷ rs) h.2 in (
          ran-alike m c programs threads r.entries r.verdict h.0,
          ap (λ (b : Bool). nat_lt 0 left && b) (panicked-same m r) ∙ h.1,
          subst (λ (x : ByteMap). RunsFrom other (λ m r. RanBy other m c programs threads r.entries r.verdict) first (memory_reset s first x) (left - 1) (q ∷ rs)) (sym (then-same m r.entries)) rest,
        )

pub run_alike : (s : System) (partitions : List Partition) → RunAlike s partitions
run_alike s qs fits same c programs threads restarts rs h = runs-alike s qs fits same c programs threads (opening_memory c.memory) (opening_memory c.memory) restarts rs h
