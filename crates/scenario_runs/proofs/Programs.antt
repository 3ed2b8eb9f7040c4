-- Runs of scripts as runs of the programs that they stand for.
use Rattle.std.proofs.Common.{ℕ, zero, suc, ◌≡◌, ◌≢◌, ◌<◌, ◌≤◌, Bool, true, false, true≢false, List, [], ◌∷◌, length, map, get_or, refl, ap, sym, ◌∙◌, subst, arith}
use Rattle.std.specs.Prelude.{Result, Ok, Err, IfOk, Some, nat_lt, slice_get}
use Rattle.std.specs.Option.{option_map_or}
use Rattle.ffm_model.specs.declared.machine.Entry.{Entry}
use Rattle.ffm_model.specs.declared.machine.Verdict.{Verdict}
use Rattle.ffm_model.specs.declared.scenario.Bytes.{Bytes}
use Rattle.ffm_model.specs.declared.scenario.Scenario.{Scenario}
use Rattle.ffm_model.specs.declared.script.Instruction.{Instruction}
use Rattle.ffm_model.specs.declared.system.ActorKind.{ActorKind}
use Rattle.ffm_model.specs.declared.system.ActorKind.TheVariants as kind
use Rattle.ffm_model.specs.declared.system.System.{System}
use Rattle.ffm_model.specs.Actors.{actor_count, kind_of}
use Rattle.ffm_model.specs.Held.{holder_of}
use Rattle.ffm_model.specs.HeldPlans.{held_plan}
use Rattle.ffm_model.specs.Memory.{ByteMap}
use Rattle.ffm_model.specs.Names.{names}
use Rattle.ffm_model.specs.Plans.{PlanRun}
use Rattle.ffm_model.specs.SfnRuns.{sfn_partition}
use Rattle.ffm_model.specs.Records.{entries_of}
use Rattle.ffm_model.specs.Schedule.{Scheduled}
use Rattle.ffm_model.specs.ScriptRuns.{only_part}
use Rattle.ffm_model.specs.Step.{Run}
use Rattle.ffm_model.specs.Verdicts.{verdict_of}
use Rattle.memory_image.specs.Pieces.{byte_at}
use Rattle.spm_core.specs.Manager.{Managed, Opening}
use Rattle.law_calls.proofs.KeptPromises.{run_keeps}
use Rattle.law_programs.proofs.Events.{runs-keep-windows}
use Rattle.actor_programs.specs.declared.program.Program.{Program}
use Rattle.actor_programs.specs.declared.program.Program.TheVariants.{Plain, Functions}
use Rattle.actor_programs.specs.Programs.{Parts, ArePrograms, AreScriptsOf, IsProgramOf, script_of}
use Rattle.actor_programs.proofs.ActorLemmas.{most_of}
use Rattle.sfn_calls.specs.Loop.{expanded}
use Rattle.sfn_calls.specs.Partitions.{is_sfn}
use Rattle.partition_sim.specs.ActorPlans.{Role, plan_at, plan_of_role, role_at}
use Rattle.partition_sim.specs.ActorPlans.Role.{holds}
use Rattle.partition_sim.specs.Driving.{HaveContexts}
use Rattle.scenario_runs.proofs.Unmapped.{UnmappedRuns, expanded-maps-nothing}
use Rattle.law_programs.proofs.Answered.{loops-are-rounds}
use Rattle.scenario_runs.specs.declared.scheduled.Ran.{Ran}
use Rattle.scenario_runs.specs.Runs.{KeepsMapped, ProgramRun, RanBy}

-- the program at a place of scripts alone
plain_at : (scripts : List Parts) (a : ℕ) → get_or (map Plain scripts) a (Plain []) ≡ Plain (get_or scripts a [])
plain_at [] a = refl
plain_at (x ∷ xs) zero = refl
plain_at (x ∷ xs) (suc a) = plain_at xs a

-- entries that are a run of an actor's plan are a run of its script
plain_run : (s : System) (scripts : List Parts) (a : ℕ) (es : List Entry) → PlanRun (plan_at s scripts a) es → ProgramRun s a (get_or (map Plain scripts) a (Plain [])) es
plain_run s scripts a es h = subst (λ (p : Program). ProgramRun s a p es) (sym (plain_at scripts a)) h

-- an SFN partition is a partition
some-below : {X : Type 0} (f : X → Bool) (xs : List X) (a : ℕ) → option_map_or f (slice_get xs a) false ≡ true → a < length xs
some-below f [] a e = absurd (true≢false (sym e))
some-below f (x ∷ xs) zero e = omega arith
some-below f (x ∷ xs) (suc a) e = let h = some-below f xs a e in omega arith

partition-role : (s : System) (a : ℕ) → a < length s.partitions → role_at s a ≡ holds (holder_of s a)
partition-role s a lt =
    let below : nat_lt a (length s.partitions) ≡ true = grind arith in
    rw below refl

sfn-role : (s : System) (a : ℕ) → is_sfn s a ≡ true → role_at s a ≡ holds (holder_of s a)
sfn-role s a e = partition-role s a (some-below _ s.partitions a e)

-- entries that are a run of the script by which a program runs are a run of the program
program_run : (s : System) (m : ByteMap) (es : List Entry) (a : ℕ) (p : Program) → UnmappedRuns → Run s m es → IsProgramOf s a p → ProgramRun s a (Plain (script_of s a p)) (entries_of a es) → ProgramRun s a p (entries_of a es)
program_run s m es a (Plain parts) unmapped run fits h = h
program_run s m es a (Functions functions) unmapped run fits h =
    let loop : List Instruction = expanded (sfn_partition s a functions) in
    let held : PlanRun (held_plan (holder_of s a) loop) (entries_of a es) = subst (λ (r : Role). PlanRun (plan_of_role r (loop ∷ [])) (entries_of a es)) (sfn-role s a fits.0) h in
    (loops-are-rounds s m es a functions run fits.0 fits.1).0 ((unmapped (holder_of s a) loop (entries_of a es) (expanded-maps-nothing s a functions fits.1)).0 held)

-- what the entries of a partition's program keep of the vectors that it maps
program_keeps : (s : System) (m : ByteMap) (es : List Entry) (a : ℕ) (p : Program) → a < length s.partitions → ProgramRun s a p (entries_of a es) → KeepsMapped s m a p es
program_keeps s m es a (Plain parts) lt h =
    runs-keep-windows s m a (only_part parts) es lt (subst (λ (r : Role). PlanRun (plan_of_role r parts) (entries_of a es)) (partition-role s a lt) h)
program_keeps s m es a (Functions functions) lt h = tt

-- entries that are runs of all actors' programs keep it of each partition
pub programs_keep : (s : System) (m : ByteMap) (programs : List Program) (es : List Entry) → ((a : ℕ) → a < actor_count s → ProgramRun s a (get_or programs a (Plain [])) (entries_of a es))
    → (a : ℕ) → a < length s.partitions → KeepsMapped s m a (get_or programs a (Plain [])) es
programs_keep s m programs es each a lt = program_keeps s m es a (get_or programs a (Plain [])) lt (each a (omega arith))

abbrev pub opening_of : System → List Bytes → ℕ → Opening
opening_of s memory limit = record { system = s; memory = memory; limit = limit }

-- what a manager made whose scripts were run to the end, as the trace of a run of the scripts
pub ran_by_manager : (s : System) (memory : List Bytes) (c : Scenario) (scripts : List Parts) (threads : Bool) (y : Managed) (v : Verdict) → y.opening ≡ opening_of s memory c.limit → Run y.opening.system (byte_at y.opening.memory) y.history
    → length y.history ≤ y.opening.limit → names y.opening.system (byte_at y.opening.memory) y.history ≡ true → verdict_of y.opening.system (byte_at y.opening.memory) y.opening.limit y.history ≡ Some v
    → ((a : ℕ) → a < actor_count s → PlanRun (plan_at s scripts a) (entries_of a y.history)) → (threads ≡ false → Scheduled s (byte_at memory) c.schedule y.history) → RanBy s (byte_at memory) c (map Plain scripts) threads y.history v
ran_by_manager s memory c scripts threads y v opening run within named verdict planned scheduled =
    let es : List Entry = y.history in
    let is_run : Run s (byte_at memory) es = subst (λ (o : Opening). Run o.system (byte_at o.memory) es) opening run in
    let programmed : (a : ℕ) → a < actor_count s → ProgramRun s a (get_or (map Plain scripts) a (Plain [])) (entries_of a es) = λ a lt. plain_run s scripts a (entries_of a es) (planned a lt) in
    record {
      is_run = is_run;
      within = subst (λ (o : Opening). length es ≤ o.limit) opening within;
      kept = run_keeps s (byte_at memory) es is_run;
      verdict = subst (λ (o : Opening). verdict_of o.system (byte_at o.memory) o.limit es ≡ Some v) opening verdict;
      programmed = programmed;
      mapped = programs_keep s (byte_at memory) (map Plain scripts) es programmed;
      named = subst (λ (o : Opening). names o.system (byte_at o.memory) es ≡ true) opening named;
      scheduled = scheduled;
    }

-- a run of the scripts by which programs run is a run of the programs
pub ran_programs : (s : System) (m : ByteMap) (c : Scenario) (programs : List Program) (scripts : List Parts) (threads : Bool) (es : List Entry) (v : Verdict) → UnmappedRuns → length programs ≡ actor_count s → ArePrograms s programs → AreScriptsOf s programs scripts
    → RanBy s m c (map Plain scripts) threads es v → RanBy s m c programs threads es v
ran_programs s m c programs scripts threads es v unmapped long fit are ran =
    let programmed : (a : ℕ) → a < actor_count s → ProgramRun s a (get_or programs a (Plain [])) (entries_of a es) =
    λ a lt.
    let below : a < length programs = subst (λ (n : ℕ). a < n) (sym long) lt in
    program_run s m es a (get_or programs a (Plain [])) unmapped ran.is_run (fit.each a below)
    (subst (λ (x : Parts). ProgramRun s a (Plain x) (entries_of a es)) (are.each a below) (subst (λ (p : Program). ProgramRun s a p (entries_of a es)) (plain_at scripts a) (ran.programmed a lt))) in
    record {
      is_run = ran.is_run;
      within = ran.within;
      kept = ran.kept;
      verdict = ran.verdict;
      programmed = programmed;
      mapped = programs_keep s m programs es programmed;
      named = ran.named;
      scheduled = ran.scheduled;
    }

-- the same of what a call gives, where it gives a run
pub all_ran : {E : Type 0} (s : System) (m : ByteMap) (c : Scenario) (programs : List Program) (scripts : List Parts) (threads : Bool) (r : Result Ran E) → UnmappedRuns → length programs ≡ actor_count s → ArePrograms s programs → AreScriptsOf s programs scripts
    → IfOk r (λ ran. RanBy s m c (map Plain scripts) threads ran.spm.history ran.verdict) → IfOk r (λ ran. RanBy s m c programs threads ran.spm.history ran.verdict)
all_ran s m c programs scripts threads (Ok ran) unmapped long fit are h = ran_programs s m c programs scripts threads ran.spm.history ran.verdict unmapped long fit are h
all_ran s m c programs scripts threads (Err e) unmapped long fit are h = tt

-- an actor that is no client has one script
most-of : (k : ActorKind) → k ≢ kind.Client → most_of k ≡ 1
most-of kind.Partition other = refl
most-of kind.Client other = absurd (other refl)
most-of kind.Device other = refl

-- the script of each actor that is no client has one part
has-one : (s : System) (a : ℕ) (p : Program) → (kind_of s a ≢ kind.Client) → IsProgramOf s a p → length (script_of s a p) ≡ 1
has-one s a (Plain parts) other fits =
    let one : length parts ≤ 1 = subst (λ (n : ℕ). length parts ≤ n) (most-of (kind_of s a) other) fits.2 in
    omega (arith, fits.1)
has-one s a (Functions functions) other fits = refl

pub have_contexts : (s : System) (programs : List Program) (scripts : List Parts) → length programs ≡ actor_count s → ArePrograms s programs → AreScriptsOf s programs scripts → HaveContexts s scripts
have_contexts s programs scripts long fit are = λ a lt other.
    let below : a < length programs = subst (λ (n : ℕ). a < n) (sym long) lt in
    ap length (are.each a below) ∙ has-one s a (get_or programs a (Plain [])) other (fit.each a below)
