-- Runs, one after the other: one more in front, other words for each of them, and whose events they have.
use Rattle.std.proofs.Common.{ℕ, suc, ◌≡◌, ◌≤◌, ◌-◌, ◌&&◌, Bool, true, false, List, [], ◌∷◌, ◌++◌, length, map, append_assoc, refl, ap, sym, subst, ◌∙◌, arith}
use Rattle.std.specs.Prelude.{Option, Some, Result, Ok, Err, IfOk, nat_lt, slice_get}
use Rattle.std.specs.List.{list_all}
use Rattle.std.specs.Option.{option_map_or}
use Rattle.std.proofs.lemmas.List.{map-append}
use Rattle.std.proofs.lemmas.Bool.{and_from, le-leb, lt-ltb}
use Rattle.ffm_model.specs.declared.machine.Entry.{Entry}
use Rattle.ffm_model.specs.declared.machine.Verdict.{Verdict}
use Rattle.ffm_model.specs.declared.scenario.Scenario.{Scenario}
use Rattle.ffm_model.specs.declared.system.System.{System}
use Rattle.ffm_model.specs.declared.trace.Trace.{Trace}
use Rattle.ffm_model.specs.Actors.{actor_count, counts_of}
use Rattle.ffm_model.specs.Memory.{ByteMap, opening_memory}
use Rattle.ffm_model.specs.Restarts.{FinishedRun, RunsFrom, ends_panicked, memory_after, memory_reset}
use Rattle.ffm_model.specs.Step.{Run}
use Rattle.ffm_model.specs.Verdicts.{verdict_of}
use Rattle.ffm_model.proofs.RunLemmas.{run_actor}
use Rattle.actor_programs.specs.declared.program.Program.{Program}
use Rattle.actor_programs.specs.declared.program.Program.TheVariants.{Plain}
use Rattle.actor_programs.specs.Programs.{Parts, ArePrograms, AreScriptsOf}
use Rattle.memory_image.specs.Pieces.{byte_at}
use Rattle.spm_core.specs.Manager.{Managed, Opening}
use Rattle.scenario_runs.specs.Policy.{runs_again}
use Rattle.scenario_runs.specs.declared.restarting.Runs.{Runs}
use Rattle.scenario_runs.specs.Restarting.{AreRuns, finished, fits_counts}
use Rattle.scenario_runs.specs.Runs.{RanBy}
use Rattle.scenario_runs.proofs.Programs.{ran_programs}
use Rattle.scenario_runs.proofs.Unmapped.{UnmappedRuns}

-- a run, and after it the runs from the next memory
pub runs_on : (s : System) (P : ByteMap → FinishedRun → Type 0) (first m next : ByteMap) (left : ℕ) (r : FinishedRun) (rs : List FinishedRun) → P m r → (nat_lt 0 left && ends_panicked s m r) ≡ true
    → next ≡ memory_reset s first (memory_after s m r.entries) → RunsFrom s P first next (left - 1) rs → RunsFrom s P first m left (r ∷ rs)
runs_on s P first m next left r [] ran more is rest = absurd rest
runs_on s P first m next left r (q ∷ rs) ran more is rest = (ran, more, subst (λ (x : ByteMap). RunsFrom s P first x (left - 1) (q ∷ rs)) is rest)

-- each run in other words
pub runs_as : (s : System) (P Q : ByteMap → FinishedRun → Type 0) (first : ByteMap) (rs : List FinishedRun) (m : ByteMap) (left : ℕ) → ((n : ByteMap) (r : FinishedRun) → P n r → Q n r) → RunsFrom s P first m left rs → RunsFrom s Q first m left rs
runs_as s P Q first [] m left each h = h
runs_as s P Q first (r ∷ []) m left each h = (each m r h.0, h.1)
runs_as s P Q first (r ∷ q ∷ rs) m left each h = (each m r h.0, h.1, runs_as s P Q first (q ∷ rs) (memory_reset s first (memory_after s m r.entries)) (left - 1) each h.2)

-- ---- runs of scripts so far, and what they leave to the others

-- a run of these scripts
abbrev pub RunOf : System → Scenario → List Parts → ByteMap → FinishedRun → Type 0
RunOf s c scripts n r = RanBy s n c (map Plain scripts) false r.entries r.verdict

-- whatever runs follow from the memory m, with so many restarts left, all together are the runs
abbrev pub LeadsOn : System → Scenario → List Parts → ByteMap → ByteMap → ℕ → List Trace → Type 0
LeadsOn s c scripts first m left so_far =
    (rs : List FinishedRun) → RunsFrom s (RunOf s c scripts) first m left rs → RunsFrom s (RunOf s c scripts) first first c.restarts (map finished so_far ++ rs)

joined : (so_far : List Trace) (t : Trace) (rs : List FinishedRun) → map finished (so_far ++ t ∷ []) ++ rs ≡ map finished so_far ++ finished t ∷ rs
joined so_far t rs = ap (λ (xs : List FinishedRun). xs ++ rs) (map-append finished so_far (t ∷ [])) ∙ append_assoc (map finished so_far) (finished t ∷ []) rs

-- before the first run
pub leads_first : (s : System) (c : Scenario) (scripts : List Parts) (first m : ByteMap) → m ≡ first → LeadsOn s c scripts first m c.restarts []
leads_first s c scripts first m same = λ rs h. subst (λ (x : ByteMap). RunsFrom s (RunOf s c scripts) first x c.restarts rs) same h

-- one run more, and another follows it
pub leads_on : (s : System) (c : Scenario) (scripts : List Parts) (first m next : ByteMap) (left : ℕ) (so_far : List Trace) (t : Trace) → LeadsOn s c scripts first m left so_far → RunOf s c scripts m (finished t)
    → (nat_lt 0 left && ends_panicked s m (finished t)) ≡ true → next ≡ memory_reset s first (memory_after s m t.entries) → LeadsOn s c scripts first next (left - 1) (so_far ++ t ∷ [])
leads_on s c scripts first m next left so_far t leads ran more is = λ rs h.
    subst (λ (xs : List FinishedRun). RunsFrom s (RunOf s c scripts) first first c.restarts xs) (sym (joined so_far t rs)) (leads (finished t ∷ rs) (runs_on s (RunOf s c scripts) first m next left (finished t) rs ran more is h))

-- one run more, which is the last
pub leads_to : (s : System) (c : Scenario) (scripts : List Parts) (first m : ByteMap) (left : ℕ) (so_far : List Trace) (t : Trace) → LeadsOn s c scripts first m left so_far → RunOf s c scripts m (finished t)
    → (nat_lt 0 left && ends_panicked s m (finished t)) ≡ false → RunsFrom s (RunOf s c scripts) first first c.restarts (map finished (so_far ++ t ∷ []))
leads_to s c scripts first m left so_far t leads ran last =
    subst (λ (xs : List FinishedRun). RunsFrom s (RunOf s c scripts) first first c.restarts xs) (sym (map-append finished so_far (t ∷ []))) (leads (finished t ∷ []) (ran, last))

-- when a manager's run is followed by another
pub again_is : (y : Managed) (o : Opening) (v : Verdict) → y.opening ≡ o → verdict_of o.system (byte_at o.memory) o.limit y.history ≡ Some v
    → runs_again y ≡ ends_panicked o.system (byte_at o.memory) (record { entries = y.history; verdict = v })
again_is y o v is ended =
    let due : Opening → Option Verdict → Bool = λ p w. option_map_or (λ u. ends_panicked p.system (byte_at p.memory) (record { entries = y.history; verdict = u })) w false in
    ap (λ (p : Opening). due p (verdict_of p.system (byte_at p.memory) p.limit y.history)) is ∙ ap (due o) ended

-- ---- whose events they have

all_of : {X : Type 0} (p : X → Bool) (xs : List X) → ((i : ℕ) (x : X) → slice_get xs i ≡ Some x → p x ≡ true) → list_all p xs ≡ true
all_of p [] h = refl
all_of p (x ∷ xs) h = rw (h 0 x refl, all_of p xs (λ i y at. h (suc i) y at)) refl

-- the trace of a run
pub run_fits : (s : System) (m : ByteMap) (t : Trace) → length t.entries ≤ 262144 → Run s m t.entries → fits_counts (counts_of s) t ≡ true
run_fits s m t few run =
    and_from _ _ (le-leb (length t.entries) 262144 few) (all_of _ t.entries (λ i e at. lt-ltb e.actor.0 _ (run_actor s m t.entries i e run at)))

-- the same of a run by a scenario's programs
pub trace_fits : (s : System) (m : ByteMap) (c : Scenario) (programs : List Program) (threads : Bool) (t : Trace) → c.limit ≤ 262144 → RanBy s m c programs threads t.entries t.verdict → fits_counts (counts_of s) t ≡ true
trace_fits s m c programs threads t few ran = run_fits s m t (omega (arith, ran.within, few)) ran.is_run

-- a trace alone
pub one_fits : (s : System) (m : ByteMap) (t : Trace) (ts : List Trace) → ts ≡ t ∷ [] → length t.entries ≤ 262144 → Run s m t.entries → list_all (fits_counts (counts_of s)) ts ≡ true
one_fits s m t ts same few run = rw same (and_from _ _ (run_fits s m t few run) refl)

-- few events
pub few_events : (s : System) (m : ByteMap) (c : Scenario) (programs : List Program) (threads : Bool) (es : List Entry) (v : Verdict) → c.limit ≤ 262144 → RanBy s m c programs threads es v → length es ≤ 262144
few_events s m c programs threads es v few ran = omega (arith, ran.within, few)

-- the traces of all runs
pub traces_fit : (s : System) (first : ByteMap) (c : Scenario) (programs : List Program) (threads : Bool) (ts : List Trace) (m : ByteMap) (left : ℕ) → c.limit ≤ 262144
    → RunsFrom s (λ n r. RanBy s n c programs threads r.entries r.verdict) first m left (map finished ts) → list_all (fits_counts (counts_of s)) ts ≡ true
traces_fit s first c programs threads [] m left few h = refl
traces_fit s first c programs threads (t ∷ []) m left few h = and_from _ _ (trace_fits s m c programs threads t few h.0) refl
traces_fit s first c programs threads (t ∷ u ∷ ts) m left few h =
    and_from _ _ (trace_fits s m c programs threads t few h.0) (traces_fit s first c programs threads (u ∷ ts) (memory_reset s first (memory_after s m t.entries)) (left - 1) few h.2)

-- ---- runs of scripts as runs of programs

pub runs_of_programs : (s : System) (c : Scenario) (programs : List Program) (scripts : List Parts) (threads : Bool) (restarts : ℕ) (rs : List FinishedRun) → UnmappedRuns → length programs ≡ actor_count s → ArePrograms s programs → AreScriptsOf s programs scripts
    → AreRuns s c (map Plain scripts) threads restarts rs → AreRuns s c programs threads restarts rs
runs_of_programs s c programs scripts threads restarts rs unmapped long fit are h =
    runs_as s (λ m r. RanBy s m c (map Plain scripts) threads r.entries r.verdict) (λ m r. RanBy s m c programs threads r.entries r.verdict) (opening_memory c.memory) rs (opening_memory c.memory) restarts (λ m r ran. ran_programs s m c programs scripts threads r.entries r.verdict unmapped long fit are ran) h

-- one run, where no restart is left
pub one_run : (s : System) (c : Scenario) (programs : List Program) (threads : Bool) (restarts : ℕ) (r : FinishedRun) → restarts ≡ 0 → RanBy s (opening_memory c.memory) c programs threads r.entries r.verdict → AreRuns s c programs threads restarts (r ∷ [])
one_run s c programs threads restarts r none ran = (ran, ap (λ (n : ℕ). nat_lt 0 n && ends_panicked s (opening_memory c.memory) r) none)

-- the same of what a call gives, where it gives runs
pub all_runs : {E : Type 0} (s : System) (c : Scenario) (programs : List Program) (scripts : List Parts) (threads : Bool) (restarts : ℕ) (r : Result Runs E) → UnmappedRuns → length programs ≡ actor_count s → ArePrograms s programs → AreScriptsOf s programs scripts
    → IfOk r (λ runs. AreRuns s c (map Plain scripts) threads restarts (map finished runs.traces.items)) → IfOk r (λ runs. AreRuns s c programs threads restarts (map finished runs.traces.items))
all_runs s c programs scripts threads restarts (Ok runs) unmapped long fit are h = runs_of_programs s c programs scripts threads restarts (map finished runs.traces.items) unmapped long fit are h
all_runs s c programs scripts threads restarts (Err e) unmapped long fit are h = tt
