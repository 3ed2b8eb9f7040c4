-- A run is fixed by the order of its actors, and without threads by its scenario.
use Rattle.std.proofs.Common.{ℕ, ◌≡◌, ◌<◌, ◌≤◌, ◌+◌, ◌-◌, ◌==◌, ◌&&◌, Bool, true, false, true≢false, List, [], ◌∷◌, ◌++◌, ◌⊎◌, inl, inr, append-nil, length, length-append, get_or, arith, refl, ap, sym, subst, ◌∙◌}
use Rattle.std.specs.Prelude.{Option, Some, None, IsSome, fold, nat_lt, option_and_then, if◌then◌else◌}
use Rattle.std.proofs.lemmas.Bool.Decides.{nat_tests}
use Rattle.std.proofs.lemmas.List.{map-append}
use Rattle.std.proofs.lemmas.List.Sums.{fold-append}
use Rattle.ffm_model.proofs.RunLemmas.{none-stays}
use Rattle.ffm_model.specs.declared.system.System.{System}
use Rattle.ffm_model.specs.declared.machine.Entry.{Entry}
use Rattle.ffm_model.specs.declared.machine.Verdict.{Verdict}
use Rattle.ffm_model.specs.declared.machine.Verdict.TheVariants.{Quiet, Stalled, Full}
use Rattle.ffm_model.specs.declared.scenario.Scenario.{Scenario}
use Rattle.ffm_model.specs.Actors.{actor_count}
use Rattle.ffm_model.specs.Memory.{ByteMap, opening_memory}
use Rattle.ffm_model.specs.Restarts.{FinishedRun, RunsFrom, ends_panicked, memory_after, memory_reset}
use Rattle.ffm_model.specs.Schedule.{Scheduled}
use Rattle.ffm_model.specs.State.{State, opening}
use Rattle.ffm_model.specs.Step.{Run, after, step, step_on}
use Rattle.ffm_model.specs.Verdicts.{some_enabled, some_blocked, verdict_at, verdict_of}
use Rattle.actor_programs.specs.declared.program.Program.{Program}
use Rattle.actor_programs.specs.declared.program.Program.TheVariants.{Plain}
use Rattle.scenario_runs.specs.Runs.{ProgramRun, RanBy}
use Rattle.spm_core.proofs.Kept.{some-enabled}
use Rattle.law_scenarios.specs.Interleavings.{Front, Interleaving, actors_of}
use Rattle.law_scenarios.specs.SingleRun.{BeginWithTheirActors, FollowTheirActors, HasOneListOfRuns, HasOneRun}
use Rattle.law_scenarios.proofs.Fronts.{fronts}
use Rattle.law_scenarios.proofs.Orders.{Follows, follows-fixes, schedule-fixes}
use Rattle.law_scenarios.proofs.NextCalls.{program-fixes}
use Rattle.law_scenarios.proofs.SameEntry.{step-actor, step-enabled}

-- what the programs ask of each actor's entries
abbrev Programmed : System → List Program → ℕ → List Entry → Type 0
Programmed s programs a es = ProgramRun s a (get_or programs a (Plain [])) es

-- two runs in one order, of which one begins the other
in-one-order : (s : System) (m : ByteMap) (programs : List Program) (order : List ℕ) (es fs : List Entry) → Interleaving s m programs es → Interleaving s m programs fs → Follows order es → Follows order fs → Front es fs ⊎ Front fs es
in-one-order s m programs order es fs g h first second =
    fronts s m (Programmed s programs) (Follows order) (λ a. program-fixes s a (get_or programs a (Plain []))) (follows-fixes order) [] es fs
    (record { named = g.named; programmed = g.programmed; ordered = first }) (record { named = h.named; programmed = h.programmed; ordered = second })

actors-append : (es fs : List Entry) → length (actors_of (es ++ fs)) ≡ length (actors_of es) + length (actors_of fs)
actors-append es fs = ap (λ (xs : List ℕ). length xs) (map-append (λ (e : Entry). e.actor.0) es fs) ∙ length-append (actors_of es) (actors_of fs)

-- entries behind a front that has all actors already are none
no-rest : (es fs : List Entry) (more : List ℕ) → actors_of fs ≡ actors_of es ++ more → Front fs es → Front es fs
no-rest es fs more order ([], is) = ([], sym (is ∙ append-nil fs) ∙ sym (append-nil es))
no-rest es fs more order (x ∷ xs, is) =
    let longer : length (actors_of es) ≡ length (actors_of fs) + length (actors_of (x ∷ xs)) = ap (λ (ys : List Entry). length (actors_of ys)) is ∙ actors-append fs (x ∷ xs) in
    let shorter : length (actors_of fs) ≡ length (actors_of es) + length more = ap (λ (ys : List ℕ). length ys) order ∙ length-append (actors_of es) more in
    absurd (omega (arith, longer, shorter))

pub begin_with_their_actors : (s : System) (m : ByteMap) (programs : List Program) → BeginWithTheirActors s m programs
begin_with_their_actors s m programs es fs more g h order =
    let either : Front es fs ⊎ Front fs es → Front es fs = elim [ inl r ↦ r | inr r ↦ no-rest es fs more order r ] in
    either (in-one-order s m programs (actors_of fs) es fs g h (more, order) ([], sym (append-nil (actors_of fs))))

whole : (es fs : List Entry) → actors_of es ≡ actors_of fs → Front es fs → es ≡ fs
whole es fs order ([], is) = sym (is ∙ append-nil es)
whole es fs order (x ∷ xs, is) =
    let longer : length (actors_of fs) ≡ length (actors_of es) + length (actors_of (x ∷ xs)) = ap (λ (ys : List Entry). length (actors_of ys)) is ∙ actors-append es (x ∷ xs) in
    absurd (omega (arith, longer, ap (λ (ys : List ℕ). length ys) order))

pub follow_their_actors : (s : System) (m : ByteMap) (programs : List Program) → FollowTheirActors s m programs
follow_their_actors s m programs es fs g h order =
    whole es fs order (begin_with_their_actors s m programs es fs [] g h (sym order ∙ sym (append-nil (actors_of es))))

-- ---- after a verdict there is no entry

is-enabled : (s : System) (st : State) (e : Entry) (es : List Entry) → IsSome (fold (step_on s) (Some st) (e ∷ es)) → some_enabled s st.spm ≡ true
is-enabled s st e es h =
    let go : (o : Option State) → step s st e ≡ o → IsSome (fold (step_on s) o es) → some_enabled s st.spm ≡ true =
    elim [
      | None ↦ λ is q. absurd (true≢false (sym (subst IsSome (none-stays s es) q)))
      | Some new ↦ λ is q.
          let some : IsSome (step s st e) = rw is refl in
          let test : nat_lt e.actor.0 (actor_count s) ≡ true = step-actor s st e some in
          let within : e.actor.0 < actor_count s = grind (arith, nat_tests) in
          some-enabled s st.spm e.actor.0 within (step-enabled s st e some)
    ] in
    go (step s st e) refl h

is-full : (some full blocked : Bool) (v : Verdict) → (if some then (if full then Some Full else None) else (if blocked then Some Stalled else Some Quiet)) ≡ Some v → some ≡ true → full ≡ true
is-full true true blocked v h on = refl
is-full true false blocked v h on = cc
is-full false full blocked v h on = cc

ended-whole : (s : System) (m : ByteMap) (limit : ℕ) (es fs : List Entry) (v : Verdict) → verdict_of s m limit es ≡ Some v → Run s m fs → length fs ≤ limit → Front es fs → es ≡ fs
ended-whole s m limit es fs v verdict run within ([], is) = sym (is ∙ append-nil es)
ended-whole s m limit es fs v verdict run within (x ∷ xs, is) =
    let on : IsSome (fold (step_on s) (after s m es) (x ∷ xs)) =
    subst IsSome (fold-append (step_on s) (Some (opening s m)) es (x ∷ xs)) (subst (λ (ys : List Entry). Run s m ys) is run) in
    let long : length fs ≡ length es + length (x ∷ xs) = ap (λ (ys : List Entry). length ys) is ∙ length-append es (x ∷ xs) in
    let go : (o : Option State) → IsSome (fold (step_on s) o (x ∷ xs)) → option_and_then (λ st. verdict_at s limit (length es) st.spm) o ≡ Some v → es ≡ fs =
    elim [
      | None ↦ λ q e. cc
      | Some st ↦ λ q e.
          let full : (length es == limit) ≡ true = is-full (some_enabled s st.spm) (length es == limit) (some_blocked s st.spm) v e (is-enabled s st x xs q) in
          let exact : length es ≡ limit = grind arith in
          absurd (omega (arith, exact, long, within))
    ] in
    go (after s m es) on verdict

-- ---- one run

pub same-verdict : (o : Option Verdict) (v w : Verdict) → o ≡ Some v → o ≡ Some w → v ≡ w
same-verdict o v w p q = let both : Some v ≡ Some w = sym p ∙ q in cc

pub one_run : (s : System) (m : ByteMap) (c : Scenario) (programs : List Program) → HasOneRun s m c programs
one_run s m c programs es fs v w g h =
    let either : Front es fs ⊎ Front fs es → es ≡ fs = elim [
      | inl r ↦ ended-whole s m c.limit es fs v g.verdict h.is_run h.within r
      | inr r ↦ sym (ended-whole s m c.limit fs es w h.verdict g.is_run g.within r)
    ] in
    let same : es ≡ fs =
    either (fronts s m (Programmed s programs) (Scheduled s m c.schedule) (λ a. program-fixes s a (get_or programs a (Plain []))) (schedule-fixes s m c.schedule) [] es fs
    (record { named = g.named; programmed = g.programmed; ordered = g.scheduled refl }) (record { named = h.named; programmed = h.programmed; ordered = h.scheduled refl })) in
    (same, same-verdict (verdict_of s m c.limit fs) v w (ap (λ (xs : List Entry). verdict_of s m c.limit xs) (sym same) ∙ g.verdict) h.verdict)

-- ---- all runs

module _ (s : System) (IsRun : ByteMap → FinishedRun → Type 0) (first : ByteMap) (one : (m : ByteMap) (r q : FinishedRun) → IsRun m r → IsRun m q → r ≡ q) where
  same-runs : (m : ByteMap) (left : ℕ) (rs qs : List FinishedRun) → RunsFrom s IsRun first m left rs → RunsFrom s IsRun first m left qs → rs ≡ qs
  same-runs m left [] qs g h = absurd g
  same-runs m left (r ∷ []) [] g h = absurd h
  same-runs m left (r ∷ x ∷ rs) [] g h = absurd h
  same-runs m left (r ∷ []) (q ∷ []) g h = ap (λ (y : FinishedRun). y ∷ []) (one m r q g.0 h.0)
  same-runs m left (r ∷ []) (q ∷ y ∷ qs) g h =
      absurd (true≢false (sym h.1 ∙ ap (λ (z : FinishedRun). nat_lt 0 left && ends_panicked s m z) (sym (one m r q g.0 h.0)) ∙ g.1))
  same-runs m left (r ∷ x ∷ rs) (q ∷ []) g h =
      absurd (true≢false (sym g.1 ∙ ap (λ (z : FinishedRun). nat_lt 0 left && ends_panicked s m z) (one m r q g.0 h.0) ∙ h.1))
  same-runs m left (r ∷ x ∷ rs) (q ∷ y ∷ qs) g h =
      let same : r ≡ q = one m r q g.0 h.0 in
      let moved : RunsFrom s IsRun first (memory_reset s first (memory_after s m r.entries)) (left - 1) (y ∷ qs) =
      subst (λ (z : FinishedRun). RunsFrom s IsRun first (memory_reset s first (memory_after s m z.entries)) (left - 1) (y ∷ qs)) (sym same) h.2 in
      let rest : (x ∷ rs) ≡ (y ∷ qs) = same-runs (memory_reset s first (memory_after s m r.entries)) (left - 1) (x ∷ rs) (y ∷ qs) g.2 moved in
      ap (λ (z : FinishedRun). z ∷ x ∷ rs) same ∙ ap (λ (zs : List FinishedRun). q ∷ zs) rest

same-finished : (s : System) (c : Scenario) (programs : List Program) (m : ByteMap) (r q : FinishedRun) → RanBy s m c programs false r.entries r.verdict → RanBy s m c programs false q.entries q.verdict → r ≡ q
same-finished s c programs m r q g h =
    let both = one_run s m c programs r.entries q.entries r.verdict q.verdict g h in
    let made : List Entry → Verdict → FinishedRun = λ es v. record { entries = es; verdict = v } in
    ap (λ (es : List Entry). made es r.verdict) both.0 ∙ ap (λ (v : Verdict). made q.entries v) both.1

pub one_list_of_runs : (s : System) (c : Scenario) (programs : List Program) (restarts : ℕ) → HasOneListOfRuns s c programs restarts
one_list_of_runs s c programs restarts rs qs g h =
    same-runs s (λ m r. RanBy s m c programs false r.entries r.verdict) (opening_memory c.memory) (same-finished s c programs) (opening_memory c.memory) restarts rs qs g h
