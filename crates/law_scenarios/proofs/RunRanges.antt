-- Each entry of a run of programs fits, entry by entry.
use Rattle.std.proofs.Common.{ℕ, ◌≡◌, ◌<◌, ◌==◌, Bool, true, false, true≢false, ◌&&◌, not, List, [], ◌∷◌, ◌++◌, append_assoc, get_or, arith, refl, ap, sym, subst, ◌∙◌}
use Rattle.std.specs.Prelude.{pos, Option, Some, None, IsSome, fold, is_none, int_le, nat_lt, option_and_then, if◌then◌else◌}
use Rattle.std.specs.List.{AllByRecursion, list_any}
use Rattle.std.proofs.lemmas.Bool.{and_parts}
use Rattle.std.proofs.lemmas.Bool.Decides.{nat_tests}
use Rattle.law_lists.proofs.Lists.{AllByRecursion-push}
use Rattle.ffm_model.specs.declared.machine.Entry.{Entry}
use Rattle.ffm_model.specs.declared.machine.Handle.{Handle}
use Rattle.ffm_model.specs.declared.machine.Outcome.{Outcome}
use Rattle.ffm_model.specs.declared.system.ActorKind.{ActorKind}
use Rattle.ffm_model.specs.declared.system.ActorKind.TheVariants.{Partition, Client, Device}
use Rattle.ffm_model.specs.declared.script.Instruction.{Instruction}
use Rattle.ffm_model.specs.declared.system.System.{System}
use Rattle.ffm_model.specs.Actors.{actor_count, counts_of, kind_of}
use Rattle.ffm_model.specs.Calls.{call_case, effect_of, programmer_error}
use Rattle.ffm_model.specs.Held.{holder_of}
use Rattle.ffm_model.specs.Memory.{ByteMap}
use Rattle.ffm_model.specs.Plans.{Plan, RunFrom}
use Rattle.ffm_model.specs.Records.{entries_of}
use Rattle.ffm_model.specs.ScriptRuns.{only_part}
use Rattle.ffm_model.specs.SfnRuns.{sfn_partition, idle}
use Rattle.ffm_model.specs.Functions.{function_registers}
use Rattle.ffm_model.specs.State.{State, fresh, handle_eq, phase_of}
use Rattle.ffm_model.specs.Step.{after, gives_handle, handle_shown, step, step_on}
use Rattle.ffm_model.specs.TraceText.{CallFits, EntryFits, IsI32, OutcomeFits}
use Rattle.ffm_model.proofs.RunLemmas.{device-test, none-stays}
use Rattle.ffm_model.proofs.StepLemmas.{after-push}
use Rattle.law_counting.proofs.Steps.{Stepped, alike, new_handle, step-is}
use Rattle.actor_programs.specs.declared.program.Program.{Program}
use Rattle.actor_programs.specs.declared.program.Program.TheVariants.{Plain, Functions}
use Rattle.partition_sim.specs.ActorPlans.{plan_of_role, role_at, role_of_kind}
use Rattle.scenario_runs.specs.Runs.{ProgramRun}
use Rattle.law_scenarios.proofs.Fronts.{own-on}
use Rattle.law_scenarios.proofs.SameEntry.{outcome-same}
use Rattle.law_scenarios.specs.Ranges.{LineFits, PartsFit, ProgramFits, ProgramsFit, VersionsFit}
use Rattle.law_scenarios.proofs.MachineRanges.{EffectFits, GivesFit, SizesFit, StateFits, effect-fits}
use Rattle.law_scenarios.proofs.Mapping.{held-plan-fits}
use Rattle.law_scenarios.proofs.Numbers.{small-fits}
use Rattle.law_scenarios.proofs.Plans.{PlanFits, context-plan-fits}
use Rattle.law_scenarios.proofs.Rounds.{Answered, first-stage, round-calls}
use Rattle.law_scenarios.proofs.Systems.{holder-ends, partition-fits, run-sizes}

-- ---- an actor's next call

plan-calls : (plan : Plan) → PlanFits plan → (os : List Outcome) (xs us : List Entry) (e : Entry) → RunFrom plan os (xs ++ e ∷ us) → AllByRecursion OutcomeFits os → Answered xs → CallFits e.call
plan-calls plan fits os [] us e run told all = subst CallFits (sym run.0) (fits os told)
plan-calls plan fits os (x ∷ xs) us e run told all = plan-calls plan fits (os ++ x.outcome ∷ []) xs us e run.1 (AllByRecursion-push OutcomeFits os x.outcome told all.0) all.1

only-fits : (parts : List (List Instruction)) → PartsFit parts → AllByRecursion LineFits (only_part parts)
only-fits [] h = tt
only-fits (p ∷ ps) h = h.0

role-fits : (s : System) (a : ℕ) (parts : List (List Instruction)) (kind : ActorKind) → PartsFit parts → PlanFits (plan_of_role (role_of_kind kind (holder_of s a)) parts)
role-fits s a parts Partition h = held-plan-fits (holder_of s a) (only_part parts) (holder-ends s a) (only-fits parts h)
role-fits s a parts Client h = context-plan-fits parts h
role-fits s a parts Device h = context-plan-fits parts h

-- after entries that were answered with numbers that fit
program-calls : (s : System) (a : ℕ) (program : Program) → ProgramFits s a program → (xs us : List Entry) (e : Entry) → ProgramRun s a program (xs ++ e ∷ us) → Answered xs → CallFits e.call
program-calls s a (Plain parts) h xs us e run all = plan-calls (plan_of_role (role_at s a) parts) (role-fits s a parts (kind_of s a) h) [] xs us e run tt all
program-calls s a (Functions functions) h xs us e run all = round-calls (sfn_partition s a functions) (partition-fits s a functions h.0 h.1) (idle function_registers) xs us e first-stage run all

-- ---- one step

first-two : (x y z : Bool) → (x && y && z) ≡ true → (x && y) ≡ true
first-two true true z h = refl
first-two x y z h = cc

fresh-fits : (st : State) (k : Handle) → fresh st k ≡ true → IsI32 k.0
fresh-fits st k h = small-fits k.0 (first-two (int_le (pos 1) k.0) (int_le k.0 (pos 0x3fffffff)) (not (list_any (handle_eq k) st.handles_given)) h)

gives-fit : (s : System) (st new : State) (e : Entry) → Stepped s st new e → GivesFit s st e.actor.0 e.call (handle_shown e.outcome)
gives-fit s st new e it has gives made =
    let a : ℕ = e.actor.0 in
    let shown : Handle = handle_shown e.outcome in
    let legal : programmer_error s st a e.call ≡ false =
    ap (λ (b : Bool). is_none (if b then call_case s st a e.call (record { 0 = pos 0 }) else None)) has ∙ alike s st a e.call (record { 0 = pos 0 }) shown ∙ made in
    fresh-fits st shown (new_handle (programmer_error s st a e.call) (gives_handle (phase_of st.spm a) e.call) (fresh st shown) legal gives it.allowed)

step-fits : (s : System) (st new : State) (e : Entry) → VersionsFit s → CallFits e.call → SizesFit st.spm → StateFits st → step s st e ≡ Some new → OutcomeFits e.outcome × StateFits new
step-fits s st new e v call sizes f h =
    let it : Stepped s st new e = step-is s st new e h in
    let due : EffectFits (effect_of s st e.actor.0 e.call (handle_shown e.outcome)) = effect-fits s st e.actor.0 e.call (handle_shown e.outcome) v call (gives-fit s st new e it) sizes f in
    (subst OutcomeFits (outcome-same _ e.outcome it.outcome) due.0, subst StateFits it.state due.1)

-- ---- all entries

answered-own : (a : ℕ) (es : List Entry) → Answered es → Answered (entries_of a es)
answered-own a [] h = tt
answered-own a (e ∷ es) h =
    elim (e.actor.0 == a) as (λ (b : Bool). Answered (if b then e ∷ entries_of a es else entries_of a es)) [ true ↦ (h.0, answered-own a es h.1) | false ↦ answered-own a es h.1 ]

-- each actor's entries are a run of its program
abbrev pub Programmed : System → List Program → List Entry → Type 0
Programmed s programs es = (a : ℕ) → a < actor_count s → ProgramRun s a (get_or programs a (Plain [])) (entries_of a es)

-- the entries fit, and so do the states after them
pub record RunFits (s : System) (st : Option State) (es : List Entry) : Type 0 where
  pub entries : AllByRecursion (EntryFits (counts_of s)) es
  pub last : (end : State) → fold (step_on s) st es ≡ Some end → StateFits end

within : (s : System) (st new : State) (e : Entry) → Stepped s st new e → e.actor.0 < actor_count s
within s st new e it = let test : nat_lt e.actor.0 (actor_count s) ≡ true = (and_parts _ _ it.may).0 in grind (arith, nat_tests)

module _ (s : System) (m : ByteMap) (programs : List Program) (v : VersionsFit s) (fit : ProgramsFit s programs) where
  next-call : (done es : List Entry) (e : Entry) → e.actor.0 < actor_count s → Programmed s programs (done ++ e ∷ es) → Answered done → CallFits e.call
  next-call done es e inside programmed answered =
      let a : ℕ = e.actor.0 in
      program-calls s a (get_or programs a (Plain [])) (fit a inside) (entries_of a done) (entries_of a es) e
      (subst (λ (xs : List Entry). ProgramRun s a (get_or programs a (Plain [])) xs) (own-on a done e es refl) (programmed a inside)) (answered-own a done answered)

  pub entries-fit : (es done : List Entry) (st : State) → after s m done ≡ Some st → StateFits st → Answered done → Programmed s programs (done ++ es) → IsSome (fold (step_on s) (Some st) es) → RunFits s (Some st) es
  entries-fit [] done st at f answered programmed run = record { entries = tt; last = λ end e. (let same : st ≡ end = cc in subst StateFits same f) }
  entries-fit (e ∷ es) done st at f answered programmed run =
      let go : (o : Option State) → step s st e ≡ o → IsSome (fold (step_on s) o es) → RunFits s (Some st) (e ∷ es) = elim [
        | None ↦ λ is q. absurd (true≢false (sym (subst IsSome (none-stays s es) q)))
        | Some new ↦ λ is q.
            let it : Stepped s st new e = step-is s st new e is in
            let inside : e.actor.0 < actor_count s = within s st new e it in
            let call : CallFits e.call = next-call done es e inside programmed answered in
            let both : OutcomeFits e.outcome × StateFits new = step-fits s st new e v call (run-sizes s m done st at) f is in
            let later : after s m (done ++ e ∷ []) ≡ Some new = after-push s m done e ∙ ap (option_and_then (λ x. step s x e)) at ∙ is in
            let rest : RunFits s (Some new) es =
            entries-fit es (done ++ e ∷ []) new later both.1 (AllByRecursion-push (λ (x : Entry). OutcomeFits x.outcome) done e answered both.0)
            (subst (Programmed s programs) (sym (append_assoc done (e ∷ []) es)) programmed) q in
            record {
              entries = (record { actor = omega (arith, inside, device-test s.sources); call = call; outcome = both.0 }, rest.entries);
              last = λ end h. rest.last end (ap (λ (o : Option State). fold (step_on s) o es) (sym is) ∙ h);
            }
      ] in
      go (step s st e) refl run
