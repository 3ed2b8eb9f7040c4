-- Runs that are made of what computes.
use Rattle.std.proofs.Common.{ℕ, zero, suc, ◌≡◌, ◌<◌, true, false, true≢false, List, [], ◌∷◌, get_or, arith, refl, ap, sym, ◌∙◌}
use Rattle.std.specs.Prelude.{ℤ, pos, negsuc}
use Rattle.ffm_model.specs.declared.constants.TheConstants.{PSA_BLOCK}
use Rattle.ffm_model.specs.declared.machine.Entry.{Entry}
use Rattle.ffm_model.specs.declared.machine.Outcome.{Outcome}
use Rattle.ffm_model.specs.declared.machine.Outcome.TheVariants.{Got}
use Rattle.ffm_model.specs.declared.machine.Verdict.TheVariants.{Quiet}
use Rattle.ffm_model.specs.Contexts.{contexts_then, contexts_call, first_from, next_calls}
use Rattle.ffm_model.specs.Held.{changed_at, without}
use Rattle.ffm_model.specs.HeldPlans.{held_arrived, held_after, held_call, held_step, held_steps}
use Rattle.ffm_model.specs.Names.{names}
use Rattle.ffm_model.specs.Plans.{engine_after, plan_of}
use Rattle.ffm_model.specs.Records.{ends_blocked, entries_of}
use Rattle.ffm_model.specs.ScriptRuns.{arrived, call_at, local_step, local_steps}
use Rattle.ffm_model.specs.Step.{Run, step}
use Rattle.ffm_model.specs.Verdicts.{Legal, judged}
use Rattle.actor_programs.specs.declared.program.Program.{Program}
use Rattle.actor_programs.specs.declared.program.Program.TheVariants.{Plain}
use Rattle.law_examples.specs.Systems.{vault_system}
use Rattle.law_examples.specs.Writing.{zeros}
use Rattle.law_scenarios.specs.Ranges.{HasBytes, ProgramFits, ProgramsFit, VersionsFit}
use Rattle.scenario_runs.specs.Runs.{ProgramRun, RanBy}
use Rattle.law_scenarios.proofs.Ends.{end_as_runs}
use Rattle.law_examples.specs.Connecting.{client_first, other_handle, programs, scenario_with_turns, vault_first}
use Rattle.law_examples.specs.Ranges.{Misfits, loading_program, wide_call, wide_load, wide_memory, wide_program}
use Rattle.law_examples.specs.Wrong.{AreProgrammed, FollowWithoutNames, HasOneRunInAnyTurns, RunsWhereLegal}

-- a fact of each of two actors
both : (P : ℕ → Type 0) → P 0 → P 1 → (a : ℕ) → a < 2 → P a
both P first second zero below = first
both P first second (suc zero) below = second
both P first second (suc (suc a)) below = absurd (omega (arith, below))

-- the calls of a program's entries
abbrev Calls : List Program → List Entry → ℕ → Type 0
Calls programs es a = ProgramRun vault_system a (get_or programs a (Plain [])) (entries_of a es)

-- each holds by computing: the partition has five calls, and the client three
pub client_first_programmed : AreProgrammed vault_system programs client_first
unfolding step changed_at without held_step held_steps held_arrived held_call held_after engine_after plan_of ends_blocked first_from next_calls contexts_call contexts_then local_step local_steps arrived call_at
client_first_programmed = both (Calls programs client_first) (refl, (refl, (refl, (refl, (refl, tt))))) (refl, (refl, (refl, tt)))

pub other_handle_programmed : AreProgrammed vault_system programs other_handle
unfolding step changed_at without held_step held_steps held_arrived held_call held_after engine_after plan_of ends_blocked first_from next_calls contexts_call contexts_then local_step local_steps arrived call_at
other_handle_programmed = both (Calls programs other_handle) (refl, (refl, (refl, (refl, (refl, tt))))) (refl, (refl, (refl, tt)))

vault_first_programmed : AreProgrammed vault_system programs vault_first
unfolding step changed_at without held_step held_steps held_arrived held_call held_after engine_after plan_of ends_blocked first_from next_calls contexts_call contexts_then local_step local_steps arrived call_at
vault_first_programmed = both (Calls programs vault_first) (refl, (refl, (refl, (refl, (refl, tt))))) (refl, (refl, (refl, tt)))

pub client_first_run : RanBy vault_system zeros (scenario_with_turns client_first) programs true client_first Quiet
unfolding step
client_first_run = (end_as_runs vault_system zeros programs (scenario_with_turns client_first) client_first Quiet (record { is_run = refl; programmed = client_first_programmed; named = refl }) (omega arith) refl).0

pub client_first_scheduled : RanBy vault_system zeros (scenario_with_turns client_first) programs false client_first Quiet
unfolding step
client_first_scheduled = (end_as_runs vault_system zeros programs (scenario_with_turns client_first) client_first Quiet (record { is_run = refl; programmed = client_first_programmed; named = refl }) (omega arith) refl).1 refl

pub vault_first_run : RanBy vault_system zeros (scenario_with_turns client_first) programs true vault_first Quiet
unfolding step
vault_first_run = (end_as_runs vault_system zeros programs (scenario_with_turns client_first) vault_first Quiet (record { is_run = refl; programmed = vault_first_programmed; named = refl }) (omega arith) refl).0

pub other_handle_ran : Run vault_system zeros other_handle
unfolding step
other_handle_ran = refl

-- ---- numbers out of range

wide_call_programmed : AreProgrammed vault_system wide_program wide_call
unfolding step changed_at without held_step held_steps held_arrived held_call held_after engine_after plan_of ends_blocked first_from next_calls contexts_call contexts_then local_step local_steps arrived call_at
wide_call_programmed = both (Calls wide_program wide_call) (refl, tt) (refl, (refl, tt))

wide_load_programmed : AreProgrammed vault_system loading_program wide_load
unfolding step changed_at without held_step held_steps held_arrived held_call held_after engine_after plan_of ends_blocked first_from next_calls contexts_call contexts_then local_step local_steps arrived call_at
wide_load_programmed = both (Calls loading_program wide_load) (refl, tt) (refl, (refl, tt))

pub wide_call_run : RanBy vault_system zeros (scenario_with_turns wide_call) wide_program true wide_call Quiet
unfolding step
wide_call_run = (end_as_runs vault_system zeros wide_program (scenario_with_turns wide_call) wide_call Quiet (record { is_run = refl; programmed = wide_call_programmed; named = refl }) (omega arith) refl).0

pub wide_load_run : RanBy vault_system wide_memory (scenario_with_turns wide_load) loading_program true wide_load Quiet
unfolding step
wide_load_run = (end_as_runs vault_system wide_memory loading_program (scenario_with_turns wide_load) wide_load Quiet (record { is_run = refl; programmed = wide_load_programmed; named = refl }) (omega arith) refl).0

pub wide_call_misfits : Misfits vault_system wide_call
wide_call_misfits fits = omega (arith, fits.1.0.call.0)

pub wide_load_misfits : Misfits vault_system wide_load
wide_load_misfits fits = omega (arith, fits.1.0.outcome)

-- ---- and in range

pub versions : VersionsFit vault_system
versions = (omega arith, (omega arith, tt))

pub programs_in_range : ProgramsFit vault_system programs
programs_in_range =
    let z : 0 < 4294967296 = omega arith in
    let block : PSA_BLOCK < 4294967296 = omega arith in
    both (λ a. ProgramFits vault_system a (get_or programs a (Plain [])))
    (((omega arith, (block, (z, (z, (z, (z, tt)))))), ((omega arith, (omega arith, (z, (z, (z, (z, tt)))))), ((tt, (z, (z, (z, (z, (z, tt)))))), tt))), tt)
    (((omega arith, (omega arith, (z, (z, (z, (z, tt)))))), tt), tt)

-- ---- what differs

-- the actor of the first entry, and the handle that an entry gives for a message
abbrev first_actor : List Entry → ℕ
first_actor [] = 0
first_actor (e ∷ es) = e.actor.0

abbrev handle_got : Outcome → ℤ
handle_got (Got m) = m.handle.0
handle_got _ = pos 0

abbrev fourth_handle : List Entry → ℤ
fourth_handle (a ∷ b ∷ c ∷ e ∷ es) = handle_got e.outcome
fourth_handle _ = pos 0

abbrev number : ℤ → ℕ
number (pos n) = n
number (negsuc n) = 0

orders-differ : client_first ≡ vault_first → ⊥
orders-differ h = let same : ◌≡◌ {A = ℕ} 1 0 = ap first_actor h in omega (arith, same)

handles-differ : client_first ≡ other_handle → ⊥
handles-differ h = let same : ◌≡◌ {A = ℕ} 1536 2000 = ap (λ es. number (fourth_handle es)) h in omega (arith, same)

pub one_in_any_turns : HasOneRunInAnyTurns → ⊥
one_in_any_turns one = orders-differ (one vault_system zeros (scenario_with_turns client_first) programs client_first vault_first Quiet Quiet client_first_run vault_first_run)

pub follow_without_names : FollowWithoutNames → ⊥
follow_without_names follow = handles-differ (follow vault_system zeros programs client_first other_handle client_first_run.is_run client_first_programmed other_handle_ran other_handle_programmed refl)

pub client_first_named : names vault_system zeros client_first ≡ true
unfolding step
client_first_named = refl

pub zeros_are_bytes : HasBytes zeros
zeros_are_bytes x = omega arith

pub other_handle_legal : judged vault_system zeros 4096 other_handle Quiet ≡ Legal
unfolding step
other_handle_legal = refl

pub other_handle_unnamed : names vault_system zeros other_handle ≡ false
unfolding step
other_handle_unnamed = refl

pub run_where_legal : RunsWhereLegal → ⊥
run_where_legal runs =
    let ran : RanBy vault_system zeros (scenario_with_turns other_handle) programs true other_handle Quiet = runs vault_system zeros (scenario_with_turns other_handle) programs other_handle Quiet other_handle_legal other_handle_programmed in
    true≢false (sym ran.named ∙ other_handle_unnamed)
