-- Where the manager answers psa_connect with CONNECTION_BUSY.
use Rattle.std.proofs.Common.{ℕ, ◌≡◌, ◌==◌, ◌&&◌, Bool, true, false, not, refl, ap, ◌∙◌, arith}
use Rattle.std.proofs.lemmas.Bool.Decides.{nat_tests}
use Rattle.std.specs.Prelude.{Option, Some, None, is_some, option_and_then, if◌then◌else◌}
use Rattle.std.specs.Option.{option_map, unwrap_or}
use Rattle.ffm_model.specs.declared.constants.TheConstants.{PSA_ERROR_CONNECTION_BUSY, PSA_ERROR_CONNECTION_REFUSED}
use Rattle.ffm_model.specs.declared.machine.Call.TheVariants as call
use Rattle.ffm_model.specs.declared.machine.Entry.{Entry}
use Rattle.ffm_model.specs.declared.machine.Outcome.{Outcome}
use Rattle.ffm_model.specs.declared.machine.Outcome.TheVariants as outcome
use Rattle.ffm_model.specs.declared.machine.Sid.{Sid}
use Rattle.ffm_model.specs.declared.system.ActorKind.{ActorKind}
use Rattle.ffm_model.specs.declared.system.ActorKind.TheVariants.{Partition, Client, Device}
use Rattle.ffm_model.specs.declared.system.System.{System}
use Rattle.ffm_model.specs.Actors.{budget_of, is_stateless, kind_of, permits, service_at}
use Rattle.ffm_model.specs.Calls.{effect_of, effect_or_error, has_call}
use Rattle.ffm_model.specs.ClientCalls.{Move, connect_issued, connect_to, in_state, is_service_panicked, move, psa_connect, takes_version}
use Rattle.ffm_model.specs.State.{SpmState, State, in_use}
use Rattle.ffm_model.specs.Step.{handle_shown, outcome_eq, step}
use Rattle.law_counting.proofs.Steps.{step-is}
use Rattle.law_calls.specs.Promises.{AllInUse}

abbrev tells_busy : Outcome → Bool
tells_busy o = outcome_eq o (outcome.Value PSA_ERROR_CONNECTION_BUSY)

-- as many connections as a permitted pair may have
all_declared : (s : System) (a i n : ℕ) (o : Option ℕ) → budget_of s a i ≡ o → is_some o ≡ true → (n == unwrap_or o 0) ≡ true → budget_of s a i ≡ Some n
all_declared s a i n None e there same = absurd (cc)
all_declared s a i n (Some k) e there same =
    let test : (n == k) ≡ true = same in
    let is : k ≡ n = grind (arith, nat_tests) in
    e ∙ ap (λ (x : ℕ). Some x) is

busy_in : (s : System) (b : SpmState) (a i : ℕ) (sid : Sid) → service_at s sid ≡ Some i → permits s a i ≡ true → (x y : Bool) → is_service_panicked s b i ≡ x → (in_use b a i == unwrap_or (budget_of s a i) 0) ≡ y
    → tells_busy (if x then move (outcome.Value PSA_ERROR_CONNECTION_REFUSED) b else (if y then move (outcome.Value PSA_ERROR_CONNECTION_BUSY) b else move outcome.Blocked (connect_issued b a i))).outcome ≡ true → AllInUse s b a sid
busy_in s b a i sid found may true y panicked full tells = absurd (cc)
busy_in s b a i sid found may false false panicked full tells = absurd (cc)
busy_in s b a i sid found may false true panicked full tells = record {
  service = i;
  found = found;
  declared = all_declared s a i (in_use b a i) (budget_of s a i) refl may full;
  alive = panicked;
}

busy_at : (s : System) (b : SpmState) (a i : ℕ) (sid : Sid) → service_at s sid ≡ Some i → (p t : Bool) → permits s a i ≡ p → (m : Move) → (if p && t then Some (connect_to s b a i) else None) ≡ Some m → tells_busy m.outcome ≡ true → AllInUse s b a sid
busy_at s b a i sid found false t may m it tells = absurd (cc)
busy_at s b a i sid found true false may m it tells = absurd (cc)
busy_at s b a i sid found true true may m it tells =
    let is : connect_to s b a i ≡ m = cc in
    busy_in s b a i sid found may (is_service_panicked s b i) (in_use b a i == unwrap_or (budget_of s a i) 0) refl refl (ap (λ (x : Move). tells_busy x.outcome) is ∙ tells)

busy_of : (s : System) (b : SpmState) (a : ℕ) (sid : Sid) (asked : ℕ) (o : Option ℕ) → service_at s sid ≡ o → (m : Move)
    → option_and_then (λ i. if permits s a i && (not (is_stateless s i) && takes_version s i asked) then Some (connect_to s b a i) else None) o ≡ Some m → tells_busy m.outcome ≡ true → AllInUse s b a sid
busy_of s b a sid asked None found m it tells = absurd (cc)
busy_of s b a sid asked (Some i) found m it tells = busy_at s b a i sid found (permits s a i) (not (is_stateless s i) && takes_version s i asked) refl m it tells

-- a PROGRAMMER ERROR is answered otherwise
busy_effect : (s : System) (st : State) (a : ℕ) (sid : Sid) (asked : ℕ) (k : ActorKind) (has : Bool) (o : Option Move) → ((m : Move) → o ≡ Some m → tells_busy m.outcome ≡ true → AllInUse s st.spm a sid)
    → tells_busy (effect_or_error (if has then option_map (in_state st) o else None) k s st a (call.Connect sid asked)).outcome ≡ true → AllInUse s st.spm a sid
busy_effect s st a sid asked k true (Some m) each tells = each m refl tells
busy_effect s st a sid asked Partition true None each tells = absurd (cc)
busy_effect s st a sid asked Client true None each tells = absurd (cc)
busy_effect s st a sid asked Device true None each tells = absurd (cc)
busy_effect s st a sid asked Partition false o each tells = absurd (cc)
busy_effect s st a sid asked Client false o each tells = absurd (cc)
busy_effect s st a sid asked Device false o each tells = absurd (cc)

busy_call : (s : System) (st : State) (a : ℕ) (sid : Sid) (asked : ℕ) → tells_busy (effect_of s st a (call.Connect sid asked) (handle_shown (outcome.Value PSA_ERROR_CONNECTION_BUSY))).outcome ≡ true → AllInUse s st.spm a sid
busy_call s st a sid asked tells =
    busy_effect s st a sid asked (kind_of s a) (has_call (kind_of s a) (call.Connect sid asked)) (psa_connect s st.spm a sid asked)
    (λ m it says. busy_of s st.spm a sid asked (service_at s sid) refl m it says) tells

-- CONNECTION_BUSY as the outcome of a step
pub step-busy : (s : System) (st new : State) (e : Entry) (sid : Sid) (asked : ℕ) → step s st e ≡ Some new → e.call ≡ call.Connect sid asked → e.outcome ≡ outcome.Value PSA_ERROR_CONNECTION_BUSY → AllInUse s st.spm e.actor.0 sid
step-busy s st new e sid asked h calls answers = busy_call s st e.actor.0 sid asked (rw (calls, answers) at (step-is s st new e h).outcome)
