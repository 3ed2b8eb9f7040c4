-- Whether psa_call is a PROGRAMMER ERROR, by the answer that is due.
use Rattle.std.proofs.Common.{ℕ, ℤ, pos, ◌≡◌, Bool, true, false, refl, ap, ◌∙◌}
use Rattle.std.specs.Prelude.{Option, Some, None, IfSome, is_none, int_lt, ◌&&◌, ◌||◌, not, if◌then◌else◌}
use Rattle.std.specs.Option.{option_map, option_map_or}
use Rattle.ffm_model.specs.declared.system.System.{System}
use Rattle.ffm_model.specs.declared.system.ActorKind.{ActorKind}
use Rattle.ffm_model.specs.declared.system.ActorKind.TheVariants.{Partition, Client, Device}
use Rattle.ffm_model.specs.declared.machine.Call.{Call}
use Rattle.ffm_model.specs.declared.machine.Call.TheVariants as call
use Rattle.ffm_model.specs.declared.machine.Entry.{Entry}
use Rattle.ffm_model.specs.declared.machine.Handle.{Handle}
use Rattle.ffm_model.specs.declared.machine.Outcome.{Outcome}
use Rattle.ffm_model.specs.declared.objects.OpenConnection.{OpenConnection}
use Rattle.ffm_model.specs.declared.objects.Vectors.{Vectors}
use Rattle.ffm_model.specs.Actors.{kind_of, permits, stateless_at, stateless_index}
use Rattle.ffm_model.specs.Calls.{effect_of, effect_or_error, has_call, programmer_error}
use Rattle.ffm_model.specs.ClientCalls.{Move, call_on, call_to, connection_called, in_state, is_service_panicked, psa_call, refuses_requests, service_called}
use Rattle.ffm_model.specs.Memory.{vectors_of}
use Rattle.ffm_model.specs.Panic.{is_dead}
use Rattle.ffm_model.specs.State.{SpmState, State, connection_held}
use Rattle.ffm_model.specs.Step.{handle_shown}
use Rattle.law_lists.proofs.Options.{each_made}
use Rattle.law_lists.proofs.Bools.{if_fails}
use Rattle.view_places.specs.Why.{IsRule, IsStepWith, is_refusal, refusal_shown}
use Rattle.view_places.specs.declared.reasons.Rule.{Rule}
use Rattle.view_places.specs.declared.reasons.Rule.TheVariants as rule
use Rattle.view_places.proofs.Answers.{fits_from}

either : (p : Bool) (x y : Move) → is_refusal x.outcome ≡ false → is_refusal y.outcome ≡ false → is_refusal (if p then x else y).outcome ≡ false
either true x y h k = h
either false x y h k = k

request_answer : (s : System) (b : SpmState) (a service : ℕ) (kind : ℤ) (v : Vectors) → is_refusal (call_to s b a service kind v).outcome ≡ false
request_answer s b a service kind v = either (is_service_panicked s b service) _ _ refl refl

connection_answer : (b : SpmState) (a : ℕ) (c : OpenConnection) (kind : ℤ) (v : Vectors) → is_refusal (call_on b a c kind v).outcome ≡ false
connection_answer b a c kind v = either (is_dead c.phase) _ _ refl refl

-- what comes of psa_call, where it isn't refused, is no refusal
abbrev IsNone : Option Move → Type 0
IsNone x = IfSome x (λ m. is_refusal m.outcome ≡ false)

where_true : (p : Bool) (x : Move) → is_refusal x.outcome ≡ false → IsNone (if p then Some x else None)
where_true true x h = h
where_true false x h = tt

by_index : (s : System) (st : State) (a : ℕ) (h : Handle) (kind : ℤ) (in_vec in_len out_vec out_len : ℕ) (index : Option ℕ)
    → IsNone (option_map_or (λ i. service_called s st a i kind in_vec in_len out_vec out_len) index (connection_called s st a h kind in_vec in_len out_vec out_len))
by_index s st a h kind in_vec in_len out_vec out_len (Some i) =
    each_made (λ m. is_refusal m.outcome ≡ false) _ (stateless_at s i) (λ service found. each_made (λ m. is_refusal m.outcome ≡ false) _ (vectors_of s st.memory a in_vec in_len out_vec out_len) (λ v given.
    where_true (permits s a service && not (int_lt kind (pos 0))) (call_to s st.spm a service kind v) (request_answer s st.spm a service kind v)))
by_index s st a h kind in_vec in_len out_vec out_len None =
    each_made (λ m. is_refusal m.outcome ≡ false) _ (connection_held st.spm a h) (λ c held. each_made (λ m. is_refusal m.outcome ≡ false) _ (vectors_of s st.memory a in_vec in_len out_vec out_len) (λ v given.
    if_fails (λ m. is_refusal m.outcome ≡ false) (refuses_requests c.phase || int_lt kind (pos 0)) (call_on st.spm a c kind v) (λ may. connection_answer st.spm a c kind v)))

-- the answer is a refusal exactly where the call is one
exactly : (s : System) (st : State) (a : ℕ) (h : Handle) (kind : ℤ) (in_vec in_len out_vec out_len : ℕ) (k : ActorKind) (x : Option Move) → IsNone x
    → is_refusal (effect_or_error (if has_call k (call.Invoke h kind in_vec in_len out_vec out_len) then option_map (in_state st) x else None) k s st a (call.Invoke h kind in_vec in_len out_vec out_len)).outcome
    ≡ is_none (if has_call k (call.Invoke h kind in_vec in_len out_vec out_len) then option_map (in_state st) x else None)
exactly s st a h kind in_vec in_len out_vec out_len Partition None none = refl
exactly s st a h kind in_vec in_len out_vec out_len Partition (Some m) none = none
exactly s st a h kind in_vec in_len out_vec out_len Client None none = refl
exactly s st a h kind in_vec in_len out_vec out_len Client (Some m) none = none
exactly s st a h kind in_vec in_len out_vec out_len Device x none = refl

-- the answer with which psa_call is a step is a refusal exactly where the call is one
pub refusal_by : (s : System) (st : State) (e : Entry) (h : Handle) (kind : ℤ) (in_vec in_len out_vec out_len : ℕ) (answer : Outcome) → e.call ≡ call.Invoke h kind in_vec in_len out_vec out_len → IsStepWith s st e answer
    → is_refusal answer ≡ programmer_error s st e.actor.0 (call.Invoke h kind in_vec in_len out_vec out_len)
refusal_by s st e h kind in_vec in_len out_vec out_len answer same is_step =
    let fit = fits_from s st (record { actor = record { 0 = e.actor.0 }; call = e.call; outcome = answer }) is_step in
    ap is_refusal fit.outcome ∙ ap (λ c. is_refusal (effect_of s st e.actor.0 c (handle_shown answer)).outcome) same
    ∙ exactly s st e.actor.0 h kind in_vec in_len out_vec out_len (kind_of s e.actor.0) (psa_call s st e.actor.0 h kind in_vec in_len out_vec out_len) (by_index s st e.actor.0 h kind in_vec in_len out_vec out_len (stateless_index h))

shown_by : (s : System) (limit n : ℕ) (st : State) (e : Entry) (c : Call) (r : Rule) → e.call ≡ c → IsRule s limit n st e r → IfSome (refusal_shown c r) (λ refused. refused ≡ programmer_error s st e.actor.0 c)
shown_by s limit n st e (call.Invoke h kind in_vec in_len out_vec out_len) (rule.OtherAnswer answer) same breaks =
    refusal_by s st e h kind in_vec in_len out_vec out_len answer same breaks.1.1.0.is_answer.is_step
shown_by s limit n st e c r same breaks = tt

pub refusal_told : (s : System) (limit n : ℕ) (st : State) (e : Entry) (r : Rule) → IsRule s limit n st e r → IfSome (refusal_shown e.call r) (λ refused. refused ≡ programmer_error s st e.actor.0 e.call)
refusal_told s limit n st e r breaks = shown_by s limit n st e e.call r refl breaks
