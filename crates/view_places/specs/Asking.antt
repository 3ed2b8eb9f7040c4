-- What the machine answers to a call at a place of a trace.
-- Source: this simulator's; `after` and `step` of the model.
use Rattle.std.specs.Prelude.{ℕ, ◌≡◌, ◌<◌, ◌≤◌, Bool, List, [], map, length, take, Option, Some, None, IfSome, IsSomeAnd}
use Rattle.view_places.specs.Conditions.{SayWhen, conditions_of, told}
use Rattle.ffm_model.specs.declared.machine.Call.{Call}
use Rattle.ffm_model.specs.declared.machine.Call.TheVariants as call
use Rattle.ffm_model.specs.declared.machine.Entry.{Entry}
use Rattle.ffm_model.specs.declared.machine.Handle.{Handle}
use Rattle.ffm_model.specs.declared.system.System.{System}
use Rattle.ffm_model.specs.Actors.{actor_count}
use Rattle.ffm_model.specs.Calls.{programmer_error}
use Rattle.ffm_model.specs.Memory.{ByteMap}
use Rattle.ffm_model.specs.State.{State}
use Rattle.ffm_model.specs.Step.{after}
use Rattle.machine_calls.specs.Machine.{state_of}
use Rattle.machine_check.specs.declared.judging.Checker.{Checker}
use Rattle.machine_check.specs.Performed.{Knows}
use Rattle.view_places.specs.declared.asking.CallAfter.{CallAfter}
use Rattle.view_places.specs.declared.asking.PlaceAsked.{PlaceAsked}
use Rattle.view_places.specs.declared.asking.PlaceAsked.TheVariants as asked
use Rattle.view_places.specs.declared.asking.Reply.{Reply}
use Rattle.view_places.specs.declared.asking.Reply.TheVariants as reply
use Rattle.view_places.specs.declared.behind.Place.TheVariants as place
use Rattle.view_places.specs.Showing.{IsPlace}
use Rattle.view_places.specs.StateText.{phase_text}
use Rattle.view_places.specs.Why.{IsAnswer, IsRule, gives, is_refusal}

-- what is answered to an entry's call after n others that led to a state: the outcome with which it is a
-- step, of which the handle may be another fresh one where the call gives it; or the rule by which it
-- may not be made
abbrev pub IsReply : System → ℕ → ℕ → State → Entry → Reply → Type 0
IsReply s limit n st e (reply.Answer o gives_handle) = (n < limit) × (IsAnswer s st e o × (gives_handle ≡ gives s st e))
IsReply s limit n st e (reply.Refused r) = IsRule s limit n st e r

-- whether psa_call is a PROGRAMMER ERROR, where its answer shows that
abbrev pub error_shown : Call → Reply → Option Bool
error_shown (call.Invoke h kind in_vec in_len out_vec out_len) (reply.Answer o gives_handle) = Some (is_refusal o)
error_shown _ _ = None

-- what is told of an entry's call after n others that led to a state: what its actor does there, the
-- reply, the conditions under which it is a PROGRAMMER ERROR, which mean what they say, and whether it is one,
-- where the answer shows that
pub record Tells (s : System) (limit n : ℕ) (st : State) (e : Entry) (t : CallAfter) : Type 0 where
  pub doing : t.doing.items ≡ phase_text s st.spm e.actor.0
  pub reply : IsReply s limit n st e t.reply
  pub table : e.actor.0 < actor_count s → map told t.conditions.items ≡ conditions_of s st.spm e.actor.0 e.call
  pub none : actor_count s ≤ e.actor.0 → t.conditions.items ≡ []
  pub conditions : e.actor.0 < actor_count s → SayWhen s st e.actor.0 e.call (map told t.conditions.items)
  pub shown : t.is_refused ≡ error_shown e.call t.reply
  pub refused : IfSome t.is_refused (λ refused. refused ≡ programmer_error s st e.actor.0 e.call)

-- the same, after the entries that were followed
pub record TellsAfter (s : System) (limit : ℕ) (r : Checker) (all : ℕ) (e : Entry) (t : CallAfter) : Type 0 where
  pub count : t.count ≡ r.count
  pub total : t.total ≡ all
  pub entry : t.entry ≡ e
  pub tells : (handles : List Handle) → Knows r.given handles → Tells s limit r.count (state_of r.machine handles) e t

-- what is told of an entry's call after the first k entries of a trace
pub record IsCallAfter (s : System) (m : ByteMap) (limit : ℕ) (es : List Entry) (k : ℕ) (e : Entry) (t : CallAfter) : Type 0 where
  pub count : t.count ≡ k
  pub total : t.total ≡ length es
  pub entry : t.entry ≡ e
  pub there : k ≤ length es
  pub tells : IsSomeAnd (after s m (take k es)) (λ st. Tells s limit k st e t)

-- what is told of an entry's call after place k, or why there is no state there
abbrev pub IsAsked : System → ByteMap → ℕ → List Entry → ℕ → Entry → PlaceAsked → Type 0
IsAsked s m limit es k e (asked.Call t) = IsCallAfter s m limit es k e t
IsAsked s m limit es k e asked.Beyond = IsPlace s m limit es k place.Beyond
IsAsked s m limit es k e (asked.Illegal n) = IsPlace s m limit es k (place.Illegal n)
