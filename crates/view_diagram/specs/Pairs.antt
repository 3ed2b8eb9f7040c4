-- Which call an arrow answers, in plain words.
-- Source: FF-M 1.0: psa_connect, psa_call and psa_close block their caller until the message is answered, by psa_reply; that the panic of its service's partition answers it too is this profile's choice.
use Rattle.std.specs.Prelude.{ℕ, ℤ, ◌≡◌, ◌≤◌, ◌+◌, ◌==◌, Bool, false, count_by, List, [], ◌∷◌, ◌++◌, length, Option, Some, None}
use Rattle.std.specs.List.{AllByRecursion, Contains}
use Rattle.std.specs.Option.{option_map, option_map_or}
use Rattle.ffm_model.specs.declared.constants.TheConstants.{PSA_IPC_CONNECT, PSA_IPC_DISCONNECT}
use Rattle.ffm_model.specs.declared.system.System.{System}
use Rattle.ffm_model.specs.declared.machine.Entry.{Entry}
use Rattle.ffm_model.specs.declared.machine.Handle.{Handle}
use Rattle.ffm_model.specs.declared.machine.Status.{Status}
use Rattle.ffm_model.specs.declared.objects.PendingMessage.{PendingMessage}
use Rattle.ffm_model.specs.declared.machine.Call.{Call}
use Rattle.ffm_model.specs.declared.machine.Call.TheVariants as call
use Rattle.ffm_model.specs.declared.machine.Outcome.TheVariants as outcome
use Rattle.ffm_model.specs.declared.objects.ActorPhase.TheVariants as phase
use Rattle.ffm_model.specs.Actors.{owner_of, service_at}
use Rattle.ffm_model.specs.Memory.{ByteMap}
use Rattle.ffm_model.specs.Records.{entries_of}
use Rattle.ffm_model.specs.Signals.{is_blocked}
use Rattle.ffm_model.specs.State.{SpmState, State, connection_held, message_held, phase_of}
use Rattle.ffm_model.specs.Step.{after, step}
use Rattle.view_diagram.specs.declared.arrows.Meaning.{Meaning}
use Rattle.view_diagram.specs.declared.arrows.Meaning.TheVariants as meaning
use Rattle.view_diagram.specs.declared.gathering.Part.{Part}
use Rattle.view_diagram.specs.declared.gathering.PlacedArrow.{PlacedArrow}
use Rattle.view_diagram.specs.Arrows.{arrow, arrow_of, arrows_of, panicking, reply_arrow, service_of_handle}
use Rattle.view_diagram.specs.Gathering.{arrows_in}

-- ---- the call

-- an actor's call is for a message of a kind to a service
abbrev pub Asks : System → SpmState → ℕ → Call → ℕ → ℤ → Type 0
Asks s b a (call.Connect sid version) service kind = (service_at s sid ≡ Some service) × (kind ≡ PSA_IPC_CONNECT)
Asks s b a (call.Invoke h k in_vec in_len out_vec out_len) service kind = (service_of_handle s b a h ≡ Some service) × (kind ≡ k)
Asks s b a (call.Close h) service kind = (option_map (λ c. c.service) (connection_held b a h) ≡ Some service) × (kind ≡ PSA_IPC_DISCONNECT)
Asks s b a _ service kind = ⊥

-- the last entry of an actor is a call that is Blocked, for a message of a kind to a service; its place is counted from 1
pub record IsWaiting (s : System) (m : ByteMap) (es : List Entry) (place actor service : ℕ) (kind : ℤ) : Type 0 where
  pub before : List Entry
  pub call : Entry
  pub between : List Entry
  pub parts : es ≡ before ++ call ∷ between
  pub counted : place ≡ length before + 1
  pub state : State
  pub state_before : after s m before ≡ Some state
  pub own : call.actor.0 ≡ actor
  pub blocked : call.outcome ≡ outcome.Blocked
  pub asks : Asks s state.spm actor call.call service kind
  pub last : entries_of actor between ≡ []

-- ---- its answer

-- the service and the kind of the message that an arrow answers
abbrev pub answered_message : Meaning → Option (ℕ × ℤ)
answered_message (meaning.Reply service kind status) = Some (service, kind)
answered_message (meaning.Release service kind) = Some (service, kind)
answered_message _ = None

-- an arrow answers the call at a place: up to the arrow's entry the actor that it goes to waits in that call, which is for a message of the kind that the arrow answers, to its service;
-- the service is one of the partition that the arrow comes from; and the arrow of the call goes the other way, with that message
pub record IsPair (s : System) (m : ByteMap) (es : List Entry) (x : PlacedArrow) (place : ℕ) : Type 0 where
  pub earlier : List Entry
  pub answer : Entry
  pub later : List Entry
  pub parts : es ≡ earlier ++ answer ∷ later
  pub counted : x.place ≡ length earlier + 1
  pub service : ℕ
  pub kind : ℤ
  pub answers : answered_message x.arrow.meaning ≡ Some (service, kind)
  pub waits : IsWaiting s m earlier place x.arrow.to.0 service kind
  pub owner : owner_of s service ≡ Some x.arrow.from.0
  pub issues : arrow_of s waits.state.spm waits.call ≡ Some (arrow x.arrow.to.0 x.arrow.from.0 (meaning.Message service kind))

-- wherever an arrow is said to answer the call at a place, it does
abbrev pub AnswersPair : System → ByteMap → List Entry → List PlacedArrow → Type 0
AnswersPair s m es arrows = AllByRecursion (λ (x : PlacedArrow). (place : ℕ) → x.answers ≡ Some place → IsPair s m es x place) arrows

-- in each trace, of each part, as far as it is legal
abbrev pub EachAnswerPairs : Type 0
EachAnswerPairs = (s : System) (m : ByteMap) (limit : ℕ) (part : Part) (es : List Entry) → AnswersPair s m es (arrows_in s m limit part es)

-- an arrow answers the call at a place
abbrev pub answers_call_at : ℕ → PlacedArrow → Bool
answers_call_at place x = option_map_or (λ k. k == place) x.answers false

-- and no other does
abbrev pub EachIsAnsweredOnce : Type 0
EachIsAnsweredOnce = (s : System) (m : ByteMap) (limit : ℕ) (part : Part) (es : List Entry) (place : ℕ) → 1 ≤ place → count_by (answers_call_at place) (arrows_in s m limit part es) ≤ 1

-- ---- each call, each reply and each client that a panic frees has its arrow

-- the call of an entry is for a message to a service, and the entry has one arrow, from the client to the service's partition, with that message
pub record SendsMessage (s : System) (b : SpmState) (e : Entry) : Type 0 where
  pub service : ℕ
  pub kind : ℤ
  pub asks : Asks s b e.actor.0 e.call service kind
  pub partition : ℕ
  pub owner : owner_of s service ≡ Some partition
  pub sends : arrows_of s b e ≡ arrow e.actor.0 partition (meaning.Message service kind) ∷ []

-- in each step of a run after which the entry's actor is Blocked; psa_wait leaves its actor Waiting
abbrev pub EachCallHasArrow : Type 0
EachCallHasArrow = (s : System) (m : ByteMap) (es : List Entry) (st new : State) (e : Entry) → after s m es ≡ Some st → step s st e ≡ Some new → phase_of new.spm e.actor.0 ≡ phase.Blocked → SendsMessage s st.spm e

-- and a call for a message that answers Blocked leaves its actor Blocked
abbrev pub EachCallBlocks : Type 0
EachCallBlocks = (s : System) (m : ByteMap) (es : List Entry) (st new : State) (e : Entry) (service : ℕ) (kind : ℤ) → after s m es ≡ Some st → step s st e ≡ Some new → e.outcome ≡ outcome.Blocked → Asks s st.spm e.actor.0 e.call service kind
    → phase_of new.spm e.actor.0 ≡ phase.Blocked

-- a reply that is Done has its arrow first, from the partition to the client of the message that has the handle
abbrev pub EachReplyHasArrow : Type 0
EachReplyHasArrow = (s : System) (m : ByteMap) (es : List Entry) (st new : State) (e : Entry) (h : Handle) (status : Status) → after s m es ≡ Some st → step s st e ≡ Some new → e.call ≡ call.Reply h status → e.outcome ≡ outcome.Done
    → (message : PendingMessage) × ((message_held s st.spm e.actor.0 h ≡ Some message) × (arrow_of s st.spm e ≡ Some (reply_arrow e.actor.0 status.0 message)))

-- an actor waits in a call for a message of a kind to a service, and one of the entry's arrows goes to it from the partition and frees it of that message
pub record IsReleased (s : System) (m : ByteMap) (es : List Entry) (b : SpmState) (e : Entry) (partition actor : ℕ) : Type 0 where
  pub place : ℕ
  pub service : ℕ
  pub kind : ℤ
  pub waits : IsWaiting s m es place actor service kind
  pub released : Contains (arrows_of s b e) (arrow partition actor (meaning.Release service kind))

-- in each step of a run in which a partition panics, each other actor that is Blocked before it and not after it; a partition that panics for a reply is answered by that reply
abbrev pub EachFreedHasArrow : Type 0
EachFreedHasArrow = (s : System) (m : ByteMap) (es : List Entry) (st new : State) (e : Entry) (partition actor : ℕ) → after s m es ≡ Some st → step s st e ≡ Some new → panicking s st.spm e ≡ Some partition → (actor == partition) ≡ false
    → phase_of st.spm actor ≡ phase.Blocked → is_blocked (phase_of new.spm actor) ≡ false → IsReleased s m es st.spm e partition actor
