-- The arrows that answer a call go with the calls that their clients wait in.
use Rattle.std.proofs.Common.{ℕ, ◌≡◌, ◌+◌, ◌==◌, Bool, true, false, ◌&&◌, List, [], ◌∷◌, ◌++◌, length, get_or, ◌∙◌, ap, sym, refl, subst}
use Rattle.std.specs.Prelude.{ℤ, nat_le, Option, Some, None, option_and_then, if◌then◌else◌, map, slice_get, slice_set}
use Rattle.std.specs.List.{AllByRecursion}
use Rattle.std.specs.Option.{option_map, option_map_or}
use Rattle.std.proofs.lemmas.Bool.{and_parts, eqb-true}
use Rattle.std.proofs.lemmas.List.{append_assoc, length-append}
use Rattle.law_lists.proofs.Tests.{find-passes}
use Rattle.ffm_model.specs.declared.constants.TheConstants.{PSA_IPC_CONNECT, PSA_IPC_DISCONNECT}
use Rattle.ffm_model.specs.declared.system.Service.{Service}
use Rattle.ffm_model.specs.declared.system.Source.{Source}
use Rattle.ffm_model.specs.declared.system.System.{System}
use Rattle.ffm_model.specs.declared.machine.Handle.{Handle}
use Rattle.ffm_model.specs.declared.machine.Entry.{Entry}
use Rattle.ffm_model.specs.declared.machine.Call.{Call}
use Rattle.ffm_model.specs.declared.machine.Call.TheVariants as call
use Rattle.ffm_model.specs.declared.machine.Outcome.{Outcome}
use Rattle.ffm_model.specs.declared.machine.Outcome.TheVariants as outcome
use Rattle.ffm_model.specs.declared.objects.OpenConnection.{OpenConnection}
use Rattle.ffm_model.specs.declared.objects.PendingMessage.{PendingMessage}
use Rattle.ffm_model.specs.declared.objects.ActorPhase.{ActorPhase}
use Rattle.ffm_model.specs.declared.objects.ActorPhase.TheVariants.{Blocked}
use Rattle.ffm_model.specs.Actors.{is_service_of, owner_of, service_at}
use Rattle.ffm_model.specs.Memory.{ByteMap}
use Rattle.ffm_model.specs.Signals.{is_blocked}
use Rattle.ffm_model.specs.State.{SpmState, State, connection_held, has_handle, message_held, opening, phase_of}
use Rattle.ffm_model.specs.Step.{step}
use Rattle.view_diagram.specs.declared.arrows.Arrow.{Arrow}
use Rattle.view_diagram.specs.declared.arrows.Meaning.{Meaning}
use Rattle.view_diagram.specs.declared.arrows.Meaning.TheVariants as meaning
use Rattle.view_diagram.specs.declared.gathering.Part.{Part}
use Rattle.view_diagram.specs.declared.gathering.PlacedArrow.{PlacedArrow}
use Rattle.view_diagram.specs.Arrows.{arrow, arrow_of, arrow_of_call, arrows_of, is_return, issued, message_arrow, panic_arrows, panicking, release_arrow, reply_arrow, sent, service_of_handle}
use Rattle.view_diagram.specs.Gathering.{arrows_at, arrows_from, is_in_part, placed}
use Rattle.view_diagram.specs.Pairs.{AnswersPair, Asks, answered_message, EachAnswerPairs, IsPair, IsWaiting}
use Rattle.view_diagram.proofs.Everywhere.{each-filter_map, each-found, each-map, each-option}
use Rattle.view_diagram.proofs.Waiting.{Each, Kept, WaitsAt, opening-kept, step-kept}
use Rattle.law_lists.proofs.Lists.{AllByRecursion-append}

-- ---- the arrow of a call

-- a call for a message is no return
pub asks-call : (s : System) (b : SpmState) (a : ℕ) (d : Call) (service : ℕ) (kind : ℤ) → Asks s b a d service kind → is_return d ≡ false
asks-call s b a (call.Connect sid version) service kind asks = refl
asks-call s b a (call.Invoke h k iv il ov ol) service kind asks = refl
asks-call s b a (call.Close h) service kind asks = refl
asks-call s b a d service kind asks = absurd asks

closes-arrow : (s : System) (a service from : ℕ) (o : Option OpenConnection) → option_map (λ (c : OpenConnection). c.service) o ≡ Some service → owner_of s service ≡ Some from
    → option_and_then (λ (c : OpenConnection). message_arrow s a PSA_IPC_DISCONNECT c.service) o ≡ Some (arrow a from (meaning.Message service PSA_IPC_DISCONNECT))
closes-arrow s a service from None e owner = cc
closes-arrow s a service from (Some c) e owner =
    let same : c.service ≡ service = cc in
    ap (message_arrow s a PSA_IPC_DISCONNECT) same ∙ ap (option_map (λ p. arrow a p (meaning.Message service PSA_IPC_DISCONNECT))) owner

asks-issued : (s : System) (b : SpmState) (a : ℕ) (d : Call) (service : ℕ) (kind : ℤ) (from : ℕ) → Asks s b a d service kind → owner_of s service ≡ Some from → issued s b a d ≡ Some (arrow a from (meaning.Message service kind))
asks-issued s b a (call.Connect sid version) service kind from asks owner =
    ap (option_and_then (message_arrow s a PSA_IPC_CONNECT)) asks.0 ∙ ap (option_map (λ p. arrow a p (meaning.Message service PSA_IPC_CONNECT))) owner ∙ ap (λ (z : ℤ). Some (arrow a from (meaning.Message service z))) (sym asks.1)
asks-issued s b a (call.Invoke h k iv il ov ol) service kind from asks owner =
    ap (option_and_then (message_arrow s a k)) asks.0 ∙ ap (option_map (λ p. arrow a p (meaning.Message service k))) owner ∙ ap (λ (z : ℤ). Some (arrow a from (meaning.Message service z))) (sym asks.1)
asks-issued s b a (call.Close h) service kind from asks owner =
    closes-arrow s a service from (connection_held b a h) asks.0 owner ∙ ap (λ (z : ℤ). Some (arrow a from (meaning.Message service z))) (sym asks.1)
asks-issued s b a d service kind from asks owner = absurd asks

-- a call that is Blocked has the arrow of the message that it is for
pub asks-arrow : (s : System) (b : SpmState) (e : Entry) (service : ℕ) (kind : ℤ) (from : ℕ) → Asks s b e.actor.0 e.call service kind → e.outcome ≡ outcome.Blocked → owner_of s service ≡ Some from
    → arrow_of s b e ≡ Some (arrow e.actor.0 from (meaning.Message service kind))
asks-arrow s b e service kind from asks blocked owner =
    ap (λ (x : Bool). if x then Some (arrow e.actor.0 e.actor.0 (meaning.Wake e.outcome)) else arrow_of_call s b e.actor.0 e.call e.outcome) (asks-call s b e.actor.0 e.call service kind asks)
    ∙ ap (arrow_of_call s b e.actor.0 e.call) blocked
    ∙ asks-issued s b e.actor.0 e.call service kind from asks owner

-- ---- the arrows of an entry that answer a message

-- an arrow with this meaning comes from the partition of its message's service, and W holds of a client that it answers and that is Blocked
abbrev AnswerFits : System → SpmState → (ℕ → ℕ → ℤ → Type 0) → ℕ → ℕ → Meaning → Type 0
AnswerFits s b W from to (meaning.Reply service kind status) = (owner_of s service ≡ Some from) × (phase_of b to ≡ Blocked → W to service kind)
AnswerFits s b W from to (meaning.Release service kind) = (owner_of s service ≡ Some from) × (phase_of b to ≡ Blocked → W to service kind)
AnswerFits s b W from to _ = Unit {0}

abbrev Fits : System → SpmState → (ℕ → ℕ → ℤ → Type 0) → Arrow → Type 0
Fits s b W x = AnswerFits s b W x.from.0 x.to.0 x.meaning

abbrev IfFits : System → SpmState → (ℕ → ℕ → ℤ → Type 0) → Option Arrow → Type 0
IfFits s b W None = Unit {0}
IfFits s b W (Some x) = Fits s b W x

message-fits : (s : System) (b : SpmState) (W : ℕ → ℕ → ℤ → Type 0) (a : ℕ) (kind : ℤ) (service : ℕ) (o : Option ℕ) → IfFits s b W (option_map (λ p. arrow a p (meaning.Message service kind)) o)
message-fits s b W a kind service None = tt
message-fits s b W a kind service (Some p) = tt

then-fits : {X : Type 0} (s : System) (b : SpmState) (W : ℕ → ℕ → ℤ → Type 0) (f : X → Option Arrow) → ((x : X) → IfFits s b W (f x)) → (o : Option X) → IfFits s b W (option_and_then f o)
then-fits s b W f fits None = tt
then-fits s b W f fits (Some x) = fits x

issued-fits : (s : System) (b : SpmState) (W : ℕ → ℕ → ℤ → Type 0) (a : ℕ) (d : Call) → IfFits s b W (issued s b a d)
issued-fits s b W a (call.Connect sid version) = then-fits s b W (message_arrow s a PSA_IPC_CONNECT) (λ v. message-fits s b W a PSA_IPC_CONNECT v (owner_of s v)) (service_at s sid)
issued-fits s b W a (call.Invoke h kind iv il ov ol) = then-fits s b W (message_arrow s a kind) (λ v. message-fits s b W a kind v (owner_of s v)) (service_of_handle s b a h)
issued-fits s b W a (call.Close h) =
    then-fits s b W (λ (c : OpenConnection). message_arrow s a PSA_IPC_DISCONNECT c.service) (λ c. message-fits s b W a PSA_IPC_DISCONNECT c.service (owner_of s c.service)) (connection_held b a h)
issued-fits s b W a d = tt

owner-by : (p : ℕ) (o : Option Service) → option_map_or (λ v. v.owner == p) o false ≡ true → option_map (λ (v : Service). v.owner) o ≡ Some p
owner-by p None e = cc
owner-by p (Some v) e = ap (λ (n : ℕ). Some n) (eqb-true v.owner p e)

reply-fits : (s : System) (b : SpmState) (W : ℕ → ℕ → ℤ → Type 0) (a : ℕ) (h : Handle) (status : ℤ) (o : Option PendingMessage) → Each (λ c v k. phase_of b c ≡ Blocked → W c v k) b.messages → message_held s b a h ≡ o
    → IfFits s b W (option_map (reply_arrow a status) o)
reply-fits s b W a h status None all held = tt
reply-fits s b W a h status (Some m) all held =
    let passes = find-passes (λ (x : PendingMessage). is_service_of s a x.service && has_handle x.handle h) b.messages m held in (
      owner-by a (slice_get s.services m.service) (and_parts _ _ passes).0,
      each-found (λ (x : PendingMessage). phase_of b x.client.0 ≡ Blocked → W x.client.0 x.service x.kind) (λ (x : PendingMessage). is_service_of s a x.service && has_handle x.handle h) b.messages m all held,
    )

interrupt-fits : (s : System) (b : SpmState) (W : ℕ → ℕ → ℤ → Type 0) (a source : ℕ) (pending : Bool) (o : Option Source) → IfFits s b W (option_map (λ (x : Source). arrow a x.owner (meaning.Interrupt source pending)) o)
interrupt-fits s b W a source pending None = tt
interrupt-fits s b W a source pending (Some x) = tt

sent-fits : (s : System) (b : SpmState) (W : ℕ → ℕ → ℤ → Type 0) (a : ℕ) (d : Call) → Each (λ c v k. phase_of b c ≡ Blocked → W c v k) b.messages → IfFits s b W (sent s b a d)
sent-fits s b W a (call.Reply h status) all = reply-fits s b W a h status.0 (message_held s b a h) all refl
sent-fits s b W a (call.Notify id) all = tt
sent-fits s b W a (call.Raise source) all = interrupt-fits s b W a source true (slice_get s.sources source)
sent-fits s b W a (call.Fire source result) all = interrupt-fits s b W a source _ (slice_get s.sources source)
sent-fits s b W a d all = tt

called-fits : (s : System) (b : SpmState) (W : ℕ → ℕ → ℤ → Type 0) (a : ℕ) (d : Call) (o : Outcome) → Each (λ c v k. phase_of b c ≡ Blocked → W c v k) b.messages → IfFits s b W (arrow_of_call s b a d o)
called-fits s b W a d outcome.Blocked all = issued-fits s b W a d
called-fits s b W a d outcome.Done all = sent-fits s b W a d all
called-fits s b W a d (outcome.Value status) all = tt
called-fits s b W a d o all = tt

arrow-fits : (s : System) (b : SpmState) (W : ℕ → ℕ → ℤ → Type 0) (e : Entry) (x : Bool) → Each (λ c v k. phase_of b c ≡ Blocked → W c v k) b.messages
    → IfFits s b W (if x then Some (arrow e.actor.0 e.actor.0 (meaning.Wake e.outcome)) else arrow_of_call s b e.actor.0 e.call e.outcome)
arrow-fits s b W e true all = tt
arrow-fits s b W e false all = called-fits s b W e.actor.0 e.call e.outcome all

-- the clients that a panic frees
release-fits : (s : System) (b : SpmState) (W : ℕ → ℕ → ℤ → Type 0) (p : ℕ) (m : PendingMessage) (x : Bool) → (is_service_of s p m.service && is_blocked (phase_of b m.client.0)) ≡ x → (phase_of b m.client.0 ≡ Blocked → W m.client.0 m.service m.kind)
    → IfFits s b W (if x then Some (arrow p m.client.0 (meaning.Release m.service m.kind)) else None)
release-fits s b W p m true e waits = (owner-by p (slice_get s.services m.service) (and_parts _ _ e).0, waits)
release-fits s b W p m false e waits = tt

if-fits : (s : System) (b : SpmState) (W : ℕ → ℕ → ℤ → Type 0) (o : Option Arrow) (x : Arrow) → IfFits s b W o → o ≡ Some x → Fits s b W x
if-fits s b W o x fits e = subst (IfFits s b W) e fits

panic-fits : (s : System) (b : SpmState) (W : ℕ → ℕ → ℤ → Type 0) → Each (λ c v k. phase_of b c ≡ Blocked → W c v k) b.messages → (o : Option ℕ) → AllByRecursion (Fits s b W) (option_map_or (panic_arrows s b) o [])
panic-fits s b W all None = tt
panic-fits s b W all (Some p) = (
  tt,
  each-filter_map (λ (m : PendingMessage). phase_of b m.client.0 ≡ Blocked → W m.client.0 m.service m.kind) (Fits s b W) (release_arrow s b p)
      (λ m x waits e. if-fits s b W (release_arrow s b p m) x (release-fits s b W p m (is_service_of s p m.service && is_blocked (phase_of b m.client.0)) refl waits) e) b.messages all,
)

arrows-fit : (s : System) (b : SpmState) (W : ℕ → ℕ → ℤ → Type 0) (e : Entry) → Each (λ c v k. phase_of b c ≡ Blocked → W c v k) b.messages → AllByRecursion (Fits s b W) (arrows_of s b e)
arrows-fit s b W e all =
    each-option (Fits s b W) (arrow_of s b e) (option_map_or (panic_arrows s b) (panicking s b e) [])
    (λ x is. if-fits s b W (arrow_of s b e) x (arrow-fits s b W e (is_return e.call) all) is)
    (panic-fits s b W all (panicking s b e))

-- ---- pairs

abbrev IsPaired : System → ByteMap → List Entry → PlacedArrow → Type 0
IsPaired s m es x = (place : ℕ) → x.answers ≡ Some place → IsPair s m es x place

pub blocked-phase : (p : ActorPhase) → is_blocked p ≡ true → p ≡ Blocked
blocked-phase Blocked e = refl
blocked-phase _ e = cc

-- where the entries before it lead, the arrow's client waits in the call whose place is noted
paired : (s : System) (m : ByteMap) (es past later : List Entry) (e : Entry) (x : PlacedArrow) (service : ℕ) (kind : ℤ) (place : ℕ) → es ≡ past ++ e ∷ later → x.place ≡ length past + 1 → answered_message x.arrow.meaning ≡ Some (service, kind)
    → owner_of s service ≡ Some x.arrow.from.0 → IsWaiting s m past place x.arrow.to.0 service kind → IsPair s m es x place
paired s m es past later e x service kind place parts counted answers owner w =
    let asks : Asks s w.state.spm w.call.actor.0 w.call.call service kind = subst (λ (a : ℕ). Asks s w.state.spm a w.call.call service kind) (sym w.own) w.asks in
    record {
      earlier = past;
      answer = e;
      later = later;
      parts = parts;
      counted = counted;
      service = service;
      kind = kind;
      answers = answers;
      waits = w;
      owner = owner;
      issues = asks-arrow s w.state.spm w.call service kind x.arrow.from.0 asks w.blocked owner ∙ ap (λ (a : ℕ). Some (arrow a x.arrow.from.0 (meaning.Message service kind))) w.own;
    }

answer-paired : (s : System) (m : ByteMap) (es past later : List Entry) (e : Entry) (last : List ℕ) (b : SpmState) (x : PlacedArrow) (service : ℕ) (kind : ℤ) (place : ℕ) (y : Bool) → is_blocked (phase_of b x.arrow.to.0) ≡ y
    → (if y then Some (get_or last x.arrow.to.0 0) else None) ≡ Some place → es ≡ past ++ e ∷ later → x.place ≡ length past + 1 → answered_message x.arrow.meaning ≡ Some (service, kind) → owner_of s service ≡ Some x.arrow.from.0
    → WaitsAt s m past last b x.arrow.to.0 service kind → IsPair s m es x place
answer-paired s m es past later e last b x service kind place true blocked noted parts counted answers owner waits =
    let same : get_or last x.arrow.to.0 0 ≡ place = cc in
    paired s m es past later e x service kind place parts counted answers owner (subst (λ (n : ℕ). IsWaiting s m past n x.arrow.to.0 service kind) same (waits (blocked-phase (phase_of b x.arrow.to.0) blocked)))
answer-paired s m es past later e last b x service kind place false blocked noted parts counted answers owner waits = cc

arrow-paired : (s : System) (m : ByteMap) (es past later : List Entry) (e : Entry) (last : List ℕ) (b : SpmState) (k : ℕ) (from to : ℕ) (is : Meaning) → es ≡ past ++ e ∷ later → k ≡ length past + 1
    → AnswerFits s b (λ c v z. IsWaiting s m past (get_or last c 0) c v z) from to is → IsPaired s m es (placed k b last (arrow from to is))
arrow-paired s m es past later e last b k from to (meaning.Reply service kind status) parts counted fits place noted =
    answer-paired s m es past later e last b (placed k b last (arrow from to (meaning.Reply service kind status))) service kind place (is_blocked (phase_of b to)) refl noted parts counted refl fits.0 fits.1
arrow-paired s m es past later e last b k from to (meaning.Release service kind) parts counted fits place noted =
    answer-paired s m es past later e last b (placed k b last (arrow from to (meaning.Release service kind))) service kind place (is_blocked (phase_of b to)) refl noted parts counted refl fits.0 fits.1
arrow-paired s m es past later e last b k from to is parts counted fits place noted = cc

-- those of an entry
entry-paired : (s : System) (m : ByteMap) (es past later : List Entry) (e : Entry) (last : List ℕ) (st : State) (k : ℕ) (x : Bool) → Kept s m past last st → es ≡ past ++ e ∷ later → k ≡ length past + 1
    → AllByRecursion (IsPaired s m es) (if x then map (placed k st.spm last) (arrows_of s st.spm e) else [])
entry-paired s m es past later e last st k false kept parts counted = tt
entry-paired s m es past later e last st k true kept parts counted =
    let W : ℕ → ℕ → ℤ → Type 0 = λ c v z. IsWaiting s m past (get_or last c 0) c v z in
    each-map (Fits s st.spm W) (IsPaired s m es) (placed k st.spm last) (λ a fits. arrow-paired s m es past later e last st.spm k a.from.0 a.to.0 a.meaning parts counted fits) (arrows_of s st.spm e) (arrows-fit s st.spm W e kept.waiting)

-- and those of the entries left
pub length-push : (past : List Entry) (e : Entry) → length (past ++ e ∷ []) ≡ length past + 1
length-push past e = length-append past (e ∷ [])

rest-paired : (s : System) (m : ByteMap) (limit : ℕ) (part : Part) (es past left : List Entry) (n : ℕ) (last : List ℕ) (st : State) → n ≡ length past → es ≡ past ++ left → Kept s m past last st
    → AnswersPair s m es (arrows_from s limit part n last left st)
rest-paired s m limit part es past [] n last st at parts kept = tt
rest-paired s m limit part es past (e ∷ left) n last st at parts kept =
    let a : ℕ = e.actor.0 in
    let more : State → List PlacedArrow = λ (new : State). arrows_at s part (n + 1) st.spm last e ++ arrows_from s limit part (n + 1) (slice_set last a (n + 1)) left new in
    let here : AnswersPair s m es (arrows_at s part (n + 1) st.spm last e) = entry-paired s m es past left e last st (n + 1) (is_in_part part (n + 1)) kept parts (ap (λ k. k + 1) at) in
    let stepped : (o : Option State) → step s st e ≡ o → AnswersPair s m es (option_map_or more o []) =
    elim [
      | None ↦ λ is. tt
      | Some new ↦ λ is.
          AllByRecursion-append (IsPaired s m es) (arrows_at s part (n + 1) st.spm last e) (arrows_from s limit part (n + 1) (slice_set last a (n + 1)) left new) here
          (rest-paired s m limit part es (past ++ e ∷ []) left (n + 1) (slice_set last a (n + 1)) new (ap (λ k. k + 1) at ∙ sym (length-push past e)) (parts ∙ sym (append_assoc past (e ∷ []) left))
          (subst (λ k. Kept s m (past ++ e ∷ []) (slice_set last a (k + 1)) new) (sym at) (step-kept s m past last st new e kept is)))
    ] in
    let go : (x : Bool) → AnswersPair s m es (if x then [] else option_map_or more (step s st e) []) = elim [ true ↦ tt | false ↦ stepped (step s st e) refl ] in
    go (nat_le limit n)

pub each-answer-pairs : EachAnswerPairs
each-answer-pairs s m limit part es = rest-paired s m limit part es [] es 0 _ (opening s m) refl refl (opening-kept s m)
