-- In each state of a run, each message whose client is Blocked is the one that the client's last entry asks for.
use Rattle.std.proofs.Common.{ℕ, ◌≡◌, ◌<◌, ◌+◌, ◌==◌, Bool, true, false, cond, not, ◌&&◌, List, [], ◌∷◌, ◌++◌, length, get_or, arith, ◌∙◌, ap, sym, refl, subst, inl, inr}
use Rattle.std.specs.Prelude.{ℤ, pos, count_by, nat_lt, replicate, Option, Some, None, option_and_then, is_none, if◌then◌else◌, filter, map, slice_set}
use Rattle.std.specs.List.{AllByRecursion, filter_map}
use Rattle.std.specs.Option.{option_map_or}
use Rattle.std.proofs.lemmas.Grind.{common_steps}
use Rattle.std.proofs.lemmas.Bool.{and_parts, eqb-true}
use Rattle.std.proofs.lemmas.Bool.Decides.{nat_tests}
use Rattle.std.proofs.lemmas.List.{append_assoc, length-replicate}
use Rattle.law_lists.proofs.Counts.{bit, count-cons, count-ext}
use Rattle.ffm_model.specs.declared.constants.TheConstants.{PSA_IPC_DISCONNECT, PSA_ERROR_COMMUNICATION_FAILURE}
use Rattle.ffm_model.specs.declared.system.System.{System}
use Rattle.ffm_model.specs.declared.machine.Handle.{Handle}
use Rattle.ffm_model.specs.declared.machine.Entry.{Entry}
use Rattle.ffm_model.specs.declared.machine.Call.{Call}
use Rattle.ffm_model.specs.declared.machine.Call.TheVariants as call
use Rattle.ffm_model.specs.declared.machine.Outcome.{Outcome}
use Rattle.ffm_model.specs.declared.machine.Outcome.TheVariants as outcome
use Rattle.ffm_model.specs.declared.objects.Vectors.{Vectors}
use Rattle.ffm_model.specs.declared.objects.OpenConnection.{OpenConnection}
use Rattle.ffm_model.specs.declared.objects.PendingMessage.{PendingMessage}
use Rattle.ffm_model.specs.declared.objects.ConnPhase.TheVariants.{Busy, Closing}
use Rattle.ffm_model.specs.declared.objects.ActorPhase.{ActorPhase}
use Rattle.ffm_model.specs.declared.objects.ActorPhase.TheVariants.{Running, Blocked, Waiting, Ready, Connected, Ended, Panicked}
use Rattle.ffm_model.specs.Actors.{actor_count, is_service_of}
use Rattle.ffm_model.specs.Memory.{ByteMap, no_vectors}
use Rattle.ffm_model.specs.Records.{is_blocked_outcome}
use Rattle.ffm_model.specs.State.{SpmState, State, delivered, has_handle, is_undelivered, opening, phase_of, vectors_put, with_connection_phase, with_message, with_phase, with_request, without_connection}
use Rattle.ffm_model.specs.Panic.{disconnection, is_dead, panic_effect, without_service, disconnect_message}
use Rattle.ffm_model.specs.ClientCalls.{is_service_panicked, move}
use Rattle.ffm_model.specs.Step.{after, may_call, outcome_eq, step}
use Rattle.ffm_model.proofs.RecordLemmas.{entries_of-other}
use Rattle.ffm_model.proofs.StepLemmas.{after-push}
use Rattle.law_counting.specs.Objects.{Mark, accepted_as, awaited_by, awaited_of, called_by, connection_marked, is_awaited, message_marked}
use Rattle.law_counting.proofs.Balance.{Balanced}
use Rattle.law_counting.proofs.Events.{EachKind, caller-running}
use Rattle.law_counting.proofs.Pairs.{count-sum}
use Rattle.law_counting.proofs.Parts.{flipped, is_itself, off_from, running-quiet, same_or_not}
use Rattle.law_counting.proofs.Reply.{settled, settled-messages}
use Rattle.law_counting.proofs.Resume.{times}
use Rattle.law_counting.proofs.Returns.{open-phase, turns-sound}
use Rattle.law_counting.proofs.Runs.{opening-balanced, run-has, step-keeps}
use Rattle.law_counting.proofs.Steps.{Stepped, step-is, step-kind}
use Rattle.law_counting.proofs.Turns.{Turned, Turns, goes_with, is_sound, kinds-turn, owed-panicked}
use Rattle.view_diagram.specs.Pairs.{Asks, IsWaiting}
use Rattle.view_diagram.proofs.Everywhere.{each-filter, each-option}
use Rattle.view_diagram.proofs.Issues.{IsIssued, step-issues}
use Rattle.law_lists.proofs.Lists.{AllByRecursion-append, AllByRecursion-all, AllByRecursion-weaker}
use Rattle.law_counting.proofs.Owners.{held-client}

-- ---- messages of other actors

-- R holds of the client, the service and the kind of each message
abbrev pub Each : (ℕ → ℕ → ℤ → Type 0) → List PendingMessage → Type 0
Each R ms = AllByRecursion (λ (m : PendingMessage). R m.client.0 m.service m.kind) ms

-- and of each message after an event of the actor a, but for its own and those whose client is not Blocked
abbrev OtherHas : (ℕ → ℕ → ℤ → Type 0) → ℕ → List ActorPhase → PendingMessage → Type 0
OtherHas R a phases m = (m.client.0 == a) ≡ false → get_or phases m.client.0 Ended ≡ Blocked → R m.client.0 m.service m.kind

abbrev pub Others : (ℕ → ℕ → ℤ → Type 0) → ℕ → SpmState → Type 0
Others R a new = AllByRecursion (OtherHas R a new.phases) new.messages

stay : (R : ℕ → ℕ → ℤ → Type 0) (a : ℕ) (phases : List ActorPhase) (ms : List PendingMessage) → Each R ms → AllByRecursion (OtherHas R a phases) ms
stay R a phases ms h = AllByRecursion-weaker (λ (m : PendingMessage). R m.client.0 m.service m.kind) (OtherHas R a phases) (λ m r apart phase. r) ms h

-- the actor's own goes last
own-last : (R : ℕ → ℕ → ℤ → Type 0) (a : ℕ) (phases : List ActorPhase) (ms : List PendingMessage) (m : PendingMessage) → m.client.0 ≡ a → Each R ms → AllByRecursion (OtherHas R a phases) (ms ++ m ∷ [])
own-last R a phases ms m own h =
    AllByRecursion-append (OtherHas R a phases) ms (m ∷ []) (stay R a phases ms h) (λ apart phase. let bad : true ≡ false = sym (is_itself a) ∙ (ap (λ (x : ℕ). x == a) (sym own) ∙ apart) in cc, tt)

-- one of the services gets its message
each-delivered : (R : ℕ → ℕ → ℤ → Type 0) (service : ℕ) (h : Handle) (ms : List PendingMessage) → Each R ms → Each R (delivered service h ms)
each-delivered R service h [] all = tt
each-delivered R service h (m ∷ ms) all =
    let go : (b : Bool) → Each R (cond {A = List PendingMessage} b (record m { handle = Some h } ∷ ms) (m ∷ delivered service h ms)) = elim [ true ↦ (all.0, all.1) | false ↦ (all.0, each-delivered R service h ms all.1) ] in
    go (is_undelivered service m)

vectors-by : (R : ℕ → ℕ → ℤ → Type 0) (v : Vectors) (m : PendingMessage) (b : Bool) → R m.client.0 m.service m.kind → (let n : PendingMessage = if b then record m { vectors = v } else m in R n.client.0 n.service n.kind)
vectors-by R v m true r = r
vectors-by R v m false r = r

each-vectors : (R : ℕ → ℕ → ℤ → Type 0) (h : Handle) (v : Vectors) (ms : List PendingMessage) → Each R ms → Each R (map (vectors_put h v) ms)
each-vectors R h v [] all = tt
each-vectors R h v (m ∷ ms) all = (vectors-by R v m (has_handle m.handle h) all.0, each-vectors R h v ms all.1)

-- ---- a reply takes its message away

each-settled : (R : ℕ → ℕ → ℤ → Type 0) (b : SpmState) (h : Handle) (status : ℤ) (m : PendingMessage) → Each R b.messages → Each R (settled b h status m).messages
each-settled R b h status m all = subst (Each R) (sym (settled-messages b h status m)) (each-filter (λ (x : PendingMessage). R x.client.0 x.service x.kind) (λ x. not (has_handle x.handle h)) b.messages all)

-- ---- a panic adds disconnections of the partition that panics

sent-by : (p : ℕ) (c : OpenConnection) (m : PendingMessage) (x : Bool) → ((c.client.0 == p) && not (is_dead c.phase)) ≡ x
    → (if x then Some (disconnect_message c) else None) ≡ Some m → m.client.0 ≡ p
sent-by p c m true own e =
    let same : c.client.0 ≡ m.client.0 = cc in
    sym same ∙ eqb-true c.client.0 p (and_parts (c.client.0 == p) (not (is_dead c.phase)) own).0
sent-by p c m false own e = cc

disconnects-own : (p : ℕ) (o : Option OpenConnection) (m : PendingMessage) → option_and_then (disconnection p) o ≡ Some m → m.client.0 ≡ p
disconnects-own p None m e = cc
disconnects-own p (Some c) m e = sent-by p c m ((c.client.0 == p) && not (is_dead c.phase)) refl e

pub each-disconnection : (P : PendingMessage → Type 0) (s : System) (p : ℕ) → ((m : PendingMessage) → m.client.0 ≡ p → P m) → (cs : List OpenConnection) → AllByRecursion P (filter_map (λ c. option_and_then (disconnection p) (without_service s p c)) cs)
each-disconnection P s p own [] = tt
each-disconnection P s p own (c ∷ cs) =
    each-option P (option_and_then (disconnection p) (without_service s p c)) _ (λ m e. own m (disconnects-own p (without_service s p c) m e)) (each-disconnection P s p own cs)

panicked-others : (R : ℕ → ℕ → ℤ → Type 0) (a : ℕ) (s : System) (b : SpmState) (p : ℕ) → Each R b.messages → ((m : PendingMessage) → m.client.0 ≡ p → OtherHas R a (panic_effect s b p).phases m) → Others R a (panic_effect s b p)
panicked-others R a s b p all own =
    let phases : List ActorPhase = (panic_effect s b p).phases in
    AllByRecursion-append (OtherHas R a phases) (filter (λ m. not (is_service_of s p m.service)) b.messages) _
    (stay R a phases _ (each-filter (λ (x : PendingMessage). R x.client.0 x.service x.kind) (λ m. not (is_service_of s p m.service)) b.messages all))
    (each-disconnection (OtherHas R a phases) s p own b.connections)

-- ---- each kind of change

called-others : (R : ℕ → ℕ → ℤ → Type 0) (b : SpmState) (a : ℕ) (c : OpenConnection) (kind : ℤ) (v : Vectors) (dead : Bool) → c.client.0 ≡ a → Each R b.messages
    → Others R a (if dead then move (outcome.Value PSA_ERROR_COMMUNICATION_FAILURE) b else move outcome.Blocked (with_phase (with_message (with_connection_phase b c.serial Busy) c kind v) a Blocked)).spm
called-others R b a c kind v true own all = stay R a b.phases b.messages all
called-others R b a c kind v false own all = own-last R a _ b.messages _ own all

asked-others : (R : ℕ → ℕ → ℤ → Type 0) (b : SpmState) (a service : ℕ) (kind : ℤ) (v : Vectors) (gone : Bool) → Each R b.messages
    → Others R a (if gone then move (outcome.Value PSA_ERROR_COMMUNICATION_FAILURE) b else move outcome.Blocked (with_phase (with_request b a service kind v) a Blocked)).spm
asked-others R b a service kind v true all = stay R a b.phases b.messages all
asked-others R b a service kind v false all = own-last R a _ b.messages _ refl all

closed-others : (R : ℕ → ℕ → ℤ → Type 0) (b : SpmState) (a : ℕ) (c : OpenConnection) (dead : Bool) → c.client.0 ≡ a → Each R b.messages
    → Others R a (if dead then move outcome.Done (without_connection b c.serial) else move outcome.Blocked (with_phase (with_message (with_connection_phase b c.serial Closing) c PSA_IPC_DISCONNECT no_vectors) a Blocked)).spm
closed-others R b a c true own all = stay R a _ b.messages all
closed-others R b a c false own all = own-last R a _ b.messages _ own all

kinds-others : (R : ℕ → ℕ → ℤ → Type 0) (s : System) (b : SpmState) (given : List Handle) (a : ℕ) (d : Call) → Balanced s (times given) b → Each R b.messages → EachKind s b given a d (λ o new all. Others R a new)
kinds-others R s b given a d h all = record {
  beside = λ running o doorbells sources plain. stay R a _ b.messages all;
  waits = λ running mask. stay R a _ b.messages all;
  ends = λ running. stay R a _ b.messages all;
  wakes = λ mask n e. stay R a _ b.messages all;
  returns = λ o e. stay R a _ b.messages all;
  joins = λ is n k e new. stay R a _ b.messages all;
  connects = λ running v free. own-last R a _ b.messages _ refl all;
  calls = λ running k c n v held takes. called-others R b a c (pos n) v (is_dead c.phase) (held-client b a k c held) all;
  asks = λ running v n vs stateless may. asked-others R b a v (pos n) vs (is_service_panicked s b v) all;
  closes = λ running k c held. closed-others R b a c (is_dead c.phase) (held-client b a k c held) all;
  gets = λ running signal msg v is has first at k shown tells new. stay R a _ _ (each-delivered R v k b.messages all);
  moves = λ running o k v plain. stay R a _ _ (each-vectors R k v b.messages all);
  marks = λ running n r. stay R a _ b.messages all;
  replies = λ running k status m held. stay R a _ _ (each-settled R b k status m all);
  owes = λ running k status m n held kind.
      panicked-others R a s (settled b k status m) m.client.0 (each-settled R b k status m all)
      (λ x own apart phase. let gone : phase_of (panic_effect s (settled b k status m) m.client.0) m.client.0 ≡ Panicked = owed-panicked s (times given) b a k status m n h held kind in
      let bad : Blocked ≡ Panicked = sym phase ∙ (ap (phase_of (panic_effect s (settled b k status m) m.client.0)) own ∙ gone) in cc);
  panics = λ running. panicked-others R a s b a all (λ x own apart phase. let bad : true ≡ false = sym (is_itself a) ∙ (ap (λ (y : ℕ). y == a) (sym own) ∙ apart) in cc);
}

-- ---- the actor's own messages

-- an actor that runs has no message
pub client-is : (a : ℕ) (m : PendingMessage) → bit (message_marked (λ n x v ph. x == a) m) + bit (called_by a m) ≡ bit (m.client.0 == a)
client-is a m =
    let go : (o : Option ℕ) (x : Bool) → bit (option_map_or (λ n. x) o false) + bit (is_none o && x) ≡ bit x = elim [ Some n ↦ λ x. omega arith | None ↦ λ x. omega arith ] in
    go m.connection (m.client.0 == a)

pub awaited-is : (a : ℕ) (c : OpenConnection) → connection_marked (λ n x v ph. x == a) c ≡ awaited_of a c
awaited-is a c = let go : (x y : Bool) → (x && y) ≡ (y && x) = elim [ true ↦ elim [ true ↦ refl | false ↦ refl ] | false ↦ elim [ true ↦ refl | false ↦ refl ] ] in go (is_awaited c.phase) (c.client.0 == a)

running-none : (s : System) (limit : Handle → ℕ) (b : SpmState) (a : ℕ) → Balanced s limit b → phase_of b a ≡ Running → count_by (λ (m : PendingMessage). m.client.0 == a) b.messages ≡ 0
running-none s limit b a h running =
    let t : Mark = λ n x v ph. x == a in
    let quiet : awaited_by b.connections b.messages a ≡ 0 = running-quiet (phase_of b a) _ _ (λ n. count_by (accepted_as a n) b.connections) running (h.fitting a) in
    omega (
      arith,
      count-sum (λ (m : PendingMessage). m.client.0 == a) (message_marked t) (called_by a) (λ m. omega (arith, client-is a m)) b.messages,
      h.paired t,
      count-ext (connection_marked t) (awaited_of a) (awaited-is a) b.connections,
      quiet,
    )

none-passes : {X : Type 0} (q : X → Bool) (xs : List X) → count_by q xs ≡ 0 → AllByRecursion (λ x. q x ≡ false) xs
none-passes q [] e = tt
none-passes q (x ∷ xs) e = (off_from (q x) (omega (arith, e, count-cons q x xs)), none-passes q xs (omega (arith, e, count-cons q x xs)))

asking-running : (s : System) (b : SpmState) (a : ℕ) (d : Call) (service : ℕ) (kind : ℤ) → Asks s b a d service kind → may_call s b a d ≡ true → phase_of b a ≡ Running
asking-running s b a (call.Connect sid version) service kind asks may = caller-running s b a (call.Connect sid version) (λ p. refl) may
asking-running s b a (call.Invoke h k iv il ov ol) service kind asks may = caller-running s b a (call.Invoke h k iv il ov ol) (λ p. refl) may
asking-running s b a (call.Close h) service kind asks may = caller-running s b a (call.Close h) (λ p. refl) may
asking-running s b a d service kind asks may = absurd asks

-- ---- a step of a run

abbrev pub WaitsAt : System → ByteMap → List Entry → List ℕ → SpmState → ℕ → ℕ → ℤ → Type 0
WaitsAt s m past last b client service kind = phase_of b client ≡ Blocked → IsWaiting s m past (get_or last client 0) client service kind

-- what a run keeps, where `last` has the place of each actor's last entry
pub record Kept (s : System) (m : ByteMap) (past : List Entry) (last : List ℕ) (st : State) : Type 0 where
  pub run : after s m past ≡ Some st
  pub balanced : Balanced s (times st.handles_given) st.spm
  pub sound : (x : ℕ) → is_sound (phase_of st.spm x) ≡ true
  pub long : length last ≡ actor_count s
  pub waiting : Each (WaitsAt s m past last st.spm) st.spm.messages

pub opening-kept : (s : System) (m : ByteMap) → Kept s m [] (replicate (actor_count s) 0) (opening s m)
opening-kept s m = record {
  run = refl;
  balanced = opening-balanced s;
  sound = λ x. open-phase is_sound true refl refl (actor_count s) x;
  long = length-replicate (actor_count s) 0;
  waiting = tt;
}

pub was-blocked : (p q : ActorPhase) → Turned p q → q ≡ Blocked → p ≡ Blocked
was-blocked p q (inl e) now = e ∙ now
was-blocked p q (inr (inl k)) now = k.0
was-blocked p q (inr (inr k)) now = k.0

-- one entry of another actor more
later : (s : System) (m : ByteMap) (past : List Entry) (e : Entry) (place actor service : ℕ) (kind : ℤ) → (e.actor.0 == actor) ≡ false → IsWaiting s m past place actor service kind → IsWaiting s m (past ++ e ∷ []) place actor service kind
later s m past e place actor service kind apart w = record {
  before = w.before;
  call = w.call;
  between = w.between ++ e ∷ [];
  parts = ap (λ (xs : List Entry). xs ++ e ∷ []) w.parts ∙ append_assoc w.before (w.call ∷ w.between) (e ∷ []);
  counted = w.counted;
  state = w.state;
  state_before = w.state_before;
  own = w.own;
  blocked = w.blocked;
  asks = w.asks;
  last = entries_of-other actor w.between e apart ∙ w.last;
}

pub set-own : (xs : List ℕ) (a k : ℕ) → a < length xs → get_or (slice_set xs a k) a 0 ≡ k
set-own xs a k inside = grind (arith, common_steps)

pub set-other : (xs : List ℕ) (a x k : ℕ) → (x == a) ≡ false → get_or (slice_set xs a k) x 0 ≡ get_or xs x 0
set-other xs a x k other = grind (arith, common_steps)

set-long : (xs : List ℕ) (a k : ℕ) → length (slice_set xs a k) ≡ length xs
set-long xs a k = grind (arith, common_steps)

pub is-inside : (a n : ℕ) → nat_lt a n ≡ true → a < n
is-inside a n e = grind (arith, nat_tests)

blocked-is : (o p : Outcome) → outcome_eq o p ≡ true → is_blocked_outcome o ≡ true → p ≡ outcome.Blocked
blocked-is outcome.Blocked outcome.Blocked e k = refl
blocked-is o p e k = cc

-- who is Blocked after its entry was answered Blocked
pub was-due : (s : System) (st new : State) (e : Entry) → Balanced s (times st.handles_given) st.spm → is_sound (phase_of st.spm e.actor.0) ≡ true → step s st e ≡ Some new → phase_of new.spm e.actor.0 ≡ Blocked → e.outcome ≡ outcome.Blocked
was-due s st new e balanced sound is phase =
    let a : ℕ = e.actor.0 in
    let it = step-kind s st new e (λ o spm given. Turns a st.spm spm o) (kinds-turn s st.spm st.handles_given a e.call balanced sound) is in
    let turns : Turns a st.spm new.spm it.0 = it.2 in
    blocked-is it.0 e.outcome it.1 (turns.own ∙ ap (goes_with it.0) phase)

both : {X : Type 0} (P Q R : X → Type 0) → ((x : X) → P x → Q x → R x) → (xs : List X) → AllByRecursion P xs → AllByRecursion Q xs → AllByRecursion R xs
both P Q R joins [] h k = tt
both P Q R joins (x ∷ xs) h k = (joins x h.0 k.0, both P Q R joins xs h.1 k.1)

-- the messages of the actor of the entry
abbrev OwnHas : (ℕ → ℕ → ℤ → Type 0) → ℕ → SpmState → PendingMessage → Type 0
OwnHas R a new m = (m.client.0 == a) ≡ true → phase_of new a ≡ Blocked → R m.client.0 m.service m.kind

own-issued : (R : ℕ → ℕ → ℤ → Type 0) (s : System) (st new : State) (e : Entry) → Balanced s (times st.handles_given) st.spm → step s st e ≡ Some new → IsIssued s st.spm e.actor.0 e.call new.spm
    → ((m : PendingMessage) → m.client.0 ≡ e.actor.0 → Asks s st.spm e.actor.0 e.call m.service m.kind → R m.client.0 m.service m.kind) → AllByRecursion (OwnHas R e.actor.0 new.spm) new.spm.messages
own-issued R s st new e balanced is i asked =
    let a : ℕ = e.actor.0 in
    let running : phase_of st.spm a ≡ Running = asking-running s st.spm a e.call i.message.service i.message.kind i.asks (step-is s st new e is).may in
    let none : AllByRecursion (λ (m : PendingMessage). (m.client.0 == a) ≡ false) st.spm.messages = none-passes (λ (m : PendingMessage). m.client.0 == a) st.spm.messages (running-none s (times st.handles_given) st.spm a balanced running) in
    subst (AllByRecursion (OwnHas R a new.spm)) (sym i.added)
    (AllByRecursion-append (OwnHas R a new.spm) st.spm.messages (i.message ∷ [])
    (AllByRecursion-weaker (λ (m : PendingMessage). (m.client.0 == a) ≡ false) (OwnHas R a new.spm) (λ m apart own phase. let bad : false ≡ true = sym apart ∙ own in cc) st.spm.messages none)
    (λ own phase. asked i.message i.client i.asks, tt))

own-none : (R : ℕ → ℕ → ℤ → Type 0) (a : ℕ) (new : SpmState) (ms : List PendingMessage) → (phase_of new a ≡ Blocked → ⊥) → AllByRecursion (OwnHas R a new) ms
own-none R a new ms free = AllByRecursion-all (OwnHas R a new) (λ m own phase. absurd (free phase)) ms

pub step-kept : (s : System) (m : ByteMap) (past : List Entry) (last : List ℕ) (st new : State) (e : Entry) → Kept s m past last st → step s st e ≡ Some new → Kept s m (past ++ e ∷ []) (slice_set last e.actor.0 (length past + 1)) new
step-kept s m past last st new e k is =
    let a : ℕ = e.actor.0 in
    let now : List Entry = past ++ e ∷ [] in
    let places : List ℕ = slice_set last a (length past + 1) in
    let it = step-kind s st new e (λ o spm given. Turns a st.spm spm o) (kinds-turn s st.spm st.handles_given a e.call k.balanced (k.sound a)) is in
    let turns : Turns a st.spm new.spm it.0 = it.2 in
    let stepped : Stepped s st new e = step-is s st new e is in
    let inside : a < length last = subst (λ (n : ℕ). a < n) (sym k.long) (is-inside a (actor_count s) (and_parts _ _ stepped.may).0) in
    let R : ℕ → ℕ → ℤ → Type 0 = WaitsAt s m past last st.spm in
    let S : ℕ → ℕ → ℤ → Type 0 = WaitsAt s m now places new.spm in
    let others : Others R a new.spm = (step-kind s st new e (λ o spm given. Others R a spm) (kinds-others R s st.spm st.handles_given a e.call k.balanced k.waiting) is).2 in
    let asked : (x : PendingMessage) → x.client.0 ≡ a → Asks s st.spm a e.call x.service x.kind → e.outcome ≡ outcome.Blocked → S x.client.0 x.service x.kind =
    λ x own asks blocked phase. record {
      before = past;
      call = e;
      between = [];
      parts = refl;
      counted = ap (λ (y : ℕ). get_or places y 0) own ∙ set-own last a (length past + 1) inside;
      state = st;
      state_before = k.run;
      own = sym own;
      blocked = blocked;
      asks = subst (λ (y : ℕ). Asks s st.spm y e.call x.service x.kind) (sym own) asks;
      last = refl;
    } in
    let mine : (p : ActorPhase) → phase_of new.spm a ≡ p → AllByRecursion (OwnHas S a new.spm) new.spm.messages =
    elim [
      | Blocked ↦ λ phase.
          let blocked : e.outcome ≡ outcome.Blocked = was-due s st new e k.balanced (k.sound a) is phase in
          own-issued S s st new e k.balanced is (step-issues s st new e is (inl phase) blocked) (λ x own asks. asked x own asks blocked)
      | Running ↦ λ phase. own-none S a new.spm new.spm.messages (λ z. cc)
      | Waiting mask ↦ λ phase. own-none S a new.spm new.spm.messages (λ z. cc)
      | Ready o ↦ λ phase. own-none S a new.spm new.spm.messages (λ z. cc)
      | Connected c ↦ λ phase. own-none S a new.spm new.spm.messages (λ z. cc)
      | Ended ↦ λ phase. own-none S a new.spm new.spm.messages (λ z. cc)
      | Panicked ↦ λ phase. own-none S a new.spm new.spm.messages (λ z. cc)
    ] in
    record {
      run = after-push s m past e ∙ ap (option_and_then (λ x. step s x e)) k.run ∙ is;
      balanced = step-keeps s st new e k.balanced is;
      sound = turns-sound st.spm new.spm a it.0 turns k.sound;
      long = set-long last a (length past + 1) ∙ k.long;
      waiting = both (OtherHas R a new.spm.phases) (OwnHas S a new.spm) (λ (x : PendingMessage). S x.client.0 x.service x.kind)
          (λ x other own phase. same_or_not x.client.0 a (IsWaiting s m now (get_or places x.client.0 0) x.client.0 x.service x.kind)
          (λ z. own (ap (λ (y : ℕ). y == a) z ∙ is_itself a) (ap (phase_of new.spm) (sym z) ∙ phase) phase)
          (λ z. subst (λ (n : ℕ). IsWaiting s m now n x.client.0 x.service x.kind) (sym (set-other last a x.client.0 (length past + 1) z))
          (later s m past e (get_or last x.client.0 0) x.client.0 x.service x.kind (flipped x.client.0 a z) (other z phase (was-blocked _ _ (turns.others x.client.0 z) phase)))))
          new.spm.messages others (mine (phase_of new.spm a) refl);
    }

-- each run keeps it
pub run-kept : (s : System) (m : ByteMap) (es : List Entry) (st : State) → after s m es ≡ Some st → (last : List ℕ) × Kept s m es last st
run-kept s m es st run =
    run-has s m (λ xs x. (last : List ℕ) × Kept s m xs last x) (replicate (actor_count s) 0, opening-kept s m)
    (λ xs x new e k is. (slice_set k.0 e.actor.0 (length xs + 1), step-kept s m xs k.0 x new e k.1 is)) es st run
