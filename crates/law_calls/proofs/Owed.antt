-- A reply and the panic that it owes are one event: the removals of both, and then what the panic adds.
use Rattle.std.proofs.Common.{ℕ, ◌≡◌, ◌<◌, ◌+◌, ◌==◌, Bool, true, false, cond, not, ◌&&◌, ◌||◌, List, [], ◌∷◌, ◌++◌, length, filter, get_or, arith, ◌∙◌, ap, sym, refl, subst}
use Rattle.std.proofs.lemmas.List.{length-map}
use Rattle.std.proofs.lemmas.List.Elements.{All-head, All-tail}
use Rattle.std.proofs.lemmas.List.Sums.{length-filter}
use Rattle.ffm_model.specs.declared.system.System.{System}
use Rattle.ffm_model.specs.declared.objects.PendingMessage.{PendingMessage}
use Rattle.ffm_model.specs.Names.{NamesSoFar, SlotName, is_same_connection, slots_kept, stays}
use Rattle.law_counting.proofs.Slots.{kept-length, same-self}
use Rattle.law_counting.proofs.Takes.{same_message}
use Rattle.spm_tables.specs.TablesView.{TablesView, held_message, spm_of}
use Rattle.law_calls.specs.Named.{FollowsNames, KeepsNames, NamesAre}
use Rattle.law_calls.proofs.Given.{given-on}
use Rattle.law_calls.proofs.KeptSlots.{any-at, message_list}
use Rattle.law_calls.proofs.Changes.{after-is, after-still, kept_names, names-length}
use Rattle.law_calls.proofs.Partings.{any-filter, like-kept}
use Rattle.std.specs.Prelude.{ℤ, pos, int_lt, is_some, All, if◌then◌else◌, Option, Some, None, option_and_then}
use Rattle.std.specs.Option.{option_map, option_map_or}
use Rattle.std.specs.Ordering.{int_eq}
use Rattle.std.proofs.lemmas.List.{append-nil}
use Rattle.std.proofs.lemmas.List.Folds.{list_any-append}
use Rattle.std.proofs.lemmas.Bool.{and_from, and_parts, and_right, not-false}
use Rattle.law_lists.proofs.Counts.{any-count, bit, count-filter-le, count-found, none-count}
use Rattle.law_lists.proofs.Tests.{find-passes}
use Rattle.ffm_model.specs.declared.constants.TheConstants.{PSA_IPC_CALL, PSA_IPC_CONNECT, PSA_IPC_DISCONNECT, PSA_ERROR_PROGRAMMER_ERROR, PSA_SUCCESS}
use Rattle.ffm_model.specs.declared.machine.Handle.{Handle}
use Rattle.ffm_model.specs.declared.objects.OpenConnection.{OpenConnection}
use Rattle.ffm_model.specs.declared.objects.ConnPhase.{ConnPhase}
use Rattle.ffm_model.specs.declared.objects.ConnPhase.TheVariants.{Error, Idle}
use Rattle.ffm_model.specs.declared.objects.ActorPhase.{ActorPhase}
use Rattle.ffm_model.specs.Actors.{is_partition, is_service_of, kind_of}
use Rattle.ffm_model.specs.Panic.{is_dead, panic_effect, disconnect_message}
use Rattle.ffm_model.specs.ServiceCalls.{answered, close_answered, connect_answered, is_connect_status, owes_panic, replied, with_request_phase}
use Rattle.law_calls.specs.Replies.{Answered, reply_on}
use Rattle.ffm_model.specs.Signals.{is_blocked}
use Rattle.ffm_model.specs.State.{SpmState, has_handle, message_held, phase_of, with_connection_phase, with_phase, without_connection, without_message}
use Rattle.law_counting.specs.Objects.{ObjectsFit}
use Rattle.law_counting.proofs.Losses.{after_panic, after_panic-is, disconnect_as, all_disconnects}
use Rattle.law_counting.proofs.Owed.{owed-request}
use Rattle.law_counting.proofs.Pairs.{count-split, member-counts}
use Rattle.law_calls.proofs.Removals.{fitting-messages}

-- two tests that agree keep the same slots
kept-same : (p r : PendingMessage → Bool) (ms : List PendingMessage) (ts : List SlotName) → All (λ m. p m ≡ r m) ms → slots_kept p ms ts ≡ slots_kept r ms ts
kept-same p r [] ts same = refl
kept-same p r (m ∷ ms) [] same = refl
kept-same p r (m ∷ ms) (t ∷ ts) same =
    ap (λ b. cond {A = List SlotName} b (t ∷ slots_kept p ms ts) (slots_kept p ms ts)) (All-head (λ x. p x ≡ r x) m ms same)
    ∙ ap (λ (us : List SlotName). cond {A = List SlotName} (r m) (t ∷ us) us) (kept-same p r ms ts (All-tail (λ x. p x ≡ r x) m ms same))

kept-none : (p : PendingMessage → Bool) (ms : List PendingMessage) → slots_kept p ms [] ≡ []
kept-none p [] = refl
kept-none p (m ∷ ms) = refl

-- what goes first doesn't stay afterwards either
kept-twice : (p r : PendingMessage → Bool) (ms : List PendingMessage) (ts : List SlotName) → All (λ m. r m ≡ false → p m ≡ false) ms → slots_kept p (filter r ms) (slots_kept r ms ts) ≡ slots_kept p ms ts
kept-twice p r [] ts gone = refl
kept-twice p r (m ∷ ms) [] gone = kept-none p (filter r (m ∷ ms))
kept-twice p r (m ∷ ms) (t ∷ ts) gone =
    let P : PendingMessage → Type 0 = λ x. r x ≡ false → p x ≡ false in
    let rest : slots_kept p (filter r ms) (slots_kept r ms ts) ≡ slots_kept p ms ts = kept-twice p r ms ts (All-tail P m ms gone) in
    let both : Bool → List SlotName = λ b. cond {A = List SlotName} b (t ∷ slots_kept p ms ts) (slots_kept p ms ts) in
    let go : (b : Bool) → r m ≡ b
    → slots_kept p (cond {A = List PendingMessage} b (m ∷ filter r ms) (filter r ms)) (cond {A = List SlotName} b (t ∷ slots_kept r ms ts) (slots_kept r ms ts)) ≡ both (p m) =
    elim [
      | true ↦ λ e. ap (λ (us : List SlotName). cond {A = List SlotName} (p m) (t ∷ us) us) rest
      | false ↦ λ e. rest ∙ ap both (sym (All-head P m ms gone e))
    ] in
    go (r m) refl

-- of messages that go or stay, those that stay are there
stay-part : (r : PendingMessage → Bool) (ms : List PendingMessage) → All (λ m. r m ≡ false → stays (filter r ms) m ≡ false) ms → All (λ m. stays (filter r ms) m ≡ r m) ms
stay-part r ms gone = λ i d lt.
    let m : PendingMessage = get_or ms i d in
    let go : (b : Bool) → r m ≡ b → stays (filter r ms) m ≡ b =
    elim [
      | true ↦ λ e. any-filter (same_message m) r ms ∙ any-at (λ x. r x && same_message m x) ms i d lt (and_from (r m) (same_message m m) e (same-self m))
      | false ↦ λ e. gone i d lt e
    ] in
    go (r m) refl

-- where the first change only removes messages, and no removed one is like one of the messages that are left then, or at the end
pub follows-joined : (s : System) (old mid new : TablesView) (r : PendingMessage → Bool) → FollowsNames s old mid → FollowsNames s mid new → (spm_of mid).messages ≡ filter r (spm_of old).messages
    → mid.connections.takes ≡ old.connections.takes → new.connections.takes ≡ mid.connections.takes
    → All (λ m. r m ≡ false → (stays (spm_of mid).messages m ≡ false) × (stays (spm_of new).messages m ≡ false)) (spm_of old).messages → FollowsNames s old new
follows-joined s old mid new r one two messages made still gone = λ k was.
    let ms : List PendingMessage = message_list old.messages.held in
    let ns : List PendingMessage = message_list new.messages.held in
    let ts : List SlotName = slots_kept r ms k.messages in
    let us : List SlotName = slots_kept (stays ns) ms k.messages in
    let number : length k.messages ≡ length ms = omega (arith, names-length old k was, length-map old.messages.held held_message) in
    let part : All (λ m. stays (filter r ms) m ≡ r m) ms = stay-part r ms (λ i d lt e. ap (λ (xs : List PendingMessage). stays xs (get_or ms i d)) (sym messages) ∙ (gone i d lt e).0) in
    let first_kept : kept_names old mid k.messages ≡ ts = ap (λ (xs : List PendingMessage). slots_kept (stays xs) ms k.messages) messages ∙ kept-same (stays (filter r ms)) r ms k.messages part in
    let short : length mid.messages.held ≡ length ts + 0 =
    omega (arith, length-map mid.messages.held held_message, ap (λ (xs : List PendingMessage). length xs) messages, length-filter r ms, kept-length r ms k.messages number) in
    let k' : NamesSoFar = record k { messages = ts } in
    let first : NamesAre mid k' = subst (NamesAre mid) (after-is s old mid k ts 0 first_kept short made) (one k was) in
    let second_kept : kept_names mid new ts ≡ us = ap (λ (xs : List PendingMessage). slots_kept (stays ns) xs ts) messages ∙ kept-twice (stays ns) r ms k.messages (λ i d lt e. (gone i d lt e).1) in
    subst (NamesAre new) (after-still s mid new k' us second_kept still ∙ sym (after-still s old new k us refl (still ∙ made))) (two k' first)

-- ---- a reply that owes a panic, in the machine's words

-- whatever the choice
either : {T : Type 0} (f : SpmState → T) (v : T) (x : Bool) (a b : SpmState) → f a ≡ v → f b ≡ v → f (if x then a else b) ≡ v
either f v true a b e g = e
either f v false a b e g = g

-- an answer leaves what no answer touches
answered-keeps : {T : Type 0} (f : SpmState → T) (s : System) (b : SpmState) (m : PendingMessage) (status : ℤ)
    → ((n : ℕ) (ph : ConnPhase) → f (with_connection_phase b n ph) ≡ f b) → ((n : ℕ) → f (without_connection b n) ≡ f b) → ((c : SpmState) (a : ℕ) (ph : ActorPhase) → f (with_phase c a ph) ≡ f c)
    → f (answered s b m status) ≡ f b
answered-keeps f s b m status put out set =
    let a : ℕ = m.client.0 in
    let on : (g : ℕ → SpmState) (o : Option ℕ) → ((n : ℕ) → f (g n) ≡ f b) → f (option_map_or g o b) ≡ f b = λ g. elim [ None ↦ λ k. refl | Some n ↦ λ k. k n ] in
    let request : (ph : ConnPhase) → f (with_request_phase b m ph) ≡ f b = λ ph. on (λ n. with_connection_phase b n ph) m.connection (λ n. put n ph) in
    either f (f b) (int_eq m.kind PSA_IPC_CONNECT) _ _
    (on (λ n. connect_answered b n m status) m.connection (λ n. either f (f b) (int_eq status PSA_SUCCESS) _ _ (set _ a _ ∙ put n _) (set _ a _ ∙ out n)))
    (either f (f b) (int_lt m.kind PSA_IPC_CALL) _ _
    (on (λ n. close_answered b n m) m.connection (λ n. either f (f b) (is_blocked (phase_of b a)) _ _ (set _ a _ ∙ out n) (out n)))
    (either f (f b) (int_eq status PSA_ERROR_PROGRAMMER_ERROR) _ _
    (either f (f b) (is_partition (kind_of s a)) _ _ (request Error) (set _ a _ ∙ request Error))
    (set _ a _ ∙ request Idle)))

record Owes (s : System) (b after : SpmState) (a : ℕ) (h : Handle) (status : ℤ) : Type 0 where
  pub m : PendingMessage
  pub found : message_held s b a h ≡ Some m
  pub owes : owes_panic s m status ≡ true
  pub is_after : replied s b h status m ≡ after

reply-parts : (s : System) (b after : SpmState) (a p : ℕ) (h : Handle) (status : ℤ) → reply_on s b a h status ≡ Some (record { spm = after; owing = Some p }) → Owes s b after a h status
reply-parts s b after a p h status e =
    let made : PendingMessage → Answered = λ m. record { spm = replied s b h status m; owing = if owes_panic s m status then Some m.client.0 else None } in
    let owing : (m : PendingMessage) (x : Bool) → owes_panic s m status ≡ x → (if x then Some m.client.0 else None) ≡ Some p → owes_panic s m status ≡ true =
    λ m. elim [ true ↦ λ f g. f | false ↦ λ f g. cc ] in
    let yes : (m : PendingMessage) → message_held s b a h ≡ Some m → made m ≡ record { spm = after; owing = Some p } → Owes s b after a h status =
    λ m found same. record {
      m = m;
      found = found;
      owes = owing m (owes_panic s m status) refl (ap (λ (x : Answered). x.owing) same);
      is_after = ap (λ (x : Answered). x.spm) same;
    } in
    let go : (o : Option PendingMessage) → message_held s b a h ≡ o
    → option_map made (option_and_then (λ m. if int_eq m.kind PSA_IPC_CONNECT && not (is_connect_status status) then None else Some m) o) ≡ Some (record { spm = after; owing = Some p }) → Owes s b after a h status =
    elim [
      | None ↦ λ f g. cc
      | Some m ↦ λ f.
          let chosen : (x : Bool) → option_map made (if x then None else Some m) ≡ Some (record { spm = after; owing = Some p }) → Owes s b after a h status =
          elim [ true ↦ λ g. cc | false ↦ λ g. yes m f (same_made (made m) (record { spm = after; owing = Some p }) g) ] in
          chosen (int_eq m.kind PSA_IPC_CONNECT && not (is_connect_status status))
    ] in
    go (message_held s b a h) refl e where
      same_made : (x y : Answered) → Some x ≡ Some y → x ≡ y
      same_made x y g = cc

-- a request is like no disconnection
no-disconnect : (s : System) (p : ℕ) (n : PendingMessage) (cs : List OpenConnection) → int_eq PSA_IPC_DISCONNECT n.kind ≡ false → stays (all_disconnects s p cs) n ≡ false
no-disconnect s p n [] off = refl
no-disconnect s p n (c ∷ cs) off =
    let here : (o k : Bool) (ph : ConnPhase) → stays (disconnect_as o k ph c) n ≡ false =
    elim [
      | true ↦ λ k ph. refl
      | false ↦ elim [
        | true ↦ λ ph.
            let go : (x : Bool) → stays (if x then [] else disconnect_message c ∷ []) n ≡ false = elim [ true ↦ refl | false ↦ ap (λ b. b || false) (and_right (is_same_connection (Some c.serial) n.connection) _ (and_right (is_some n.connection || (c.client.0 == n.client.0)) (int_eq PSA_IPC_DISCONNECT n.kind) off)) ] in
            go (is_dead ph)
        | false ↦ λ ph. refl
      ]
    ] in
    list_any-append (same_message n) (disconnect_as (is_service_of s p c.service) (c.client.0 == p) c.phase c) (all_disconnects s p cs)
    ∙ ap (λ b. b || stays (all_disconnects s p cs) n) (here (is_service_of s p c.service) (c.client.0 == p) c.phase) ∙ no-disconnect s p n cs off

off-filter : (n : PendingMessage) (r : PendingMessage → Bool) (ms : List PendingMessage) → stays ms n ≡ false → stays (filter r ms) n ≡ false
off-filter n r ms off =
    let go : (x : Bool) → stays (filter r ms) n ≡ x → x ≡ false =
    elim [ true ↦ λ e. absurd (omega (arith, any-count (same_message n) (filter r ms) e, count-filter-le (same_message n) r ms, none-count (same_message n) ms off)) | false ↦ λ e. refl ] in
    go (stays (filter r ms) n) refl

request_kind : (k : ℤ) (n : ℕ) → k ≡ pos n → int_eq PSA_IPC_DISCONNECT k ≡ false
request_kind k n e = ap (int_eq PSA_IPC_DISCONNECT) e

-- the message of a handle is the one that was answered, so a request where that is one
held-request : (s : System) (b : SpmState) (a : ℕ) (h : Handle) (m : PendingMessage) (i : ℕ) (d : PendingMessage) → ObjectsFit s b → message_held s b a h ≡ Some m → int_eq PSA_IPC_DISCONNECT m.kind ≡ false
    → i < length b.messages → has_handle (get_or b.messages i d).handle h ≡ true → int_eq PSA_IPC_DISCONNECT (get_or b.messages i d).kind ≡ false
held-request s b a h m i d fits found request lt shown =
    let n : PendingMessage = get_or b.messages i d in
    let P : PendingMessage → Bool = λ x. has_handle x.handle h in
    let D : PendingMessage → Bool = λ x. int_eq PSA_IPC_DISCONNECT x.kind in
    let finder : PendingMessage → Bool = λ x. is_service_of s a x.service && has_handle x.handle h in
    let own : has_handle m.handle h ≡ true = (and_parts (is_service_of s a m.service) (has_handle m.handle h) (find-passes finder b.messages m found)).1 in
    let passes : (not (D m) && P m) ≡ true = and_from (not (D m)) (P m) (ap not request) own in
    let none : bit (D n && P n) ≡ 0 =
    omega (
      arith,
      member-counts (λ x. D x && P x) b.messages i d lt,
      count-found finder (λ x. not (D x) && P x) b.messages m found,
      ap bit passes,
      count-split D P b.messages,
      fits.handles h,
    ) in
    let go : (x : Bool) → D n ≡ x → x ≡ false = elim [ true ↦ λ e. absurd (omega (arith, none, ap bit (and_from (D n) (P n) e shown))) | false ↦ λ e. refl ] in
    go (D n) refl

-- a reply, and the panic of the client that it owes
pub follows-owed : (s : System) (old mid new : TablesView) (a p : ℕ) (h : Handle) (status : ℤ) → ObjectsFit s (spm_of old) → reply_on s (spm_of old) a h status ≡ Some (record { spm = spm_of mid; owing = Some p })
    → spm_of new ≡ panic_effect s (spm_of mid) p → FollowsNames s old mid → FollowsNames s mid new → FollowsNames s old new
follows-owed s old mid new a p h status fits reply effect one two =
    let b : SpmState = spm_of old in
    let ms : List PendingMessage = b.messages in
    let r : PendingMessage → Bool = λ x. not (has_handle x.handle h) in
    let it : Owes s b (spm_of mid) a h status = reply-parts s b (spm_of mid) a p h status reply in
    let messages : (spm_of mid).messages ≡ filter r ms =
    ap (λ (x : SpmState). x.messages) (sym it.is_after) ∙ answered-keeps (λ x. x.messages) s (without_message b h) it.m status (λ n ph. refl) (λ n. refl) (λ c i ph. refl) in
    let made : mid.connections.takes ≡ old.connections.takes =
    ap (λ (x : SpmState). x.connections_made) (sym it.is_after) ∙ answered-keeps (λ x. x.connections_made) s (without_message b h) it.m status (λ n ph. refl) (λ n. refl) (λ c i ph. refl) in
    let is_new : spm_of new ≡ after_panic s (spm_of mid) p = effect ∙ after_panic-is s (spm_of mid) p in
    let svc : PendingMessage → Bool = λ x. not (is_service_of s p x.service) in
    let last : (spm_of new).messages ≡ filter svc (spm_of mid).messages ++ all_disconnects s p (spm_of mid).connections = ap (λ (x : SpmState). x.messages) is_new in
    let request : int_eq PSA_IPC_DISCONNECT it.m.kind ≡ false = owed-request s it.m status (int_eq PSA_IPC_DISCONNECT it.m.kind ≡ false) it.owes (λ n e. request_kind it.m.kind n e) in
    follows-joined s old mid new r one two messages made (ap (λ (x : SpmState). x.connections_made) is_new)
    (λ i d lt off.
    let n : PendingMessage = get_or ms i d in
    let shown : has_handle n.handle h ≡ true = not-false (has_handle n.handle h) off in
    let left : stays (spm_of mid).messages n ≡ false =
    ap (λ (xs : List PendingMessage). stays xs n) (messages ∙ sym (append-nil (filter r ms)))
    ∙ like-kept same_message same-self r ms [] (fitting-messages s b fits) (λ j e k g. refl) i d lt ∙ off in (
      left,
      ap (λ (xs : List PendingMessage). stays xs n) last
          ∙ list_any-append (same_message n) (filter svc (spm_of mid).messages) (all_disconnects s p (spm_of mid).connections)
          ∙ ap (λ x. x || stays (all_disconnects s p (spm_of mid).connections) n) (off-filter n svc (spm_of mid).messages left)
          ∙ no-disconnect s p n (spm_of mid).connections (held-request s b a h it.m i d fits it.found request lt shown),
    ))

pub names-owed : (s : System) (old mid new : TablesView) (a p : ℕ) (h : Handle) (status : ℤ) → ObjectsFit s (spm_of old) → reply_on s (spm_of old) a h status ≡ Some (record { spm = spm_of mid; owing = Some p })
    → spm_of new ≡ panic_effect s (spm_of mid) p → KeepsNames s old mid → KeepsNames s mid new → KeepsNames s old new
names-owed s old mid new a p h status fits reply effect one two = record {
  names = follows-owed s old mid new a p h status fits reply effect one.names two.names;
  given = given-on old mid new one.given two.given;
}
