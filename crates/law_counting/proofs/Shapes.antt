-- What each kind of change leaves of serial numbers, handles and the order of messages.
use Rattle.std.proofs.Common.{ℕ, suc, ◌≡◌, ◌<◌, ◌≤◌, ◌+◌, ◌==◌, Bool, true, false, cond, not, ◌&&◌, ◌||◌, List, [], ◌∷◌, ◌++◌, length, get_or, ◌⊎◌, inl, inr, arith, ◌∙◌, ap, sym, refl, subst}
use Rattle.std.specs.Prelude.{ℤ, pos, count_by, find, nat_lt, is_some, Option, Some, None, map, filter, if◌then◌else◌}
use Rattle.std.specs.List.{list_any}
use Rattle.std.specs.Option.{option_map_or}
use Rattle.std.specs.Ordering.{int_eq}
use Rattle.std.proofs.lemmas.Bool.Decides.{nat_tests}
use Rattle.std.proofs.lemmas.List.{append-nil}
use Rattle.std.proofs.lemmas.List.Folds.{list_any-append}
use Rattle.std.proofs.lemmas.List.Sums.{count_by-le-length}
use Rattle.law_lists.proofs.Counts.{bit, both-le-left, count-ext, count-filter-le, count-le, count-map-same, count-push}
use Rattle.ffm_model.specs.declared.constants.TheConstants.{PSA_ERROR_COMMUNICATION_FAILURE, PSA_IPC_DISCONNECT}
use Rattle.ffm_model.specs.declared.system.System.{System}
use Rattle.ffm_model.specs.declared.machine.Call.{Call}
use Rattle.ffm_model.specs.declared.machine.Call.TheVariants as call
use Rattle.ffm_model.specs.declared.machine.Handle.{Handle}
use Rattle.ffm_model.specs.declared.machine.Message.{Message}
use Rattle.ffm_model.specs.declared.machine.Outcome.{Outcome}
use Rattle.ffm_model.specs.declared.machine.Outcome.TheVariants as outcome
use Rattle.ffm_model.specs.declared.objects.OpenConnection.{OpenConnection}
use Rattle.ffm_model.specs.declared.objects.PendingMessage.{PendingMessage}
use Rattle.ffm_model.specs.declared.objects.ConnPhase.{ConnPhase}
use Rattle.ffm_model.specs.declared.objects.ConnPhase.TheVariants.{Idle, Busy, Closing}
use Rattle.ffm_model.specs.declared.objects.ActorPhase.TheVariants.{Blocked, Connected}
use Rattle.ffm_model.specs.Actors.{is_service_of}
use Rattle.ffm_model.specs.State.{SpmState, phase_of, handle_eq, has_handle, is_undelivered, handle_put, vectors_put, delivered, message_held, with_phase, with_request, without_connection}
use Rattle.ffm_model.specs.Panic.{is_dead, panic_effect, disconnect_message}
use Rattle.ffm_model.specs.ClientCalls.{Move, move, call_on, close_on, is_service_panicked, new_connection}
use Rattle.ffm_model.specs.ServiceCalls.{service_of_signal}
use Rattle.ffm_model.specs.Step.{handle_shown}
use Rattle.ffm_model.specs.Names.{is_same_connection, stays}
use Rattle.law_counting.specs.Objects.{ObjectsFit, awaited_by, awaited_of, accepted_as, is_awaited}
use Rattle.law_counting.specs.Pairs.{is_numbered}
use Rattle.law_counting.proofs.Balance.{Balanced, balanced-fit}
use Rattle.law_counting.proofs.Parts.{off_from, on_left, running-quiet}
use Rattle.law_counting.proofs.Bounds.{count-all}
use Rattle.law_counting.proofs.Pairs.{carries, count-sum, member-counts, none-counts}
use Rattle.law_counting.proofs.Resume.{times, put-same}
use Rattle.law_counting.proofs.Reply.{settled, settled-keeps, message-out}
use Rattle.law_counting.proofs.Losses.{disconnect_as, all_disconnects, after_panic-is}
use Rattle.law_counting.proofs.Panic.{left-le}
use Rattle.law_counting.proofs.Turns.{settled-cases}
use Rattle.law_counting.proofs.Takes.{same_message, filter-all, length-filter}
use Rattle.law_counting.proofs.Slots.{one-each, stays-most}
use Rattle.law_counting.proofs.Keeps.{ready-quiet, request-ready}
use Rattle.law_counting.proofs.Events.{EachKind}

-- a test of a serial number and a handle passes no more connections than before, but for one that is made
abbrev pub Connects : SpmState → SpmState → Type 0
Connects b new = (q : ℕ → Option Handle → Bool) → (nat_lt b.connections_made new.connections_made ≡ true → q b.connections_made None ≡ false)
    → count_by (λ c. q c.serial c.handle) new.connections ≤ count_by (λ c. q c.serial c.handle) b.connections

-- those messages stay that pass q, in their order and but for their vectors, and others come after them
pub record Ordered (b new : SpmState) : Type 0 where
  pub q : PendingMessage → Bool
  pub f : PendingMessage → PendingMessage
  pub added : List PendingMessage
  pub messages : new.messages ≡ map f (filter q b.messages) ++ added
  pub connection : (m : PendingMessage) → (f m).connection ≡ m.connection
  pub service : (m : PendingMessage) → (f m).service ≡ m.service
  pub client : (m : PendingMessage) → (f m).client.0 ≡ m.client.0
  pub kind : (m : PendingMessage) → (f m).kind ≡ m.kind
  pub handle : (m : PendingMessage) → (f m).handle ≡ m.handle
  pub exact : count_by (stays new.messages) b.messages ≤ count_by q b.messages

pub record Quiet (b new : SpmState) (given all : List Handle) : Type 0 where
  pub same : all ≡ given
  pub connects : Connects b new
  pub ordered : Ordered b new

-- the return of psa_connect tells a connection's handle
pub record Joined (b new : SpmState) (given all : List Handle) (a : ℕ) (d : Call) (o : Outcome) : Type 0 where
  pub serial : ℕ
  pub h : Handle
  pub is_return : d ≡ call.Resume
  pub phase : phase_of b a ≡ Connected serial
  pub shown : handle_shown o ≡ h
  pub fresh : list_any (handle_eq h) given ≡ false
  pub added : all ≡ given ++ h ∷ []
  pub connections : new.connections ≡ map (handle_put serial h) b.connections
  pub messages : new.messages ≡ b.messages
  pub made : new.connections_made ≡ b.connections_made

-- psa_get tells a message's handle
pub record Got (s : System) (b new : SpmState) (given all : List Handle) (a : ℕ) (d : Call) (o : Outcome) : Type 0 where
  pub signal : ℕ
  pub msg : ℕ
  pub service : ℕ
  pub h : Handle
  pub is_get : d ≡ call.Get signal msg
  pub message : Message
  pub is_got : o ≡ outcome.Got message
  pub found : service_of_signal s a signal ≡ Some service
  pub first : PendingMessage
  pub place : find (is_undelivered service) b.messages ≡ Some first
  pub shown : handle_shown o ≡ h
  pub fresh : list_any (handle_eq h) given ≡ false
  pub added : all ≡ given ++ h ∷ []
  pub connections : new.connections ≡ b.connections
  pub messages : new.messages ≡ delivered service h b.messages
  pub made : new.connections_made ≡ b.connections_made

abbrev pub Shape : System → SpmState → List Handle → ℕ → Call → Outcome → SpmState → List Handle → Type 0
Shape s b given a d o new all = Quiet b new given all ⊎ Joined b new given all a d o ⊎ Got s b new given all a d o

-- ---- connections

pub map-same : {X : Type 0} (f : X → X) → ((x : X) → f x ≡ x) → (xs : List X) → map f xs ≡ xs
map-same f e [] = refl
map-same {X = X} f e (x ∷ xs) = ap (λ (y : X). y ∷ map f xs) (e x) ∙ ap (λ (ys : List X). x ∷ ys) (map-same f e xs)

-- no more stay than there are
pub all-stay : (ns ms : List PendingMessage) → count_by (stays ns) ms ≤ count_by (λ m. true) ms
all-stay ns ms = omega (arith, count_by-le-length (stays ns) ms, count-all ms)

-- those that pass q stay as they were
unchanged : (b new : SpmState) (q : PendingMessage → Bool) (sent : List PendingMessage) → new.messages ≡ filter q b.messages ++ sent → count_by (stays new.messages) b.messages ≤ count_by q b.messages → Ordered b new
unchanged b new q sent e exact = record {
  q = q;
  f = λ m. m;
  added = sent;
  messages = e ∙ ap (λ (ms : List PendingMessage). ms ++ sent) (sym (map-same (λ m. m) (λ m. refl) (filter q b.messages)));
  connection = λ m. refl;
  service = λ m. refl;
  client = λ m. refl;
  kind = λ m. refl;
  handle = λ m. refl;
  exact = exact;
}

-- the same messages, whatever else
still : (b new : SpmState) → new.messages ≡ b.messages → Ordered b new
still b new e = unchanged b new (λ m. true) [] (e ∙ filter-all b.messages ∙ sym (append-nil (filter (λ m. true) b.messages))) (all-stay new.messages b.messages)

-- one message more
pushed : (b new : SpmState) (x : PendingMessage) → new.messages ≡ b.messages ++ x ∷ [] → Ordered b new
pushed b new x e = unchanged b new (λ m. true) (x ∷ []) (e ∙ ap (λ (ms : List PendingMessage). ms ++ x ∷ []) (filter-all b.messages)) (all-stay new.messages b.messages)

-- some messages go
fewer : (s : System) (b new : SpmState) (q : PendingMessage → Bool) → ObjectsFit s b → new.messages ≡ filter q b.messages → Ordered b new
fewer s b new q fit e =
    unchanged b new q [] (e ∙ sym (append-nil (filter q b.messages)))
    (omega (
      arith,
      ap (λ (ms : List PendingMessage). count_by (stays ms) b.messages) e,
      stays-most b.messages (filter q b.messages) (one-each s b fit),
      length-filter q b.messages,
    ))

-- two tests one after the other are one
pub filter-twice : {X : Type 0} (q r : X → Bool) (xs : List X) → filter r (filter q xs) ≡ filter (λ x. q x && r x) xs
filter-twice q r [] = refl
filter-twice {X = X} q r (x ∷ xs) =
    let go : (a : Bool) → filter r (cond {A = List X} a (x ∷ filter q xs) (filter q xs)) ≡ cond {A = List X} (a && r x) (x ∷ filter (λ y. q y && r y) xs) (filter (λ y. q y && r y) xs) =
    elim [ true ↦ ap (λ (ys : List X). cond {A = List X} (r x) (x ∷ ys) ys) (filter-twice q r xs) | false ↦ filter-twice q r xs ] in
    go (q x)

connection_blind : (n : ℕ) (f : OpenConnection → OpenConnection) (q : ℕ → Option Handle → Bool) → ((c : OpenConnection) → (f c).serial ≡ c.serial) → ((c : OpenConnection) → (f c).handle ≡ c.handle) → (cs : List OpenConnection)
    → count_by (λ c. q c.serial c.handle) (map (λ c. if c.serial == n then f c else c) cs) ≡ count_by (λ c. q c.serial c.handle) cs
connection_blind n f q serial handle cs =
    count-map-same (λ c. q c.serial c.handle) (λ c. if c.serial == n then f c else c)
    (put-same (λ c. c.serial == n) (λ c. q c.serial c.handle) f (λ c. let x : (f c).serial ≡ c.serial = serial c in let y : (f c).handle ≡ c.handle = handle c in cc)) cs

-- ---- replies and panics

pub record Reduced (b new : SpmState) (r : PendingMessage → Bool) : Type 0 where
  pub messages : new.messages ≡ filter r b.messages
  pub connects : (q : ℕ → Option Handle → Bool) → count_by (λ c. q c.serial c.handle) new.connections ≤ count_by (λ c. q c.serial c.handle) b.connections

settled-reduces : (s : System) (limit : Handle → ℕ) (b : SpmState) (p : ℕ) (h : Handle) (status : ℤ) (m : PendingMessage) → Balanced s limit b → message_held s b p h ≡ Some m
    → Reduced b (settled b h status m) (λ n. not (has_handle n.handle h))
settled-reduces s limit b p h status m balanced found =
    settled-cases s limit b p h status m balanced found (λ new. Reduced b new (λ n. not (has_handle n.handle h)))
    (λ n ph q blocked told. record { messages = refl; connects = λ t. omega (arith, connection_blind n (λ c. record c { phase = ph }) t (λ c. refl) (λ c. refl) b.connections) })
    (λ n q blocked told. record { messages = refl; connects = λ t. count-filter-le (λ c. t c.serial c.handle) (λ c. not (c.serial == n)) b.connections })
    (λ n. record { messages = refl; connects = λ t. count-filter-le (λ c. t c.serial c.handle) (λ c. not (c.serial == n)) b.connections })
    (λ q blocked told. record { messages = refl; connects = λ t. omega arith })

-- a connection that awaits no answer has no message
quiet-messages : (s : System) (b : SpmState) (p : ℕ) → ObjectsFit s b → count_by (awaited_of p) b.connections ≡ 0 → (i : ℕ) (d : OpenConnection) → i < length b.connections → ((get_or b.connections i d).client.0 == p) ≡ true
    → count_by (is_numbered (get_or b.connections i d).serial) b.messages ≡ 0
quiet-messages s b p fit quiet i d lt mine =
    let c : OpenConnection = get_or b.connections i d in
    let off : is_awaited c.phase ≡ false = off_from _ (omega (arith, member-counts (awaited_of p) b.connections i d lt, quiet, on_left (c.client.0 == p) (is_awaited c.phase) mine)) in
    carries s b fit i d lt ∙ ap (λ (x : Bool). cond x 1 0) off

-- a request is no disconnection
other-kind : (x y : Bool) (k l : ℤ) (n : ℕ) → k ≡ PSA_IPC_DISCONNECT → l ≡ pos n → (x && (y && int_eq k l)) ≡ false
other-kind x y k l n e f =
    let apart : int_eq k l ≡ false = ap (λ (z : ℤ). int_eq z l) e ∙ ap (λ (z : ℤ). int_eq PSA_IPC_DISCONNECT z) f in
    let go : (x y : Bool) → (x && (y && int_eq k l)) ≡ false = elim [ true ↦ elim [ true ↦ apart | false ↦ refl ] | false ↦ λ y. refl ] in
    go x y

-- a disconnection that a panic sends stands for no message that was there
sent-apart : (p : ℕ) (old : List PendingMessage) (c : OpenConnection) (o k : Bool) (ph : ConnPhase) → (k ≡ true → count_by (λ m. same_message m (disconnect_message c)) old ≡ 0) → count_by (stays (disconnect_as o k ph c)) old ≡ 0
sent-apart p old c true k ph none = none-counts (stays []) (λ m. refl) old
sent-apart p old c false false ph none = none-counts (stays []) (λ m. refl) old
sent-apart p old c false true ph none =
    let or_false : (x : Bool) → (x || false) ≡ x = elim [ true ↦ refl | false ↦ refl ] in
    let go : (x : Bool) → count_by (stays (cond {A = List PendingMessage} x [] (disconnect_message c ∷ []))) old ≡ 0 =
    elim [ true ↦ none-counts (stays []) (λ m. refl) old | false ↦ count-ext (stays (disconnect_message c ∷ [])) (λ m. same_message m (disconnect_message c)) (λ m. or_false (same_message m (disconnect_message c))) old ∙ none refl ] in
    go (is_dead ph)

stays-append : (xs ys old : List PendingMessage) → count_by (stays (xs ++ ys)) old ≤ count_by (stays xs) old + count_by (stays ys) old
stays-append xs ys old =
    let either : (x y : Bool) → bit (x || y) ≤ bit x + bit y = elim [ true ↦ λ y. omega arith | false ↦ λ y. omega arith ] in
    count-sum (stays (xs ++ ys)) (stays xs) (stays ys) (λ m. omega (arith, ap bit (list_any-append (same_message m) xs ys), either (stays xs m) (stays ys m))) old

all-sent-apart : (s : System) (p : ℕ) (old : List PendingMessage) (cs : List OpenConnection)
    → ((i : ℕ) (d : OpenConnection) → i < length cs → ((get_or cs i d).client.0 == p) ≡ true → count_by (λ m. same_message m (disconnect_message (get_or cs i d))) old ≡ 0) → count_by (stays (all_disconnects s p cs)) old ≡ 0
all-sent-apart s p old [] none = none-counts (stays []) (λ m. refl) old
all-sent-apart s p old (c ∷ cs) none =
    omega (
      arith,
      stays-append (disconnect_as (is_service_of s p c.service) (c.client.0 == p) c.phase c) (all_disconnects s p cs) old,
      sent-apart p old c (is_service_of s p c.service) (c.client.0 == p) c.phase (λ e. none 0 c (omega arith) e),
      all-sent-apart s p old cs (λ i d lt e. none (suc i) d (omega (arith, lt)) e),
    )

-- the disconnection of a connection is numbered like it
sent-numbered : (n : ℕ) (o : Option ℕ) (x : Bool) → bit (is_same_connection (Some n) o && x) ≤ bit (option_map_or (λ k. n == k) o false)
sent-numbered n (Some k) x = both-le-left (n == k) x
sent-numbered n None x = omega arith

panic-shape : (s : System) (b mid : SpmState) (r : PendingMessage → Bool) (p : ℕ) (given : List Handle) → Reduced b mid r → ObjectsFit s b → ObjectsFit s mid → awaited_by mid.connections mid.messages p ≡ 0
    → ((g : PendingMessage) → g.kind ≡ PSA_IPC_DISCONNECT → count_by (λ m. same_message m g) b.messages ≤ count_by (λ m. same_message m g) mid.messages) → Quiet b (panic_effect s mid p) given given
panic-shape s b mid r p given it fit fit_mid quiet only =
    let q : PendingMessage → Bool = λ m. not (is_service_of s p m.service) in
    let both : PendingMessage → Bool = λ m. r m && q m in
    let sent : List PendingMessage = all_disconnects s p mid.connections in
    let order : filter q mid.messages ++ sent ≡ filter both b.messages ++ sent =
    ap (λ (ms : List PendingMessage). filter q ms ++ sent) it.messages ∙ ap (λ (ms : List PendingMessage). ms ++ sent) (filter-twice r q b.messages) in
    let apart : count_by (stays sent) b.messages ≡ 0 =
    all-sent-apart s p b.messages mid.connections
    (λ i d lt e.
    let c : OpenConnection = get_or mid.connections i d in
    omega (
      arith,
      only (disconnect_message c) refl,
      count-le (λ m. same_message m (disconnect_message c)) (is_numbered c.serial) (λ m. sent-numbered c.serial m.connection ((is_some m.connection || (c.client.0 == m.client.0)) && int_eq PSA_IPC_DISCONNECT m.kind)) mid.messages,
      quiet-messages s mid p fit_mid (omega (arith, quiet)) i d lt e,
    )) in
    subst (λ (x : SpmState). Quiet b x given given) (sym (after_panic-is s mid p)) (record {
      same = refl;
      connects = λ t less. omega (arith, left-le s p (λ c. t c.serial c.handle) (λ c ph. refl) mid.connections, it.connects t);
      ordered = unchanged b _ both sent order
          (omega (
            arith,
            ap (λ (ms : List PendingMessage). count_by (stays ms) b.messages) order,
            stays-append (filter both b.messages) sent b.messages,
            stays-most b.messages (filter both b.messages) (one-each s b fit),
            length-filter both b.messages,
            apart,
          ));
    })

-- ---- each kind of change

same-shape : (b new : SpmState) (given : List Handle) → new.messages ≡ b.messages → new.connections ≡ b.connections → Quiet b new given given
same-shape b new given messages connections = record {
  same = refl;
  connects = λ q less. omega (arith, ap (λ (cs : List OpenConnection). count_by (λ c. q c.serial c.handle) cs) connections);
  ordered = still b new messages;
}

vectors-field : {X : Type 0} (get : PendingMessage → X) (h : Handle) (f : PendingMessage → PendingMessage) → ((m : PendingMessage) → get (f m) ≡ get m) → (m : PendingMessage) → get (if has_handle m.handle h then f m else m) ≡ get m
vectors-field {X = X} get h f same m =
    let go : (b : Bool) → get (if b then f m else m) ≡ get m = elim [ true ↦ same m | false ↦ refl ] in
    go (has_handle m.handle h)

pub kinds-shape : (s : System) (b : SpmState) (given : List Handle) (a : ℕ) (d : Call) → Balanced s (times given) b → EachKind s b given a d (λ o new all. Shape s b given a d o new all)
kinds-shape s b given a d h =
    let fit : ObjectsFit s b = balanced-fit s (times given) b h in
    record {
      beside = λ running o doorbells sources plain. inl (same-shape b _ given refl refl);
      waits = λ running mask. inl (same-shape b _ given refl refl);
      ends = λ running. inl (same-shape b _ given refl refl);
      wakes = λ mask n e. inl (same-shape b _ given refl refl);
      returns = λ o e. inl (same-shape b _ given refl refl);
      joins = λ is n k e new.
          inr (inl (record { serial = n; h = k; is_return = is; phase = e; shown = refl; fresh = new; added = refl; connections = refl; messages = refl; made = refl }));
      connects = λ running v free. inl (record {
        same = refl;
        connects = λ q less.
            let yes : nat_lt b.connections_made (b.connections_made + 1) ≡ true = grind (arith, nat_tests) in
            omega (arith, count-push (λ c. q c.serial c.handle) b.connections (new_connection b a v), ap bit (less yes));
        ordered = pushed b _ _ refl;
      });
      calls = λ running k c n v held takes.
          let go : (x : Bool) → Quiet b (cond {A = Move} x (move (outcome.Value PSA_ERROR_COMMUNICATION_FAILURE) b) (call_on b a (record c { phase = Idle }) (pos n) v)).spm given given =
          elim [
            | true ↦ same-shape b b given refl refl
            | false ↦ record {
              same = refl;
              connects = λ q less. omega (arith, connection_blind c.serial (λ x. record x { phase = Busy }) q (λ x. refl) (λ x. refl) b.connections);
              ordered = pushed b _ _ refl;
            }
          ] in
          inl (go (is_dead c.phase));
      asks = λ running v n vs stateless may.
          let go : (x : Bool) → Quiet b (cond {A = Move} x (move (outcome.Value PSA_ERROR_COMMUNICATION_FAILURE) b) (move outcome.Blocked (with_phase (with_request b a v (pos n) vs) a Blocked))).spm given given =
          elim [ true ↦ same-shape b b given refl refl | false ↦ record { same = refl; connects = λ q less. omega arith; ordered = pushed b _ _ refl } ] in
          inl (go (is_service_panicked s b v));
      closes = λ running k c held.
          let go : (x : Bool) → Quiet b (cond {A = Move} x (move outcome.Done (without_connection b c.serial)) (close_on b a (record c { phase = Idle }))).spm given given =
          elim [
            | true ↦ record {
              same = refl;
              connects = λ q less. count-filter-le (λ x. q x.serial x.handle) (λ x. not (x.serial == c.serial)) b.connections;
              ordered = still b (without_connection b c.serial) refl;
            }
            | false ↦ record {
              same = refl;
              connects = λ q less. omega (arith, connection_blind c.serial (λ x. record x { phase = Closing }) q (λ x. refl) (λ x. refl) b.connections);
              ordered = pushed b _ _ refl;
            }
          ] in
          inl (go (is_dead c.phase));
      gets = λ running signal msg v is has first at k shown tells new.
          inr (inr (record { signal = signal; msg = msg; service = v; h = k; is_get = is; message = shown; is_got = refl; found = has; first = first; place = at; shown = tells; fresh = new; added = refl; connections = refl; messages = refl; made = refl }));
      moves = λ running o k v plain. inl (record {
        same = refl;
        connects = λ q less. omega arith;
        ordered = record {
          q = λ m. true;
          f = vectors_put k v;
          added = [];
          messages = ap (λ (ms : List PendingMessage). map (vectors_put k v) ms) (filter-all b.messages) ∙ sym (append-nil (map (vectors_put k v) (filter (λ m. true) b.messages)));
          connection = vectors-field (λ m. m.connection) k (λ m. record m { vectors = v }) (λ m. refl);
          service = vectors-field (λ m. m.service) k (λ m. record m { vectors = v }) (λ m. refl);
          client = vectors-field (λ m. m.client.0) k (λ m. record m { vectors = v }) (λ m. refl);
          kind = vectors-field (λ m. m.kind) k (λ m. record m { vectors = v }) (λ m. refl);
          handle = vectors-field (λ m. m.handle) k (λ m. record m { vectors = v }) (λ m. refl);
          exact = all-stay (map (vectors_put k v) b.messages) b.messages;
        };
      });
      marks = λ running n r. inl (record {
        same = refl;
        connects = λ q less. omega (arith, connection_blind n (λ x. record x { rhandle = r }) q (λ x. refl) (λ x. refl) b.connections);
        ordered = still b _ refl;
      });
      replies = λ running k status m held.
          let it : Reduced b (settled b k status m) (λ n. not (has_handle n.handle k)) = settled-reduces s (times given) b a k status m h held in
          inl (record { same = refl; connects = λ q less. it.connects q; ordered = fewer s b (settled b k status m) (λ n. not (has_handle n.handle k)) fit it.messages });
      owes = λ running k status m n held kind.
          let told : SpmState = settled b k status m in
          let kept : Balanced s (times given) told = settled-keeps s (times given) b a k status m h held in
          let ready = request-ready s (times given) b a k status m n h held kind in
          let it : Reduced b told (λ x. not (has_handle x.handle k)) = settled-reduces s (times given) b a k status m h held in
          inl (panic-shape s b told (λ x. not (has_handle x.handle k)) m.client.0 given it fit (balanced-fit s (times given) told kept)
          (ready-quiet (phase_of told m.client.0) ready.0 _ _ (λ z. count_by (accepted_as m.client.0 z) told.connections) ready.1 (kept.fitting m.client.0))
          (λ g is.
          let other : same_message m g ≡ false = other-kind (is_same_connection g.connection m.connection) (is_some m.connection || (g.client.0 == m.client.0)) g.kind m.kind n is kind in
          omega (
            arith,
            message-out s (times given) b a k m h held (λ x. same_message x g),
            ap bit other,
            ap (λ (ms : List PendingMessage). count_by (λ x. same_message x g) ms) it.messages,
          )));
      panics = λ running.
          inl (panic-shape s b b (λ x. true) a given (record { messages = filter-all b.messages; connects = λ q. omega arith }) fit fit
          (running-quiet (phase_of b a) _ _ (λ n. count_by (accepted_as a n) b.connections) running (h.fitting a)) (λ g is. omega arith));
    }
