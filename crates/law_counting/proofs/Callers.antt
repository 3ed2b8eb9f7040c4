-- At most one message for each connection, and one more for each actor that may use a stateless service.
use Rattle.std.proofs.Common.{ℕ, zero, suc, ◌≡◌, ◌≤◌, ◌+◌, ◌==◌, Bool, true, false, not, ◌&&◌, length, get_or, arith, ◌∙◌, ap, sym, refl}
use Rattle.std.specs.Prelude.{count_by, find, nat_lt, int_le, is_none, is_some, Option, Some, None}
use Rattle.std.specs.List.{range_with_len}
use Rattle.std.specs.Option.{option_map, option_map_or}
use Rattle.std.proofs.lemmas.Bool.Decides.{nat_tests}
use Rattle.std.proofs.lemmas.List.Folds.{list_any_none}
use Rattle.std.proofs.lemmas.List.Sums.{count_by-le-length}
use Rattle.std.proofs.lemmas.Bool.{and_from, and_parts, and_right, eqb-true}
use Rattle.law_lists.proofs.Counts.{bit, count-found, count-le, count-push, some-any, some-found}
use Rattle.law_lists.proofs.Tests.{find-list_all, find-passes}
use Rattle.law_lists.proofs.Lists.{range_with_len-more}
use Rattle.ffm_model.specs.declared.constants.TheConstants.{PSA_IPC_CALL}
use Rattle.ffm_model.specs.declared.system.System.{System}
use Rattle.ffm_model.specs.declared.system.Budget.{Budget}
use Rattle.ffm_model.specs.declared.objects.PendingMessage.{PendingMessage}
use Rattle.ffm_model.specs.Actors.{is_stateless, permits}
use Rattle.ffm_model.specs.State.{SpmState}
use Rattle.ffm_model.specs.Names.{calls_stateless, capacity, message_capacity}
use Rattle.ffm_model.proofs.WellFormedLemmas.{budgets_between_actors}
use Rattle.law_counting.specs.Objects.{ObjectsFit, called_by, is_awaited, message_marked, wrongly_called}
use Rattle.law_counting.proofs.Bounds.{count-all, few-connections}
use Rattle.law_counting.proofs.Pairs.{count-sum, none-counts, not_wrong}
use Rattle.law_counting.proofs.Slots.{one-call}

-- the budget of a permitted pair
budget-there : (s : System) (a v : ℕ) → permits s a v ≡ true → (b : Budget) × (find (λ c. (c.client.0 == a) && (c.service == v)) s.budgets ≡ Some b)
budget-there s a v e =
    let go : (o : Option Budget) → is_some (option_map (λ (b : Budget). b.count) o) ≡ true → (b : Budget) × (o ≡ Some b) = elim [ None ↦ λ k. cc | Some b ↦ λ k. (b, refl) ] in
    go (find (λ c. (c.client.0 == a) && (c.service == v)) s.budgets) e

permitted-there : (s : System) (a v : ℕ) → permits s a v ≡ true → nat_lt a (length s.partitions + length s.clients) ≡ true
permitted-there s a v e =
    let it = budget-there s a v e in
    let own : it.0.client.0 ≡ a = eqb-true it.0.client.0 a (and_parts _ _ (find-passes (λ c. (c.client.0 == a) && (c.service == v)) s.budgets it.0 it.1)).0 in
    let low : nat_lt it.0.client.0 (length s.partitions + length s.clients) ≡ true = (and_parts _ _ (find-list_all _ _ s.budgets it.0 it.1 (budgets_between_actors s))).0 in
    ap (λ k. nat_lt k (length s.partitions + length s.clients)) (sym own) ∙ low

permitted-calls : (s : System) (a v : ℕ) → permits s a v ≡ true → is_stateless s v ≡ true → calls_stateless s a ≡ true
permitted-calls s a v e stateless =
    let it = budget-there s a v e in
    let passes : ((it.0.client.0 == a) && (it.0.service == v)) ≡ true = find-passes (λ c. (c.client.0 == a) && (c.service == v)) s.budgets it.0 it.1 in
    let service : it.0.service ≡ v = eqb-true it.0.service v (and_parts _ _ passes).1 in
    let own : ((it.0.client.0 == a) && is_stateless s it.0.service) ≡ true = and_from _ _ (and_parts _ _ passes).0 (ap (is_stateless s) service ∙ stateless) in
    some-any (λ b. (b.client.0 == a) && is_stateless s b.service) s.budgets
    (omega (arith, count-found (λ c. (c.client.0 == a) && (c.service == v)) (λ b. (b.client.0 == a) && is_stateless s b.service) s.budgets it.0 it.1, ap bit own))

-- a request of an actor shows that it may call
lawful : (s : System) (m : PendingMessage) → is_none m.connection ≡ true → bit (wrongly_called s m) ≡ 0 → (is_stateless s m.service ≡ true) × (permits s m.client.0 m.service ≡ true)
lawful s m none h =
    let all : (int_le PSA_IPC_CALL m.kind && (is_stateless s m.service && permits s m.client.0 m.service)) ≡ true = not_wrong _ _ none h in
    let both : (is_stateless s m.service && permits s m.client.0 m.service) ≡ true = (and_parts _ _ all).1 in
    ((and_parts _ _ both).0, (and_parts _ _ both).1)

calls-allowed : (s : System) (b : SpmState) (a : ℕ) → ObjectsFit s b → count_by (called_by a) b.messages ≤ bit (calls_stateless s a)
calls-allowed s b a h =
    let go : (n : ℕ) → count_by (called_by a) b.messages ≡ n → count_by (called_by a) b.messages ≤ bit (calls_stateless s a) =
    elim [
      | zero ↦ λ e. omega (arith, e)
      | suc n ↦ λ e.
          let it = some-found (called_by a) b.messages (omega (arith, e)) in
          let m : PendingMessage = it.0 in
          let passes : called_by a m ≡ true = find-passes (called_by a) b.messages m it.1 in
          let right = lawful s m (and_parts _ _ passes).0 (omega (arith, count-found (called_by a) (wrongly_called s) b.messages m it.1, h.called)) in
          let own : m.client.0 ≡ a = eqb-true m.client.0 a (and_parts _ _ passes).1 in
          let may : calls_stateless s a ≡ true = ap (calls_stateless s) (sym own) ∙ permitted-calls s m.client.0 m.service right.1 right.0 in
          omega (arith, one-call s b a h, ap bit may)
    ] in
    go _ refl

-- the requests of the first actors
calls-below : ℕ → PendingMessage → Bool
calls-below n m = is_none m.connection && nat_lt m.client.0 n

zero-plus : (n : ℕ) → 0 + n ≡ n
zero-plus n = omega arith

none-below : (x : ℕ) → nat_lt x 0 ≡ false
none-below x = grind arith

calls-first : (s : System) (b : SpmState) → ObjectsFit s b → (n : ℕ) → count_by (calls-below n) b.messages ≤ count_by (calls_stateless s) (range_with_len 0 n)
unfolding calls-below
calls-first s b h zero =
    let none : (m : PendingMessage) → bit (calls-below 0 m) ≤ bit false = λ m. let go : (x : Bool) → bit (x && nat_lt m.client.0 0) ≤ 0 = elim [ true ↦ omega (arith, ap bit (none-below m.client.0)) | false ↦ omega arith ] in go (is_none m.connection) in
    omega (arith, count-le (calls-below 0) (λ m. false) none b.messages, none-counts (λ (m : PendingMessage). false) (λ m. refl) b.messages)
calls-first s b h (suc n) =
    let split : (m : PendingMessage) → bit (calls-below (suc n) m) ≤ bit (calls-below n m) + bit (called_by n m) =
    λ m.
    let one : bit (nat_lt m.client.0 (suc n)) ≤ bit (nat_lt m.client.0 n) + bit (m.client.0 == n) = grind (arith, nat_tests) in
    let go : (x : Bool) → bit (x && nat_lt m.client.0 (suc n)) ≤ bit (x && nat_lt m.client.0 n) + bit (x && (m.client.0 == n)) = elim [ true ↦ one | false ↦ omega arith ] in
    go (is_none m.connection) in
    omega (
      arith,
      count-sum (calls-below (suc n)) (calls-below n) (called_by n) split b.messages,
      calls-first s b h n,
      calls-allowed s b n h,
      ap (count_by (calls_stateless s)) (range_with_len-more 0 n),
      count-push (calls_stateless s) (range_with_len 0 n) (0 + n),
      ap (λ k. bit (calls_stateless s k)) (zero-plus n),
    )

-- a message has a connection, or is one of these
any-message : (s : System) (m : PendingMessage) → bit true ≤ bit (message_marked (λ n a v ph. true) m) + bit (is_none m.connection)
any-message s m =
    let go : (o : Option ℕ) → 1 ≤ bit (option_map_or (λ n. true) o false) + bit (is_none o) = elim [ None ↦ omega arith | Some n ↦ omega arith ] in
    go m.connection

call-there : (s : System) (m : PendingMessage) → bit (is_none m.connection) ≤ bit (calls-below (length s.partitions + length s.clients) m) + bit (wrongly_called s m)
unfolding calls-below
call-there s m =
    let may : (x : Bool) → permits s m.client.0 m.service ≡ x → bit x ≤ bit (nat_lt m.client.0 (length s.partitions + length s.clients)) = elim [ true ↦ λ e. omega (arith, ap bit (permitted-there s m.client.0 m.service e)) | false ↦ λ e. omega arith ] in
    let go : (n k v x y : Bool) → bit x ≤ bit y → bit n ≤ bit (n && y) + bit (n && not (k && (v && x))) =
    elim [
      | true ↦ elim [
        | true ↦ elim [ true ↦ elim [ true ↦ λ y le. omega (arith, le) | false ↦ λ y le. omega arith ] | false ↦ λ x y le. omega arith ]
        | false ↦ λ v x y le. omega arith
      ]
      | false ↦ λ k v x y le. omega arith
    ] in
    go (is_none m.connection) (int_le PSA_IPC_CALL m.kind) (is_stateless s m.service) (permits s m.client.0 m.service) (nat_lt m.client.0 (length s.partitions + length s.clients)) (may _ refl)

pub few-messages : (s : System) (b : SpmState) → ObjectsFit s b → length b.messages ≤ length b.connections + count_by (calls_stateless s) (range_with_len 0 (length s.partitions + length s.clients))
few-messages s b h =
    omega (
      arith,
      count-all b.messages,
      count-sum (λ m. true) (message_marked (λ n a v ph. true)) (λ m. is_none m.connection) (any-message s) b.messages,
      h.paired (λ n a v ph. true),
      count_by-le-length (λ c. is_awaited c.phase && true) b.connections,
      count-sum (λ m. is_none m.connection) (calls-below (length s.partitions + length s.clients)) (wrongly_called s) (call-there s) b.messages,
      h.called,
      calls-first s b h (length s.partitions + length s.clients),
    )

-- where no service is stateless, there is room for as many messages as connections
pub without-stateless : (s : System) → ((service : ℕ) → is_stateless s service ≡ false) → message_capacity s ≡ capacity s
without-stateless s off =
    let none : (a : ℕ) → calls_stateless s a ≡ false = λ a.
    list_any_none (λ (b : Budget). (b.client.0 == a) && is_stateless s b.service) s.budgets
    (λ i d lt. let b : Budget = get_or s.budgets i d in and_right (b.client.0 == a) (is_stateless s b.service) (off b.service)) in
    omega (arith, none-counts (calls_stateless s) none (range_with_len 0 (length s.partitions + length s.clients)))

pub few-messages-of : (s : System) (b : SpmState) → ObjectsFit s b → length b.messages ≤ message_capacity s
few-messages-of s b h = omega (arith, few-messages s b h, few-connections s b h)
