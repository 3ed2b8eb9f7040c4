-- The signal word of a partition has a service's bit only where a message waits for the service, and the partition has the signals of its services.
use Rattle.std.proofs.Common.{ℕ, ◌+◌, ◌≤◌, ◌≡◌, ◌≢◌, ◌==◌, ◌^◌, List, [], ◌∷◌, length, refl, ap, sym, ◌∙◌, subst, arith, Bool, true, false, eqb-true, eq-eqb, lit<}
use Rattle.std.specs.Prelude.{Some, None, if◌then◌else◌, not, ◌&&◌, map, filter, fold, bit_and, bit_or, nat_lt, get_or}
use Rattle.std.specs.Int.{bit_at}
use Rattle.std.specs.List.{AllByRecursion, list_all, filter_map, cons_option, enumerate_from, position_from}
use Rattle.std.proofs.lemmas.Bool.{and_parts, not-true, true_from_ne_false}
use Rattle.std.proofs.lemmas.Bool.Decides.{nat_tests}
use Rattle.std.proofs.lemmas.Nat.Bits.{bit_at-pow_other, bit_at-pow_same, bit_at_above, bit_at-zero}
use Rattle.std.proofs.lemmas.Iterator.Adapters.{position_from-zero}
use Rattle.ffm_model.specs.declared.constants.TheConstants.{PSA_DOORBELL}
use Rattle.ffm_model.specs.declared.system.System.{System}
use Rattle.ffm_model.specs.declared.system.Service.{Service}
use Rattle.ffm_model.specs.declared.system.Source.{Source}
use Rattle.ffm_model.specs.State.{SpmState, flags_at}
use Rattle.ffm_model.specs.Signals.{union_of, has_undelivered, service_signals, source_signals, doorbell_signal, signals_of, assigned_to, has_signal_of}
use Rattle.ffm_model.specs.ServiceCalls.{service_of_signal}
use Rattle.ffm_model.specs.WellFormed.{each_pair, is_signal_bit, signal_fits}
use Rattle.ffm_model.proofs.WellFormedLemmas.{service_signals_hold, signals_hold, source_signals_hold}
use Rattle.law_programs.proofs.Bits.{and-both, not-zero, or-first, or-left, or-right, signal-bit, union-keeps, union-none}
use Rattle.law_programs.proofs.Owned.{is_that}

-- ---- words without a bit

abbrev Lack : ℕ → List ℕ → Type 0
Lack k words = AllByRecursion (λ w. bit_at w k ≡ 0) words

-- a signal that isn't this bit doesn't have it
other-bit : (w k : ℕ) → is_signal_bit w ≡ true → (2 ^ k == w) ≡ false → bit_at w k ≡ 0
other-bit w k single apart =
    let it = signal-bit w single in
    let ne : k ≢ it.bit = λ e. let yes : (2 ^ k == w) ≡ true = eq-eqb (2 ^ k) w (ap (λ (x : ℕ). 2 ^ x) e ∙ it.is) in cc in
    ap (λ (x : ℕ). bit_at x k) (sym it.is) ∙ bit_at-pow_other it.bit k ne

cons-lacks : (k : ℕ) (b : Bool) (w : ℕ) (ws : List ℕ) → (b ≡ true → bit_at w k ≡ 0) → Lack k ws → Lack k (cons_option (if b then Some w else None) ws)
cons-lacks k true w ws h rest = (h refl, rest)
cons-lacks k false w ws h rest = rest

right-false : (x y b : Bool) → (x && y) ≡ false → (x && b) ≡ true → y ≡ false
right-false true y b e h = e
right-false false y b e h = cc

flip-eq : (m n : ℕ) → (m == n) ≡ (n == m)
flip-eq m n = grind (arith, nat_tests)

-- ---- signals of services and sources

-- each has another owner or another signal
abbrev all_other : {X : Type 0} → (X → ℕ) → (X → ℕ) → ℕ → ℕ → List X → Bool
all_other owner signal a bit ws = list_all (λ w. not ((a == owner w) && (bit == signal w))) ws

abbrev all_fit : {X : Type 0} → (X → ℕ) → (X → ℕ) → ℕ → List X → Bool
all_fit owner signal count ws = list_all (λ w. signal_fits count (owner w) (signal w)) ws

-- the signals of an owner that are on
abbrev asserted : {X : Type 0} → (X → ℕ) → (X → ℕ) → (ℕ → Bool) → ℕ → ℕ → List X → List ℕ
asserted owner signal on a n ws = filter_map (λ e. if (owner e.1 == a) && on e.0 then Some (signal e.1) else None) (enumerate_from n ws)

others-lack : {X : Type 0} (owner signal : X → ℕ) (on : ℕ → Bool) (a k count : ℕ) (ws : List X) (n : ℕ) → all_fit owner signal count ws ≡ true → all_other owner signal a (2 ^ k) ws ≡ true → Lack k (asserted owner signal on a n ws)
others-lack owner signal on a k count [] n fit apart = tt
others-lack owner signal on a k count (w ∷ ws) n fit apart =
    let f = and_parts (signal_fits count (owner w) (signal w)) (all_fit owner signal count ws) fit in
    let d = and_parts (not ((a == owner w) && (2 ^ k == signal w))) (all_other owner signal a (2 ^ k) ws) apart in
    cons-lacks k ((owner w == a) && on n) (signal w) _
    (λ h. other-bit (signal w) k (and_parts (nat_lt (owner w) count) (is_signal_bit (signal w)) f.0).1
    (right-false (a == owner w) (2 ^ k == signal w) (on n) (not-true ((a == owner w) && (2 ^ k == signal w)) d.0) (ap (λ (b : Bool). b && on n) (flip-eq a (owner w)) ∙ h)))
    (others-lack owner signal on a k count ws (n + 1) f.1 d.1)

-- what is apart from the service of a bit
apart-of : {X : Type 0} (owner signal : X → ℕ) (v : Service) (a k : ℕ) (ws : List X) → is_that a k v ≡ true → all_other owner signal v.owner v.signal ws ≡ true → all_other owner signal a (2 ^ k) ws ≡ true
apart-of owner signal v a k ws that apart =
    let parts = and_parts (v.owner == a) (v.signal == 2 ^ k) that in
    subst (λ (x : ℕ). all_other owner signal x (2 ^ k) ws ≡ true) (eqb-true v.owner a parts.0)
    (subst (λ (y : ℕ). all_other owner signal v.owner y ws ≡ true) (eqb-true v.signal (2 ^ k) parts.1) apart)

-- ---- services

abbrev owner_of_service : Service → ℕ
owner_of_service v = v.owner

abbrev signal_of_service : Service → ℕ
signal_of_service v = v.signal

abbrev services_fit : ℕ → List Service → Bool
services_fit count vs = all_fit owner_of_service signal_of_service count vs

abbrev services_differ : List Service → Bool
services_differ vs = each_pair (λ v w. not ((v.owner == w.owner) && (v.signal == w.signal))) vs

abbrev services_asserted : SpmState → ℕ → ℕ → List Service → List ℕ
services_asserted b a n vs = asserted owner_of_service signal_of_service (has_undelivered b) a n vs

-- no message waits for the service of the bit, and no other has the bit
quiet-by : (b : SpmState) (a k count : ℕ) (v : Service) (vs : List Service) (n j : ℕ) (that : Bool) → is_that a k v ≡ that → (if that then Some n else position_from (is_that a k) (n + 1) vs) ≡ Some j
    → services_fit count (v ∷ vs) ≡ true → services_differ (v ∷ vs) ≡ true → has_undelivered b j ≡ false
    → (position_from (is_that a k) (n + 1) vs ≡ Some j → Lack k (services_asserted b a (n + 1) vs)) → Lack k (services_asserted b a n (v ∷ vs))
quiet-by b a k count v vs n j true e f fit differ off go =
    let same : n ≡ j = cc in
    let none : has_undelivered b n ≡ false = ap (has_undelivered b) same ∙ off in
    let s = and_parts (signal_fits count v.owner v.signal) (services_fit count vs) fit in
    let d = and_parts (all_other owner_of_service signal_of_service v.owner v.signal vs) (services_differ vs) differ in
    cons-lacks k ((v.owner == a) && has_undelivered b n) v.signal _ (λ h. let some : has_undelivered b n ≡ true = (and_parts (v.owner == a) (has_undelivered b n) h).1 in cc)
    (others-lack owner_of_service signal_of_service (has_undelivered b) a k count vs (n + 1) s.1 (apart-of owner_of_service signal_of_service v a k vs e d.0))
quiet-by b a k count v vs n j false e f fit differ off go =
    let s = and_parts (signal_fits count v.owner v.signal) (services_fit count vs) fit in
    cons-lacks k ((v.owner == a) && has_undelivered b n) v.signal _
    (λ h. other-bit v.signal k (and_parts (nat_lt v.owner count) (is_signal_bit v.signal) s.0).1 (flip-eq (2 ^ k) v.signal ∙ right-false (v.owner == a) (v.signal == 2 ^ k) (has_undelivered b n) e h)) (go f)

quiet-services : (b : SpmState) (a k count j : ℕ) → has_undelivered b j ≡ false → (vs : List Service) (n : ℕ) → position_from (is_that a k) n vs ≡ Some j → services_fit count vs ≡ true → services_differ vs ≡ true
    → Lack k (services_asserted b a n vs)
quiet-services b a k count j off [] n f fit differ = tt
quiet-services b a k count j off (v ∷ vs) n f fit differ =
    let s = and_parts (signal_fits count v.owner v.signal) (services_fit count vs) fit in
    let d = and_parts (all_other owner_of_service signal_of_service v.owner v.signal vs) (services_differ vs) differ in
    quiet-by b a k count v vs n j (is_that a k v) refl f fit differ off (λ g. quiet-services b a k count j off vs (n + 1) g s.1 d.1)

-- ---- sources, whose signals are others

abbrev owner_of_source : Source → ℕ
owner_of_source w = w.owner

abbrev signal_of_source : Source → ℕ
signal_of_source w = w.signal

abbrev apart_from_sources : List Source → List Service → Bool
apart_from_sources ws vs = list_all (λ v. all_other owner_of_source signal_of_source v.owner v.signal ws) vs

sources-by : (a k : ℕ) (v : Service) (vs : List Service) (ws : List Source) (n j : ℕ) (that : Bool) → is_that a k v ≡ that → (if that then Some n else position_from (is_that a k) (n + 1) vs) ≡ Some j
    → all_other owner_of_source signal_of_source v.owner v.signal ws ≡ true
    → (position_from (is_that a k) (n + 1) vs ≡ Some j → all_other owner_of_source signal_of_source a (2 ^ k) ws ≡ true) → all_other owner_of_source signal_of_source a (2 ^ k) ws ≡ true
sources-by a k v vs ws n j true e f apart go = apart-of owner_of_source signal_of_source v a k ws e apart
sources-by a k v vs ws n j false e f apart go = go f

sources-apart : (a k j : ℕ) (ws : List Source) (vs : List Service) (n : ℕ) → position_from (is_that a k) n vs ≡ Some j → apart_from_sources ws vs ≡ true → all_other owner_of_source signal_of_source a (2 ^ k) ws ≡ true
sources-apart a k j ws [] n f cross = cc
sources-apart a k j ws (v ∷ vs) n f cross =
    let mine = and_parts (all_other owner_of_source signal_of_source v.owner v.signal ws) (apart_from_sources ws vs) cross in
    sources-by a k v vs ws n j (is_that a k v) refl f mine.0 (λ g. sources-apart a k j ws vs (n + 1) g mine.1)

-- ---- the asserted signals of a partition

bell-lacks : (b : Bool) (k : ℕ) → 4 ≤ k → bit_at (if b then PSA_DOORBELL else 0) k ≡ 0
bell-lacks true k high = bit_at_above PSA_DOORBELL 4 k (lit< tt) high
bell-lacks false k high = bit_at-zero k

-- where a service's signal is asserted, a message waits for the service
pub asserted-waits : (s : System) (b : SpmState) (a k v : ℕ) → 4 ≤ k → service_of_signal s a (2 ^ k) ≡ Some v → bit_at (signals_of s b a) k ≡ 1 → has_undelivered b v ≡ true
asserted-waits s b a k v high found on =
    let count : ℕ = length s.partitions in
    let all = and_parts _ (apart_from_sources s.sources s.services) (signals_hold s) in
    let differ = (and_parts _ (services_differ s.services) (and_parts _ _ all.0).0).1 in
    let at : position_from (is_that a k) 0 s.services ≡ Some v = sym (position_from-zero (is_that a k) s.services) ∙ found in
    let others = others-lack owner_of_source signal_of_source (λ i. (flags_at b i).asserted) a k count s.sources 0 (source_signals_hold s) (sources-apart a k v s.sources s.services 0 at all.1) in
    let sources : bit_at (union_of (source_signals s b a)) k ≡ 0 = union-none k (source_signals s b a) 0 others ∙ bit_at-zero k in
    let services : bit_at (union_of (service_signals s b a)) k ≡ 1 =
    or-first (union_of (service_signals s b a)) (doorbell_signal b a) (union_of (source_signals s b a)) k on (bell-lacks (get_or b.doorbells a false) k high) sources in
    true_from_ne_false (has_undelivered b v) (λ off.
    let none : bit_at (union_of (service_signals s b a)) k ≡ 0 = union-none k (service_signals s b a) 0 (quiet-services b a k count v off s.services 0 at (service_signals_hold s) differ) ∙ bit_at-zero k in
    omega (arith, none, services))

-- ---- the signals that a partition has

abbrev signals_joined : ℕ → List Service → ℕ
signals_joined x vs = fold bit_or x (map (λ v. v.signal) vs)

assigned-by : (a k : ℕ) (v : Service) (vs : List Service) (n j x : ℕ) (that own : Bool) → is_that a k v ≡ that → (v.owner == a) ≡ own → (if that then Some n else position_from (is_that a k) (n + 1) vs) ≡ Some j
    → ((y : ℕ) → position_from (is_that a k) (n + 1) vs ≡ Some j → bit_at (signals_joined y (filter (λ v. v.owner == a) vs)) k ≡ 1)
    → bit_at (signals_joined x (if own then v ∷ filter (λ v. v.owner == a) vs else filter (λ v. v.owner == a) vs)) k ≡ 1
assigned-by a k v vs n j x true true e o f go =
    let parts = and_parts (v.owner == a) (v.signal == 2 ^ k) e in
    union-keeps k (map (λ (v : Service). v.signal) (filter (λ v. v.owner == a) vs)) (bit_or x v.signal)
    (or-right x v.signal k (ap (λ (y : ℕ). bit_at y k) (eqb-true v.signal (2 ^ k) parts.1) ∙ bit_at-pow_same k))
assigned-by a k v vs n j x true false e o f go = let yes : (v.owner == a) ≡ true = (and_parts (v.owner == a) (v.signal == 2 ^ k) e).0 in cc
assigned-by a k v vs n j x false true e o f go = go (bit_or x v.signal) f
assigned-by a k v vs n j x false false e o f go = go x f

assigned-from : (a k j : ℕ) (vs : List Service) (n x : ℕ) → position_from (is_that a k) n vs ≡ Some j → bit_at (signals_joined x (filter (λ v. v.owner == a) vs)) k ≡ 1
assigned-from a k j [] n x f = cc
assigned-from a k j (v ∷ vs) n x f = assigned-by a k v vs n j x (is_that a k v) (v.owner == a) refl refl f (λ y g. assigned-from a k j vs (n + 1) y g)

-- psa_wait for a word with the bit of a service is no PROGRAMMER ERROR
pub assigned-meets : (s : System) (a k v mask : ℕ) → service_of_signal s a (2 ^ k) ≡ Some v → bit_at mask k ≡ 1 → has_signal_of (assigned_to s a) mask ≡ true
assigned-meets s a k v mask found on =
    let at : position_from (is_that a k) 0 s.services ≡ Some v = sym (position_from-zero (is_that a k) s.services) ∙ found in
    let mine : bit_at (signals_joined 0 (filter (λ v. v.owner == a) s.services)) k ≡ 1 = assigned-from a k v s.services 0 0 at in
    let all : bit_at (assigned_to s a) k ≡ 1 = or-right PSA_DOORBELL _ k (or-left _ (union_of (map (λ v. v.signal) (filter (λ v. v.owner == a) s.sources))) k mine) in
    ap not (not-zero (bit_and (assigned_to s a) mask) k (and-both (assigned_to s a) mask k all on))
