-- The signals of a partition, message by message, and those of a mask.
use Rattle.std.proofs.Common.{ℕ, zero, suc, ◌≡◌, ◌+◌, ◌<◌, ◌==◌, Bool, true, false, List, [], ◌∷◌, map, refl, ap, sym, ◌∙◌, arith, eq-eqb}
use Rattle.std.specs.Prelude.{Some, None, if◌then◌else◌, not, ◌&&◌, ◌||◌, fold, filter, bit_and, bit_or, is_none, slice_get}
use Rattle.std.specs.Int.Bits.{and_zero_l}
use Rattle.std.specs.List.{list_any, filter_map, cons_option, enumerate_from}
use Rattle.std.specs.Option.{option_map_or}
use Rattle.std.proofs.lemmas.Nat.{le_or_l}
use Rattle.std.proofs.lemmas.Nat.Bits.{bit_at_and, bit_at_or, bit_at-zero, same_from_bits}
use Rattle.std.proofs.lemmas.Bool.Decides.{nat_tests}
use Rattle.ffm_model.specs.declared.constants.TheConstants.{PSA_DOORBELL}
use Rattle.ffm_model.specs.declared.system.System.{System}
use Rattle.ffm_model.specs.declared.system.Service.{Service}
use Rattle.ffm_model.specs.declared.system.Source.{Source}
use Rattle.ffm_model.specs.declared.objects.PendingMessage.{PendingMessage}
use Rattle.ffm_model.specs.Signals.{assigned_to, has_signal_of, union_of}
use Rattle.ffm_model.specs.State.{is_undelivered}
use Rattle.machine_calls.specs.Signals.{asserted_by, is_met}

-- ---- words

none-left : (a : ℕ) → bit_or 0 a ≡ a
none-left a = same_from_bits (bit_or 0 a) a (λ i. omega (arith, bit_at_or 0 a i, bit_at-zero i))

none-right : (a : ℕ) → bit_or a 0 ≡ a
none-right a = same_from_bits (bit_or a 0) a (λ i. omega (arith, bit_at_or a 0 i, bit_at-zero i))

twice : (a : ℕ) → bit_or a a ≡ a
twice a = same_from_bits (bit_or a a) a (λ i. omega (arith, bit_at_or a a i))

or-assoc : (a b c : ℕ) → bit_or (bit_or a b) c ≡ bit_or a (bit_or b c)
or-assoc a b c = same_from_bits (bit_or (bit_or a b) c) (bit_or a (bit_or b c)) (λ i. omega (arith, bit_at_or (bit_or a b) c i, bit_at_or a b i, bit_at_or a (bit_or b c) i, bit_at_or b c i))

crossed : (a b c d : ℕ) → bit_or (bit_or a b) (bit_or c d) ≡ bit_or (bit_or a c) (bit_or b d)
crossed a b c d =
    same_from_bits (bit_or (bit_or a b) (bit_or c d)) (bit_or (bit_or a c) (bit_or b d)) (λ i.
    omega (arith, bit_at_or (bit_or a b) (bit_or c d) i, bit_at_or a b i, bit_at_or c d i, bit_at_or (bit_or a c) (bit_or b d) i, bit_at_or a c i, bit_at_or b d i))

union-after : (a : ℕ) (ws : List ℕ) → fold bit_or a ws ≡ bit_or a (union_of ws)
union-after a [] = sym (none-right a)
union-after a (w ∷ ws) =
    union-after (bit_or a w) ws ∙ or-assoc a w (union_of ws)
    ∙ ap (bit_or a) (sym (union-after (bit_or 0 w) ws ∙ ap (λ x. bit_or x (union_of ws)) (none-left w)))

union-cons : (w : ℕ) (ws : List ℕ) → union_of (w ∷ ws) ≡ bit_or w (union_of ws)
union-cons w ws = union-after (bit_or 0 w) ws ∙ ap (λ x. bit_or x (union_of ws)) (none-left w)

union-option : (b : Bool) (w : ℕ) (ws : List ℕ) → union_of (cons_option (if b then Some w else None) ws) ≡ bit_or (if b then w else 0) (union_of ws)
union-option true w ws = union-cons w ws
union-option false w ws = sym (none-left (union_of ws))

-- ---- by messages

-- the signals of services from a place on, and the first of them
abbrev on : List PendingMessage → ℕ → ℕ → List Service → List ℕ
on ms p n xs = filter_map (λ e. if (e.1.owner == p) && list_any (is_undelivered e.0) ms then Some e.1.signal else None) (enumerate_from n xs)

abbrev first : List PendingMessage → ℕ → ℕ → Service → ℕ
first ms p n x = if (x.owner == p) && list_any (is_undelivered n) ms then x.signal else 0

on-cons : (ms : List PendingMessage) (p n : ℕ) (x : Service) (xs : List Service) → union_of (on ms p n (x ∷ xs)) ≡ bit_or (first ms p n x) (union_of (on ms p (n + 1) xs))
on-cons ms p n x xs = union-option ((x.owner == p) && list_any (is_undelivered n) ms) x.signal (on ms p (n + 1) xs)

no-first : (b : Bool) (w : ℕ) → (if b && false then w else 0) ≡ 0
no-first true w = refl
no-first false w = refl

on-nothing : (p n : ℕ) (xs : List Service) → union_of (on [] p n xs) ≡ 0
on-nothing p n [] = refl
on-nothing p n (x ∷ xs) =
    on-cons [] p n x xs ∙ ap (λ w. bit_or w (union_of (on [] p (n + 1) xs))) (no-first (x.owner == p) x.signal) ∙ none-left (union_of (on [] p (n + 1) xs)) ∙ on-nothing p (n + 1) xs

first-split : (b u a : Bool) (w : ℕ) → (if b && (u || a) then w else 0) ≡ bit_or (if b && (u || false) then w else 0) (if b && a then w else 0)
first-split true true true w = sym (twice w)
first-split true true false w = sym (none-right w)
first-split true false true w = sym (none-left w)
first-split true false false w = sym (none-left 0)
first-split false true true w = sym (none-left 0)
first-split false true false w = sym (none-left 0)
first-split false false true w = sym (none-left 0)
first-split false false false w = sym (none-left 0)

on-split : (m : PendingMessage) (ms : List PendingMessage) (p n : ℕ) (xs : List Service) → union_of (on (m ∷ ms) p n xs) ≡ bit_or (union_of (on (m ∷ []) p n xs)) (union_of (on ms p n xs))
on-split m ms p n [] = sym (none-left 0)
on-split m ms p n (x ∷ xs) =
    let one = union_of (on (m ∷ []) p (n + 1) xs) in
    let others = union_of (on ms p (n + 1) xs) in
    on-cons (m ∷ ms) p n x xs
    ∙ ap (λ w. bit_or w (union_of (on (m ∷ ms) p (n + 1) xs))) (first-split (x.owner == p) (is_undelivered n m) (list_any (is_undelivered n) ms) x.signal)
    ∙ ap (bit_or (bit_or (first (m ∷ []) p n x) (first ms p n x))) (on-split m ms p (n + 1) xs)
    ∙ crossed (first (m ∷ []) p n x) (first ms p n x) one others
    ∙ ap (λ w. bit_or w (bit_or (first ms p n x) others)) (sym (on-cons (m ∷ []) p n x xs))
    ∙ ap (bit_or (union_of (on (m ∷ []) p n (x ∷ xs)))) (sym (on-cons ms p n x xs))

-- where the message doesn't wait for the first service, it is as if that weren't there
past : (b u : Bool) (w r : ℕ) → u ≡ false → bit_or (if b && (u || false) then w else 0) r ≡ r
past true true w r e = cc
past true false w r e = none-left r
past false u w r e = none-left r

apart : (h : Bool) (s n : ℕ) → (s == n) ≡ false → (h && (s == n)) ≡ false
apart true s n e = e
apart false s n e = refl

on-past : (m : PendingMessage) (p n : ℕ) (x : Service) (xs : List Service) → is_undelivered n m ≡ false → union_of (on (m ∷ []) p n (x ∷ xs)) ≡ union_of (on (m ∷ []) p (n + 1) xs)
on-past m p n x xs e = on-cons (m ∷ []) p n x xs ∙ past (x.owner == p) (is_undelivered n m) x.signal (union_of (on (m ∷ []) p (n + 1) xs)) e

on-before : (m : PendingMessage) (p n : ℕ) (xs : List Service) → m.service < n → union_of (on (m ∷ []) p n xs) ≡ 0
on-before m p n [] below = refl
on-before m p n (x ∷ xs) below =
    on-past m p n x xs (apart (is_none m.handle) m.service n (grind (arith, nat_tests, below))) ∙ on-before m p (n + 1) xs (omega (arith, below))

on-delivered : (m : PendingMessage) (p n : ℕ) (xs : List Service) → is_none m.handle ≡ false → union_of (on (m ∷ []) p n xs) ≡ 0
on-delivered m p n [] e = refl
on-delivered m p n (x ∷ xs) e =
    on-past m p n x xs (ap (λ b. b && (m.service == n)) e) ∙ on-delivered m p (n + 1) xs e

here : (b u : Bool) (w : ℕ) → u ≡ true → bit_or (if b && (u || false) then w else 0) 0 ≡ (if b then w else 0)
here true true w e = none-right w
here true false w e = cc
here false u w e = none-right 0

abbrev own : ℕ → Service → ℕ
own p v = if v.owner == p then v.signal else 0

on-at : (m : PendingMessage) (p n k : ℕ) (xs : List Service) → is_none m.handle ≡ true → m.service ≡ n + k → union_of (on (m ∷ []) p n xs) ≡ option_map_or (own p) (slice_get xs k) 0
on-at m p n k [] e at = refl
on-at m p n zero (x ∷ xs) e at =
    let same : (m.service == n) ≡ true = eq-eqb m.service n (omega (arith, at)) in
    on-cons (m ∷ []) p n x xs
    ∙ ap (bit_or (first (m ∷ []) p n x)) (on-before m p (n + 1) xs (omega (arith, at)))
    ∙ here (x.owner == p) (is_undelivered n m) x.signal (ap (λ b. b && (m.service == n)) e ∙ same)
on-at m p n (suc k) (x ∷ xs) e at =
    on-past m p n x xs (apart (is_none m.handle) m.service n (grind (arith, nat_tests, at))) ∙ on-at m p (n + 1) k xs e (omega (arith, at))

on-one-by : (m : PendingMessage) (p : ℕ) (xs : List Service) (b : Bool) → is_none m.handle ≡ b → union_of (on (m ∷ []) p 0 xs) ≡ (if b then option_map_or (own p) (slice_get xs m.service) 0 else 0)
on-one-by m p xs true e = on-at m p 0 m.service xs e (omega arith)
on-one-by m p xs false e = on-delivered m p 0 xs e

on-one : (m : PendingMessage) (p : ℕ) (xs : List Service) → union_of (on (m ∷ []) p 0 xs) ≡ asserted_by xs p m
on-one m p xs = on-one-by m p xs (is_none m.handle) refl

-- the services' signals are those that messages assert
pub by_messages : (services : List Service) (p : ℕ) (ms : List PendingMessage)
    → union_of (map (asserted_by services p) ms) ≡ union_of (filter_map (λ e. if (e.1.owner == p) && list_any (is_undelivered e.0) ms then Some e.1.signal else None) (enumerate_from 0 services))
by_messages services p [] = sym (on-nothing p 0 services)
by_messages services p (m ∷ ms) =
    union-cons (asserted_by services p m) (map (asserted_by services p) ms)
    ∙ ap (bit_or (asserted_by services p m)) (by_messages services p ms)
    ∙ ap (λ w. bit_or w (union_of (on ms p 0 services))) (sym (on-one m p services))
    ∙ sym (on-split m ms p 0 services)

-- ---- masks

and-or : (a b m : ℕ) → bit_and (bit_or a b) m ≡ bit_or (bit_and a m) (bit_and b m)
and-or a b m =
    same_from_bits (bit_and (bit_or a b) m) (bit_or (bit_and a m) (bit_and b m)) (λ i.
    omega (arith, bit_at_and (bit_or a b) m i, bit_at_or a b i, bit_at_or (bit_and a m) (bit_and b m) i, bit_at_and a m i, bit_at_and b m i))

or-none : (x y : ℕ) → (bit_or x y == 0) ≡ ((x == 0) && (y == 0))
or-none zero y = ap (λ w. w == 0) (none-left y)
or-none (suc x) y = grind (arith, nat_tests, le_or_l (suc x) y)

not-both : (a b : Bool) → not (a && b) ≡ (not a || not b)
not-both true b = refl
not-both false b = refl

or-met : (a b m : ℕ) → has_signal_of (bit_or a b) m ≡ (has_signal_of a m || has_signal_of b m)
or-met a b m = ap (λ w. not (w == 0)) (and-or a b m) ∙ ap not (or-none (bit_and a m) (bit_and b m)) ∙ not-both (bit_and a m == 0) (bit_and b m == 0)

module _ {X : Type 0} (owner signal : X → ℕ) (p mask : ℕ) where
  met-cons : (b : Bool) (x : X) (xs : List X)
      → has_signal_of (union_of (map signal (if b then x ∷ xs else xs))) mask ≡ ((b && has_signal_of (signal x) mask) || has_signal_of (union_of (map signal xs)) mask)
  met-cons true x xs = ap (λ w. has_signal_of w mask) (union-cons (signal x) (map signal xs)) ∙ or-met (signal x) (union_of (map signal xs)) mask
  met-cons false x xs = refl

  owned-met : (xs : List X) → has_signal_of (union_of (map signal (filter (λ v. owner v == p) xs))) mask ≡ list_any (λ v. is_met (owner v) (signal v) p mask) xs
  owned-met [] = ap (λ w. not (w == 0)) (and_zero_l mask)
  owned-met (x ∷ xs) =
      met-cons (owner x == p) x (filter (λ v. owner v == p) xs) ∙ ap (λ b. is_met (owner x) (signal x) p mask || b) (owned-met xs)

-- a mask has one of three words of signals
pub asserted_met : (a b c mask : ℕ) → has_signal_of (bit_or a (bit_or b c)) mask ≡ (has_signal_of (bit_or a b) mask || has_signal_of c mask)
asserted_met a b c mask = ap (λ w. has_signal_of w mask) (sym (or-assoc a b c)) ∙ or-met (bit_or a b) c mask

-- a mask has a signal that a partition has: its doorbell, or that of a service or an interrupt source
pub assigned_met : (s : System) (p mask : ℕ)
    → has_signal_of (assigned_to s p) mask
    ≡ (has_signal_of PSA_DOORBELL mask || (list_any (λ v. is_met v.owner v.signal p mask) s.services || list_any (λ v. is_met v.owner v.signal p mask) s.sources))
assigned_met s p mask =
    let services = union_of (map (λ v. v.signal) (filter (λ v. v.owner == p) s.services)) in
    let sources = union_of (map (λ v. v.signal) (filter (λ v. v.owner == p) s.sources)) in
    or-met PSA_DOORBELL (bit_or services sources) mask
    ∙ ap (λ b. has_signal_of PSA_DOORBELL mask || b)
    (or-met services sources mask ∙ ap (λ b. b || has_signal_of sources mask) (owned-met (λ v. v.owner) (λ v. v.signal) p mask s.services)
    ∙ ap (λ b. list_any (λ v. is_met v.owner v.signal p mask) s.services || b) (owned-met (λ v. v.owner) (λ v. v.signal) p mask s.sources))

or-right : (a b : Bool) → b ≡ true → (a || b) ≡ true
or-right true b e = refl
or-right false b e = e

pub met_by_service : (s : System) (p mask : ℕ) (xs : List Service) → xs ≡ s.services → list_any (λ v. is_met v.owner v.signal p mask) xs ≡ true → has_signal_of (assigned_to s p) mask ≡ true
met_by_service s p mask xs same e =
    let services = list_any (λ v. is_met v.owner v.signal p mask) s.services in
    let sources = list_any (λ v. is_met v.owner v.signal p mask) s.sources in
    assigned_met s p mask ∙ or-right (has_signal_of PSA_DOORBELL mask) (services || sources)
    (ap (λ b. b || sources) (ap (list_any (λ v. is_met v.owner v.signal p mask)) (sym same) ∙ e))

pub met_by_source : (s : System) (p mask : ℕ) (xs : List Source) → xs ≡ s.sources → list_any (λ v. is_met v.owner v.signal p mask) xs ≡ true → has_signal_of (assigned_to s p) mask ≡ true
met_by_source s p mask xs same e =
    let services = list_any (λ v. is_met v.owner v.signal p mask) s.services in
    let sources = list_any (λ v. is_met v.owner v.signal p mask) s.sources in
    assigned_met s p mask ∙ or-right (has_signal_of PSA_DOORBELL mask) (services || sources)
    (or-right services sources (ap (list_any (λ v. is_met v.owner v.signal p mask)) (sym same) ∙ e))
