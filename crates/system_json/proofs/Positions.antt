-- The place of an actor among the names of all actors.
use Rattle.std.proofs.Common.{◌≡◌, ℕ, ◌+◌, ◌<◌, List, [], ◌∷◌, ◌++◌, length, map, Bool, true, false, cond, Some, None, refl, sym, ap, ◌∙◌, arith}
use Rattle.std.specs.Prelude.{position, codes}
use Rattle.std.specs.List.{position_from}
use Rattle.std.specs.Option.{option_map}
use Rattle.std.specs.Str.{bytes_eq}
use Rattle.std.proofs.lemmas.Iterator.Adapters.{position_from-zero}
use Rattle.std.proofs.lemmas.List.{length-map}
use Rattle.law_lists.proofs.Tests.{position-map}
use Rattle.ffm_model.specs.declared.system.Source.{Source}
use Rattle.ffm_model.specs.declared.system.System.{System}
use Rattle.ffm_model.specs.Scenarios.{device_names, actor_names, actor_named}

within_first : {X : Type 0} (p : X → Bool) (i : ℕ) (xs ys : List X) (k : ℕ) → position_from p i xs ≡ Some k → position_from p i (xs ++ ys) ≡ Some k
within_first p i [] ys k h = absurd cc
within_first p i (x ∷ xs) ys k h =
    elim (p x) as (λ b. cond b (Some i) (position_from p (i + 1) xs) ≡ Some k → cond b (Some i) (position_from p (i + 1) (xs ++ ys)) ≡ Some k) [ true ↦ λ e. e | false ↦ λ e. within_first p (i + 1) xs ys k e ] h

past_first : {X : Type 0} (p : X → Bool) (i : ℕ) (xs ys : List X) → position_from p i xs ≡ None → position_from p i (xs ++ ys) ≡ position_from p (i + length xs) ys
past_first p i [] ys h = ap (λ j. position_from p j ys) (let e : i ≡ i + 0 = omega arith in e)
past_first {X} p i (x ∷ xs) ys h =
    let same : i + 1 + length xs ≡ i + length (x ∷ xs) = omega arith in
    elim (p x) as (λ b. cond b (Some i) (position_from p (i + 1) xs) ≡ None → cond b (Some i) (position_from p (i + 1) (xs ++ ys)) ≡ position_from p (i + length (x ∷ xs)) ys) [ true ↦ λ e. absurd cc | false ↦ λ e. past_first p (i + 1) xs ys e ∙ ap (λ j. position_from p j ys) same ] h

shifted : {X : Type 0} (p : X → Bool) (n i : ℕ) (xs : List X) → position_from p (n + i) xs ≡ option_map (λ k. n + k) (position_from p i xs)
shifted p n i [] = refl
shifted p n i (x ∷ xs) =
    let same : n + i + 1 ≡ n + (i + 1) = omega arith in
    elim (p x) as (λ b. cond b (Some (n + i)) (position_from p (n + i + 1) xs) ≡ option_map (λ k. n + k) (cond b (Some i) (position_from p (i + 1) xs))) [ true ↦ refl | false ↦ ap (λ j. position_from p j xs) same ∙ shifted p n (i + 1) xs ]

pub in_first : {X : Type 0} (p : X → Bool) (xs ys : List X) (k : ℕ) → position p xs ≡ Some k → position p (xs ++ ys) ≡ Some k
in_first p xs ys k h = position_from-zero p (xs ++ ys) ∙ within_first p 0 xs ys k (sym (position_from-zero p xs) ∙ h)

pub in_second : {X : Type 0} (p : X → Bool) (xs ys : List X) → position p xs ≡ None → position p (xs ++ ys) ≡ option_map (λ k. length xs + k) (position p ys)
in_second p xs ys h =
    let zero_first : 0 + length xs ≡ length xs + 0 = omega arith in
    position_from-zero p (xs ++ ys) ∙ past_first p 0 xs ys (sym (position_from-zero p xs) ∙ h) ∙ ap (λ j. position_from p j ys) zero_first ∙ shifted p (length xs) 0 ys ∙ ap (option_map (λ k. length xs + k)) (sym (position_from-zero p ys))

-- ---- the actors of a system

pub is_partition : (s : System) (text : List ℕ) (k : ℕ) → position (λ p. bytes_eq text p.name) s.partitions ≡ Some k → actor_named s text ≡ Some (record { 0 = k })
unfolding actor_names
is_partition s text k h =
    ap (option_map (λ place. record { 0 = place })) (in_first (bytes_eq text) (map (λ p. p.name) s.partitions) (s.clients ++ device_names s.sources) k (position-map (λ p. p.name) (bytes_eq text) s.partitions ∙ h))

past_partitions : (s : System) (text : List ℕ) → position (λ p. bytes_eq text p.name) s.partitions ≡ None → position (bytes_eq text) (actor_names s) ≡ option_map (λ k. length s.partitions + k) (position (bytes_eq text) (s.clients ++ device_names s.sources))
unfolding actor_names
past_partitions s text h =
    let names = map (λ p. p.name) s.partitions in
    in_second (bytes_eq text) names (s.clients ++ device_names s.sources) (position-map (λ p. p.name) (bytes_eq text) s.partitions ∙ h)
    ∙ ap (λ n. option_map (λ k. n + k) (position (bytes_eq text) (s.clients ++ device_names s.sources))) (length-map s.partitions (λ p. p.name))

pub is_client : (s : System) (text : List ℕ) (k : ℕ) → position (λ p. bytes_eq text p.name) s.partitions ≡ None → position (bytes_eq text) s.clients ≡ Some k → actor_named s text ≡ Some (record { 0 = length s.partitions + k })
is_client s text k none h =
    ap (option_map (λ place. record { 0 = place })) (past_partitions s text none ∙ ap (option_map (λ k. length s.partitions + k)) (in_first (bytes_eq text) s.clients (device_names s.sources) k h))

past_clients : (s : System) (text : List ℕ) → position (λ p. bytes_eq text p.name) s.partitions ≡ None → position (bytes_eq text) s.clients ≡ None
    → position (bytes_eq text) (actor_names s) ≡ option_map (λ k. length s.partitions + k) (option_map (λ k. length s.clients + k) (position (bytes_eq text) (device_names s.sources)))
past_clients s text none none_here = past_partitions s text none ∙ ap (option_map (λ k. length s.partitions + k)) (in_second (bytes_eq text) s.clients (device_names s.sources) none_here)

device_is : (text : List ℕ) (sources : List Source) → bytes_eq text (codes "device") ≡ true → 0 < length sources → position (bytes_eq text) (device_names sources) ≡ Some 0
device_is text [] is some = absurd (omega arith)
device_is text (x ∷ xs) is some = rw is refl

pub is_device : (s : System) (text : List ℕ) → position (λ p. bytes_eq text p.name) s.partitions ≡ None → position (bytes_eq text) s.clients ≡ None → bytes_eq text (codes "device") ≡ true → 0 < length s.sources
    → actor_named s text ≡ Some (record { 0 = length s.partitions + length s.clients })
is_device s text none none_here is some =
    let at : length s.partitions + (length s.clients + 0) ≡ length s.partitions + length s.clients = omega arith in
    let found : position (bytes_eq text) (actor_names s) ≡ Some (length s.partitions + length s.clients) = past_clients s text none none_here ∙ rw (device_is text s.sources is some) (ap Some at) in
    ap (option_map (λ place. record { 0 = place })) found

device_is_not : (text : List ℕ) (sources : List Source) → bytes_eq text (codes "device") ≡ false → position (bytes_eq text) (device_names sources) ≡ None
device_is_not text [] is = refl
device_is_not text (x ∷ xs) is = rw is refl

no_device : (text : List ℕ) (sources : List Source) → length sources ≡ 0 → position (bytes_eq text) (device_names sources) ≡ None
no_device text [] none = refl
no_device text (x ∷ xs) none = absurd (omega arith)

pub is_nobody : (s : System) (text : List ℕ) → position (λ p. bytes_eq text p.name) s.partitions ≡ None → position (bytes_eq text) s.clients ≡ None → bytes_eq text (codes "device") ≡ false → actor_named s text ≡ None
is_nobody s text none none_here is =
    let found : position (bytes_eq text) (actor_names s) ≡ None = past_clients s text none none_here ∙ rw (device_is_not text s.sources is) refl in
    ap (option_map (λ place. record { 0 = place })) found

pub is_no_device : (s : System) (text : List ℕ) → position (λ p. bytes_eq text p.name) s.partitions ≡ None → position (bytes_eq text) s.clients ≡ None → length s.sources ≡ 0 → actor_named s text ≡ None
is_no_device s text none none_here none_there =
    let found : position (bytes_eq text) (actor_names s) ≡ None = past_clients s text none none_here ∙ rw (no_device text s.sources none_there) refl in
    ap (option_map (λ place. record { 0 = place })) found
