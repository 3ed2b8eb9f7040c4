-- A search round and round.
use Rattle.std.proofs.Common.{ℕ, zero, suc, ◌+◌, ◌-◌, ◌<◌, ◌≤◌, ◌≡◌, ◌==◌, Bool, true, false, List, get_or, refl, ap, sym, ◌∙◌, arith, eqb-true, inl, inr}
use Rattle.std.proofs.lemmas.Bool.Decides.{nat_tests}
use Rattle.std.proofs.lemmas.Bool.{cases_lt}
use Rattle.std.specs.Prelude.{Option, Some, None, IfSome, if◌then◌else◌}
use Rattle.ffm_model.specs.Contexts.{DeskView, first_from, next_context, picked}

-- ---- one context after another

pub first-here : (count : ℕ) (ended : List Bool) (at n : ℕ) → 0 < n → get_or ended at false ≡ false → first_from count ended at n ≡ Some at
unfolding first_from
first-here count ended at zero h e = absurd (omega arith)
first-here count ended at (suc n) h e = rw e refl

pub first-next : (count : ℕ) (ended : List Bool) (at n : ℕ) → 0 < n → get_or ended at false ≡ true
    → first_from count ended at n ≡ first_from count ended (next_context count at) (n - 1)
unfolding first_from
first-next count ended at zero h e = absurd (omega arith)
first-next count ended at (suc n) h e = let m : suc n - 1 ≡ n = omega arith in rw (e, m) refl

pub first-none : (count : ℕ) (ended : List Bool) (at n : ℕ) → n ≡ 0 → first_from count ended at n ≡ None
unfolding first_from
first-none count ended at n e = rw e refl

-- the one that is found is one of them
pub within-by : (count at : ℕ) (b : Bool) → (at + 1 == count) ≡ b → at < count → (if b then 0 else at + 1) < count
within-by count at true e h = omega arith
within-by count at false e h = grind (arith, nat_tests)

next-within : (count at : ℕ) → at < count → next_context count at < count
next-within count at h = within-by count at (at + 1 == count) refl h

some-within : (count at : ℕ) (o : Option ℕ) (b : Bool) → at < count → IfSome o (λ k. k < count) → IfSome (if b then o else Some at) (λ k. k < count)
some-within count at o true h k = k
some-within count at o false h k = h

pub first-within : (count : ℕ) (ended : List Bool) (n at : ℕ) → at < count → IfSome (first_from count ended at n) (λ k. k < count)
unfolding first_from
first-within count ended zero at h = tt
first-within count ended (suc n) at h =
    some-within count at (first_from count ended (next_context count at) n) (get_or ended at false) h
    (first-within count ended n (next_context count at) (next-within count at h))

-- ---- all contexts are passed

-- the context j places after one
next_many : ℕ → ℕ → ℕ → ℕ
next_many count at zero = at
next_many count at (suc j) = next_many count (next_context count at) j

next-inside : (count at : ℕ) → at + 1 < count → next_context count at ≡ at + 1
next-inside count at h = let no : (at + 1 == count) ≡ false = grind (arith, nat_tests) in rw no refl

next-wraps : (count at : ℕ) → at + 1 ≡ count → next_context count at ≡ 0
next-wraps count at h = let yes : (at + 1 == count) ≡ true = grind (arith, nat_tests) in rw yes refl

many-inside : (count j at : ℕ) → at + j < count → next_many count at j ≡ at + j
unfolding next_many
many-inside count zero at h = omega arith
many-inside count (suc j) at h =
    let e = next-inside count at (omega arith) in
    ap (λ (x : ℕ). next_many count x j) e ∙ (many-inside count j (at + 1) (omega arith) ∙ omega arith)

wrapped-by : (count j at : ℕ) (b : Bool) → (at + 1 == count) ≡ b → at < count → count ≤ at + suc j → at + suc j < count + count
    → ((x : ℕ) → x < count → count ≤ x + j → x + j < count + count → next_many count x j ≡ x + j - count)
    → next_many count (next_context count at) j ≡ at + suc j - count
wrapped-by count j at true e inside low high go =
    let last : at + 1 ≡ count = eqb-true (at + 1) count e in
    ap (λ (x : ℕ). next_many count x j) (next-wraps count at last) ∙ (many-inside count j 0 (omega arith) ∙ omega arith)
wrapped-by count j at false e inside low high go =
    let more : at + 1 < count = grind (arith, nat_tests) in
    ap (λ (x : ℕ). next_many count x j) (next-inside count at more) ∙ (go (at + 1) more (omega arith) (omega arith) ∙ omega arith)

many-wrapped : (count j at : ℕ) → at < count → count ≤ at + j → at + j < count + count → next_many count at j ≡ at + j - count
unfolding next_many
many-wrapped count zero at inside low high = absurd (omega arith)
many-wrapped count (suc j) at inside low high = wrapped-by count j at (at + 1 == count) refl inside low high (λ x. many-wrapped count j x)

many-within : (count j at : ℕ) → at < count → next_many count at j < count
unfolding next_many
many-within count zero at h = h
many-within count (suc j) at h = many-within count j (next_context count at) (next-within count at h)

ended-by : (count : ℕ) (ended : List Bool) (n at : ℕ) (b : Bool) → get_or ended at false ≡ b
    → (if b then first_from count ended (next_context count at) n else Some at) ≡ None
    → (first_from count ended (next_context count at) n ≡ None → (j : ℕ) → j < n → get_or ended (next_many count (next_context count at) j) false ≡ true)
    → (j : ℕ) → j < suc n → get_or ended (next_many count at j) false ≡ true
unfolding next_many
ended-by count ended n at true e h go zero low = e
ended-by count ended n at true e h go (suc j) low = go h j (omega arith)
ended-by count ended n at false e h go j low = cc

all-ended : (count : ℕ) (ended : List Bool) (n at : ℕ) → first_from count ended at n ≡ None
    → (j : ℕ) → j < n → get_or ended (next_many count at j) false ≡ true
unfolding first_from
all-ended count ended zero at h j low = absurd (omega arith)
all-ended count ended (suc n) at h j low =
    ended-by count ended n at (get_or ended at false) refl h (all-ended count ended n (next_context count at)) j low

none-found : (count : ℕ) (ended : List Bool) (n at : ℕ) → ((j : ℕ) → j < n → get_or ended (next_many count at j) false ≡ true)
    → first_from count ended at n ≡ None
unfolding first_from next_many
none-found count ended zero at h = refl
none-found count ended (suc n) at h =
    let first : get_or ended at false ≡ true = h 0 (omega arith) in
    rw first (none-found count ended n (next_context count at) (λ j low. h (suc j) (omega arith)))

-- each context is some places after the turn
pub pick-none : (d : DeskView) (ended : List Bool) → d.turn < d.count → picked d ended ≡ None → (k : ℕ) → k < d.count → get_or ended k false ≡ true
pick-none d ended inside h k low =
    elim (cases_lt k d.turn) [
      | inl below ↦
          let j : ℕ = k + d.count - d.turn in
          let at : next_many d.count d.turn j ≡ k = many-wrapped d.count j d.turn inside (omega arith) (omega arith) ∙ omega arith in
          ap (λ (x : ℕ). get_or ended x false) (sym at) ∙ all-ended d.count ended d.count d.turn h j (omega arith)
      | inr above ↦
          let j : ℕ = k - d.turn in
          let at : next_many d.count d.turn j ≡ k = many-inside d.count j d.turn (omega arith) ∙ omega arith in
          ap (λ (x : ℕ). get_or ended x false) (sym at) ∙ all-ended d.count ended d.count d.turn h j (omega arith)
    ]

pub none-pick : (d : DeskView) (ended : List Bool) → d.turn < d.count → ((k : ℕ) → k < d.count → get_or ended k false ≡ true) → picked d ended ≡ None
none-pick d ended inside h =
    none-found d.count ended d.count d.turn (λ j low. h (next_many d.count d.turn j) (many-within d.count j d.turn inside))
