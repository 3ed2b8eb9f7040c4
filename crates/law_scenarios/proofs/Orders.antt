-- Two orders of entries that fix the next actor: a list of actors, and the turns of a schedule.
use Rattle.std.proofs.Common.{ℕ, ◌≡◌, ◌<◌, ◌+◌, Bool, true, false, true≢false, List, [], ◌∷◌, ◌++◌, arith, refl, ap, sym, subst, ◌∙◌}
use Rattle.std.specs.Prelude.{Option, Some, nat_lt}
use Rattle.std.proofs.lemmas.Bool.Decides.{nat_tests}
use Rattle.ffm_model.specs.declared.system.System.{System}
use Rattle.ffm_model.specs.declared.machine.ActorId.{ActorId}
use Rattle.ffm_model.specs.declared.machine.Entry.{Entry}
use Rattle.ffm_model.specs.Memory.{ByteMap}
use Rattle.ffm_model.specs.Schedule.{IsNext, Scheduled, Turns, turn_at}
use Rattle.ffm_model.specs.State.{State, opening}
use Rattle.ffm_model.specs.Step.{step_on}
use Rattle.law_scenarios.specs.Interleavings.{actors_of}
use Rattle.law_scenarios.proofs.Fronts.{FixesActors}

-- ---- a list of actors

-- the entries' actors begin the list
abbrev pub Follows : List ℕ → List Entry → Type 0
Follows order es = (more : List ℕ) × (order ≡ actors_of es ++ more)

abbrev head : List ℕ → ℕ
head [] = 0
head (a ∷ order) = a

abbrev tail : List ℕ → List ℕ
tail [] = []
tail (a ∷ order) = order

pub follows-fixes : (order : List ℕ) → FixesActors (Follows order)
follows-fixes order [] us vs e f g h = sym (ap head g.1) ∙ ap head h.1
follows-fixes order (x ∷ xs) us vs e f g h = follows-fixes (tail order) xs us vs e f (g.0, ap tail g.1) (h.0, ap tail h.1)

-- ---- turns

not-later : (s : System) (schedule : List ActorId) (st : Option State) (t u w : ℕ) → IsNext s schedule st t u → IsNext s schedule st t w → u < w → ⊥
not-later s schedule st t u w g h lt = true≢false (sym g.on ∙ h.passed u g.from lt)

one-next : (s : System) (schedule : List ActorId) (st : Option State) (t u w : ℕ) → IsNext s schedule st t u → IsNext s schedule st t w → u ≡ w
one-next s schedule st t u w g h =
    let go : (x y : Bool) → nat_lt u w ≡ x → nat_lt w u ≡ y → u ≡ w = elim [
      | true ↦ λ y p q. absurd (let lt : u < w = grind (arith, nat_tests) in not-later s schedule st t u w g h lt)
      | false ↦ elim [
        | true ↦ λ p q. absurd (let lt : w < u = grind (arith, nat_tests) in not-later s schedule st t w u h g lt)
        | false ↦ λ p q. grind (arith, nat_tests)
      ]
    ] in
    go (nat_lt u w) (nat_lt w u) refl refl

-- the entries are made in turns, up to some turn
abbrev InTurns : System → List ActorId → Option State → ℕ → List Entry → Type 0
InTurns s schedule st t es = (end : ℕ) × Turns s schedule st t es end

turns-fix : (s : System) (schedule : List ActorId) (st : Option State) (t : ℕ) → FixesActors (InTurns s schedule st t)
turns-fix s schedule st t [] us vs e f g h =
    let of_g = g.1 in
    let of_h = h.1 in
    of_g.2 ∙ ap (turn_at s schedule) (one-next s schedule st t of_g.0 of_h.0 of_g.1 of_h.1) ∙ sym of_h.2
turns-fix s schedule st t (x ∷ xs) us vs e f g h =
    let of_g = g.1 in
    let of_h = h.1 in
    let same : of_g.0 ≡ of_h.0 = one-next s schedule st t of_g.0 of_h.0 of_g.1 of_h.1 in
    turns-fix s schedule (step_on s st x) (of_g.0 + 1) xs us vs e f (g.0, of_g.3)
    (subst (λ (u : ℕ). InTurns s schedule (step_on s st x) (u + 1) (xs ++ f ∷ vs)) (sym same) (h.0, of_h.3))

pub schedule-fixes : (s : System) (m : ByteMap) (schedule : List ActorId) → FixesActors (Scheduled s m schedule)
schedule-fixes s m schedule = turns-fix s schedule (Some (opening s m)) 0
