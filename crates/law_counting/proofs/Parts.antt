-- What the parts of the balance keep when a list is updated.
use Rattle.std.proofs.Common.{ℕ, zero, suc, ◌≡◌, ◌<◌, ◌≤◌, ◌+◌, ◌==◌, Bool, true, false, cond, ◌&&◌, List, [], ◌∷◌, length, get_or, arith, ◌∙◌, ap, sym, refl, subst}
use Rattle.std.specs.Prelude.{find, Some, slice_set}
use Rattle.std.proofs.lemmas.Grind.{common_steps}
use Rattle.std.proofs.lemmas.Bool.{eq-eqb}
use Rattle.law_lists.proofs.Counts.{bit}
use Rattle.ffm_model.specs.declared.machine.Outcome.{Outcome}
use Rattle.ffm_model.specs.declared.machine.Outcome.TheVariants as outcome
use Rattle.ffm_model.specs.declared.objects.OpenConnection.{OpenConnection}
use Rattle.ffm_model.specs.declared.objects.ActorPhase.{ActorPhase}
use Rattle.ffm_model.specs.declared.objects.ActorPhase.TheVariants.{Running, Blocked, Connected, Ended, Panicked}
use Rattle.ffm_model.specs.State.{Rises}
use Rattle.law_counting.specs.Objects.{PhaseFits, is_joining}

-- an outcome that ends its call, and no panic
abbrev pub is_plain : Outcome → Bool
is_plain outcome.Blocked = false
is_plain outcome.Panicked = false
is_plain _ = true

-- an actor whose phase is not Ended is there
pub is_there : (phases : List ActorPhase) (a : ℕ) → (get_or phases a Ended ≡ Ended → ⊥) → a < length phases
is_there [] a h = absurd (h refl)
is_there (p ∷ ps) zero h = omega arith
is_there (p ∷ ps) (suc a) h = omega (arith, is_there ps a h)

pub same_or_not : (x a : ℕ) (P : Type 0) → (x ≡ a → P) → ((x == a) ≡ false → P) → P
same_or_not x a P equal apart =
    let go : (b : Bool) → (x == a) ≡ b → P = elim [ true ↦ λ e. let it : x ≡ a = grind arith in equal it | false ↦ λ e. apart e ] in
    go (x == a) refl

pub phase_same : (phases : List ActorPhase) (a : ℕ) (p : ActorPhase) → a < length phases → get_or (slice_set phases a p) a Ended ≡ p
phase_same phases a p inside = grind (arith, common_steps)

pub phase_other : (phases : List ActorPhase) (a x : ℕ) (p : ActorPhase) → (x == a) ≡ false → get_or (slice_set phases a p) x Ended ≡ get_or phases x Ended
phase_other phases a x p other = grind (arith, common_steps)

pub fits_same : (p : ActorPhase) (n n' k k' : ℕ) (j j' : ℕ → ℕ) → n' ≡ n → k' ≡ k → ((m : ℕ) → j' m ≡ j m) → PhaseFits p n k j → PhaseFits p n' k' j'
fits_same (Connected c) n n' k k' j j' en ek ej h = (en ∙ h.0, ej c ∙ h.1)
fits_same Panicked n n' k k' j j' en ek ej h = ek ∙ h
fits_same _ n n' k k' j j' en ek ej h = en ∙ h

-- one actor's phase changes, and only that actor's numbers
pub fitting-set : (phases : List ActorPhase) (a : ℕ) (p : ActorPhase) (N N' K K' : ℕ → ℕ) (J J' : ℕ → ℕ → ℕ) → a < length phases
    → PhaseFits p (N' a) (K' a) (J' a)
    → ((x : ℕ) → (x == a) ≡ false → N' x ≡ N x) → ((x : ℕ) → (x == a) ≡ false → K' x ≡ K x) → ((x n : ℕ) → (x == a) ≡ false → J' x n ≡ J x n)
    → ((x : ℕ) → PhaseFits (get_or phases x Ended) (N x) (K x) (J x)) → (x : ℕ) → PhaseFits (get_or (slice_set phases a p) x Ended) (N' x) (K' x) (J' x)
fitting-set phases a p N N' K K' J J' inside here n k j old x =
    same_or_not x a (PhaseFits (get_or (slice_set phases a p) x Ended) (N' x) (K' x) (J' x))
    (λ e. subst (λ (y : ℕ). PhaseFits (get_or (slice_set phases a p) y Ended) (N' y) (K' y) (J' y)) (sym e)
    (subst (λ (q : ActorPhase). PhaseFits q (N' a) (K' a) (J' a)) (sym (phase_same phases a p inside)) here))
    (λ e. subst (λ (q : ActorPhase). PhaseFits q (N' x) (K' x) (J' x)) (sym (phase_other phases a x p e))
    (fits_same (get_or phases x Ended) (N x) (N' x) (K x) (K' x) (J x) (J' x) (n x e) (k x e) (λ m. j x m e) (old x)))

-- where neither the old phase nor the new one joins a connection
pub joining-set : (phases : List ActorPhase) (a n x : ℕ) (p : ActorPhase) → a < length phases → is_joining (get_or phases a Ended) n ≡ false → is_joining p n ≡ false
    → is_joining (get_or (slice_set phases a p) x Ended) n ≡ is_joining (get_or phases x Ended) n
joining-set phases a n x p inside old new =
    same_or_not x a (is_joining (get_or (slice_set phases a p) x Ended) n ≡ is_joining (get_or phases x Ended) n)
    (λ e. ap (λ y. is_joining (get_or (slice_set phases a p) y Ended) n) e ∙ ap (λ q. is_joining q n) (phase_same phases a p inside) ∙ new ∙ sym old ∙ ap (λ y. is_joining (get_or phases y Ended) n) (sym e))
    (λ e. ap (λ q. is_joining q n) (phase_other phases a x p e))

-- a connection that is found by any test is the one with its serial number
found-above : (lo hi : ℕ) (q : OpenConnection → Bool) (cs : List OpenConnection) (c : OpenConnection) → Rises lo cs hi → find q cs ≡ Some c → lo ≤ c.serial
found-above lo hi q [] c h f = cc
found-above lo hi q (d ∷ ds) c h f =
    let go : (b : Bool) → cond b (Some d) (find q ds) ≡ Some c → lo ≤ c.serial =
    elim [
      | true ↦ λ g. let it : d ≡ c = cc in let e : d.serial ≡ c.serial = ap (λ (x : OpenConnection). x.serial) it in omega (arith, h.0)
      | false ↦ λ g. omega (arith, h.0, found-above (d.serial + 1) hi q ds c h.1 g)
    ] in
    go (q d) f

not_same_false : (x n : ℕ) → x < n → (x == n) ≡ false
not_same_false x n h = grind arith

pub found-serial : (lo hi : ℕ) (q : OpenConnection → Bool) (cs : List OpenConnection) (c : OpenConnection) → Rises lo cs hi → find q cs ≡ Some c → find (λ d. d.serial == c.serial) cs ≡ Some c
found-serial lo hi q [] c h f = cc
found-serial lo hi q (d ∷ ds) c h f =
    let go : (b : Bool) → cond b (Some d) (find q ds) ≡ Some c → cond (d.serial == c.serial) (Some d) (find (λ x. x.serial == c.serial) ds) ≡ Some c =
    elim [
      | true ↦ λ g. let it : d ≡ c = cc in
          ap (λ (x : OpenConnection). cond (x.serial == c.serial) (Some x) (find (λ y. y.serial == c.serial) ds)) it ∙ ap (λ b. cond b (Some c) (find (λ y. y.serial == c.serial) ds)) (eq-eqb c.serial c.serial refl)
      | false ↦ λ g. let above : d.serial + 1 ≤ c.serial = found-above (d.serial + 1) hi q ds c h.1 g in
          ap (λ b. cond b (Some d) (find (λ y. y.serial == c.serial) ds)) (not_same_false d.serial c.serial (omega arith)) ∙ found-serial (d.serial + 1) hi q ds c h.1 g
    ] in
    go (q d) f

-- bits of tests that are joined
pub off_left : (b c : Bool) → b ≡ false → bit (b && c) ≡ 0
off_left true c e = cc
off_left false c e = refl

pub off_right : (b c : Bool) → c ≡ false → bit (b && c) ≡ 0
off_right true c e = ap bit e
off_right false c e = refl

pub on_left : (b c : Bool) → b ≡ true → bit (b && c) ≡ bit c
on_left true c e = refl
on_left false c e = cc

pub flipped : (x a : ℕ) → (x == a) ≡ false → (a == x) ≡ false
flipped x a e = grind arith

pub is_itself : (a : ℕ) → (a == a) ≡ true
is_itself a = grind arith

pub off_from : (b : Bool) → bit b ≡ 0 → b ≡ false
off_from true e = absurd (omega (arith, e))
off_from false e = refl

pub set_same : (phases : List ActorPhase) (a : ℕ) (p : ActorPhase) → get_or phases a Ended ≡ p → slice_set phases a p ≡ phases
set_same [] a p e = refl
set_same (q ∷ qs) zero p e = ap (λ (x : ActorPhase). x ∷ qs) (sym e)
set_same (q ∷ qs) (suc a) p e = ap (λ (xs : List ActorPhase). q ∷ xs) (set_same qs a p e)

-- a client that asks is Blocked
pub asking-blocked : (p : ActorPhase) (n k : ℕ) (j : ℕ → ℕ) → PhaseFits p n k j → 1 ≤ k → k ≤ n → p ≡ Blocked
asking-blocked Blocked n k j h one le = refl
asking-blocked (Connected c) n k j h one le = absurd (omega (arith, h.0))
asking-blocked _ n k j h one le = absurd (omega (arith, h))

-- only a Blocked or a Panicked actor is awaited
pub running-quiet : (p : ActorPhase) (n k : ℕ) (j : ℕ → ℕ) → p ≡ Running → PhaseFits p n k j → n ≡ 0
running-quiet p n k j e h = subst (λ (q : ActorPhase). PhaseFits q n k j) e h
