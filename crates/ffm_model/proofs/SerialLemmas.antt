-- The serial numbers of connections rise, also where connections are added, changed or taken out; so no two are the same.
use Rattle.std.proofs.Common.{ℕ, ◌≡◌, ◌<◌, ◌≤◌, ◌+◌, ◌==◌, Bool, true, false, cond, List, [], ◌∷◌, ◌++◌, arith, refl, sym, subst}
use Rattle.std.specs.Prelude.{count_by, map, filter}
use Rattle.std.proofs.lemmas.Bool.{eqb-true}
use Rattle.std.proofs.lemmas.List.Sums.{sum_by-cons}
use Rattle.ffm_model.specs.declared.objects.OpenConnection.{OpenConnection}
use Rattle.ffm_model.specs.State.{Rises}

pub rises-bounds : (low made : ℕ) (cs : List OpenConnection) → Rises low cs made → low ≤ made
rises-bounds low made [] r = r
rises-bounds low made (c ∷ cs) r = omega (arith, r.0, rises-bounds (c.serial + 1) made cs r.1)

pub rises-weaker : (low least made : ℕ) (cs : List OpenConnection) → least ≤ low → Rises low cs made → Rises least cs made
rises-weaker low least made [] le r = omega arith
rises-weaker low least made (c ∷ cs) le r = (omega (arith, r.0), r.1)

pub rises-push : (low made : ℕ) (cs : List OpenConnection) (c : OpenConnection) → Rises low cs made → c.serial ≡ made → Rises low (cs ++ c ∷ []) (made + 1)
rises-push low made [] c r e = (omega arith, omega arith)
rises-push low made (d ∷ ds) c r e = (r.0, rises-push (d.serial + 1) made ds c r.1 e)

pub rises-map : (low made : ℕ) (f : OpenConnection → OpenConnection) → ((c : OpenConnection) → (f c).serial ≡ c.serial) → (cs : List OpenConnection) → Rises low cs made → Rises low (map f cs) made
rises-map low made f same [] r = r
rises-map low made f same (c ∷ cs) r =
    (omega (arith, same c, r.0), subst (λ n. Rises (n + 1) (map f cs) made) (sym (same c)) (rises-map (c.serial + 1) made f same cs r.1))

pub rises-filter : (low made : ℕ) (q : OpenConnection → Bool) (cs : List OpenConnection) → Rises low cs made → Rises low (filter q cs) made
rises-filter low made q [] r = r
rises-filter low made q (c ∷ cs) r =
    let rest : Rises (c.serial + 1) (filter q cs) made = rises-filter (c.serial + 1) made q cs r.1 in
    let go : (b : Bool) → Rises low (cond b (c ∷ filter q cs) (filter q cs)) made =
    elim [ true ↦ (r.0, rest) | false ↦ rises-weaker (c.serial + 1) low made (filter q cs) (omega (arith, r.0)) rest ] in
    go (q c)

-- ---- no connection has a number below the first one, and no two have the same

serials-cons : (n : ℕ) (c : OpenConnection) (cs : List OpenConnection) → count_by (λ d. d.serial == n) (c ∷ cs) ≡ cond (c.serial == n) 1 0 + count_by (λ d. d.serial == n) cs
serials-cons n c cs = sum_by-cons (λ d. cond (d.serial == n) 1 0) c cs

pub serial-before : (low made n : ℕ) (cs : List OpenConnection) → Rises low cs made → n < low → count_by (λ c. c.serial == n) cs ≡ 0
serial-before low made n [] r below = refl
serial-before low made n (c ∷ cs) r below =
    let other : cond {A = ℕ} (c.serial == n) 1 0 ≡ 0 = grind (arith, r.0) in
    omega (arith, serials-cons n c cs, other, serial-before (c.serial + 1) made n cs r.1 (omega (arith, r.0)))

pub serial-once : (low made n : ℕ) (cs : List OpenConnection) → Rises low cs made → count_by (λ c. c.serial == n) cs ≤ 1
serial-once low made n [] r = omega arith
serial-once low made n (c ∷ cs) r =
    let go : (b : Bool) → (c.serial == n) ≡ b → cond {A = ℕ} b 1 0 + count_by (λ d. d.serial == n) cs ≤ 1 =
    elim [
      | true ↦ λ e. omega (arith, serial-before (c.serial + 1) made n cs r.1 (omega (arith, eqb-true c.serial n e)))
      | false ↦ λ e. omega (arith, serial-once (c.serial + 1) made n cs r.1)
    ] in
    omega (arith, serials-cons n c cs, go (c.serial == n) refl)
