-- A threaded queue after an index is put at its end or taken out.
use Rattle.std.proofs.Common.{ℕ, ◌≡◌, ◌≤◌, ◌+◌, ◌==◌, Bool, true, false, cond, not, List, [], ◌∷◌, ◌++◌, arith, ◌∙◌, ap, sym, refl, subst, inl, inr}
use Rattle.std.specs.Prelude.{Option, Some, None, filter, ◌⊎◌}
use Rattle.std.proofs.lemmas.Bool.{eqb-true}
use Rattle.std.proofs.lemmas.Option.{same_Some, none-some}
use Rattle.law_lists.proofs.Counts.{bit, count-cons}
use Rattle.object_pools.proofs.Orders.{times, same_bit}
use Rattle.spm_tables.specs.Queues.{first_of, last_of, Threaded}

-- no index stands in the queue twice
pub record Once (q : List ℕ) : Type 0 where
  pub once : (i : ℕ) → times i q ≤ 1

abbrev pub out : ℕ → List ℕ → List ℕ
out i q = filter (λ k. not (k == i)) q

Once-rest : (x : ℕ) (q : List ℕ) → Once (x ∷ q) → Once q
Once-rest x q o = record { once = λ i. omega (arith, o.once i, count-cons (λ k. k == i) x q) }

Once-first : (x : ℕ) (q : List ℕ) → Once (x ∷ q) → times x q ≡ 0
Once-first x q o = omega (arith, o.once x, count-cons (λ k. k == x) x q, same_bit x)

here-in : (x k : ℕ) (q : List ℕ) → x ≡ k → 1 ≤ times k (x ∷ q)
here-in x k q e = omega (arith, count-cons (λ j. j == k) x q, same_bit x, ap (λ n. bit (x == n)) e)

rest-in : (x k : ℕ) (q : List ℕ) → 1 ≤ times k q → 1 ≤ times k (x ∷ q)
rest-in x k q h = omega (arith, count-cons (λ j. j == k) x q)

in-rest : (x i : ℕ) (q : List ℕ) → (x == i) ≡ false → 1 ≤ times i (x ∷ q) → 1 ≤ times i q
in-rest x i q e h = omega (arith, count-cons (λ j. j == i) x q, ap bit e)

pub out-none : (i : ℕ) (q : List ℕ) → times i q ≡ 0 → out i q ≡ q
out-none i [] none = refl
out-none i (x ∷ q) none =
    let split : bit (x == i) + times i q ≡ 0 = sym (count-cons (λ k. k == i) x q) ∙ none in
    let rest : out i q ≡ q = out-none i q (omega arith) in
    let go : (b : Bool) → bit b + times i q ≡ 0 → cond (not b) (x ∷ out i q) (out i q) ≡ x ∷ q =
    elim [ true ↦ λ k. absurd (omega arith) | false ↦ λ k. ap (λ (is : List ℕ). x ∷ is) rest ] in
    go (x == i) split

module _ (A B C D : ℕ → Option ℕ) where
  pub frame : (p : Option ℕ) (q : List ℕ) → ((k : ℕ) → 1 ≤ times k q → C k ≡ A k) → ((k : ℕ) → 1 ≤ times k q → D k ≡ B k) → Threaded A B p q → Threaded C D p q
  frame p [] after before t = tt
  frame p (x ∷ q) after before t = (
    after x (here-in x x q refl) ∙ t.0,
    before x (here-in x x q refl) ∙ t.1,
    frame (Some x) q (λ k h. after k (rest-in x k q h)) (λ k h. before k (rest-in x k q h)) t.2,
  )

pub last-in : (x k : ℕ) (q : List ℕ) → last_of (Some x) q ≡ Some k → 1 ≤ times k (x ∷ q)
last-in x k [] e = here-in x k [] (same_Some x k e)
last-in x k (y ∷ q) e = rest-in x k (y ∷ q) (last-in y k q e)

-- ---- an index is put at the end

module _ (A B C D : ℕ → Option ℕ) (j : ℕ) where
  pub record Joins (p : Option ℕ) (q : List ℕ) : Type 0 where
    pub last : (k : ℕ) → 1 ≤ times k q → last_of p q ≡ Some k → C k ≡ Some j
    pub after : (k : ℕ) → 1 ≤ times k q → (last_of p q ≡ Some k → ⊥) → C k ≡ A k
    pub before : (k : ℕ) → 1 ≤ times k q → D k ≡ B k
    pub new_after : C j ≡ None
    pub new_before : D j ≡ last_of p q

  Joins-rest : (p : Option ℕ) (x : ℕ) (q : List ℕ) → Joins p (x ∷ q) → Joins (Some x) q
  Joins-rest p x q w = record {
    last = λ k h. w.last k (rest-in x k q h);
    after = λ k h. w.after k (rest-in x k q h);
    before = λ k h. w.before k (rest-in x k q h);
    new_after = w.new_after;
    new_before = w.new_before;
  }

  pub push : (p : Option ℕ) (q : List ℕ) → Once q → Joins p q → Threaded A B p q → Threaded C D p (q ++ j ∷ [])
  push p [] o w t = (w.new_after, w.new_before, tt)
  push p (x ∷ []) o w t = (w.last x (here-in x x [] refl) refl, w.before x (here-in x x [] refl) ∙ t.1, push (Some x) [] (Once-rest x [] o) (Joins-rest p x [] w) tt)
  push p (x ∷ y ∷ q) o w t =
      let apart : last_of p (x ∷ y ∷ q) ≡ Some x → ⊥ = λ e. omega (arith, last-in y x q e, Once-first x (y ∷ q) o) in (
        w.after x (here-in x x (y ∷ q) refl) apart ∙ t.0,
        w.before x (here-in x x (y ∷ q) refl) ∙ t.1,
        push (Some x) (y ∷ q) (Once-rest x (y ∷ q) o) (Joins-rest p x (y ∷ q) w) t.2,
      )

-- ---- an index is taken out

module _ (A B : ℕ → Option ℕ) (i : ℕ) where
  pub next-in : (p : Option ℕ) (q : List ℕ) (k : ℕ) → Threaded A B p q → 1 ≤ times i q → A i ≡ Some k → 1 ≤ times k q
  next-in p [] k t h e = absurd (omega arith)
  next-in p (x ∷ q) k t h e =
      let go : (b : Bool) → (x == i) ≡ b → 1 ≤ times k (x ∷ q) =
      elim [
        | true ↦ λ f. first-in q (sym t.0 ∙ ap A (eqb-true x i f) ∙ e)
        | false ↦ λ f. rest-in x k q (next-in (Some x) q k t.2 (in-rest x i q f h) e)
      ] in
      go (x == i) refl where
        first-in : (r : List ℕ) → first_of r ≡ Some k → 1 ≤ times k (x ∷ r)
        first-in [] f = absurd (none-some k f)
        first-in (y ∷ r) f = rest-in x k (y ∷ r) (here-in y k r (same_Some y k f))

  pub prior-in : (p : Option ℕ) (q : List ℕ) (k : ℕ) → Threaded A B p q → 1 ≤ times i q → B i ≡ Some k → (p ≡ Some k) ⊎ (1 ≤ times k q)
  prior-in p [] k t h e = absurd (omega arith)
  prior-in p (x ∷ q) k t h e =
      let go : (b : Bool) → (x == i) ≡ b → (p ≡ Some k) ⊎ (1 ≤ times k (x ∷ q)) =
      elim [
        | true ↦ λ f. inl (sym t.1 ∙ ap B (eqb-true x i f) ∙ e)
        | false ↦ λ f. later (prior-in (Some x) q k t.2 (in-rest x i q f h) e)
      ] in
      go (x == i) refl where
        later : (Some x ≡ Some k) ⊎ (1 ≤ times k q) → (p ≡ Some k) ⊎ (1 ≤ times k (x ∷ q))
        later (inl f) = inr (here-in x k q (same_Some x k f))
        later (inr f) = inr (rest-in x k q f)

  prior-some : (y : ℕ) (q : List ℕ) → Threaded A B (Some y) q → 1 ≤ times i q → B i ≡ None → ⊥
  prior-some y [] t h e = omega arith
  prior-some y (x ∷ q) t h e =
      let go : (b : Bool) → (x == i) ≡ b → ⊥ =
      elim [
        | true ↦ λ f. none-some y (sym e ∙ ap B (sym (eqb-true x i f)) ∙ t.1)
        | false ↦ λ f. prior-some x q t.2 (in-rest x i q f h) e
      ] in
      go (x == i) refl

  out-here : (x : ℕ) (q : List ℕ) → Once (x ∷ q) → (x == i) ≡ true → out i (x ∷ q) ≡ q
  out-here x q o f =
      let same : x ≡ i = eqb-true x i f in
      ap (λ (b : Bool). cond (not b) (x ∷ out i q) (out i q)) f ∙ out-none i q (omega (arith, Once-first x q o, ap (λ n. times n q) same))

  out-else : (x : ℕ) (q : List ℕ) → (x == i) ≡ false → out i (x ∷ q) ≡ x ∷ out i q
  out-else x q f = ap (λ (b : Bool). cond (not b) (x ∷ out i q) (out i q)) f

  pub last-end : (p : Option ℕ) (q : List ℕ) → Once q → Threaded A B p q → 1 ≤ times i q → A i ≡ None → last_of p (out i q) ≡ B i
  last-end p [] o t h e = absurd (omega arith)
  last-end p (x ∷ q) o t h e =
      let go : (b : Bool) → (x == i) ≡ b → last_of p (out i (x ∷ q)) ≡ B i =
      elim [
        | true ↦ λ f. ap (last_of p) (out-here x q o f) ∙ alone q (sym t.0 ∙ ap A (eqb-true x i f) ∙ e) ∙ sym t.1 ∙ ap B (eqb-true x i f)
        | false ↦ λ f. ap (last_of p) (out-else x q f) ∙ last-end (Some x) q (Once-rest x q o) t.2 (in-rest x i q f h) e
      ] in
      go (x == i) refl where
        alone : (r : List ℕ) → first_of r ≡ None → last_of p r ≡ p
        alone [] f = refl
        alone (y ∷ r) f = absurd (none-some y (sym f))

  pub last-else : (p : Option ℕ) (q : List ℕ) (k : ℕ) → Once q → Threaded A B p q → 1 ≤ times i q → A i ≡ Some k → last_of p (out i q) ≡ last_of p q
  last-else p [] k o t h e = absurd (omega arith)
  last-else p (x ∷ q) k o t h e =
      let go : (b : Bool) → (x == i) ≡ b → last_of p (out i (x ∷ q)) ≡ last_of p (x ∷ q) =
      elim [
        | true ↦ λ f. ap (last_of p) (out-here x q o f) ∙ more q (sym t.0 ∙ ap A (eqb-true x i f) ∙ e)
        | false ↦ λ f. ap (last_of p) (out-else x q f) ∙ last-else (Some x) q k (Once-rest x q o) t.2 (in-rest x i q f h) e
      ] in
      go (x == i) refl where
        more : (r : List ℕ) → first_of r ≡ Some k → last_of p r ≡ last_of (Some x) r
        more [] f = absurd (none-some k f)
        more (y ∷ r) f = refl

  pub first-start : (q : List ℕ) → Once q → Threaded A B None q → 1 ≤ times i q → B i ≡ None → first_of (out i q) ≡ A i
  first-start [] o t h e = absurd (omega arith)
  first-start (x ∷ q) o t h e =
      let go : (b : Bool) → (x == i) ≡ b → first_of (out i (x ∷ q)) ≡ A i =
      elim [
        | true ↦ λ f. ap first_of (out-here x q o f) ∙ sym t.0 ∙ ap A (eqb-true x i f)
        | false ↦ λ f. absurd (prior-some x q t.2 (in-rest x i q f h) e)
      ] in
      go (x == i) refl

  pub first-else : (q : List ℕ) (k : ℕ) → Once q → Threaded A B None q → 1 ≤ times i q → B i ≡ Some k → first_of (out i q) ≡ first_of q
  first-else [] k o t h e = absurd (omega arith)
  first-else (x ∷ q) k o t h e =
      let go : (b : Bool) → (x == i) ≡ b → first_of (out i (x ∷ q)) ≡ first_of (x ∷ q) =
      elim [
        | true ↦ λ f. absurd (none-some k (sym t.1 ∙ ap B (eqb-true x i f) ∙ e))
        | false ↦ λ f. ap first_of (out-else x q f)
      ] in
      go (x == i) refl

  module _ (C D : ℕ → Option ℕ) where
    pub record Unlinks : Type 0 where
      pub prior : (k : ℕ) → B i ≡ Some k → C k ≡ A i
      pub after : (k : ℕ) → (B i ≡ Some k → ⊥) → C k ≡ A k
      pub next : (k : ℕ) → A i ≡ Some k → D k ≡ B i
      pub before : (k : ℕ) → (A i ≡ Some k → ⊥) → D k ≡ B k

    skip : (p : Option ℕ) (q : List ℕ) → Unlinks → Once q → ((k : ℕ) → p ≡ Some k → times k q ≡ 0) → A i ≡ first_of q → B i ≡ p → Threaded A B (Some i) q → Threaded C D p q
    skip p [] w o apart a b t = tt
    skip p (y ∷ q) w o apart a b t = (
      w.after y (λ e. omega (arith, apart y (sym b ∙ e), here-in y y q refl)) ∙ t.0,
      w.next y a ∙ b,
      frame A B C D (Some y) q
          (λ k h. w.after k (λ e. omega (arith, apart k (sym b ∙ e), rest-in y k q h)))
          (λ k h. w.before k (λ e. omega (arith, Once-first y q o, ap (λ n. times n q) (same_Some y k (sym a ∙ e))))) t.2,
    )

    pub remove : (p : Option ℕ) (q : List ℕ) → Unlinks → Once q → ((k : ℕ) → p ≡ Some k → times k q ≡ 0) → 1 ≤ times i q → Threaded A B p q → Threaded C D p (out i q)
    remove p [] w o apart h t = absurd (omega arith)
    remove p (x ∷ q) w o apart h t =
        let go : (b : Bool) → (x == i) ≡ b → Threaded C D p (out i (x ∷ q)) =
        elim [
          | true ↦ λ f.
              let same : x ≡ i = eqb-true x i f in
              subst (Threaded C D p) (sym (out-here x q o f))
              (skip p q w (Once-rest x q o) (λ k e. omega (arith, apart k e, count-cons (λ n. n == k) x q)) (ap A (sym same) ∙ t.0) (ap B (sym same) ∙ t.1)
              (subst (λ n. Threaded A B (Some n) q) same t.2))
          | false ↦ λ f.
              let inside : 1 ≤ times i q = in-rest x i q f h in
              subst (Threaded C D p) (sym (out-else x q f)) (
                next q (Once-rest x q o) (Once-first x q o) inside t.0 t.2,
                w.before x (λ e. omega (arith, next-in (Some x) q x t.2 inside e, Once-first x q o)) ∙ t.1,
                remove (Some x) q w (Once-rest x q o) (λ k e. ap (λ n. times n q) (sym (same_Some x k e)) ∙ Once-first x q o) inside t.2,
              )
        ] in
        go (x == i) refl where
          next : (r : List ℕ) → Once r → times x r ≡ 0 → 1 ≤ times i r → A x ≡ first_of r → Threaded A B (Some x) r → C x ≡ first_of (out i r)
          next [] s none inside a u = absurd (omega arith)
          next (y ∷ r) s none inside a u =
              let go : (b : Bool) → (y == i) ≡ b → C x ≡ first_of (out i (y ∷ r)) =
              elim [
                | true ↦ λ f.
                    let same : y ≡ i = eqb-true y i f in
                    w.prior x (ap B (sym same) ∙ u.1) ∙ ap A (sym same) ∙ u.0 ∙ ap first_of (sym (out-here y r s f))
                | false ↦ λ f.
                    w.after x (λ e. far (prior-in (Some y) r x u.2 (in-rest y i r f inside) e)) ∙ a ∙ ap first_of (sym (out-else y r f))
              ] in
              go (y == i) refl where
                far : (Some y ≡ Some x) ⊎ (1 ≤ times x r) → ⊥
                far (inl e) = omega (arith, none, here-in y x r (same_Some y x e))
                far (inr e) = omega (arith, none, rest-in y x r e)
