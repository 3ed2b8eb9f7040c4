-- Two lists of entries that are made in one order, each as its actors' programs ask and with the names that are due, begin alike.
use Rattle.std.proofs.Common.{ℕ, ◌≡◌, ◌<◌, ◌==◌, Bool, true, true≢false, List, [], ◌∷◌, ◌++◌, ◌⊎◌, inl, inr, append_assoc, arith, refl, ap, sym, subst, ◌∙◌, eq-eqb}
use Rattle.std.specs.Prelude.{Option, Some, None, IsSome, fold, nat_lt, if◌then◌else◌}
use Rattle.std.proofs.lemmas.Bool.Decides.{nat_tests}
use Rattle.std.proofs.lemmas.List.Elements.{filter-append}
use Rattle.std.proofs.lemmas.List.Sums.{fold-append}
use Rattle.ffm_model.specs.declared.system.System.{System}
use Rattle.ffm_model.specs.declared.machine.Entry.{Entry}
use Rattle.ffm_model.specs.Actors.{actor_count}
use Rattle.ffm_model.specs.Memory.{ByteMap}
use Rattle.ffm_model.specs.Names.{NamedState, first_named, named_step, named_step_on, named_after, names}
use Rattle.ffm_model.specs.Records.{entries_of}
use Rattle.law_scenarios.specs.Interleavings.{Front}
use Rattle.law_scenarios.proofs.SameEntry.{named-shows, one-entry, step-actor}

-- what is asked of an actor's entries fixes the call after each front of them
abbrev pub FixesCalls : (List Entry → Type 0) → Type 0
FixesCalls Q = (xs us vs : List Entry) (e f : Entry) → Q (xs ++ e ∷ us) → Q (xs ++ f ∷ vs) → e.call ≡ f.call

-- what is asked of the order of entries fixes the actor after each front of them
abbrev pub FixesActors : (List Entry → Type 0) → Type 0
FixesActors O = (xs us vs : List Entry) (e f : Entry) → O (xs ++ e ∷ us) → O (xs ++ f ∷ vs) → e.actor.0 ≡ f.actor.0

-- both, and the names that are due
pub record Made (s : System) (m : ByteMap) (Q : ℕ → List Entry → Type 0) (O : List Entry → Type 0) (es : List Entry) : Type 0 where
  pub named : names s m es ≡ true
  pub programmed : (a : ℕ) → a < actor_count s → Q a (entries_of a es)
  pub ordered : O es

-- ---- the entry after a front

nothing-named : (s : System) (es : List Entry) → fold (named_step_on s) None es ≡ None
nothing-named s [] = refl
nothing-named s (e ∷ es) = nothing-named s es

some-first : (s : System) (o : Option NamedState) (es : List Entry) → IsSome (fold (named_step_on s) o es) → IsSome o
some-first s None es h = absurd (true≢false (sym (subst IsSome (nothing-named s es) h)))
some-first s (Some w) es h = refl

-- the entry's actor is one of the system
actor-within : (s : System) (o : Option NamedState) (e : Entry) (es : List Entry) → IsSome (fold (named_step_on s) (named_step_on s o e) es) → e.actor.0 < actor_count s
actor-within s None e es h = absurd (true≢false (sym (some-first s None es h)))
actor-within s (Some w) e es h =
    let step = (named-shows s w e (some-first s (named_step s w e) es h)).1 in
    let test : nat_lt e.actor.0 (actor_count s) ≡ true = step-actor s w.state e step in
    grind (arith, nat_tests)

same-next : (s : System) (o : Option NamedState) (e f : Entry) (es fs : List Entry) → IsSome (fold (named_step_on s) (named_step_on s o e) es) → IsSome (fold (named_step_on s) (named_step_on s o f) fs)
    → e.actor.0 ≡ f.actor.0 → e.call ≡ f.call → e ≡ f
same-next s None e f es fs g h actors calls = absurd (true≢false (sym (some-first s None es g)))
same-next s (Some w) e f es fs g h actors calls = one-entry s w e f (some-first s (named_step s w e) es g) (some-first s (named_step s w f) fs h) actors calls

-- the names after a front
names-on : (s : System) (m : ByteMap) (done : List Entry) (e : Entry) (es : List Entry) → names s m (done ++ e ∷ es) ≡ true → IsSome (fold (named_step_on s) (named_step_on s (named_after s m done) e) es)
names-on s m done e es h = subst IsSome (fold-append (named_step_on s) (Some (first_named s m)) done (e ∷ es)) h

-- an actor's own entry after a front
pub own-on : (a : ℕ) (done : List Entry) (e : Entry) (es : List Entry) → e.actor.0 ≡ a → entries_of a (done ++ e ∷ es) ≡ entries_of a done ++ e ∷ entries_of a es
own-on a done e es is =
    filter-append (λ d. d.actor.0 == a) done (e ∷ es)
    ∙ ap (λ (b : Bool). entries_of a done ++ (if b then e ∷ entries_of a es else entries_of a es)) (eq-eqb e.actor.0 a is)

next : (s : System) (m : ByteMap) (Q : ℕ → List Entry → Type 0) (O : List Entry → Type 0) → ((a : ℕ) → FixesCalls (Q a)) → FixesActors O
    → (done es fs : List Entry) (e f : Entry) → Made s m Q O (done ++ e ∷ es) → Made s m Q O (done ++ f ∷ fs) → e ≡ f
next s m Q O calls actors done es fs e f g h =
    let a : ℕ = e.actor.0 in
    let actor : a ≡ f.actor.0 = actors done es fs e f g.ordered h.ordered in
    let of_e = names-on s m done e es g.named in
    let of_f = names-on s m done f fs h.named in
    let within : a < actor_count s = actor-within s (named_after s m done) e es of_e in
    let call : e.call ≡ f.call =
    calls a (entries_of a done) (entries_of a es) (entries_of a fs) e f
    (subst (λ (xs : List Entry). Q a xs) (own-on a done e es refl) (g.programmed a within))
    (subst (λ (xs : List Entry). Q a xs) (own-on a done f fs (sym actor)) (h.programmed a within)) in
    same-next s (named_after s m done) e f es fs of_e of_f actor call

-- ---- all entries

pub fronts : (s : System) (m : ByteMap) (Q : ℕ → List Entry → Type 0) (O : List Entry → Type 0) → ((a : ℕ) → FixesCalls (Q a)) → FixesActors O
    → (done es fs : List Entry) → Made s m Q O (done ++ es) → Made s m Q O (done ++ fs) → Front es fs ⊎ Front fs es
fronts s m Q O calls actors done [] fs g h = inl (fs, refl)
fronts s m Q O calls actors done (e ∷ es) [] g h = inr (e ∷ es, refl)
fronts s m Q O calls actors done (e ∷ es) (f ∷ fs) g h =
    let same : e ≡ f = next s m Q O calls actors done es fs e f g h in
    let of_es : Made s m Q O ((done ++ e ∷ []) ++ es) = subst (λ (xs : List Entry). Made s m Q O xs) (sym (append_assoc done (e ∷ []) es)) g in
    let moved : Made s m Q O (done ++ e ∷ fs) = subst (λ (x : Entry). Made s m Q O (done ++ x ∷ fs)) (sym same) h in
    let of_fs : Made s m Q O ((done ++ e ∷ []) ++ fs) = subst (λ (xs : List Entry). Made s m Q O xs) (sym (append_assoc done (e ∷ []) fs)) moved in
    let both : Front es fs ⊎ Front fs es → Front (e ∷ es) (f ∷ fs) ⊎ Front (f ∷ fs) (e ∷ es) =
    elim [
      | inl r ↦ inl (r.0, ap (λ (x : Entry). x ∷ fs) (sym same) ∙ ap (λ (xs : List Entry). e ∷ xs) r.1)
      | inr r ↦ inr (r.0, ap (λ (x : Entry). x ∷ es) same ∙ ap (λ (xs : List Entry). f ∷ xs) r.1)
    ] in
    both (fronts s m Q O calls actors (done ++ e ∷ []) es fs of_es of_fs)
