-- A trace judged entry by entry is judged by what the plain sentence says of it.
use Rattle.std.proofs.Common.{ℕ, ◌≡◌, ◌≢◌, ◌<◌, ◌≤◌, ◌+◌, Bool, true, false, List, [], ◌∷◌, ◌++◌, length, take, get_or, arith, refl, ap, sym, subst, ◌∙◌, inl, inr, append-nil, append_assoc, true≢false}
use Rattle.std.specs.Prelude.{Option, Some, None, IsSome, fold, nat_le, option_and_then, if◌then◌else◌}
use Rattle.std.specs.Option.{option_map_or}
use Rattle.std.proofs.Math.Seq.{take-append_seam, get_or-append_seam}
use Rattle.std.proofs.lemmas.Bool.Decides.{nat_tests, eqb_tells}
use Rattle.std.proofs.lemmas.List.{length-append}
use Rattle.std.proofs.lemmas.List.Sums.{fold-append}
use Rattle.ffm_model.proofs.RunLemmas.{none-stays}
use Rattle.ffm_model.specs.declared.system.System.{System}
use Rattle.ffm_model.specs.declared.machine.Entry.{Entry}
use Rattle.ffm_model.specs.declared.machine.Verdict.{Verdict}
use Rattle.ffm_model.specs.declared.machine.Verdict.TheVariants.{Quiet, Stalled, Full}
use Rattle.ffm_model.specs.Memory.{ByteMap}
use Rattle.ffm_model.specs.State.{State, opening}
use Rattle.ffm_model.specs.Step.{after, step, step_on}
use Rattle.ffm_model.specs.Verdicts.{Judgement, Legal, IllegalAt, judged_from, verdict_at, verdict_eq, verdict_of}
use Rattle.ffm_model.proofs.StepLemmas.{after-push}
use Rattle.law_texts.specs.Plain.{IsLegal, MayBeWrong, IsFirstWrong, JudgedPlainly}

-- ---- verdicts

verdict-same : (v w : Verdict) → verdict_eq v w ≡ true → w ≡ v
verdict-same Quiet Quiet e = refl
verdict-same Stalled Stalled e = refl
verdict-same Full Full e = refl
verdict-same Quiet Stalled e = cc
verdict-same Quiet Full e = cc
verdict-same Stalled Quiet e = cc
verdict-same Stalled Full e = cc
verdict-same Full Quiet e = cc
verdict-same Full Stalled e = cc

verdict-own : (v : Verdict) → verdict_eq v v ≡ true
verdict-own Quiet = refl
verdict-own Stalled = refl
verdict-own Full = refl

verdict-found : (v : Verdict) (o : Option Verdict) → option_map_or (verdict_eq v) o false ≡ true → o ≡ Some v
verdict-found v None e = cc
verdict-found v (Some w) e = ap (λ (x : Verdict). Some x) (verdict-same v w e)

verdict-there : (v : Verdict) (o : Option Verdict) → o ≡ Some v → option_map_or (verdict_eq v) o false ≡ true
verdict-there v o e = rw e (verdict-own v)

-- ---- runs

-- the entries before a place, and the entry there, are those of any other way to part the list there
same-before : (xs ys : List Entry) (x y : Entry) (us vs es : List Entry) → es ≡ xs ++ x ∷ us → es ≡ ys ++ y ∷ vs → length xs ≡ length ys → xs ≡ ys
same-before xs ys x y us vs es p q n =
    sym (take-append_seam xs (x ∷ us)) ∙ ap (λ (l : List Entry). take (length xs) l) (sym p ∙ q) ∙ ap (λ (k : ℕ). take k (ys ++ y ∷ vs)) n ∙ take-append_seam ys (y ∷ vs)

same-entry : (xs ys : List Entry) (x y : Entry) (us vs es : List Entry) → es ≡ xs ++ x ∷ us → es ≡ ys ++ y ∷ vs → length xs ≡ length ys → x ≡ y
same-entry xs ys x y us vs es p q n =
    sym (get_or-append_seam xs x us x) ∙ ap (λ (l : List Entry). get_or l (length xs) x) (sym p ∙ q) ∙ ap (λ (k : ℕ). get_or (ys ++ y ∷ vs) k x) n ∙ get_or-append_seam ys y vs x

-- ---- a trace as far as it was judged

record After (s : System) (m : ByteMap) (limit : ℕ) (es done left : List Entry) (n : ℕ) (st : State) : Type 0 where
  parts : es ≡ done ++ left
  count : length done ≡ n
  state : after s m done ≡ Some st
  within : n ≤ limit
  clean : (k : ℕ) → 1 ≤ k → k ≤ n → MayBeWrong s m limit es k → ⊥

record Comes (s : System) (m : ByteMap) (limit : ℕ) (es : List Entry) (v : Verdict) (j : Judgement) : Type 0 where
  sound : j ≡ Legal → IsLegal s m limit es v
  complete : IsLegal s m limit es v → j ≡ Legal
  first : (n : ℕ) → j ≡ IllegalAt n → IsFirstWrong s m limit es n

abbrev place-of : Judgement → ℕ
place-of Legal = 0
place-of (IllegalAt n) = n

abbrev is-legal : Judgement → Bool
is-legal Legal = true
is-legal (IllegalAt n) = false

same-place : (j : Judgement) (i n : ℕ) → j ≡ IllegalAt i → j ≡ IllegalAt n → i ≡ n
same-place j i n e f = ap place-of (sym e ∙ f)

never-legal : (j : Judgement) (i : ℕ) → j ≡ IllegalAt i → j ≡ Legal → ⊥
never-legal j i e f = true≢false (ap is-legal (sym f ∙ e))

-- it is wrong at the next place, and not legal
wrong-next : (s : System) (m : ByteMap) (limit : ℕ) (es done left : List Entry) (n : ℕ) (st : State) (v : Verdict) (j : Judgement) → After s m limit es done left n st
    → j ≡ IllegalAt (n + 1) → MayBeWrong s m limit es (n + 1) → (IsLegal s m limit es v → ⊥) → Comes s m limit es v j
wrong-next s m limit es done left n st v j b is wrong not = record {
  sound = λ e. absurd (never-legal j (n + 1) is e);
  complete = λ h. absurd (not h);
  first = λ k e.
      let P : ℕ → Type 0 = λ i. IsFirstWrong s m limit es i in
      subst P (same-place j (n + 1) k is e) (record { wrong = wrong; least = λ i one below. b.clean i one (omega (arith, below)) });
}

-- ---- after all entries

at-end : (s : System) (m : ByteMap) (limit : ℕ) (es done : List Entry) (n : ℕ) (st : State) → After s m limit es done [] n st → es ≡ done
at-end s m limit es done n st b = b.parts ∙ append-nil done

end-verdict : (s : System) (m : ByteMap) (limit : ℕ) (es done : List Entry) (n : ℕ) (st : State) → After s m limit es done [] n st → verdict_of s m limit es ≡ verdict_at s limit n st.spm
end-verdict s m limit es done n st b =
    let whole : es ≡ done = at-end s m limit es done n st b in
    ap (λ (l : List Entry). verdict_of s m limit l) whole
    ∙ ap (λ (o : Option State). option_and_then (λ x. verdict_at s limit (length done) x.spm) o) b.state
    ∙ ap (λ (k : ℕ). verdict_at s limit k st.spm) b.count

ended : (s : System) (m : ByteMap) (limit : ℕ) (es done : List Entry) (n : ℕ) (st : State) (v : Verdict) → After s m limit es done [] n st → (b : Bool)
    → option_map_or (verdict_eq v) (verdict_at s limit n st.spm) false ≡ b → Comes s m limit es v (if b then Legal else IllegalAt (n + 1))
ended s m limit es done n st v b true e =
    let whole : es ≡ done = at-end s m limit es done n st b in
    let found : verdict_of s m limit es ≡ Some v = end-verdict s m limit es done n st b ∙ verdict-found v _ e in
    record {
      sound = λ h. record {
        run = rw (whole, b.state) refl;
        within = let R : ℕ → Type 0 = λ k. k ≤ limit in subst R (sym (ap (λ (l : List Entry). length l) whole ∙ b.count)) b.within;
        verdict = found;
      };
      complete = λ h. refl;
      first = λ k f. absurd (never-legal Legal k f refl);
    }
ended s m limit es done n st v b false e =
    let place : n + 1 ≡ length es + 1 = ap (λ (k : ℕ). k + 1) (sym (ap (λ (l : List Entry). length l) (at-end s m limit es done n st b) ∙ b.count)) in
    wrong-next s m limit es done [] n st v (IllegalAt (n + 1)) b refl (inr (inr place))
    (λ h. true≢false (sym (verdict-there v _ (sym (end-verdict s m limit es done n st b) ∙ h.verdict)) ∙ e))

-- ---- one entry further

long : (s : System) (m : ByteMap) (limit : ℕ) (es done : List Entry) (e : Entry) (left : List Entry) (n : ℕ) (st : State) → After s m limit es done (e ∷ left) n st → n < length es
long s m limit es done e left n st b =
    let whole : length es ≡ length done + length (e ∷ left) = ap (λ (l : List Entry). length l) b.parts ∙ length-append done (e ∷ left) in
    omega (arith, whole, b.count)

-- the run up to an entry
run-to : (s : System) (m : ByteMap) (limit : ℕ) (es done : List Entry) (e : Entry) (left : List Entry) (n : ℕ) (st : State) → After s m limit es done (e ∷ left) n st
    → after s m es ≡ fold (step_on s) (step s st e) left
run-to s m limit es done e left n st b =
    ap (after s m) b.parts ∙ fold-append (step_on s) (Some (opening s m)) done (e ∷ left) ∙ ap (λ (o : Option State). fold (step_on s) (step_on s o e) left) b.state

some-none : {A : Type 0} (x : A) → None ≡ Some x → ⊥
some-none x e = cc

none-some : {A : Type 0} (o : Option A) → o ≡ None → IsSome o → ⊥
none-some None e h = true≢false (sym h)
none-some (Some x) e h = cc

-- the entry that is a step isn't wrong
step-right : (s : System) (m : ByteMap) (limit : ℕ) (es done : List Entry) (e : Entry) (left : List Entry) (n : ℕ) (st new : State) → After s m limit es done (e ∷ left) n st
    → n < limit → step s st e ≡ Some new → MayBeWrong s m limit es (n + 1) → ⊥
step-right s m limit es done e left n st new b below is (inl w) =
    let count : length done ≡ length w.before = omega (arith, b.count, w.place) in
    let before : done ≡ w.before = same-before done w.before e w.entry left w.rest es b.parts w.parts count in
    let entry : e ≡ w.entry = same-entry done w.before e w.entry left w.rest es b.parts w.parts count in
    let none : step s st e ≡ None = sym (ap (λ (o : Option State). step_on s o e) b.state) ∙ ap (λ (l : List Entry). step_on s (after s m l) e) before ∙ ap (step_on s (after s m w.before)) entry ∙ w.none in
    some-none new (sym none ∙ is)
step-right s m limit es done e left n st new b below is (inr (inl w)) = absurd (omega (arith, below, w))
step-right s m limit es done e left n st new b below is (inr (inr w)) = absurd (omega (arith, w, long s m limit es done e left n st b))

-- after it
further : (s : System) (m : ByteMap) (limit : ℕ) (es done : List Entry) (e : Entry) (left : List Entry) (n : ℕ) (st new : State) → After s m limit es done (e ∷ left) n st
    → n < limit → step s st e ≡ Some new → After s m limit es (done ++ e ∷ []) left (n + 1) new
further s m limit es done e left n st new b below is = record {
  parts = b.parts ∙ sym (append_assoc done (e ∷ []) left);
  count = length-append done (e ∷ []) ∙ ap (λ (k : ℕ). k + 1) b.count;
  state = after-push s m done e ∙ ap (λ (o : Option State). option_and_then (λ x. step s x e) o) b.state ∙ is;
  within = omega (arith, below);
  clean = λ k one up wrong.
      elim (eqb_tells k (n + 1)) [
        | inl p ↦ step-right s m limit es done e left n st new b below is (let P : ℕ → Type 0 = λ i. MayBeWrong s m limit es i in subst P p.1 wrong)
        | inr p ↦ let other : k ≢ n + 1 = p.1 in b.clean k one (omega (arith, up, other)) wrong
      ];
}

-- after n entries, the judgement of the others is plain
judged-plainly : (s : System) (m : ByteMap) (limit : ℕ) (v : Verdict) (es done left : List Entry) (n : ℕ) (st : State) → After s m limit es done left n st
    → Comes s m limit es v (judged_from s limit v n left st)
judged-plainly s m limit v es done [] n st b = ended s m limit es done n st v b _ refl
judged-plainly s m limit v es done (e ∷ left) n st b =
    let stepped : (o : Option State) → step s st e ≡ o → n < limit → Comes s m limit es v (option_map_or (λ new. judged_from s limit v (n + 1) left new) o (IllegalAt (n + 1))) = elim [
      | None ↦ λ is below. wrong-next s m limit es done (e ∷ left) n st v (IllegalAt (n + 1)) b refl
          (inl (record {
            before = done;
            entry = e;
            rest = left;
            parts = b.parts;
            place = ap (λ (k : ℕ). k + 1) (sym b.count);
            none = ap (λ (o : Option State). step_on s o e) b.state ∙ is;
          }))
          (λ h. none-some (after s m es) (run-to s m limit es done e left n st b ∙ ap (λ (o : Option State). fold (step_on s) o left) is ∙ none-stays s left) h.run)
      | Some new ↦ λ is below. judged-plainly s m limit v es (done ++ e ∷ []) left (n + 1) new (further s m limit es done e left n st new b below is)
    ] in
    let within : (c : Bool) → nat_le limit n ≡ c
    → Comes s m limit es v (if c then IllegalAt (n + 1) else option_map_or (λ new. judged_from s limit v (n + 1) left new) (step s st e) (IllegalAt (n + 1))) = elim [
      | true ↦ λ at.
          let above : limit < n + 1 = grind (arith, nat_tests) in
          wrong-next s m limit es done (e ∷ left) n st v (IllegalAt (n + 1)) b refl (inr (inl above)) (λ h. absurd (omega (arith, above, h.within, long s m limit es done e left n st b)))
      | false ↦ λ at. let below : n < limit = grind (arith, nat_tests) in stepped (step s st e) refl below
    ] in
    within (nat_le limit n) refl

pub judged_plainly : (s : System) (m : ByteMap) (limit : ℕ) (es : List Entry) (v : Verdict) → JudgedPlainly s m limit es v
judged_plainly s m limit es v =
    let none : (k : ℕ) → 1 ≤ k → k ≤ 0 → MayBeWrong s m limit es k → ⊥ = λ k one up wrong. absurd (omega (arith, one, up)) in
    let it = judged-plainly s m limit v es [] es 0 (opening s m) (record { parts = refl; count = refl; state = refl; within = omega arith; clean = none }) in
    record { legal = (it.sound, it.complete); illegal = it.first }
