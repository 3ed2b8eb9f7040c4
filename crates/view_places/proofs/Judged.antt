-- How a trace is judged, out of what was reached.
use Rattle.std.proofs.Common.{arith, ℕ, ◌≡◌, ◌<◌, ◌≤◌, ◌+◌, true, false, List, [], ◌∷◌, ◌++◌, length, take, drop, get_or, refl, ap, sym, subst, ◌∙◌, inl, inr}
use Rattle.std.proofs.lemmas.Bool.{le-leb, cond-true, cond-false}
use Rattle.std.proofs.lemmas.List.{drop_all, drop_more, length-take-le, take-append-drop, take_all, take_more}
use Rattle.std.proofs.lemmas.Option.{slice_get-get_or}
use Rattle.std.specs.Prelude.{nat_le, Some, Option, if◌then◌else◌, option_and_then, IsSomeAnd}
use Rattle.std.specs.Option.{option_map_or}
use Rattle.ffm_model.specs.declared.system.System.{System}
use Rattle.ffm_model.specs.declared.machine.Entry.{Entry}
use Rattle.ffm_model.specs.declared.machine.Verdict.{Verdict}
use Rattle.ffm_model.specs.Memory.{ByteMap}
use Rattle.ffm_model.specs.State.{State, opening}
use Rattle.ffm_model.specs.Step.{after, step}
use Rattle.ffm_model.proofs.StepLemmas.{after-push}
use Rattle.ffm_model.specs.Verdicts.{Legal, IllegalAt, judged, judged_from, verdict_at, verdict_eq, verdict_of}
use Rattle.machine_calls.specs.Machine.{spm_of_objects, state_of}
use Rattle.machine_check.specs.declared.judging.Checker.{Checker}
use Rattle.machine_check.specs.Reaching.{IsLast, IsReached}
use Rattle.machine_check.proofs.Followed.{judged_after}
use Rattle.machine_check.proofs.Judged.{either}
use Rattle.view_places.specs.Why.{BreaksRule, IsFinding, IsIllegal, IsRule, TellsOfCall}
use Rattle.view_places.specs.declared.reasons.Finding.TheVariants as finding
use Rattle.view_places.specs.declared.reasons.IllegalEntry.{IllegalEntry}

-- the judgement by the entries that are left
pub left_over : (s : System) (m : ByteMap) (limit : ℕ) (es : List Entry) (v : Verdict) (r : Checker) (it : IsReached s m limit es r)
    → judged s m limit es v ≡ judged_from s limit v r.count (drop r.count es) (state_of r.machine it.behind.handles)
left_over s m limit es v r it =
    let long : length (take r.count es) ≡ r.count = length-take-le r.count es it.few in
    let from_0 : 0 + length (take r.count es) ≡ r.count = omega (arith, long) in
    ap (λ xs. judged s m limit xs v) (sym (take-append-drop r.count es))
    ∙ judged_after s limit v 0 (take r.count es) (drop r.count es) (opening s m) (state_of r.machine it.behind.handles) it.behind.state (omega (arith, long, it.within))
    ∙ ap (λ k. judged_from s limit v k (drop r.count es) (state_of r.machine it.behind.handles)) from_0

all_gone : (s : System) (limit : ℕ) (v : Verdict) (n : ℕ) (xs : List Entry) (st : State) → xs ≡ [] → judged_from s limit v n xs st ≡ (if option_map_or (verdict_eq v) (verdict_at s limit n st.spm) false then Legal else IllegalAt (n + 1))
all_gone s limit v n xs st none = rw none refl

-- the entry after those that were reached is illegal
next_is_illegal : (s : System) (m : ByteMap) (limit : ℕ) (es : List Entry) (r : Checker) (e : Entry) (it : IsReached s m limit es r) → r.count < length es
    → take (r.count + 1) es ≡ take r.count es ++ e ∷ [] → IsIllegal s limit r.count (state_of r.machine it.behind.handles) e
next_is_illegal s m limit es r e it below more = which it.last where
  which : IsLast s m limit es r.count → IsIllegal s limit r.count (state_of r.machine it.behind.handles) e
  which (inl all) = absurd (omega (arith, all, below))
  which (inr (inl full)) = inl (omega (arith, full))
  which (inr (inr none)) = inr (ap (option_and_then (λ x. step s x e)) (sym it.behind.state) ∙ sym (after-push s m (take r.count es) e) ∙ ap (after s m) (sym more) ∙ none)

-- an illegal entry decides
illegal_decides : (s : System) (limit : ℕ) (v : Verdict) (n : ℕ) (e : Entry) (es : List Entry) (st : State) → IsIllegal s limit n st e → judged_from s limit v n (e ∷ es) st ≡ IllegalAt (n + 1)
illegal_decides s limit v n e es st (inl full) = cond-true (nat_le limit n) _ _ (le-leb limit n full)
illegal_decides s limit v n e es st (inr none) = either (nat_le limit n) _ _ (ap (λ o. option_map_or (λ z. judged_from s limit v (n + 1) es z) o (IllegalAt (n + 1))) none)

-- the parts of a list at a place
parts_at : (es : List Entry) (k : ℕ) (e : Entry) → k < length es → e ≡ get_or es k e → (drop k es ≡ e ∷ drop (k + 1) es) × (take (k + 1) es ≡ take k es ++ e ∷ [])
parts_at es k e below same =
    (drop_more es k e below ∙ ap (λ (y : Entry). y ∷ drop (k + 1) es) (sym same), take_more es k e below ∙ ap (λ (y : Entry). take k es ++ y ∷ []) (sym same))

pub wrong_entry : (s : System) (m : ByteMap) (limit : ℕ) (es : List Entry) (v : Verdict) (r : Checker) (e : Entry) (i : IllegalEntry) → IsReached s m limit es r → r.count < length es → e ≡ get_or es r.count e → BreaksRule s limit r e i
    → IsFinding s m limit es v (finding.Entry i)
wrong_entry s m limit es v r e i it below same breaks =
    let p = parts_at es r.count e below same in
    let st : State = state_of r.machine it.behind.handles in
    let illegal = next_is_illegal s m limit es r e it below p.1 in
    record {
      before = r.count;
      place = breaks.place;
      first = left_over s m limit es v r it ∙ ap (λ xs. judged_from s limit v r.count xs st) p.0
          ∙ illegal_decides s limit v r.count e (drop (r.count + 1) es) st illegal ∙ ap IllegalAt (sym breaks.place);
      entry = slice_get-get_or es r.count e below ∙ ap (λ (y : Entry). Some y) (sym same ∙ sym breaks.entry);
      rule = subst (λ o. IsSomeAnd o (λ st. IsRule s limit r.count st i.entry i.rule)) (sym it.behind.state)
          (subst (λ x. IsRule s limit r.count st x i.rule) (sym breaks.entry) (breaks.rule it.behind.handles it.behind.knows illegal));
      call = subst (λ o. IsSomeAnd o (λ st. TellsOfCall s st i.entry i)) (sym it.behind.state)
          (subst (λ x. TellsOfCall s st x i) (sym breaks.entry) (breaks.call it.behind.handles it.behind.knows illegal));
    }

none_left : (s : System) (m : ByteMap) (limit : ℕ) (es : List Entry) (v : Verdict) (r : Checker) → IsReached s m limit es r → length es ≤ r.count
    → judged s m limit es v ≡ (if option_map_or (verdict_eq v) (verdict_at s limit r.count (spm_of_objects r.machine.objects)) false then Legal else IllegalAt (r.count + 1))
none_left s m limit es v r it all = left_over s m limit es v r it ∙ all_gone s limit v r.count (drop r.count es) (state_of r.machine it.behind.handles) (drop_all r.count es all)

pub is_legal : (s : System) (m : ByteMap) (limit : ℕ) (es : List Entry) (v : Verdict) (r : Checker) → IsReached s m limit es r → length es ≤ r.count
    → option_map_or (verdict_eq v) (verdict_at s limit r.count (spm_of_objects r.machine.objects)) false ≡ true → IsFinding s m limit es v (finding.Legal r.count)
is_legal s m limit es v r it all due = (none_left s m limit es v r it all ∙ cond-true _ _ _ due, omega (arith, all, it.few))

verdict_due : (s : System) (m : ByteMap) (limit : ℕ) (es : List Entry) (r : Checker) → IsReached s m limit es r → length es ≤ r.count → verdict_at s limit r.count (spm_of_objects r.machine.objects) ≡ verdict_of s m limit es
verdict_due s m limit es r it all =
    let long : r.count ≡ length es = omega (arith, all, it.few) in
    let whole : after s m es ≡ Some (state_of r.machine it.behind.handles) = ap (after s m) (sym (take_all r.count es all)) ∙ it.behind.state in
    ap (λ k. verdict_at s limit k (spm_of_objects r.machine.objects)) long ∙ ap (option_and_then (λ st. verdict_at s limit (length es) st.spm)) (sym whole)

pub wrong_verdict : (s : System) (m : ByteMap) (limit : ℕ) (es : List Entry) (v : Verdict) (r : Checker) (d : Option Verdict) → IsReached s m limit es r → length es ≤ r.count → d ≡ verdict_at s limit r.count (spm_of_objects r.machine.objects)
    → option_map_or (verdict_eq v) d false ≡ false → IsFinding s m limit es v (finding.Verdict (r.count + 1) v d)
wrong_verdict s m limit es v r d it all is due =
    (none_left s m limit es v r it all ∙ cond-false _ _ _ (ap (λ x. option_map_or (verdict_eq v) x false) (sym is) ∙ due), (omega (arith, all, it.few), (refl, is ∙ verdict_due s m limit es r it all)))
