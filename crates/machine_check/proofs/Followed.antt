-- The state after entries that were followed.
use Rattle.std.proofs.Common.{ℕ, ◌≡◌, ◌<◌, ◌≤◌, ◌+◌, inl, inr, ⊎_elim, Bool, true, false, List, [], ◌∷◌, ◌++◌, length, take, refl, ap, sym, subst, arith, ◌∙◌, append_assoc, append-nil, length-append}
use Rattle.std.specs.Prelude.{Option, Some, None, IsSome, Ok, fold, nat_le, option_and_then}
use Rattle.std.specs.Option.{option_map_or}
use Rattle.std.proofs.Math.Seq.{take-append_seam}
use Rattle.std.proofs.lemmas.List.{length-take-le}
use Rattle.std.proofs.lemmas.List.Sums.{fold-append}
use Rattle.std.proofs.lemmas.Bool.{le-leb, lt-leb, cond-true, cond-false}
use Rattle.ffm_model.proofs.RunLemmas.{none-stays}
use Rattle.ffm_model.specs.declared.system.System.{System}
use Rattle.ffm_model.specs.declared.machine.Entry.{Entry}
use Rattle.ffm_model.specs.declared.machine.Verdict.{Verdict}
use Rattle.ffm_model.specs.Memory.{ByteMap}
use Rattle.ffm_model.specs.State.{State, opening}
use Rattle.ffm_model.specs.Step.{step, step_on, after}
use Rattle.ffm_model.specs.Verdicts.{IllegalAt, judged, judged_from}
use Rattle.ffm_model.proofs.StepLemmas.{after-push}
use Rattle.law_lists.proofs.Options.{some-value}
use Rattle.machine_calls.specs.Machine.{state_of}
use Rattle.machine_check.specs.declared.judging.Checker.{Checker}
use Rattle.machine_check.specs.Checking.{Accepts, ChecksTo, IsAccepted, Starts, Stops}
use Rattle.machine_check.specs.Reaching.{IsAfter, IsReached}
use Rattle.machine_check.proofs.Judged.{either}

-- ---- entry by entry

pub there : {X : Type 0} (o : Option X) (x : X) → o ≡ Some x → IsSome o
there o x e = rw e refl

-- before the first entry
pub after_none : (s : System) (m : ByteMap) (c : Checker) → Starts s m c → IsAfter s m [] c
after_none s m c start = record {
  count = start.count;
  handles = [];
  knows = start.knows;
  state = ap (λ st. Some st) (sym start.state);
  kept = start.kept;
  made = omega (arith, start.made);
}

-- the entry is a step after those before it, or none, as it is at their state
pub one_more : (s : System) (m : ByteMap) (front : List Entry) (c : Checker) (k : IsAfter s m front c) (e : Entry) → after s m (front ++ e ∷ []) ≡ step s (state_of c.machine k.handles) e
one_more s m front c k e = after-push s m front e ∙ ap (option_and_then (λ x. step s x e)) k.state

-- the entry was accepted
pub after_more : (s : System) (m : ByteMap) (limit : ℕ) (front : List Entry) (old new : Checker) (k : IsAfter s m front old) (e : Entry)
    → IsAccepted s limit old k.handles e new → IsAfter s m (front ++ e ∷ []) new
after_more s m limit front old new k e it = record {
  count = omega (arith, it.count, k.count, length-append front (e ∷ []));
  handles = it.given;
  knows = it.knows;
  state = one_more s m front old k e ∙ it.is_step;
  kept = it.kept;
  made = it.made;
}

-- the entry was not accepted
pub stopped : (s : System) (m : ByteMap) (limit : ℕ) (front rest es : List Entry) (old new : Checker) (k : IsAfter s m front old) (e : Entry) (b : Bool)
    → es ≡ front ++ e ∷ rest → old.count ≤ limit → Accepts s limit old k.handles e (Ok b) new → b ≡ false → Stops s m limit es new.count
stopped s m limit front rest es old new k e true parts within accepts is = absurd cc
stopped s m limit front rest es old new k e false parts within accepts is = record {
  front = front;
  entry = e;
  rest = rest;
  parts = parts;
  count = accepts.1 ∙ k.count;
  within = omega (arith, accepts.1);
  run = there _ _ k.state;
  next = ⊎_elim (λ (over : limit ≤ old.count). inl (omega (arith, accepts.1))) (λ (none : step s (state_of old.machine k.handles) e ≡ None). inr (one_more s m front old k e ∙ none)) accepts.0;
}

-- ---- the state that is reached

no_more : (s : System) (m : ByteMap) (front back : List Entry) → after s m front ≡ None → after s m (front ++ back) ≡ None
no_more s m front back none = fold-append (step_on s) (Some (opening s m)) front back ∙ ap (λ o. fold (step_on s) o back) none ∙ none-stays s back

front_taken : (s : System) (m : ByteMap) (limit : ℕ) (es : List Entry) (n : ℕ) (k : Stops s m limit es n) → take n es ≡ k.front
front_taken s m limit es n k = ap (λ i. take i es) k.count ∙ ap (take (length k.front)) k.parts ∙ take-append_seam k.front (k.entry ∷ k.rest)

next_taken : (s : System) (m : ByteMap) (limit : ℕ) (es : List Entry) (n : ℕ) (k : Stops s m limit es n) → take (n + 1) es ≡ k.front ++ k.entry ∷ []
next_taken s m limit es n k =
    let one : n + 1 ≡ length (k.front ++ k.entry ∷ []) = omega (arith, k.count, length-append k.front (k.entry ∷ [])) in
    ap (λ i. take i es) one ∙ ap (take (length (k.front ++ k.entry ∷ []))) (k.parts ∙ sym (append_assoc k.front (k.entry ∷ []) k.rest)) ∙ take-append_seam (k.front ++ k.entry ∷ []) k.rest

pub below_length : (s : System) (m : ByteMap) (limit : ℕ) (es : List Entry) (n : ℕ) → Stops s m limit es n → n < length es
below_length s m limit es n k = omega (arith, k.count, ap (λ (l : List Entry). length l) k.parts, length-append k.front (k.entry ∷ k.rest))

-- the entries in front of the one that is none lead to it
pub part_reached : (s : System) (m : ByteMap) (limit : ℕ) (es : List Entry) (n : ℕ) (c : Checker) → Stops s m limit es n → IsAfter s m (take n es) c → IsReached s m limit es c
part_reached s m limit es n c k behind =
    let below : n < length es = below_length s m limit es n k in
    let same : c.count ≡ n = behind.count ∙ length-take-le n es (omega arith) in
    record {
      few = omega (arith, same);
      within = omega (arith, same, k.within);
      behind = subst (λ i. IsAfter s m (take i es) c) (sym same) behind;
      last = inr (⊎_elim (λ (full : n ≡ limit). inl (same ∙ full)) (λ (none : after s m (k.front ++ k.entry ∷ []) ≡ None). inr (ap (λ i. after s m (take (i + 1) es)) same ∙ ap (after s m) (next_taken s m limit es n k) ∙ none)) k.next);
    }

-- they are a run, so none of them stops anew
pub no_second_stop : (s : System) (m : ByteMap) (limit : ℕ) (es : List Entry) (n i : ℕ) → Stops s m limit es n → Stops s m limit (take n es) i → ⊥
no_second_stop s m limit es n i k again =
    let below : i < length (take n es) = below_length s m limit (take n es) i again in
    let short : length (take n es) ≡ n = length-take-le n es (let l : n < length es = below_length s m limit es n k in omega arith) in
    ⊎_elim (λ (full : i ≡ limit). omega (arith, short, below, k.within))
    (λ (none : after s m (again.front ++ again.entry ∷ []) ≡ None).
    let parts : k.front ≡ (again.front ++ again.entry ∷ []) ++ again.rest = sym (front_taken s m limit es n k) ∙ again.parts ∙ sym (append_assoc again.front (again.entry ∷ []) again.rest) in
    let ends : after s m k.front ≡ None = ap (after s m) parts ∙ no_more s m (again.front ++ again.entry ∷ []) again.rest none in
    let run : IsSome (after s m k.front) = k.run in
    let no : IsSome {T = State} None = subst IsSome ends run in
    absurd cc) again.next

-- ---- the judgement

-- the entries of a run within the limit leave it to those after them
pub judged_after : (s : System) (limit : ℕ) (v : Verdict) (n : ℕ) (front back : List Entry) (st new : State) → fold (step_on s) (Some st) front ≡ Some new → n + length front ≤ limit
    → judged_from s limit v n (front ++ back) st ≡ judged_from s limit v (n + length front) back new
judged_after s limit v n [] back st new is within =
    let same : st ≡ new = cc in
    ap (judged_from s limit v n back) same ∙ ap (λ i. judged_from s limit v i back new) (omega arith)
judged_after s limit v n (e ∷ es) back st new is within =
    let place : n + 1 + length es ≡ n + length (e ∷ es) = omega arith in
    let go : (o : Option State) → fold (step_on s) o es ≡ Some new
    → option_map_or (λ x. judged_from s limit v (n + 1) (es ++ back) x) o (IllegalAt (n + 1)) ≡ judged_from s limit v (n + 1 + length es) back new = elim [
      | None ↦ λ h. absurd (let none = none-stays s es in cc)
      | Some mid ↦ λ h. judged_after s limit v (n + 1) es back mid new h (omega arith)
    ] in
    cond-false (nat_le limit n) _ _ (lt-leb limit n (omega arith)) ∙ go (step s st e) is ∙ ap (λ i. judged_from s limit v i back new) place

-- all entries were followed: the verdict decides
pub all_checked : (s : System) (m : ByteMap) (limit : ℕ) (es : List Entry) (v : Verdict) (c : Checker) → IsAfter s m es c → c.count ≤ limit → ChecksTo s limit v (judged s m limit es v) c []
all_checked s m limit es v c behind within =
    let st = state_of c.machine behind.handles in
    record {
      all = behind.handles;
      knows = behind.knows;
      kept = behind.kept;
      made = behind.made;
      judged =
          ap (λ l. judged_from s limit v 0 l (opening s m)) (sym (append-nil es)) ∙ judged_after s limit v 0 es [] (opening s m) st behind.state (omega (arith, behind.count))
          ∙ ap (λ n. judged_from s limit v n [] st) (omega (arith, behind.count));
    }

-- one was not: the trace is illegal there
pub part_checked : (s : System) (m : ByteMap) (limit : ℕ) (es : List Entry) (v : Verdict) (n : ℕ) → Stops s m limit es n → judged s m limit es v ≡ IllegalAt (n + 1)
part_checked s m limit es v n k =
    let it = some-value (after s m k.front) k.run in
    let left : judged s m limit es v ≡ judged_from s limit v n (k.entry ∷ k.rest) it.0 =
    ap (λ l. judged_from s limit v 0 l (opening s m)) k.parts ∙ judged_after s limit v 0 k.front (k.entry ∷ k.rest) (opening s m) it.0 it.1 (omega (arith, k.count, k.within))
    ∙ ap (λ i. judged_from s limit v i (k.entry ∷ k.rest) it.0) (omega (arith, k.count)) in
    left ∙ ⊎_elim (λ (full : n ≡ limit). cond-true (nat_le limit n) _ _ (le-leb limit n (omega arith)))
    (λ (none : after s m (k.front ++ k.entry ∷ []) ≡ None).
    let stop : step s it.0 k.entry ≡ None = ap (option_and_then (λ x. step s x k.entry)) (sym it.1) ∙ sym (after-push s m k.front k.entry) ∙ none in
    either (nat_le limit n) _ _ (ap (λ o. option_map_or (λ st. judged_from s limit v (n + 1) k.rest st) o (IllegalAt (n + 1))) stop)) k.next
