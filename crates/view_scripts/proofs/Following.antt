-- Entries of an actor against an engine, one by one.
use Rattle.std.proofs.Common.{ℕ, ◌≡◌, ◌≢◌, ◌+◌, ◌<◌, Bool, true, false, List, [], ◌∷◌, ◌++◌, take, drop, get_or, length, arith, refl, ap, ap₂, sym, subst, ◌∙◌, append-nil, append_assoc, length-take}
use Rattle.std.specs.Prelude.{if◌then◌else◌}
use Rattle.std.proofs.lemmas.List.{drop_more, take-append-drop, take_more}
use Rattle.ffm_model.specs.declared.machine.Call.TheVariants as call
use Rattle.ffm_model.specs.declared.machine.Entry.{Entry}
use Rattle.ffm_model.specs.declared.machine.Outcome.{Outcome}
use Rattle.ffm_model.specs.Plans.{Engine, Plan, PlanRun, RunFrom, engine_after, engine_answered, plan_of}
use Rattle.ffm_model.specs.Records.{ends_blocked, entries_of, is_blocked_outcome, outcomes_of}
use Rattle.ffm_model.proofs.RecordLemmas.{ends_blocked-nil, ends_blocked-push, engine_after-push, entries_of-apart, entries_of-same, outcomes_of-push}
use Rattle.view_scripts.specs.Standings.{IsTaken, LeavesAt}

-- a run goes on with the plan's next call
run-more : (plan : Plan) (os : List Outcome) (es : List Entry) (e : Entry) → RunFrom plan os es → e.call ≡ plan (os ++ outcomes_of es) → RunFrom plan os (es ++ e ∷ [])
run-more plan os [] e h is = (is ∙ ap plan (append-nil os), tt)
run-more plan os (x ∷ es) e h is = (h.0, run-more plan (os ++ x.outcome ∷ []) es e h.1 (is ∙ ap plan (sym (append_assoc os (x.outcome ∷ []) (outcomes_of es)))))

-- the actor's entries are a run of an engine's plan, which leaves it here; pending says whether the last call waits for its return
pub record Followed {X : Type 0} (m : Engine X) (first : X) (a : ℕ) (es : List Entry) (x : X) (pending : Bool) : Type 0 where
  pub run : PlanRun (plan_of m first) (entries_of a es)
  pub at : x ≡ engine_after m first (outcomes_of (entries_of a es))
  pub waits : pending ≡ ends_blocked (outcomes_of (entries_of a es))

module _ {X : Type 0} (m : Engine X) (first : X) (a : ℕ) where
  pub followed-none : Followed m first a [] first false
  unfolding engine_after
  followed-none = record { run = tt; at = refl; waits = sym ends_blocked-nil }

  plan-is : (os : List Outcome) → plan_of m first os ≡ (if ends_blocked os then call.Resume else m.call (engine_after m first os))
  unfolding plan_of
  plan-is os = refl

  due-is : (es : List Entry) (x : X) (pending : Bool) → Followed m first a es x pending
      → (if pending then call.Resume else m.call x) ≡ plan_of m first (outcomes_of (entries_of a es))
  due-is es x pending f =
      ap₂ (λ (b : Bool) (y : X). if b then call.Resume else m.call y) f.waits f.at ∙ sym (plan-is (outcomes_of (entries_of a es)))

  followed-own : (es : List Entry) (e : Entry) (x y : X) (pending : Bool) → Followed m first a es x pending → e.actor.0 ≡ a → IsTaken m x pending e y true
      → Followed m first a (es ++ e ∷ []) y (is_blocked_outcome e.outcome)
  followed-own es e x y pending f own taken =
      let own_entries = entries_of a es in
      let more : entries_of a (es ++ e ∷ []) ≡ own_entries ++ e ∷ [] = entries_of-same a es e own in
      let outcomes : outcomes_of (entries_of a (es ++ e ∷ [])) ≡ outcomes_of own_entries ++ e.outcome ∷ [] = ap outcomes_of more ∙ outcomes_of-push own_entries e in
      record {
        run = subst (PlanRun (plan_of m first)) (sym more) (run-more (plan_of m first) [] own_entries e f.run (taken.0 ∙ due-is es x pending f));
        at = taken.1 ∙ ap (engine_answered m e.outcome) f.at ∙ sym (engine_after-push m first (outcomes_of own_entries) e.outcome) ∙ ap (engine_after m first) (sym outcomes);
        waits = sym (ap ends_blocked outcomes ∙ ends_blocked-push (outcomes_of own_entries) e.outcome);
      }

  followed-other : (es : List Entry) (e : Entry) (x : X) (pending : Bool) → Followed m first a es x pending → e.actor.0 ≢ a → Followed m first a (es ++ e ∷ []) x pending
  followed-other es e x pending f apart =
      let same : entries_of a (es ++ e ∷ []) ≡ entries_of a es = entries_of-apart a es e apart in
      record {
        run = subst (PlanRun (plan_of m first)) (sym same) f.run;
        at = f.at ∙ ap (λ (l : List Entry). engine_after m first (outcomes_of l)) (sym same);
        waits = f.waits ∙ ap (λ (l : List Entry). ends_blocked (outcomes_of l)) (sym same);
      }

  -- ---- along a list

  -- the entry at a place, against an engine that is the same one
  module _ (es : List Entry) (k : ℕ) (d : Entry) (low : k < length es) (n : Engine X) (one : n ≡ m) (x y : X) (pending taken : Bool) where
    next-taken : take (k + 1) es ≡ take k es ++ get_or es k d ∷ []
    next-taken = take_more es k d low

    is-so : (b : Bool) → taken ≡ b → IsTaken n x pending (get_or es k d) y taken → IsTaken m x pending (get_or es k d) y b
    is-so b same is =
        subst (λ (o : Engine X). IsTaken o x pending (get_or es k d) y b) one (subst (IsTaken n x pending (get_or es k d) y) same is)

    pub next-own : Followed m first a (take k es) x pending → (get_or es k d).actor.0 ≡ a → taken ≡ true → IsTaken n x pending (get_or es k d) y taken
        → Followed m first a (take (k + 1) es) y (is_blocked_outcome (get_or es k d).outcome)
    next-own f own same is =
        subst (λ (l : List Entry). Followed m first a l y (is_blocked_outcome (get_or es k d).outcome)) (sym next-taken)
        (followed-own (take k es) (get_or es k d) x y pending f own (is-so true same is))

    pub leaves : Followed m first a (take k es) x pending → (get_or es k d).actor.0 ≡ a → taken ≡ false → IsTaken n x pending (get_or es k d) y taken
        → LeavesAt (plan_of m first) a es (k + 1)
    leaves f own same is = record {
      before = take k es;
      entry = get_or es k d;
      later = drop (k + 1) es;
      are = sym (take-append-drop k es) ∙ ap (λ (l : List Entry). take k es ++ l) (drop_more es k d low);
      at = let long : length (take k es) ≡ k = omega (arith, length-take k es) in ap (λ (j : ℕ). j + 1) (sym long);
      own = own;
      follows = f.run;
      differs = λ due. is-so false same is (due ∙ sym (due-is (take k es) x pending f));
    }

  pub next-other : (es : List Entry) (k : ℕ) (d : Entry) → k < length es → (x : X) (pending : Bool) → Followed m first a (take k es) x pending → (get_or es k d).actor.0 ≢ a
      → Followed m first a (take (k + 1) es) x pending
  next-other es k d low x pending f apart =
      subst (λ (l : List Entry). Followed m first a l x pending) (sym (take_more es k d low)) (followed-other (take k es) (get_or es k d) x pending f apart)
