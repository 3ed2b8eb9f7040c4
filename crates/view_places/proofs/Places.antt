-- The state after a place, out of what was reached.
use Rattle.std.proofs.Common.{arith, ℕ, ◌≡◌, ◌≢◌, ◌<◌, ◌≤◌, ◌+◌, List, length, take, ap, refl, sym, subst, ◌∙◌, inl, inr, ◌⊎◌}
use Rattle.std.proofs.lemmas.List.{length-take-le, take-take}
use Rattle.std.specs.Prelude.{None}
use Rattle.ffm_model.specs.declared.system.System.{System}
use Rattle.ffm_model.specs.declared.machine.Entry.{Entry}
use Rattle.ffm_model.specs.Memory.{ByteMap}
use Rattle.ffm_model.specs.Step.{after}
use Rattle.machine_check.specs.declared.judging.Checker.{Checker}
use Rattle.machine_check.specs.Reaching.{IsAfter, IsLast, IsReached}
use Rattle.machine_check.proofs.Followed.{there}
use Rattle.view_places.specs.Showing.{AreLastPlaces, IsIllegalAt, IsStateAfter}
use Rattle.view_places.specs.declared.behind.StateAfter.{StateAfter}

pub place_reached : (s : System) (m : ByteMap) (limit : ℕ) (es : List Entry) (k : ℕ) (b : StateAfter) → k ≤ length es → IsReached s m limit (take k es) b.checker → b.checker.count ≡ k → b.total ≡ length es → AreLastPlaces s (take k es) b.last.items → IsStateAfter s m limit es k b
place_reached s m limit es k b few r count total last = record {
  within = omega (arith, r.within, count);
  behind = subst (λ xs. IsAfter s m xs b.checker) (ap (λ n. take n (take k es)) count ∙ take-take k k es (omega arith)) r.behind;
  count = count;
  total = total;
  last = last;
}

pub place_illegal : (s : System) (m : ByteMap) (limit : ℕ) (es : List Entry) (k : ℕ) (r : Checker) → k ≤ length es → IsReached s m limit (take k es) r → r.count ≢ k → (k ≤ length es) × ((r.count + 1 ≤ k) × IsIllegalAt s m limit es (r.count + 1))
place_illegal s m limit es k r few it other =
    let here : length (take k es) ≡ k = length-take-le k es few in
    let below : r.count < k = omega (arith, it.few, here, other) in
    let front : take r.count (take k es) ≡ take r.count es = take-take r.count k es (omega (arith, below)) in (
      few,
      (
        omega (arith, below),
        record {
          before = r.count;
          place = refl;
          there = omega (arith, below, few);
          within = it.within;
          run = there _ _ (ap (after s m) (sym front) ∙ it.behind.state);
          illegal = which below here it.last;
        },
      ),
    ) where
      which : r.count < k → length (take k es) ≡ k → IsLast s m limit (take k es) r.count → (limit ≡ r.count) ⊎ (after s m (take (r.count + 1) es) ≡ None)
      which below here (inl all) = absurd (omega (arith, all, here, below))
      which below here (inr (inl full)) = inl (sym full)
      which below here (inr (inr none)) = inr (ap (after s m) (sym (take-take (r.count + 1) k es (omega (arith, below)))) ∙ none)
