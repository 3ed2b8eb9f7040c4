-- Entries followed, one further.
use Rattle.std.proofs.Common.{arith, subst, ℕ, ◌≡◌, ◌<◌, ◌≤◌, ◌+◌, inl, inr, ⊎_elim, Bool, true, false, List, [], ◌∷◌, ◌++◌, length, take, ap, sym, ◌∙◌}
use Rattle.std.proofs.lemmas.List.{length-take-le, take_all}
use Rattle.std.specs.Prelude.{None, Ok}
use Rattle.ffm_model.specs.declared.system.System.{System}
use Rattle.ffm_model.specs.declared.machine.Entry.{Entry}
use Rattle.ffm_model.specs.Memory.{ByteMap}
use Rattle.ffm_model.specs.Step.{after, step}
use Rattle.machine_calls.specs.Machine.{state_of}
use Rattle.machine_check.specs.declared.judging.Checker.{Checker}
use Rattle.machine_check.specs.Checking.{Accepts, IsAccepted}
use Rattle.machine_check.specs.Reaching.{IsAfter}
use Rattle.machine_check.proofs.Followed.{after_more, one_more, there}
use Rattle.view_texts.specs.declared.counts.TraceCounts.{TraceCounts}
use Rattle.view_texts.specs.Counted.{AreCounts, IsTallied}
use Rattle.view_texts.specs.Moves.{moved_in}

-- the next entry was accepted
pub further : (s : System) (m : ByteMap) (limit : ℕ) (es : List Entry) (k : ℕ) (e : Entry) (c new : Checker) (b : IsAfter s m (take k es) c)
    → take (k + 1) es ≡ take k es ++ e ∷ [] → IsAccepted s limit c b.handles e new → IsAfter s m (take (k + 1) es) new
further s m limit es k e c new b more it = subst (λ xs. IsAfter s m xs new) (sym more) (after_more s m limit (take k es) c new b e it)

-- the next entry was not accepted
pub stopped : (s : System) (m : ByteMap) (limit : ℕ) (es : List Entry) (k : ℕ) (e : Entry) (c new : Checker) (b : IsAfter s m (take k es) c) (ok : Bool) (t : TraceCounts)
    → k < length es → take (k + 1) es ≡ take k es ++ e ∷ [] → Accepts s limit c b.handles e (Ok ok) new → ok ≡ false → c.count ≤ limit → t.count ≡ c.count → t.total ≡ length es
    → AreCounts s m es c.count t.entries.items t.calls.items t.most_connections t.most_messages → t.moved.items ≡ moved_in s m es c.count → IsTallied s m limit es t
stopped s m limit es k e c new b true t below more accepts is within count total counts moved = absurd (cc)
stopped s m limit es k e c new b false t below more accepts is within count total counts moved =
    let here : length (take k es) ≡ k = length-take-le k es (omega (arith, below)) in
    let at : t.count ≡ k = omega (arith, count, b.count, here) in
    record {
      total = total;
      few = omega (arith, at, below);
      within = omega (arith, count, within);
      run = there _ _ (ap (λ n. after s m (take n es)) at ∙ b.state);
      counts = subst (λ n. AreCounts s m es n t.entries.items t.calls.items t.most_connections t.most_messages) (sym count) counts;
      moved = moved ∙ ap (moved_in s m es) (sym count);
      last = ⊎_elim (λ (over : limit ≤ c.count). inr (inl (omega (arith, over, within, count))))
          (λ (none : step s (state_of c.machine b.handles) e ≡ None). inr (inr (ap (λ n. after s m (take (n + 1) es)) at ∙ ap (after s m) more ∙ one_more s m (take k es) c b e ∙ none))) accepts.0;
    }

-- there is no further entry
pub all_counted : (s : System) (m : ByteMap) (limit : ℕ) (es : List Entry) (k : ℕ) (c : Checker) (t : TraceCounts) → IsAfter s m (take k es) c → length es ≤ k → c.count ≤ limit → t.count ≡ c.count → t.total ≡ length es
    → AreCounts s m es c.count t.entries.items t.calls.items t.most_connections t.most_messages → t.moved.items ≡ moved_in s m es c.count → IsTallied s m limit es t
all_counted s m limit es k c t b all within count total counts moved =
    let whole : take k es ≡ es = take_all k es all in
    let at : t.count ≡ length es = count ∙ b.count ∙ ap length whole in
    record {
      total = total;
      few = omega (arith, at);
      within = omega (arith, count, within);
      run = there _ _ (ap (after s m) (ap (λ n. take n es) at ∙ take_all (length es) es (omega arith) ∙ sym whole) ∙ b.state);
      counts = subst (λ n. AreCounts s m es n t.entries.items t.calls.items t.most_connections t.most_messages) (sym count) counts;
      moved = moved ∙ ap (moved_in s m es) (sym count);
      last = inl at;
    }
