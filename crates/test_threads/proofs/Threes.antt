-- Three passes are all passes of a system with three actors.
use Rattle.std.proofs.Common.{◌≡◌, ℕ, zero, suc, ◌+◌, List, [], ◌∷◌, ◌++◌, length, slice_get, Some, sym, refl, subst, arith, length-append}
use Rattle.law_lists.proofs.Lists.{slice_get-after}
use Rattle.spm_lock.specs.Histories.{actors}
use Rattle.spm_lock.specs.Passes.{SharedView, PassView, IsOwn, FirstPasses, ArePasses}
use Rattle.test_threads.specs.Threes.{AreThree}

slice_get_front : {A : Type 0} (xs : List A) (x : A) (k : ℕ) (y : A) → slice_get xs k ≡ Some y → slice_get (xs ++ x ∷ []) k ≡ Some y
slice_get_front [] x k y at = absurd (cc)
slice_get_front (z ∷ xs) x zero y at = at
slice_get_front (z ∷ xs) x (suc k) y at = slice_get_front xs x k y at

-- the last pass, and those before it
one_less : (s : SharedView) (n : ℕ) (ps : List PassView) (p : PassView) → FirstPasses s n (ps ++ p ∷ []) → IsOwn s p × (p.actor + 1 ≡ n) × FirstPasses s p.actor ps
one_less s n ps p first =
    let last = first.each (length ps) p (slice_get-after ps p [] (length ps) refl) in let a = first.all in let b = length-append ps (p ∷ []) in let c = last.1 in (
      last.0,
      omega arith,
      record { all = sym last.1; each = λ k q at. first.each k q (slice_get_front ps p k q at) },
    )

pub three_apart : (s : SharedView) (all two one none_left : List PassView) (p q r : PassView) → ArePasses s all → all ≡ two ++ r ∷ [] → two ≡ one ++ q ∷ [] → one ≡ none_left ++ p ∷ [] → length none_left ≡ 0 → AreThree s p q r
three_apart s all two one none_left p q r passes is_r is_q is_p empty =
    let third = one_less s (actors s.opening) two r (subst (FirstPasses s (actors s.opening)) is_r passes) in
    let second = one_less s r.actor one q (subst (FirstPasses s r.actor) is_q third.2) in
    let first = one_less s q.actor none_left p (subst (FirstPasses s q.actor) is_p second.2) in
    let a = first.2.all in let b = first.1 in let c = second.1 in let d = third.1 in record {
      count = omega arith;
      first = (first.0, omega arith);
      second = (second.0, omega arith);
      third = (third.0, omega arith);
    }
