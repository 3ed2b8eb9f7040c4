use Rattle.std.proofs.Common.{ℕ, ◌≡◌, ◌∙◌, Bool, true, false, get_or, arith, ap, sym, refl}
use Rattle.std.proofs.lemmas.Bool.Decides.{nat_tests}
use Rattle.std.specs.Prelude.{Some, position, ◌==◌}
use Rattle.ffm_model.specs.Ranges.{sid_in, sids_of, HaveIndexedSids, IsOnlyPlace}
use Rattle.ffm_model.proofs.RangeLemmas.{found_place, lacked_place, missing_place, sid_tells}
use Rattle.ffm_model.proofs.services.Services.place_of.Goals as goal

same : (m n k : ℕ) → m ≡ n → m ≡ k → (n == k) ≡ true
same m n k is at = grind (arith, nat_tests)

other : (m n k : ℕ) → m ≡ n → (m ≡ k → ⊥) → (n == k) ≡ false
other m n k is off = by (n == k) refl where
  by : (b : Bool) → (n == k) ≡ b → b ≡ false
  by true e = absurd (off (grind (arith, nat_tests)))
  by false e = refl

pub returns-then-services-place : goal.returns-then-services-place
returns-then-services-place c =
    let kept : HaveIndexedSids c.self.inside.list c.in-Some.sids.items = rw c.in-Some.is at c.self.invariant in
    let only : IsOnlyPlace (sids_of c.self.inside.list) c.args.sid.0 (Some c.in-Some-last_up_to.place) = c.in-Some-last_up_to.ensures _ (rw c.as_slice.ensures.value kept.index) kept.apart in
    let here : ((get_or c.self.inside.list c.in-Some-last_up_to.place c.index-services-place.result).sid.0 == c.args.sid.0) ≡ true = same _ _ _ (ap (λ vs. (get_or vs c.in-Some-last_up_to.place c.index-services-place.result).sid.0) c.as_slice-services.ensures) c.if-services-place.true in
    sym (found_place sid_in (λ v. v.sid.0 == c.args.sid.0) c.args.sid.0 1 (omega arith) (sid_tells _) c.self.inside.list c.in-Some-last_up_to.place _ only here)
    ∙ ap (position (λ v. v.sid.0 == c.args.sid.0)) c.self.view_is

pub returns-else-services-place : goal.returns-else-services-place
returns-else-services-place c =
    let kept : HaveIndexedSids c.self.inside.list c.in-Some.sids.items = rw c.in-Some.is at c.self.invariant in
    let only : IsOnlyPlace (sids_of c.self.inside.list) c.args.sid.0 (Some c.in-Some-last_up_to.place) = c.in-Some-last_up_to.ensures _ (rw c.as_slice.ensures.value kept.index) kept.apart in
    let here : ((get_or c.self.inside.list c.in-Some-last_up_to.place c.index-services-place.result).sid.0 == c.args.sid.0) ≡ false = other _ _ _ (ap (λ vs. (get_or vs c.in-Some-last_up_to.place c.index-services-place.result).sid.0) c.as_slice-services.ensures) c.if-services-place.false in
    sym (lacked_place sid_in (λ v. v.sid.0 == c.args.sid.0) c.args.sid.0 1 (omega arith) (sid_tells _) c.self.inside.list c.in-Some-last_up_to.place _ only here)
    ∙ ap (position (λ v. v.sid.0 == c.args.sid.0)) c.self.view_is

pub returns-in-None : goal.returns-in-None
returns-in-None c =
    let kept : HaveIndexedSids c.self.inside.list c.in-Some.sids.items = rw c.in-Some.is at c.self.invariant in
    sym (missing_place sid_in (λ v. v.sid.0 == c.args.sid.0) c.args.sid.0 1 (omega arith) (sid_tells _) c.self.inside.list (c.in-None.ensures _ (rw c.as_slice.ensures.value kept.index) kept.apart))
    ∙ ap (position (λ v. v.sid.0 == c.args.sid.0)) c.self.view_is
