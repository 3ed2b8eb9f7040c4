-- Lists of passes.
use Rattle.std.proofs.Common.{◌≡◌, ℕ, zero, suc, ◌+◌, List, [], ◌∷◌, ◌++◌, map, length, slice_get, Option, Some, sym, refl, ap, ◌∙◌, subst, length-append, append-nil}
use Rattle.std.proofs.lemmas.List.{length-map, nil_from_length}
use mathlib.Core.Option.{some, some-injective}
use lib.ListN.{get_elem?}
use Rattle.atomic_table.specs.Table.{Me, Final, Seen}
use Rattle.law_lists.proofs.Lists.{slice_get-after}
use Rattle.ffm_model.specs.declared.machine.Entry.{Entry}
use Rattle.spm_lock.specs.Histories.{actors, IsRun}
use Rattle.spm_core.specs.Manager.{Opening, Managed}
use Rattle.spm_lock.specs.declared.view.View.{View}
use Rattle.spm_lock.specs.Views.{taker}
use Rattle.spm_lock.proofs.Moves.{closes}
use Rattle.spm_lock.specs.Rule.{AllFit, Kept}
use Rattle.spm_lock.specs.Passes.{SharedView, PassView, IsOwn, FirstPasses, AreNew, Keeps, right_in}

-- what holds of each element and its place, with one more
each_more : {A : Type 0} (P : ℕ → A → Type 0) (xs : List A) (x : A) → ((k : ℕ) (y : A) → slice_get xs k ≡ Some y → P k y) → P (length xs) x
    → (k : ℕ) (y : A) → slice_get (xs ++ x ∷ []) k ≡ Some y → P k y
each_more P [] x old new zero y at = let same : x ≡ y = cc in subst (P 0) same new
each_more P [] x old new (suc k) y at = absurd (cc)
each_more P (z ∷ xs) x old new zero y at = old zero y at
each_more P (z ∷ xs) x old new (suc k) y at = each_more (λ j. P (suc j)) xs x (λ j w there. old (suc j) w there) new k y at

pub one_more : (s : SharedView) (n : ℕ) (ps : List PassView) (p : PassView) → FirstPasses s n ps → IsOwn s p → p.actor ≡ n → FirstPasses s (n + 1) (ps ++ p ∷ [])
one_more s n ps p first own is = let a = first.all in record {
  all = length-append ps (p ∷ []) ∙ ap (λ k. k + 1) first.all;
  each = each_more (λ k q. IsOwn s q × (q.actor ≡ k)) ps p first.each (own, is ∙ sym first.all);
}

pub new_more : (ps : List PassView) (p : PassView) → AreNew ps → p.front ≡ [] → p.turns ≡ 0 → AreNew (ps ++ p ∷ [])
new_more ps p old front turns = each_more (λ _ q. (q.front ≡ []) × (q.turns ≡ 0)) ps p old (front, turns)

-- the rights of the passes fit, so each pass does
pub all_keep : (h : List Entry) (ps : List PassView) → AllFit h (map right_in ps) → (k : ℕ) (p : PassView) → slice_get ps k ≡ Some p → Keeps h p
all_keep h [] fit k p at = absurd (cc)
all_keep h (q ∷ ps) fit zero p at = let same : q ≡ p = cc in subst (Keeps h) same record { begins = fit.0.0; own = fit.0.1 }
all_keep h (q ∷ ps) fit (suc k) p at = all_keep h ps fit.1 k p at

-- what stands after the passes that were taken in
pub next_own : (s : SharedView) (n : ℕ) (ys rest later ps : List PassView) (p : PassView) → FirstPasses s n ps → ys ++ rest ≡ ps → rest ≡ p ∷ later → IsOwn s p
next_own s n ys rest later ps p first all next =
    (first.each (length ys) p (subst (λ (l : List PassView). slice_get l (length ys) ≡ Some p) (ap (λ (l : List PassView). ys ++ l) (sym next) ∙ all) (slice_get-after ys p later (length ys) refl))).0

all_yielded : (ys rest ps : List PassView) → ys ++ rest ≡ ps → length rest ≡ 0 → ys ≡ ps
all_yielded ys rest ps all none_left = sym (append-nil ys) ∙ (ap (λ (l : List PassView). ys ++ l) (sym (nil_from_length rest none_left)) ∙ all)

-- the manager at the end, and what its history keeps of the passes
pub record EndsWith (o : Opening) (ps : List PassView) (y : Managed) : Type 0 where
  pub opening_is : y.opening ≡ o
  pub run : IsRun o y.history
  pub keeps : (k : ℕ) (p : PassView) → slice_get ps k ≡ Some p → Keeps y.history p

module _ {B : Type 0} (managed : B → Managed) (x : Managed) where
  -- what stands in the slot once each pass was taken in
  pub finished : (o : Opening) (id : ℕ) (me : Me (Option B) View) (ws : List ℕ) (xs : List (Option B)) (ys rest ps : List PassView) (got : Option B) → o ≡ x.opening → length ps ≡ actors o
      → me ≡ (taker x (map right_in ys), []) → ys ++ rest ≡ ps → length rest ≡ 0 → Final (Seen (Kept managed x) id me.0) ws xs → get_elem? xs 0 ≡ some got
      → (b : B) × (got ≡ Some b) × EndsWith o ps (managed b)
  finished o id me ws xs ys rest ps got begun all is whole none_left last found =
      let every : ys ≡ ps = all_yielded ys rest ps whole none_left in
      let full : length (map right_in ys) ≡ actors x.opening = length-map ys right_in ∙ (ap length every ∙ (all ∙ ap actors begun)) in
      let c = closes managed x id x (map right_in ys) ws xs full (subst (λ (z : Me (Option B) View). Final (Seen (Kept managed x) id z.0) ws xs) is last) in
      let same : got ≡ Some c.0 = some-injective got (Some c.0) (sym found ∙ c.1) in (
        c.0,
        same,
        record {
          opening_is = c.2 ∙ sym begun;
          run = subst (λ (q : Opening). IsRun q (managed c.0).history) (sym begun) c.4;
          keeps = subst (λ (l : List PassView). (k : ℕ) (p : PassView) → slice_get l k ≡ Some p → Keeps (managed c.0).history p) every (all_keep (managed c.0).history ys c.3);
        },
      )

  -- the same for the value that came out
  pub finished_as : (o : Opening) (id : ℕ) (me : Me (Option B) View) (ws : List ℕ) (xs : List (Option B)) (ys rest ps : List PassView) (b : B) → o ≡ x.opening → length ps ≡ actors o
      → me ≡ (taker x (map right_in ys), []) → ys ++ rest ≡ ps → length rest ≡ 0 → Final (Seen (Kept managed x) id me.0) ws xs → get_elem? xs 0 ≡ some (Some b)
      → EndsWith o ps (managed b)
  finished_as o id me ws xs ys rest ps b begun all is whole none_left last found =
      let f = finished o id me ws xs ys rest ps (Some b) begun all is whole none_left last found in let e : Some b ≡ Some f.0 = f.1 in let same : f.0 ≡ b = cc in
      subst (λ (z : B). EndsWith o ps (managed z)) same f.2
