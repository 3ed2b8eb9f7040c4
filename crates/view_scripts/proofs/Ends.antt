-- The entries of an actor, up to the one that ends it.
use Rattle.std.proofs.Common.{ℕ, ◌≡◌, ◌≢◌, ◌+◌, ◌<◌, ◌==◌, Bool, List, [], ◌∷◌, drop, get_or, length, refl, ap, ap₂, sym, ◌∙◌, eq-eqb, ne_eqb}
use Rattle.std.specs.Prelude.{Option, None, Some, ◌≤◌, if◌then◌else◌}
use Rattle.std.specs.Option.{option_map_or}
use Rattle.std.proofs.lemmas.List.{at_drop_all, drop_more}
use Rattle.ffm_model.specs.declared.machine.Entry.{Entry}
use Rattle.view_scripts.specs.declared.standing.End.{End}
use Rattle.view_scripts.specs.Standings.{end_by, end_of}

one-is : (a : ℕ) (e : Entry) (es : List Entry) → end_of a (e ∷ es) ≡ (if e.actor.0 == a then option_map_or (λ end. Some end) (end_by e.outcome e.call) (end_of a es) else end_of a es)
unfolding end_of
one-is a e es = refl

none-is : (a : ℕ) → None ≡ end_of a []
unfolding end_of
none-is a = refl

pub ends : (a : ℕ) (es : List Entry) (k : ℕ) → length es ≤ k → None ≡ end_of a (drop k es)
ends a es k over = none-is a ∙ sym (at_drop_all (end_of a) es k over)

module _ (a : ℕ) (es : List Entry) (k : ℕ) (e : Entry) (low : k < length es) (is : e ≡ get_or es k e) where
  at-is : end_of a (drop k es) ≡ (if e.actor.0 == a then option_map_or (λ end. Some end) (end_by e.outcome e.call) (end_of a (drop (k + 1) es)) else end_of a (drop (k + 1) es))
  at-is = ap (end_of a) (drop_more es k e low ∙ ap (λ (x : Entry). x ∷ drop (k + 1) es) (sym is)) ∙ one-is a e (drop (k + 1) es)

  pub skips : e.actor.0 ≢ a → end_of a (drop k es) ≡ end_of a (drop (k + 1) es)
  skips apart = at-is ∙ ap (λ (b : Bool). if b then option_map_or (λ end. Some end) (end_by e.outcome e.call) (end_of a (drop (k + 1) es)) else end_of a (drop (k + 1) es)) (ne_eqb e.actor.0 a apart)

  own-is : (o : Option End) → e.actor.0 ≡ a → o ≡ end_by e.outcome e.call → end_of a (drop k es) ≡ option_map_or (λ end. Some end) o (end_of a (drop (k + 1) es))
  own-is o own same =
      at-is ∙ ap₂ (λ (b : Bool) (x : Option End). if b then option_map_or (λ end. Some end) x (end_of a (drop (k + 1) es)) else end_of a (drop (k + 1) es)) (eq-eqb e.actor.0 a own) (sym same)

  pub passes : e.actor.0 ≡ a → None ≡ end_by e.outcome e.call → end_of a (drop k es) ≡ end_of a (drop (k + 1) es)
  passes own same = own-is None own same

  pub finds : (end : End) → e.actor.0 ≡ a → Some end ≡ end_by e.outcome e.call → end_of a (drop k es) ≡ Some end
  finds end own same = own-is (Some end) own same
