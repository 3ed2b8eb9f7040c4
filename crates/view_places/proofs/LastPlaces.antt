-- The places of the actors' last entries, entry by entry.
use Rattle.std.proofs.Common.{arith, ℕ, zero, suc, ◌≡◌, ◌<◌, ◌+◌, ◌-◌, List, [], ◌∷◌, ◌++◌, length, drop, take, get_or, refl, ap, sym, subst, ◌∙◌, ⊎_elim}
use Rattle.std.proofs.lemmas.Bool.{cases_eq}
use Rattle.std.proofs.lemmas.List.{drop-append-le, drop_all, get_or-set_other, get_or-set_same, length-append, length-set, length-take-le, take_more}
use Rattle.std.proofs.lemmas.List.Elements.{All-append, All-cons, All-nil}
use Rattle.std.specs.Prelude.{All, IsSomeAnd, slice_get, slice_set}
use Rattle.law_lists.proofs.Lists.{slice_get-after}
use Rattle.ffm_model.specs.declared.system.System.{System}
use Rattle.ffm_model.specs.declared.machine.Entry.{Entry}
use Rattle.view_places.specs.Showing.{AreLastPlaces, IsLastPlace}

earlier_item : (es : List Entry) (e : Entry) (k : ℕ) → k < length es → slice_get (es ++ e ∷ []) k ≡ slice_get es k
earlier_item [] e k h = absurd (omega (arith, h))
earlier_item (x ∷ es) e zero h = refl
earlier_item (x ∷ es) e (suc k) h = earlier_item es e k (omega (arith, h))

-- the entry is the actor's
own_place : (es : List Entry) (e : Entry) → IsLastPlace (es ++ e ∷ []) e.actor.0 (length es + 1)
own_place es e =
    let long : length (es ++ e ∷ []) ≡ length es + 1 = length-append es (e ∷ []) in
    record {
      within = omega (arith, long);
      own = λ some. subst (λ k. IsSomeAnd (slice_get (es ++ e ∷ []) k) (λ x. x.actor.0 ≡ e.actor.0)) (omega arith) (subst (λ o. IsSomeAnd o (λ x. x.actor.0 ≡ e.actor.0)) (sym (slice_get-after es e [] (length es) refl)) refl);
      none_later = subst (λ xs. All (λ x. x.actor.0 ≡ e.actor.0 → ⊥) xs) (sym (drop_all (length es + 1) (es ++ e ∷ []) (omega (arith, long)))) (All-nil (λ (x : Entry). x.actor.0 ≡ e.actor.0 → ⊥));
    }

-- it is another's
other_place : (es : List Entry) (e : Entry) (a n : ℕ) → (e.actor.0 ≡ a → ⊥) → IsLastPlace es a n → IsLastPlace (es ++ e ∷ []) a n
other_place es e a n other it =
    let long : length (es ++ e ∷ []) ≡ length es + 1 = length-append es (e ∷ []) in
    record {
      within = omega (arith, long, it.within);
      own = λ some. subst (λ o. IsSomeAnd o (λ x. x.actor.0 ≡ a)) (sym (earlier_item es e (n - 1) (omega (arith, it.within, some)))) (it.own some);
      none_later = subst (λ xs. All (λ x. x.actor.0 ≡ a → ⊥) xs) (sym (drop-append-le n es (e ∷ []) it.within)) (All-append (λ x. x.actor.0 ≡ a → ⊥) (drop n es) (e ∷ []) it.none_later (All-cons (λ (x : Entry). x.actor.0 ≡ a → ⊥) e [] other (All-nil (λ (x : Entry). x.actor.0 ≡ a → ⊥))));
    }

-- one entry more
pub one_more : (s : System) (es : List Entry) (e : Entry) (places : List ℕ) → AreLastPlaces s es places → AreLastPlaces s (es ++ e ∷ []) (slice_set places e.actor.0 (length es + 1))
one_more s es e places it = record {
  actors = length-set places e.actor.0 (length es + 1) ∙ it.actors;
  each = λ a below. ⊎_elim
      (λ (same : e.actor.0 ≡ a).
      let put : get_or (slice_set places e.actor.0 (length es + 1)) a 0 ≡ length es + 1 = subst (λ b. get_or (slice_set places e.actor.0 (length es + 1)) b 0 ≡ length es + 1) same (get_or-set_same places e.actor.0 (length es + 1) 0 (omega (arith, it.actors, below, same))) in
      subst (λ n. IsLastPlace (es ++ e ∷ []) a n) (sym put) (subst (λ b. IsLastPlace (es ++ e ∷ []) b (length es + 1)) same (own_place es e)))
      (λ (other : e.actor.0 ≡ a → ⊥).
      subst (λ n. IsLastPlace (es ++ e ∷ []) a n) (sym (get_or-set_other places e.actor.0 a (length es + 1) 0 (λ same. other (sym same)))) (other_place es e a _ other (it.each a below)))
      (cases_eq e.actor.0 a);
}

-- the next entry of a list
pub next_entry : (s : System) (es : List Entry) (i place : ℕ) (d : Entry) (places new : List ℕ) → i < length es → place ≡ i → AreLastPlaces s (take i es) places → new ≡ slice_set places (get_or es i d).actor.0 (place + 1)
    → AreLastPlaces s (take (i + 1) es) new
next_entry s es i place d places new below same it is =
    let e : Entry = get_or es i d in
    let long : length (take i es) ≡ i = length-take-le i es (omega (arith, below)) in
    let here : length (take i es) + 1 ≡ place + 1 = omega (arith, long, same) in
    subst (λ xs. AreLastPlaces s xs new) (sym (take_more es i d below))
    (subst (λ ns. AreLastPlaces s (take i es ++ e ∷ []) ns) (ap (λ n. slice_set places e.actor.0 n) here ∙ sym is) (one_more s (take i es) e places it))
