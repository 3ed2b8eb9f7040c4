-- The messages as they are kept, and the changes of them.
use Rattle.std.proofs.Common.{ℕ, zero, suc, ◌≡◌, ◌+◌, Bool, true, false, cond, not, List, [], ◌∷◌, ◌++◌, length, map, get_or, take, drop, set, ◌∙◌, ap, sym, refl, subst, arith}
use Rattle.std.specs.Prelude.{Option, Some, None, nat_lt, position, remove}
use Rattle.std.specs.List.{position_or_len}
use Rattle.std.specs.Option.{option_map}
use Rattle.std.proofs.lemmas.Bool.Decides.{nat_tests}
use Rattle.std.proofs.lemmas.List.{map-set, map-append, take-map, drop-map}
use Rattle.ffm_model.specs.declared.machine.Handle.{Handle}
use Rattle.ffm_model.specs.Held.{HeldMessage, is_held_as, changed_at, without}

-- ---- lists

position-by : (b : Bool) (n m : ℕ) → cond (nat_lt (cond (not b) (1 + n) 0) (suc m)) (Some (cond (not b) (1 + n) 0)) None ≡ cond b (Some 0) (option_map suc (cond (nat_lt n m) (Some n) None))
position-by true n m = grind (arith, nat_tests)
position-by false n m = grind (arith, nat_tests)

position-cons : {A : Type 0} (p : A → Bool) (x : A) (xs : List A) → position p (x ∷ xs) ≡ cond (p x) (Some 0) (option_map suc (position p xs))
position-cons p x xs = position-by (p x) (position_or_len p xs) (length xs)

-- ---- a change at the place of a handle

changed-step : (h : Handle) (f : HeldMessage → HeldMessage) (m : HeldMessage) (ms : List HeldMessage) (b : Bool) (o : Option ℕ) (k : ℕ) (d : HeldMessage)
    → ((j : ℕ) → o ≡ Some j → changed_at h f ms ≡ set ms j (f (get_or ms j d)))
    → cond b (Some 0) (option_map suc o) ≡ Some k
    → cond b (f m ∷ ms) (m ∷ changed_at h f ms) ≡ set (m ∷ ms) k (f (get_or (m ∷ ms) k d))
changed-step h f m ms true o k d go e = let at : 0 ≡ k = cc in subst (λ n. f m ∷ ms ≡ set (m ∷ ms) n (f (get_or (m ∷ ms) n d))) at refl
changed-step h f m ms false None k d go e = cc e
changed-step h f m ms false (Some j) k d go e =
    let at : suc j ≡ k = cc in
    subst (λ n. m ∷ changed_at h f ms ≡ set (m ∷ ms) n (f (get_or (m ∷ ms) n d))) at (ap (λ xs. m ∷ xs) (go j refl))

-- the message at the place is changed
pub changed-some : (h : Handle) (f : HeldMessage → HeldMessage) (ms : List HeldMessage) (k : ℕ) (d : HeldMessage) → position (is_held_as h) ms ≡ Some k → changed_at h f ms ≡ set ms k (f (get_or ms k d))
unfolding changed_at
changed-some h f [] k d e = cc e
changed-some h f (m ∷ ms) k d e =
    changed-step h f m ms (is_held_as h m) (position (is_held_as h) ms) k d (λ j. changed-some h f ms j d) (sym (position-cons (is_held_as h) m ms) ∙ e)

changed-same : (h : Handle) (f : HeldMessage → HeldMessage) (m : HeldMessage) (ms : List HeldMessage) (b : Bool) (o : Option ℕ)
    → (o ≡ None → changed_at h f ms ≡ ms) → cond b (Some 0) (option_map suc o) ≡ None → cond b (f m ∷ ms) (m ∷ changed_at h f ms) ≡ m ∷ ms
changed-same h f m ms true o go e = cc e
changed-same h f m ms false None go e = ap (λ xs. m ∷ xs) (go refl)
changed-same h f m ms false (Some j) go e = cc e

-- without a place nothing changes
pub changed-none : (h : Handle) (f : HeldMessage → HeldMessage) (ms : List HeldMessage) → position (is_held_as h) ms ≡ None → changed_at h f ms ≡ ms
unfolding changed_at
changed-none h f [] e = refl
changed-none h f (m ∷ ms) e = changed-same h f m ms (is_held_as h m) (position (is_held_as h) ms) (changed-none h f ms) (sym (position-cons (is_held_as h) m ms) ∙ e)

without-step : (h : Handle) (m : HeldMessage) (ms : List HeldMessage) (b : Bool) (o : Option ℕ) (k : ℕ) → ((j : ℕ) → o ≡ Some j → without h ms ≡ remove ms j)
    → cond b (Some 0) (option_map suc o) ≡ Some k → cond b ms (m ∷ without h ms) ≡ remove (m ∷ ms) k
without-step h m ms true o k go e = let at : 0 ≡ k = cc in subst (λ n. ms ≡ remove (m ∷ ms) n) at refl
without-step h m ms false None k go e = cc e
without-step h m ms false (Some j) k go e = let at : suc j ≡ k = cc in subst (λ n. m ∷ without h ms ≡ remove (m ∷ ms) n) at (ap (λ xs. m ∷ xs) (go j refl))

-- the message at the place is gone
pub without-some : (h : Handle) (ms : List HeldMessage) (k : ℕ) → position (is_held_as h) ms ≡ Some k → without h ms ≡ remove ms k
unfolding without
without-some h [] k e = cc e
without-some h (m ∷ ms) k e = without-step h m ms (is_held_as h m) (position (is_held_as h) ms) k (without-some h ms) (sym (position-cons (is_held_as h) m ms) ∙ e)

without-same : (h : Handle) (m : HeldMessage) (ms : List HeldMessage) (b : Bool) (o : Option ℕ) → (o ≡ None → without h ms ≡ ms)
    → cond b (Some 0) (option_map suc o) ≡ None → cond b ms (m ∷ without h ms) ≡ m ∷ ms
without-same h m ms true o go e = cc e
without-same h m ms false None go e = ap (λ xs. m ∷ xs) (go refl)
without-same h m ms false (Some j) go e = cc e

pub without-none : (h : Handle) (ms : List HeldMessage) → position (is_held_as h) ms ≡ None → without h ms ≡ ms
unfolding without
without-none h [] e = refl
without-none h (m ∷ ms) e = without-same h m ms (is_held_as h m) (position (is_held_as h) ms) (without-none h ms) (sym (position-cons (is_held_as h) m ms) ∙ e)

-- ---- the same of the messages as they are kept

get_or-map : {A B : Type 0} (f : A → B) (xs : List A) (k : ℕ) (d : A) → get_or (map f xs) k (f d) ≡ f (get_or xs k d)
get_or-map f [] k d = refl
get_or-map f (x ∷ xs) zero d = refl
get_or-map f (x ∷ xs) (suc k) d = get_or-map f xs k d

map-remove : {A B : Type 0} (f : A → B) (xs : List A) (k : ℕ) → map f (remove xs k) ≡ remove (map f xs) k
map-remove f xs k = map-append f (take k xs) (drop (suc k) xs) ∙ ap (λ ys. ys ++ map f (drop (suc k) xs)) (sym (take-map f k xs)) ∙ ap (λ ys. take k (map f xs) ++ ys) (sym (drop-map f (suc k) xs))

-- a change of the item at the place is that of its message
pub changed_place : {A : Type 0} (v : A → HeldMessage) (h : Handle) (f : HeldMessage → HeldMessage) (xs : List A) (k : ℕ) (d y : A)
    → Some k ≡ position (is_held_as h) (map v xs) → v y ≡ f (v (get_or xs k d)) → map v (set xs k y) ≡ changed_at h f (map v xs)
changed_place v h f xs k d y e same =
    map-set v xs k y ∙ ap (set (map v xs) k) (same ∙ ap f (sym (get_or-map v xs k d))) ∙ sym (changed-some h f (map v xs) k (v d) (sym e))

-- the item at the place is taken out
pub without_place : {A : Type 0} (v : A → HeldMessage) (h : Handle) (xs : List A) (k : ℕ) → Some k ≡ position (is_held_as h) (map v xs) → map v (remove xs k) ≡ without h (map v xs)
without_place v h xs k e = map-remove v xs k ∙ sym (without-some h (map v xs) k (sym e))
