-- Facts of each item of a list, and of each pair of them, by recursion on the list.
use Rattle.std.proofs.Common.{◌≡◌, Bool, true, false, ◌&&◌, List, [], ◌∷◌, ◌++◌, map, filter, cond, Option, Some, None, refl, IfSome}
use Rattle.std.specs.List.{AllByRecursion as Each, list_all, list_any, filter_map, cons_option}
use Rattle.std.proofs.lemmas.Bool.{and_from, or_parts}
use Rattle.law_lists.proofs.Lists.{append_nil, AllByRecursion-weaker, AllByRecursion-all, AllByRecursion-append}
use Rattle.ffm_model.specs.WellFormed.{each_pair}
use Rattle.ffm_model.specs.Repeats.{only_if, repeated, repeated_after}
use Rattle.ffm_model.proofs.RuleLemmas.{only_if_nil}

-- ---- several tests

pub three : (a b c : Bool) → a ≡ true → b ≡ true → c ≡ true → (a && b && c) ≡ true
three a b c h i j = rw (h, i, j) refl

pub four : (a b c d : Bool) → a ≡ true → b ≡ true → c ≡ true → d ≡ true → (a && b && c && d) ≡ true
four a b c d h i j k = rw (h, i, j, k) refl

pub five : (a b c d e : Bool) → a ≡ true → b ≡ true → c ≡ true → d ≡ true → e ≡ true → (a && b && c && d && e) ≡ true
five a b c d e h i j k l = rw (h, i, j, k, l) refl

pub eight : (a b c d e f g h : Bool) → a ≡ true → b ≡ true → c ≡ true → d ≡ true → e ≡ true → f ≡ true → g ≡ true → h ≡ true → (a && b && c && d && e && f && g && h) ≡ true
eight a b c d e f g h i j k l m n o p = rw (i, j, k, l, m, n, o, p) refl

-- ---- each item

pub each_both : {A : Type 0} (P Q : A → Type 0) (xs : List A) → Each P xs → Each Q xs → Each (λ x. P x × Q x) xs
each_both P Q [] h k = tt
each_both P Q (x ∷ xs) h k = ((h.0, k.0), each_both P Q xs h.1 k.1)

pub each_split : {A : Type 0} (P : A → Type 0) (xs ys : List A) → Each P (xs ++ ys) → Each P xs × Each P ys
each_split P [] ys h = (tt, h)
each_split P (x ∷ xs) ys h = let s : Each P xs × Each P ys = each_split P xs ys h.1 in ((h.0, s.0), s.1)

pub each_map : {A B : Type 0} (P : B → Type 0) (f : A → B) (xs : List A) → Each (λ x. P (f x)) xs → Each P (map f xs)
each_map P f [] h = tt
each_map P f (x ∷ xs) h = (h.0, each_map P f xs h.1)

kept : {A B : Type 0} (P : B → Type 0) (f : A → Option B) (xs : List A) (y : Option B) → IfSome y P → Each P (filter_map f xs) → Each P (cons_option y (filter_map f xs))
kept P f xs None h k = k
kept P f xs (Some y) h k = (h, k)

pub each_filter_map : {A B : Type 0} (P : B → Type 0) (f : A → Option B) (xs : List A) → Each (λ x. IfSome (f x) P) xs → Each P (filter_map f xs)
each_filter_map P f [] h = tt
each_filter_map P f (x ∷ xs) h = kept P f xs (f x) h.0 (each_filter_map P f xs h.1)

-- ---- tests

left_out : {A : Type 0} (b : Bool) (x : A) (xs : List A) → cond b (x ∷ xs) xs ≡ [] → (b ≡ false) × (xs ≡ [])
left_out true x xs e = absurd cc
left_out false x xs e = (refl, e)

pub filter_nil : {A : Type 0} (p : A → Bool) (xs : List A) → filter p xs ≡ [] → Each (λ x. p x ≡ false) xs
filter_nil p [] e = tt
filter_nil p (x ∷ xs) e = let s : (p x ≡ false) × (filter p xs ≡ []) = left_out (p x) x (filter p xs) e in (s.0, filter_nil p xs s.1)

pub none_any : {A : Type 0} (p : A → Bool) (xs : List A) → list_any p xs ≡ false → Each (λ x. p x ≡ false) xs
none_any p [] e = tt
none_any p (x ∷ xs) e = let s : (p x ≡ false) × (list_any p xs ≡ false) = or_parts _ _ e in (s.0, none_any p xs s.1)

pub all_from : {A : Type 0} (P : A → Type 0) (p : A → Bool) → ((x : A) → P x → p x ≡ true) → (xs : List A) → Each P xs → list_all p xs ≡ true
all_from P p f [] h = refl
all_from P p f (x ∷ xs) h = and_from _ _ (f x h.0) (all_from P p f xs h.1)

-- ---- each pair of items, the earlier first

abbrev pub Pairs : {A : Type 0} → (A → A → Type 0) → List A → Type 0
Pairs R [] = Unit {0}
Pairs R (x ∷ xs) = Each (R x) xs × Pairs R xs

-- each item of the one list with each item of the other
abbrev pub Across : {A B : Type 0} → (A → B → Type 0) → List A → List B → Type 0
Across R xs ys = Each (λ x. Each (R x) ys) xs

pub pairs_test : {A : Type 0} (R : A → A → Type 0) (p : A → A → Bool) → ((x y : A) → R x y → p x y ≡ true) → (xs : List A) → Pairs R xs → each_pair p xs ≡ true
pairs_test R p f [] h = refl
pairs_test R p f (x ∷ xs) h = and_from _ _ (all_from (R x) (p x) (f x) xs h.0) (pairs_test R p f xs h.1)

pub pairs_weaker : {A : Type 0} (R S : A → A → Type 0) → ((x y : A) → R x y → S x y) → (xs : List A) → Pairs R xs → Pairs S xs
pairs_weaker R S f [] h = tt
pairs_weaker R S f (x ∷ xs) h = (AllByRecursion-weaker (R x) (S x) (f x) xs h.0, pairs_weaker R S f xs h.1)

pub pairs_map : {A B : Type 0} (R : B → B → Type 0) (f : A → B) (xs : List A) → Pairs (λ x y. R (f x) (f y)) xs → Pairs R (map f xs)
pairs_map R f [] h = tt
pairs_map R f (x ∷ xs) h = (each_map (R (f x)) f xs h.0, pairs_map R f xs h.1)

kept_pairs : {A B : Type 0} (R : B → B → Type 0) (f : A → Option B) (xs : List A) (y : Option B) → IfSome y (λ b. Each (λ x. IfSome (f x) (R b)) xs) → Pairs R (filter_map f xs) → Pairs R (cons_option y (filter_map f xs))
kept_pairs R f xs None h k = k
kept_pairs R f xs (Some b) h k = (each_filter_map (R b) f xs h, k)

each_kept : {A B : Type 0} (R : B → B → Type 0) (f : A → Option B) (xs : List A) (y : Option B) → Each (λ x. IfSome y (λ b. IfSome (f x) (R b))) xs → IfSome y (λ b. Each (λ x. IfSome (f x) (R b)) xs)
each_kept R f xs None h = tt
each_kept R f xs (Some b) h = h

pub pairs_filter_map : {A B : Type 0} (R : B → B → Type 0) (f : A → Option B) (xs : List A) → Pairs (λ x y. IfSome (f x) (λ b. IfSome (f y) (R b))) xs → Pairs R (filter_map f xs)
pairs_filter_map R f [] h = tt
pairs_filter_map R f (x ∷ xs) h = kept_pairs R f xs (f x) (each_kept R f xs (f x) h.0) (pairs_filter_map R f xs h.1)

pub pairs_append : {A : Type 0} (R : A → A → Type 0) (xs ys : List A) → Pairs R xs → Pairs R ys → Across R xs ys → Pairs R (xs ++ ys)
pairs_append R [] ys h k c = k
pairs_append R (x ∷ xs) ys h k c = (AllByRecursion-append (R x) xs ys h.0 c.0, pairs_append R xs ys h.1 k c.1)

-- what holds of each item, and of each item of the other list, relates the two
pub across_from : {A B : Type 0} (P : A → Type 0) (Q : B → Type 0) (R : A → B → Type 0) → ((x : A) (y : B) → P x → Q y → R x y) → (xs : List A) (ys : List B) → Each P xs → Each Q ys → Across R xs ys
across_from P Q R f [] ys h k = tt
across_from P Q R f (x ∷ xs) ys h k = (AllByRecursion-weaker Q (R x) (λ y. f x y h.0) ys k, across_from P Q R f xs ys h.1 k)

-- one item more of the second list, in front
pub across_cons : {A B : Type 0} (R : A → B → Type 0) (y : B) (ys : List B) (xs : List A) → Each (λ x. R x y) xs → Across R xs ys → Across R xs (y ∷ ys)
across_cons R y ys xs h k = each_both (λ x. R x y) (λ x. Each (R x) ys) xs h k

pub across_right : {A B : Type 0} (R : A → B → Type 0) (xs : List A) (ys zs : List B) → Across R xs ys → Across R xs zs → Across R xs (ys ++ zs)
across_right R xs ys zs h k =
    AllByRecursion-weaker (λ x. Each (R x) ys × Each (R x) zs) (λ x. Each (R x) (ys ++ zs)) (λ x b. AllByRecursion-append (R x) ys zs b.0 b.1) xs
    (each_both (λ x. Each (R x) ys) (λ x. Each (R x) zs) xs h k)

pub across_turned : {A B : Type 0} (R : A → B → Type 0) (xs : List A) (ys : List B) → Across R xs ys → Across (λ y x. R x y) ys xs
across_turned R [] ys h = AllByRecursion-all (λ y. Unit {0}) (λ y. tt) ys
across_turned R (x ∷ xs) ys h = across_cons (λ y x. R x y) x xs ys h.0 (across_turned R xs ys h.1)

-- no item in front, or earlier here, is the same as an item here
none_repeated : {A : Type 0} (same : A → A → Bool) (front xs : List A) → repeated_after same front xs ≡ []
    → Across (λ x y. same x y ≡ false) front xs × Pairs (λ x y. same x y ≡ false) xs
none_repeated same front [] e = (AllByRecursion-all (λ x. Unit {0}) (λ x. tt) front, tt)
none_repeated same front (x ∷ xs) e =
    let here : (only_if (list_any (λ y. same y x) front) x ≡ []) × (repeated_after same (front ++ x ∷ []) xs ≡ []) = append_nil _ _ e in
    let new : Each (λ y. same y x ≡ false) front = none_any (λ y. same y x) front (only_if_nil _ _ here.0) in
    let rest : Across (λ x y. same x y ≡ false) (front ++ x ∷ []) xs × Pairs (λ x y. same x y ≡ false) xs = none_repeated same (front ++ x ∷ []) xs here.1 in
    let parts : Across (λ x y. same x y ≡ false) front xs × Across (λ x y. same x y ≡ false) (x ∷ []) xs = each_split (λ z. Each (λ y. same z y ≡ false) xs) front (x ∷ []) rest.0 in
    (across_cons (λ x y. same x y ≡ false) x xs front new parts.0, (parts.1.0, rest.1))

-- where nothing is repeated, the items differ
pub repeated_nil : {A : Type 0} (same : A → A → Bool) (xs : List A) → repeated same xs ≡ [] → Pairs (λ x y. same x y ≡ false) xs
repeated_nil same xs e = (none_repeated same [] xs e).1
