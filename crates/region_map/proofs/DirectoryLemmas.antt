-- The first place of each name.
use Rattle.std.proofs.Common.{ℕ, ◌≡◌, ◌<◌, ◌+◌, not, List, [], ◌∷◌, ◌++◌, length, take, get_or, arith, Bor, ◌∙◌, ap, sym, refl, Bool, true, false, cond, Option, Some, None}
use Rattle.std.specs.Prelude.{find, is_some, IsSome, IfSome}
use Rattle.std.specs.Option.{option_copied, unwrap_or}
use Rattle.std.proofs.lemmas.Option.{slice_get-get_or, slice_get_past}
use Rattle.std.specs.List.{position, position_or_len, slice_get}
use Rattle.std.proofs.lemmas.Bool.Decides.{nat_tests}
use Rattle.std.specs.Str.{bytes_eq}
use Rattle.std.proofs.lemmas.Slice.Eq.{bytes_eq-Decides}
use Rattle.std.proofs.lemmas.List.{length_push, length-take-le, take_more}
use Rattle.std.proofs.lemmas.List.Folds.{find_at, position_or_len_push}
use Rattle.std.proofs.lemmas.List.Sums.{prefix_len-le-length}
use Rattle.ffm_model.specs.PartsItems.{RegionRecord}
use Rattle.ffm_model.proofs.RangeLemmas.{nowhere}

-- the element at the first place
pub position_found : {A : Type 0} (p : A → Bool) (xs : List A) (i : ℕ) → position p xs ≡ Some i → slice_get xs i ≡ find p xs
position_found p xs i e = grind (arith, nat_tests, find_at p xs)

pub got : {A : Type 0} (xs : List A) (i : ℕ) (r : Option (Bor A)) → i < length xs → IfSome r (λ x. x.now ≡ get_or xs i x.now) → IsSome r → option_copied r ≡ slice_get xs i
got xs i None below is some = cc
got xs i (Some x) below is some = sym (slice_get-get_or xs i x.now below ∙ ap Some (sym is))

pub position_none : {A : Type 0} (p : A → Bool) (xs : List A) → position p xs ≡ None → find p xs ≡ None
position_none p xs e = find_at p xs ∙ slice_get_past xs (position_or_len p xs) (nowhere p xs e)

position_old : {A : Type 0} (p : A → Bool) (xs : List A) (x : A) (i : ℕ) → position p xs ≡ Some i → position p (xs ++ x ∷ []) ≡ Some i
position_old p xs x i e = grind (arith, nat_tests, position_or_len_push p xs x, length_push xs x)

position_new : {A : Type 0} (p : A → Bool) (xs : List A) (x : A) → position p xs ≡ None → position p (xs ++ x ∷ []) ≡ cond (p x) (Some (length xs)) None
position_new p xs x e = grind (arith, nat_tests, position_or_len_push p xs x, length_push xs x, prefix_len-le-length (λ y. not (p y)) xs)

-- one more element that passes only where none did is the first then
pub position_more : {A : Type 0} (p : A → Bool) (xs : List A) (x : A) (had now : Option ℕ) → had ≡ position p xs → now ≡ cond (p x) (Some (length xs)) had → (p x ≡ true → had ≡ None) → now ≡ position p (xs ++ x ∷ [])
position_more p xs x None now had is fresh = is ∙ sym (position_new p xs x (sym had))
position_more p xs x (Some i) now had is fresh = by_test (p x) is fresh ∙ sym (position_old p xs x i (sym had)) where
  by_test : (b : Bool) → now ≡ cond b (Some (length xs)) (Some i) → (b ≡ true → Some i ≡ None) → now ≡ Some i
  by_test true e f = let h : Some i ≡ None = f refl in cc
  by_test false e f = e

-- one more element that passes where one did changes nothing
pub position_same : {A : Type 0} (p : A → Bool) (xs : List A) (x : A) (had : Option ℕ) → had ≡ position p xs → (p x ≡ true → is_some had ≡ true) → had ≡ position p (xs ++ x ∷ [])
position_same p xs x (Some i) had old = sym (position_old p xs x i (sym had))
position_same p xs x None had old = by_test (p x) old ∙ sym (position_new p xs x (sym had)) where
  by_test : (b : Bool) → (b ≡ true → false ≡ true) → None ≡ cond b (Some (length xs)) None
  by_test true f = let h : false ≡ true = f refl in cc
  by_test false f = refl

pub same_text : (xs ys : List ℕ) → bytes_eq xs ys ≡ true → xs ≡ ys
same_text xs ys h = (bytes_eq-Decides xs ys).0 h

-- one region more: its name keeps the place that it has, and a new name gets this one
pub position_next : (regions : List RegionRecord) (i : ℕ) (x : RegionRecord) (text name : List ℕ) (had now : Option ℕ) → i < length regions → x ≡ get_or regions i x → text ≡ x.name
    → had ≡ position (λ r. bytes_eq r.name name) (take i regions) → now ≡ cond (bytes_eq text name) (Some (unwrap_or had i)) had → now ≡ position (λ r. bytes_eq r.name name) (take (i + 1) regions)
position_next regions i x text name None now below here is tells look =
    let more : take (i + 1) regions ≡ take i regions ++ x ∷ [] = take_more regions i x below ∙ ap (λ y. take i regions ++ y ∷ []) (sym here) in
    let many : length (take i regions) ≡ i = length-take-le i regions (omega arith) in
    position_more (λ r. bytes_eq r.name name) (take i regions) x None now tells
    (look ∙ ap (λ t. cond (bytes_eq t name) (Some i) None) is ∙ ap (λ k. cond (bytes_eq x.name name) (Some k) None) (sym many)) (λ same. refl)
    ∙ ap (position (λ r. bytes_eq r.name name)) (sym more)
position_next regions i x text name (Some v) now below here is tells look =
    let more : take (i + 1) regions ≡ take i regions ++ x ∷ [] = take_more regions i x below ∙ ap (λ y. take i regions ++ y ∷ []) (sym here) in
    look ∙ either (bytes_eq text name) ∙ position_same (λ r. bytes_eq r.name name) (take i regions) x (Some v) tells (λ same. refl) ∙ ap (position (λ r. bytes_eq r.name name)) (sym more) where
      either : (b : Bool) → cond b (Some v) (Some v) ≡ Some v
      either true = refl
      either false = refl
