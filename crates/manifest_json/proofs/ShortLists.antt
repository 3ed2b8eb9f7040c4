-- Lists whose length has a limit.
use Rattle.std.proofs.Common.{◌≡◌, ℕ, suc, ◌+◌, ◌<◌, ◌≤◌, List, [], ◌∷◌, ◌++◌, length, true, false, nat_lt, ◌==◌, Some, Result, Ok, Err, refl, ap, arith, length-append}
use Rattle.std.specs.Prelude.{IfOk}
use Rattle.std.proofs.lemmas.Bool.Decides.{nat_tests}
use Rattle.serde_json.specs.Data.{Data, Items, no_items, item}
use Rattle.serde_json.specs.Events.{items_len}
use Rattle.serde_json.specs.Find.{as_array}
use Rattle.serde_json.specs.View.{items_view}
use Rattle.serde_json.specs.declared.value.Value.{Value}
use Rattle.serde_json.proofs.Views.{items_len-items_view}
use Rattle.ffm_model.specs.declared.codes.TheConstants.{BAD_VALUE}
use Rattle.ffm_model.specs.declared.place.PartRefusal.{PartRefusal}
use Rattle.ffm_model.specs.declared.place.PathStep.TheVariants as step
use Rattle.ffm_model.specs.Attributes.{◌>>=◌, refuse, within, items_after, list_after, list_of, items_up_to, list_up_to, list_of_some}
use Rattle.manifest_json.specs.declared.error.PartError.{PartError}
use Rattle.manifest_json.specs.Gives.{Gives}

pub items_short : (most : ℕ) (d : Data) (vs : List Value) → Some (items_view vs) ≡ as_array d → length vs ≤ most → items_up_to most d ≡ Ok (items_view vs)
items_short most d vs is few =
    let test : nat_lt most (items_len (items_view vs)) ≡ false = rw items_len-items_view (grind (arith, nat_tests)) in
    rw (← is, test) refl

pub items_long : (most : ℕ) (d : Data) (vs : List Value) → Some (items_view vs) ≡ as_array d → most < length vs → items_up_to most d ≡ refuse BAD_VALUE
items_long most d vs is many =
    let test : nat_lt most (items_len (items_view vs)) ≡ true = rw items_len-items_view (grind (arith, nat_tests)) in
    rw (← is, test) refl

pub list_short : {A : Type 0} (most : ℕ) (read : Data → Result A PartRefusal) (d : Data) (vs : List Value) → Some (items_view vs) ≡ as_array d → length vs ≤ most → list_up_to most read d ≡ list_of read d
unfolding list_up_to
list_short most read d vs is few = rw (items_short most d vs is few) refl

pub list_long : {A : Type 0} (most : ℕ) (read : Data → Result A PartRefusal) (d : Data) (vs : List Value) → Some (items_view vs) ≡ as_array d → most < length vs → list_up_to most read d ≡ refuse BAD_VALUE
unfolding list_up_to
list_long most read d vs is many = rw (items_long most d vs is many) refl

-- as many values as items
length-items_after : {A : Type 0} (read : List A → Data → Result A PartRefusal) (front : List A) (i : ℕ) (ds : Items) (xs : List A) → items_after read front i ds ≡ Ok xs → length xs ≡ length front + items_len ds
unfolding items_after
length-items_after read front i no_items xs h =
    let same : front ≡ xs = cc in
    omega (arith, ap length same)
length-items_after {A} read front i (item d ds) xs h =
    let more : (r : Result A PartRefusal) → (r >>= λ x. items_after read (front ++ x ∷ []) (i + 1) ds) ≡ Ok xs → length xs ≡ length front + suc (items_len ds) =
    elim [ Ok x ↦ λ e. omega (arith, length-items_after read (front ++ x ∷ []) (i + 1) ds xs e, length-append front (x ∷ [])) | Err r ↦ λ e. absurd cc ] in
    more (within (step.Index i) (read front d)) h

pub length-list_of : {A : Type 0} (read : Data → Result A PartRefusal) (d : Data) (vs : List Value) (xs : List A) → Some (items_view vs) ≡ as_array d → list_of read d ≡ Ok xs → length xs ≡ length vs
unfolding list_after
length-list_of {A} read d vs xs is h =
    let read_items : items_after (λ (front : List A). read) [] 0 (items_view vs) ≡ Ok xs = rw (← is) at h in
    omega (arith, length-items_after (λ front. read) [] 0 (items_view vs) xs read_items, items_len-items_view vs)

-- a list that was read whole is within its limit
pub kept_short : {A : Type 0} (P : List A → Type 0) (most : ℕ) (read : Data → Result A PartRefusal) (d : Data) (vs : List Value) (r : Result (List A) PartError) → Some (items_view vs) ≡ as_array d → length vs ≤ most
    → IfOk r P → Gives r (list_of read d) → IfOk r (λ xs. P xs × (length xs ≤ most))
kept_short P most read d vs (Ok xs) is few kept given = (kept, omega (arith, length-list_of read d vs xs is given))
kept_short P most read d vs (Err e) is few kept given = tt

-- ---- lists that have an item

pub list_some : {A : Type 0} (read : Data → Result A PartRefusal) (d : Data) (vs : List Value) → Some (items_view vs) ≡ as_array d → 0 < length vs → list_of_some read d ≡ list_of read d
unfolding list_of_some
list_some read d vs is some =
    let test : (items_len (items_view vs) == 0) ≡ false = rw items_len-items_view (grind (arith, nat_tests)) in
    rw (← is, test) refl

-- a list that was read whole has as many items
pub kept_some : {A : Type 0} (P : List A → Type 0) (read : Data → Result A PartRefusal) (d : Data) (vs : List Value) (r : Result (List A) PartError) → Some (items_view vs) ≡ as_array d → 0 < length vs
    → IfOk r P → Gives r (list_of read d) → IfOk r (λ xs. P xs × (0 < length xs))
kept_some P read d vs (Ok xs) is some kept given = (kept, omega (arith, length-list_of read d vs xs is given))
kept_some P read d vs (Err e) is some kept given = tt
