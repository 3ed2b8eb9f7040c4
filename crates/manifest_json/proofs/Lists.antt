-- Reading a list item by item, each after those before it.
use Rattle.std.proofs.Common.{◌≡◌, ℕ, ◌+◌, ◌<◌, ◌≤◌, List, [], ◌∷◌, ◌++◌, length, drop, get_or, Result, Ok, Err, refl, sym, ◌∙◌}
use Rattle.std.proofs.lemmas.List.{drop_all}
use Rattle.serde_json.specs.Data.{Data}
use Rattle.serde_json.specs.View.{view, items_view}
use Rattle.serde_json.specs.declared.value.Value.{Value}
use Rattle.ffm_model.specs.declared.place.PartRefusal.{PartRefusal}
use Rattle.ffm_model.specs.declared.place.PathStep.TheVariants as step
use Rattle.ffm_model.specs.Attributes.{within, items_after}
use Rattle.manifest_json.specs.declared.error.PartError.{PartError}
use Rattle.manifest_json.specs.declared.error.PartError.TheVariants as part_error
use Rattle.manifest_json.specs.Gives.{Fails}
use Rattle.law_lists.proofs.Lists.{drop-item}

pub goes_on : {A : Type 0} (read : List A → Data → Result A PartRefusal) (front : List A) (vs : List Value) (i : ℕ) (v : Value) (x : A) (total : Result (List A) PartRefusal) → i < length vs → v ≡ get_or vs i v
    → within (step.Index i) (read front (view v)) ≡ Ok x → items_after read front i (items_view (drop i vs)) ≡ total
    → items_after read (front ++ x ∷ []) (i + 1) (items_view (drop (i + 1) vs)) ≡ total
unfolding items_after
goes_on read front vs i v x total lt is h so_far =
    let one : items_after read front i (items_view (drop i vs)) ≡ items_after read (front ++ x ∷ []) (i + 1) (items_view (drop (i + 1) vs)) = rw (drop-item vs i v lt is, h) refl in
    sym one ∙ so_far

pub ends : {A : Type 0} (read : List A → Data → Result A PartRefusal) (e : PartError) (front : List A) (vs : List Value) (i : ℕ) (v : Value) (total : Result (List A) PartRefusal) → i < length vs → v ≡ get_or vs i v
    → Fails e (within (step.Index i) (read front (view v))) → items_after read front i (items_view (drop i vs)) ≡ total → Fails e total
unfolding items_after
ends read part_error.Memory front vs i v total lt is h so_far = tt
ends read (part_error.Refused r) front vs i v total lt is h so_far =
    let one : items_after read front i (items_view (drop i vs)) ≡ Err r = rw (drop-item vs i v lt is, h) refl in
    sym so_far ∙ one

pub is_done : {A : Type 0} (read : List A → Data → Result A PartRefusal) (front : List A) (vs : List Value) (i : ℕ) (total : Result (List A) PartRefusal) → length vs ≤ i
    → items_after read front i (items_view (drop i vs)) ≡ total → total ≡ Ok front
unfolding items_after
is_done read front vs i total past so_far =
    let one : items_after read front i (items_view (drop i vs)) ≡ Ok front = rw (drop_all i vs past) refl in
    sym so_far ∙ one
