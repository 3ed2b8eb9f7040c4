-- What holds of what a reading gives, step by step.
use Rattle.std.proofs.Common.{ℕ, ◌+◌, List, [], ◌∷◌, ◌++◌}
use Rattle.std.specs.Prelude.{Option, Some, None, Result, Ok, Err, IfOk, IfSome}
use Rattle.std.specs.List.{AllByRecursion}
use Rattle.serde_json.specs.Data.{Data, Items, no_items, item}
use Rattle.serde_json.specs.Find.{as_array, as_str, get}
use Rattle.law_lists.proofs.Lists.{AllByRecursion-push}
use Rattle.ffm_model.specs.declared.codes.TheConstants.{BAD_VALUE, MISSING_ATTRIBUTE, WRONG_TYPE}
use Rattle.ffm_model.specs.declared.key.Key.{Key}
use Rattle.ffm_model.specs.declared.place.PartRefusal.{PartRefusal}
use Rattle.ffm_model.specs.declared.place.PathStep.{PathStep}
use Rattle.ffm_model.specs.declared.place.PathStep.TheVariants as step
use Rattle.ffm_model.specs.declared.place.Root.{Root}
use Rattle.ffm_model.specs.Attributes.{◌>>=◌, if_there, items_after, list_after, list_of_some, optional, or_refuse, placed, refuse, required, text_as, within}
use Rattle.ffm_model.specs.Keys.{key_text}

-- ---- steps

-- a step whose value doesn't matter, and then another
pub past : {A B : Type 0} (P : B → Type 0) (r : Result A PartRefusal) (f : A → Result B PartRefusal) → ((x : A) → IfOk (f x) P) → IfOk (r >>= f) P
past P (Ok x) f each = each x
past P (Err e) f each = tt

-- a step of whose value something is known
pub knows : {A B : Type 0} (Q : A → Type 0) (P : B → Type 0) (r : Result A PartRefusal) (f : A → Result B PartRefusal) → IfOk r Q → ((x : A) → Q x → IfOk (f x) P) → IfOk (r >>= f) P
knows Q P (Ok x) f own each = each x own
knows Q P (Err e) f own each = tt

pub within-has : {A : Type 0} (P : A → Type 0) (s : PathStep) (r : Result A PartRefusal) → IfOk r P → IfOk (within s r) P
within-has P s (Ok x) h = h
within-has P s (Err e) h = tt

pub placed-has : {A : Type 0} (P : A → Type 0) (root : Root) (front : List PathStep) (r : Result A PartRefusal) → IfOk r P → IfOk (placed root front r) P
placed-has P root front (Ok x) h = h
placed-has P root front (Err e) h = tt

pub or_refuse-has : {A : Type 0} (P : A → Type 0) (code : ℕ) (o : Option A) → IfSome o P → IfOk (or_refuse code o) P
or_refuse-has P code None h = tt
or_refuse-has P code (Some x) h = h

-- ---- attributes

there-has : {A : Type 0} (P : A → Type 0) (read : Data → Result A PartRefusal) (absent : Result A PartRefusal) (o : Option Data) → IfOk absent P → ((d : Data) → IfOk (read d) P) → IfOk (if_there read absent o) P
there-has P read absent None h each = h
there-has P read absent (Some d) h each = each d

pub required-has : {A : Type 0} (P : A → Type 0) (read : Data → Result A PartRefusal) (k : Key) (d : Data) → ((d : Data) → IfOk (read d) P) → IfOk (required read k d) P
required-has P read k d each = within-has P (step.Key k) (if_there read (refuse MISSING_ATTRIBUTE) (get (key_text k) d)) (there-has P read (refuse MISSING_ATTRIBUTE) (get (key_text k) d) tt each)

pub optional-has : {A : Type 0} (P : A → Type 0) (read : Data → Result A PartRefusal) (default : A) (k : Key) (d : Data) → P default → ((d : Data) → IfOk (read d) P) → IfOk (optional read default k d) P
optional-has P read default k d h each = within-has P (step.Key k) (if_there read (Ok default) (get (key_text k) d)) (there-has P read (Ok default) (get (key_text k) d) h each)

pub text-has : {A : Type 0} (P : A → Type 0) (meaning : List ℕ → Option A) (d : Data) → ((text : List ℕ) → IfSome (meaning text) P) → IfOk (text_as meaning d) P
text-has P meaning d each = past P (or_refuse WRONG_TYPE (as_str d)) _ (λ text. or_refuse-has P BAD_VALUE (meaning text) (each text))

-- ---- lists

items-have : {A : Type 0} (P : A → Type 0) (read : List A → Data → Result A PartRefusal) → ((front : List A) (d : Data) → IfOk (read front d) P) → (ds : Items) (front : List A) (i : ℕ) → AllByRecursion P front → IfOk (items_after read front i ds) (AllByRecursion P)
unfolding items_after
items-have P read each no_items front i all = all
items-have P read each (item d ds) front i all =
    knows P (AllByRecursion P) (within (step.Index i) (read front d)) _ (within-has P (step.Index i) (read front d) (each front d)) (λ x own. items-have P read each ds (front ++ x ∷ []) (i + 1) (AllByRecursion-push P front x all own))

pub list-has : {A : Type 0} (P : A → Type 0) (read : List A → Data → Result A PartRefusal) → ((front : List A) (d : Data) → IfOk (read front d) P) → (d : Data) → IfOk (list_after read d) (AllByRecursion P)
unfolding list_after
list-has P read each d = past (AllByRecursion P) (or_refuse WRONG_TYPE (as_array d)) _ (λ ds. items-have P read each ds [] 0 tt)

pub some-list-has : {A : Type 0} (P : A → Type 0) (read : Data → Result A PartRefusal) → ((d : Data) → IfOk (read d) P) → (d : Data) → IfOk (list_of_some read d) (AllByRecursion P)
unfolding list_of_some
some-list-has P read each d = past (AllByRecursion P) _ _ (λ items. list-has P (λ front. read) (λ front. each) d)
