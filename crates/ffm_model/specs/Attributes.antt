-- The language in which the files' tables are written: what a JSON tree stands for, attribute by attribute, or the first
-- refusal with the place of what is wrong, counted from that tree.
-- Source: the tables of this simulator's files.
use Rattle.std.specs.Prelude.{ℕ, ◌+◌, ◌^◌, ◌==◌, List, [], ◌∷◌, ◌++◌, Bool, ◌&&◌, Option, Some, None, option_and_then, Result, Ok, Err, nat_lt, nat_le, is_some, ⊤, if◌then◌else◌}
use Rattle.serde_json.specs.Data.{Data, Items, no_items, item}
use Rattle.serde_json.specs.Events.{items_len}
use Rattle.serde_json.specs.Find.{get, as_bool, as_number, as_u64, as_str, as_array, as_object}
use Rattle.ffm_model.specs.declared.codes.TheConstants.{MISSING_ATTRIBUTE, WRONG_TYPE, BAD_VALUE}
use Rattle.ffm_model.specs.declared.key.Key.{Key}
use Rattle.ffm_model.specs.declared.place.PartRefusal.{PartRefusal}
use Rattle.ffm_model.specs.declared.place.PathStep.{PathStep}
use Rattle.ffm_model.specs.declared.place.PathStep.TheVariants as step
use Rattle.ffm_model.specs.declared.place.Refusal.{Refusal}
use Rattle.ffm_model.specs.declared.place.Root.{Root}
use Rattle.ffm_model.specs.Keys.{key_text}
use Rattle.ffm_model.specs.Texts.{is_name, hex_number}

-- what one part gives goes into the next; the first refusal ends it
infixl 10 ◌>>=◌
abbrev pub ◌>>=◌ : {A B : Type 0} → Result A PartRefusal → (A → Result B PartRefusal) → Result B PartRefusal
(Ok x) >>= f = f x
(Err e) >>= f = Err e

-- refused at this very value
abbrev pub refuse : {A : Type 0} → ℕ → Result A PartRefusal
refuse code = Err (record { code = code; steps = [] })

-- what a part gives, its refusal placed under its step
abbrev pub within : {A : Type 0} → PathStep → Result A PartRefusal → Result A PartRefusal
within s (Ok x) = Ok x
within s (Err r) = Err (record { code = r.code; steps = s ∷ r.steps })

abbrev pub or_refuse : {A : Type 0} → ℕ → Option A → Result A PartRefusal
or_refuse code None = refuse code
or_refuse code (Some x) = Ok x

-- what a whole file's part gives, its refusal placed after these steps of the file
abbrev pub placed : {A : Type 0} → Root → List PathStep → Result A PartRefusal → Result A Refusal
placed root front (Ok x) = Ok x
placed root front (Err r) = Err (record { code = r.code; place = record { root = root; steps = front ++ r.steps }; cycle = [] })

-- ---- attributes of an object

abbrev pub if_there : {A : Type 0} → (Data → Result A PartRefusal) → Result A PartRefusal → Option Data → Result A PartRefusal
if_there read absent None = absent
if_there read absent (Some d) = read d

-- an attribute that has to be there
abbrev pub required : {A : Type 0} → (Data → Result A PartRefusal) → Key → Data → Result A PartRefusal
required read k d = within (step.Key k) (if_there read (refuse MISSING_ATTRIBUTE) (get (key_text k) d))

-- an attribute with a default
abbrev pub optional : {A : Type 0} → (Data → Result A PartRefusal) → A → Key → Data → Result A PartRefusal
optional read default k d = within (step.Key k) (if_there read (Ok default) (get (key_text k) d))

-- ---- lists, item by item

-- the items after those in front, each read in the knowledge of all before it
unfoldable pub items_after : {A : Type 0} → (List A → Data → Result A PartRefusal) → List A → ℕ → Items → Result (List A) PartRefusal
items_after read front i no_items = Ok front
items_after read front i (item d ds) = do
  x ← within (step.Index i) (read front d)
  items_after read (front ++ x ∷ []) (i + 1) ds

unfoldable pub list_after : {A : Type 0} → (List A → Data → Result A PartRefusal) → Data → Result (List A) PartRefusal
list_after read d = do
  ds ← or_refuse WRONG_TYPE (as_array d)
  items_after read [] 0 ds

-- a list whose items stand each for itself
abbrev pub list_of : {A : Type 0} → (Data → Result A PartRefusal) → Data → Result (List A) PartRefusal
list_of read = list_after (λ front. read)

-- the items of a list of at most so many: a longer one is refused before any item is read
abbrev pub items_up_to : ℕ → Data → Result Items PartRefusal
items_up_to most d = do
  ds ← or_refuse WRONG_TYPE (as_array d)
  if nat_lt most (items_len ds) then refuse BAD_VALUE else Ok ds

unfoldable pub list_up_to : {A : Type 0} → ℕ → (Data → Result A PartRefusal) → Data → Result (List A) PartRefusal
list_up_to most read d = do
  items ← items_up_to most d
  list_of read d

-- the items of a list that has one: an empty one is refused
abbrev pub some_items : Data → Result Items PartRefusal
some_items d = do
  ds ← or_refuse WRONG_TYPE (as_array d)
  if items_len ds == 0 then refuse BAD_VALUE else Ok ds

unfoldable pub list_of_some : {A : Type 0} → (Data → Result A PartRefusal) → Data → Result (List A) PartRefusal
list_of_some read d = do
  items ← some_items d
  list_of read d

-- ---- values: one of another kind is of a wrong type, and one outside its range is a bad value

abbrev pub text_as : {A : Type 0} → (List ℕ → Option A) → Data → Result A PartRefusal
text_as meaning d = do
  text ← or_refuse WRONG_TYPE (as_str d)
  or_refuse BAD_VALUE (meaning text)

unfoldable pub name_of : Data → Result (List ℕ) PartRefusal
name_of = text_as (λ text. if is_name text then Some text else None)

unfoldable pub boolean_of : Data → Result Bool PartRefusal
boolean_of d = or_refuse WRONG_TYPE (as_bool d)

-- a number from 0 to 9999999999999999999 without sign, fraction or exponent
unfoldable pub whole : Data → Option ℕ
whole d = option_and_then (λ n. if nat_le n 9999999999999999999 then Some n else None) (option_and_then as_u64 (as_number d))

abbrev pub number_from : Option ℕ → Option (List ℕ) → Result ℕ PartRefusal
number_from (Some n) text = if nat_lt n (2 ^ 32) then Ok n else refuse BAD_VALUE
number_from None (Some text) = or_refuse BAD_VALUE (hex_number text)
number_from None None = refuse WRONG_TYPE

-- a whole number below 2 ^ 32, or a text of `0x` and hexadecimal digits
unfoldable pub number_of : Data → Result ℕ PartRefusal
number_of d = number_from (whole d) (as_str d)

abbrev pub whole_from : ℕ → ℕ → Option ℕ → Result ℕ PartRefusal
whole_from least most (Some n) = if nat_le least n && nat_le n most then Ok n else refuse BAD_VALUE
whole_from least most None = refuse WRONG_TYPE

-- a whole number between two others, both allowed
unfoldable pub whole_between : ℕ → ℕ → Data → Result ℕ PartRefusal
whole_between least most d = whole_from least most (whole d)

-- refused where it is no object
unfoldable pub object_of : Data → Result ⊤ PartRefusal
object_of d = if is_some (as_object d) then Ok tt else refuse WRONG_TYPE
