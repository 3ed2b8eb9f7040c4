-- Work that asks for files by their names: which names it asks for, in order, and what comes of it.
-- Source: this simulator's. The asking ends at the first refusal, and at the first name under which nothing is held.
use Rattle.std.specs.Prelude.{◌≡◌, ℕ, List, [], ◌∷◌, ◌++◌, length, Option, None, Some, Result, Ok, Err, IfSome, IsSomeAnd, Contains, nat_lt, if◌then◌else◌}
use Rattle.ffm_model.specs.declared.codes.TheConstants.{FILE_TOO_LONG}
use Rattle.ffm_model.specs.declared.place.Place.{Place}
use Rattle.ffm_model.specs.declared.place.Refusal.{Refusal}
use Rattle.ffm_model.specs.declared.place.ReadError.{ReadError}
use Rattle.ffm_model.specs.declared.place.ReadError.TheVariants as read_error
use Rattle.ffm_model.specs.declared.place.PartsError.{PartsError}
use Rattle.ffm_model.specs.declared.place.PartsError.TheVariants as parts_error

-- what each name holds
abbrev pub Contents : Type 0
Contents = List ℕ → Option (List ℕ)

-- why no value comes of a reading: a refusal, or nothing is held under a name
pub data Stop : Type 0 where
  refused : Refusal → Stop
  missing : Stop

-- the names that are asked for, in order, and what comes of it
pub record Reading (A : Type 0) : Type 0 where
  pub names : List (List ℕ)
  pub gives : Result A Stop

-- what asks for nothing
abbrev pub asks_nothing : {A : Type 0} → Result A Stop → Reading A
asks_nothing r = record { names = []; gives = r }

-- names, and then those of a further reading
abbrev pub after_names : {A : Type 0} → List (List ℕ) → Reading A → Reading A
after_names names r = record { names = names ++ r.names; gives = r.gives }

abbrev pub go_on : {A B : Type 0} → List (List ℕ) → Result A Stop → (A → Reading B) → Reading B
go_on names (Ok x) f = after_names names (f x)
go_on names (Err e) f = record { names = names; gives = Err e }

-- one reading, and then the one that its value calls for
infixl 10 ◌>>=◌
abbrev pub ◌>>=◌ : {A B : Type 0} → Reading A → (A → Reading B) → Reading B
r >>= f = go_on r.names r.gives f

-- a refusal at a place
abbrev pub refused_at : ℕ → Place → Stop
refused_at code place = refused (record { code = code; place = place; cycle = [] })

abbrev pub within_limit : Place → ℕ → Option (List ℕ) → Result (List ℕ) Stop
within_limit place limit None = Err missing
within_limit place limit (Some bytes) = if nat_lt limit (length bytes) then Err (refused_at FILE_TOO_LONG place) else Ok bytes

-- the bytes of a file within its limit; a refusal stands at the place
abbrev pub file_at : Contents → Place → ℕ → List ℕ → Reading (List ℕ)
file_at of place limit name = record { names = name ∷ []; gives = within_limit place limit (of name) }

-- ---- what a step of the code gave, against what it is to give

abbrev pub parts_error_of : ReadError → PartsError
parts_error_of (read_error.Refused r) = parts_error.Refused r
parts_error_of read_error.Memory = parts_error.Memory

-- a step that asks for no file; want of memory has no cause here
abbrev pub Reads : {X Y : Type 0} → (X → Y) → Result X ReadError → Result Y Stop → Type 0
Reads view (Ok x) r = r ≡ Ok (view x)
Reads view (Err (read_error.Refused f)) r = r ≡ Err (refused f)
Reads view (Err read_error.Memory) r = Unit {0}

-- the last failed name, where it is told, is one that is asked for
abbrev pub FailedAmong : List (List ℕ) → Option (Option (List ℕ)) → Type 0
FailedAmong names last = IfSome last (λ name. IsSomeAnd name (λ failed. Contains names failed))

-- a step that asks for files, where `last` is the last failed name after it
abbrev pub Gives : {X Y : Type 0} → (X → Y) → Option (Option (List ℕ)) → Result X PartsError → Reading Y → Type 0
Gives view last (Ok x) reading = reading.gives ≡ Ok (view x)
Gives view last (Err (parts_error.Refused r)) reading = reading.gives ≡ Err (refused r)
Gives view last (Err parts_error.ReadFault) reading = FailedAmong reading.names last
Gives view last (Err parts_error.Memory) reading = Unit {0}
