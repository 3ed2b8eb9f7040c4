-- What files tell of themselves, and what a read, and work that reads some of them by their names, makes of it.
-- `None` says that it isn't told: real files tell neither what a name holds nor which names were read.
-- Source: this project's rule for the outside.
use Rattle.std.specs.Prelude.{◌≡◌, ◌⊎◌, ℕ, ◌<◌, ◌≤◌, List, [], ◌∷◌, ◌++◌, length, Option, None, Some, Result, Ok, Err, IfOk, IfSome, IsSomeAnd, Vec}
use Rattle.std.specs.Option.{option_map}
use Rattle.ffm_model.specs.declared.codes.TheConstants.{FILE_TOO_LONG}
use Rattle.ffm_model.specs.declared.place.Place.{Place}
use Rattle.ffm_model.specs.declared.place.PartsError.{PartsError}
use Rattle.ffm_model.specs.declared.place.PartsError.TheVariants as parts_error
use Rattle.ffm_model.specs.declared.place.ReadError.{ReadError}
use Rattle.ffm_model.specs.Reading.{Contents, Reading, Stop, parts_error_of, refused, refused_at}
use Rattle.outside_io.specs.Count.{Rose}
use Rattle.outside_io.specs.declared.files.FileError.{FileError}
use Rattle.outside_io.specs.declared.files.FileError.TheVariants as file_error

-- what each name holds and which names were read, in order; how often a read failed; the name of the last failed read, if there was one
pub record FilesSeen : Type 0 where
  pub held : Option Contents
  pub reads : Option (List (List ℕ))
  pub faults : ℕ
  pub last_failed : Option (Option (List ℕ))

-- these names were read between the two, in this order; where reads are told afterwards, they were told before
abbrev pub ReadBetween : Option (List (List ℕ)) → Option (List (List ℕ)) → List (List ℕ) → Type 0
ReadBetween before None names = Unit {0}
ReadBetween None (Some after) names = ⊥
ReadBetween (Some before) (Some after) names = after ≡ before ++ names

-- ---- one read

-- the bytes of the file, or that it has more than the limit
abbrev pub ReadsWhole : {A : Type 0} → ℕ → Option (List ℕ) → Result (Vec ℕ A) FileError → Type 0
ReadsWhole limit content (Ok bytes) = content ≡ Some bytes.items
ReadsWhole limit content (Err file_error.TooLong) = IsSomeAnd content (λ bytes. limit < length bytes)
ReadsWhole limit content (Err _) = Unit {0}

-- the name was read once; want of memory may come before that
abbrev pub ReadsOnce : {X : Type 0} → Option (List (List ℕ)) → Option (List (List ℕ)) → Result X FileError → List ℕ → Type 0
ReadsOnce before after (Err file_error.Memory) name = ReadBetween before after [] ⊎ ReadBetween before after (name ∷ [])
ReadsOnce before after _ name = ReadBetween before after (name ∷ [])

-- a fault was counted at `Failed`, and at no other error
abbrev pub FaultAt : ℕ → ℕ → FileError → Type 0
FaultAt before after file_error.Failed = Rose before after
FaultAt before after _ = after ≡ before

-- a fault was counted where the answer is `Failed`, and else none
abbrev pub FaultsBy : {X : Type 0} → ℕ → ℕ → Result X FileError → Type 0
FaultsBy before after (Ok _) = after ≡ before
FaultsBy before after (Err e) = FaultAt before after e

-- where the answer is `Failed`, its name is the last failed one, and else that is as before
abbrev pub FailedName : {X : Type 0} → Option (Option (List ℕ)) → Option (Option (List ℕ)) → Result X FileError → List ℕ → Type 0
FailedName before after (Err file_error.Failed) name = after ≡ option_map (λ _. Some name) before
FailedName before after _ name = after ≡ before

-- a read of this name up to this limit; each name holds what it held
pub record ReadsFile {A : Type 0} (before after : FilesSeen) (result : Result (Vec ℕ A) FileError) (limit : ℕ) (name : List ℕ) : Type 0 where
  pub keeps : after.held ≡ before.held
  pub within : IfOk result (λ bytes. length bytes.items ≤ limit)
  pub whole : IfSome before.held (λ of. ReadsWhole limit (of name) result)
  pub once : ReadsOnce before.reads after.reads result name
  pub faults : FaultsBy before.faults after.faults result
  pub failed : FailedName before.last_failed after.last_failed result name

-- ---- work that reads files

-- why work that asks for files gave no value: what they hold stops it, a read failed, no memory was found
pub data NoValue : Type 0 where
  stopped : Stop → NoValue
  failed : NoValue
  no_memory : NoValue

-- a front of these names was read, perhaps all or none
pub record ReadsFront (before after : FilesSeen) (names : List (List ℕ)) : Type 0 where
  pub front : List (List ℕ)
  pub rest : List (List ℕ)
  pub whole : names ≡ front ++ rest
  pub read : ReadBetween before.reads after.reads front

-- a front of these names was read, and its last read failed
pub record ReadsFailing (before after : FilesSeen) (names : List (List ℕ)) : Type 0 where
  pub front : List (List ℕ)
  pub name : List ℕ
  pub rest : List (List ℕ)
  pub whole : names ≡ front ++ name ∷ rest
  pub read : ReadBetween before.reads after.reads (front ++ name ∷ [])
  pub last : after.last_failed ≡ option_map (λ _. Some name) before.last_failed

-- which of the names asked for were read, and what was given
abbrev pub Answers : {A : Type 0} → FilesSeen → FilesSeen → Result A NoValue → Reading A → Type 0
Answers before after (Ok x) asked = ReadBetween before.reads after.reads asked.names × (asked.gives ≡ Ok x)
Answers before after (Err (stopped s)) asked = ReadBetween before.reads after.reads asked.names × (asked.gives ≡ Err s)
Answers before after (Err failed) asked = ReadsFailing before after asked.names
Answers before after (Err no_memory) asked = ReadsFront before after asked.names

-- a fault was counted where a read failed, and else neither the count nor the last failed name changed
abbrev pub Counts : {A : Type 0} → FilesSeen → FilesSeen → Result A NoValue → Type 0
Counts before after (Err failed) = Rose before.faults after.faults
Counts before after _ = (after.faults ≡ before.faults) × (after.last_failed ≡ before.last_failed)

-- these are the contents that are told; where no name is asked for, any are
abbrev pub MayHold : Option Contents → Contents → List (List ℕ) → Type 0
MayHold held of names = (held ≡ Some of) ⊎ (names ≡ [])

-- work that asks for files: each name holds what it held, and the rest is as the reading says of what is held
pub record Asks {A : Type 0} (before after : FilesSeen) (result : Result A NoValue) (asked : Contents → Reading A) : Type 0 where
  pub keeps : after.held ≡ before.held
  pub answers : (of : Contents) → MayHold before.held of (asked of).names → Answers before after result (asked of)
  pub counts : Counts before after result

-- ---- answers as work sees them

-- a read, where a refusal for the length stands at this place
abbrev pub read_at : {A : Type 0} → Place → Result (Vec ℕ A) FileError → Result (List ℕ) NoValue
read_at place (Ok bytes) = Ok bytes.items
read_at place (Err file_error.TooLong) = Err (stopped (refused_at FILE_TOO_LONG place))
read_at place (Err file_error.Failed) = Err failed
read_at place (Err file_error.Memory) = Err no_memory

abbrev pub no_value_of : PartsError → NoValue
no_value_of (parts_error.Refused r) = stopped (refused r)
no_value_of parts_error.ReadFault = failed
no_value_of parts_error.Memory = no_memory

-- what a part of a file was read as, seen by this view
abbrev pub part_as : {X A : Type 0} → (X → A) → Result X PartsError → Result A NoValue
part_as view (Ok x) = Ok (view x)
part_as view (Err e) = Err (no_value_of e)

-- the same of what bytes alone were read as
abbrev pub seen_as : {X A : Type 0} → (X → A) → Result X ReadError → Result A NoValue
seen_as view (Ok x) = Ok (view x)
seen_as view (Err e) = Err (no_value_of (parts_error_of e))
