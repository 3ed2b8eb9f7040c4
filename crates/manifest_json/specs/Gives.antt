-- What a function returned is what its definition gives: the value, or the first refusal. Want of memory alone is free.
-- Source: this simulator's files.
use Rattle.std.specs.Prelude.{◌≡◌, Result, Ok, Err}
use Rattle.ffm_model.specs.declared.place.PartRefusal.{PartRefusal}
use Rattle.ffm_model.specs.declared.place.Refusal.{Refusal}
use Rattle.ffm_model.specs.declared.place.ReadError.{ReadError}
use Rattle.ffm_model.specs.declared.place.ReadError.TheVariants as read_error
use Rattle.manifest_json.specs.declared.error.PartError.{PartError}
use Rattle.manifest_json.specs.declared.error.PartError.TheVariants as part_error

-- ---- a part of a file

abbrev pub Fails : {A : Type 0} → PartError → Result A PartRefusal → Type 0
Fails part_error.Memory read = Unit {0}
Fails (part_error.Refused r) read = read ≡ Err r

-- this refusal, unless memory ran out
abbrev pub IsRefusal : PartError → PartRefusal → Type 0
IsRefusal part_error.Memory refusal = Unit {0}
IsRefusal (part_error.Refused r) refusal = r ≡ refusal

abbrev pub Gives : {A : Type 0} → Result A PartError → Result A PartRefusal → Type 0
Gives (Ok x) read = read ≡ Ok x
Gives (Err e) read = Fails e read

-- ---- a file

abbrev pub FailsRead : {A : Type 0} → ReadError → Result A Refusal → Type 0
FailsRead read_error.Memory read = Unit {0}
FailsRead (read_error.Refused r) read = read ≡ Err r

abbrev pub GivesRead : {A : Type 0} → Result A ReadError → Result A Refusal → Type 0
GivesRead (Ok x) read = read ≡ Ok x
GivesRead (Err e) read = FailsRead e read
