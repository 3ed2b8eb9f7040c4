-- What a test of rules answers.
-- Source: of this repository; the rules are those of manifests and system files.
use Rattle.std.specs.Prelude.{◌≡◌, List, [], Some, Result, Ok, Err}
use Rattle.ffm_model.specs.declared.place.Refusal.{Refusal}
use Rattle.ffm_model.specs.declared.place.ReadError.{ReadError}
use Rattle.ffm_model.specs.declared.place.ReadError.TheVariants.{Refused, Memory}
use Rattle.ffm_model.specs.Repeats.{first}

-- Ok exactly where nothing is broken, and else the first refusal; want of memory has no cause
abbrev pub Keeps : {A : Type 0} → Result A ReadError → List Refusal → Type 0
Keeps (Ok x) broken = broken ≡ []
Keeps (Err (Refused r)) broken = first broken ≡ Some r
Keeps (Err Memory) broken = Unit {0}

-- this refusal, or no memory was found
abbrev pub IsRefused : {A : Type 0} → Result A ReadError → Refusal → Type 0
IsRefused (Ok x) r = ⊥
IsRefused (Err (Refused s)) r = s ≡ r
IsRefused (Err Memory) r = Unit {0}
