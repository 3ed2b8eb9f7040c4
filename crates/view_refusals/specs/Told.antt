-- Where a refusal is told to stand.
-- Source: this simulator's.
use Rattle.std.specs.Prelude.{◌≡◌, ◌≢◌, ◌⊎◌, ◌-◌, ℕ, List, ◌++◌, codes, drop, length, take, Contains}
use Rattle.ffm_model.specs.declared.codes.TheConstants.{JSON, FILE_TOO_LONG}
use Rattle.ffm_model.specs.declared.place.PathStep.{PathStep}
use Rattle.file_places.specs.Lines.{place_text}
use Rattle.file_places.specs.Places.{Stands}
use Rattle.file_places.specs.declared.sources.FileRead.{FileRead}

-- a refusal with this code is of a value, and not of a file as a whole
abbrev pub IsOfValue : ℕ → Type 0
IsOfValue code = (code ≢ JSON) × (code ≢ FILE_TOO_LONG)

-- a path itself, or without its last step where that leads to nothing
abbrev pub IsFront : List PathStep → List PathStep → Type 0
IsFront path front = (front ≡ path) ⊎ (front ≡ take (length path - 1) path)

-- a front of a path, or that without the two steps that lead to a manifest in a file of its own
abbrev pub IsPartOf : List PathStep → List PathStep → Type 0
IsPartOf path part = (front : List PathStep) × IsFront path front × ((part ≡ front) ⊎ (part ≡ drop 2 front))

-- the line that says that no place was found
abbrev pub no_place : List ℕ
no_place = codes "--> ?\n"

-- a line that tells where the value at a path of a file stands, or that says that no place was found
abbrev pub IsPlaceLine : FileRead → List PathStep → List ℕ → Type 0
IsPlaceLine file path line =
    ((from : ℕ) × (to : ℕ) × Stands file.bytes.now path from to × (line ≡ codes "--> " ++ (place_text file.name.now file.bytes.now from ++ codes "\n")))
    ⊎ (line ≡ no_place)

-- a text begins with such a line, of one of these files and a part of this path
abbrev pub TellsPlace : List FileRead → List PathStep → List ℕ → Type 0
TellsPlace files path text =
    (line : List ℕ) × (more : List ℕ) × (text ≡ line ++ more)
    × (((file : FileRead) × Contains files file × ((part : List PathStep) × IsPartOf path part × IsPlaceLine file part line)) ⊎ (line ≡ no_place))
