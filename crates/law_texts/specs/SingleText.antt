-- That words and files call for one text, with one status.
-- Source: this simulator's.
use Rattle.std.specs.Prelude.{◌≡◌, ℕ, List}
use Rattle.ffm_model.specs.Reading.{Contents}
use Rattle.ffm_top.specs.Due.{Due}

-- two texts that are due, each with its status, are one
abbrev pub HasOneText : List (List ℕ) → Contents → Type 0
HasOneText words of =
    (text other : List ℕ) (status another : ℕ)
    → Due words of text status → Due words of other another → (text ≡ other) × (status ≡ another)
