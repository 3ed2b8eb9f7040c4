-- What lines make, as the code gives it.
-- Source: this simulator's script language.
use Rattle.std.specs.Prelude.{ℕ, ◌≡◌, List, Result, Ok, Err, Option, Some, None, [], ◌∷◌}
use Rattle.script_asm.specs.declared.scripts.LineError.{LineError}
use Rattle.script_asm.specs.declared.scripts.LineError.TheVariants as error

-- the first wrong line; want of memory has no cause here
abbrev pub Fails : {A : Type 0} → LineError → Result A ℕ → Type 0
Fails (error.Wrong line) made = made ≡ Err line
Fails error.Memory made = Unit {0}

abbrev pub Gives : {X A : Type 0} → (X → A) → Result X LineError → Result A ℕ → Type 0
Gives view (Ok x) made = made ≡ Ok (view x)
Gives view (Err e) made = Fails e made

-- one or none, as a list
abbrev pub listed : {A : Type 0} → Option A → List A
listed None = []
listed (Some x) = x ∷ []
