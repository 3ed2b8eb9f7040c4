-- What a program's words ask for, out of what `clap` makes of them by the program's commands.
use Rattle.std.proofs.Common.{◌≡◌, ◌&&◌, Bool, List, [], inl, inr, refl, true, false}
use Rattle.std.specs.Prelude.{◌⊎◌, Option, IfOk, Result, Ok, Err}
use Rattle.clap.specs.Words.{App, HasKind, HasMatchesOf, Row, Text, fault_of, is_simple, is_simple_and_free, kind_of, subcommand_of, subcommand_rows_of}
use Rattle.clap.specs.declared.error.Error.{Error}
use Rattle.clap.specs.declared.error.kind.ErrorKind.TheVariants as kind
use Rattle.clap.specs.declared.parser.matches.ArgMatches.{ArgMatches}
use Rattle.program_words.specs.Arguments.{AskNothing, AsksBy, IsToldBy, told_status}

-- the rows of a command that is simple and free
both_left : (a b : Bool) → (a && b) ≡ true → a ≡ true
both_left true b both = refl
both_left false b both = both

pub rows_matched : (a : App) (words : List Text) (r : Result ArgMatches Error) → is_simple_and_free a ≡ true → IfOk r (HasMatchesOf a words) → IfOk r (λ m. subcommand_rows_of m ≡ subcommand_of a words)
rows_matched a words (Ok m) free has = (has (both_left (is_simple a) _ free)).1
rows_matched a words (Err e) free has = tt

-- they ask for this
pub asks : {A : Type 0} (IsAskedOf : Option (Text × List Row) → A → Type 0) (app found : App) (words : List Text) (rows : Option (Text × List Row)) (a : A) → found ≡ app → rows ≡ subcommand_of found words → fault_of found words ≡ [] → IsAskedOf rows a → AsksBy app IsAskedOf words a
asks IsAskedOf app found words rows a is same none asked =
    let both : AsksBy found IsAskedOf words a = (none, rw same at asked) in
    rw is at both

-- `clap` doesn't take them
pub untaken : {A : Type 0} (IsAskedOf : Option (Text × List Row) → A → Type 0) (app found : App) (words : List Text) (e : Error) → found ≡ app → HasKind (fault_of found words) e
    → (kind_of e ≡ kind.OutOfMemory) ⊎ IsToldBy app IsAskedOf words (told_status (kind_of e))
untaken IsAskedOf app found words e is (inl memory) = inl memory
untaken IsAskedOf app found words e is (inr among) = inr (kind_of e, inl (rw is at among), refl)

-- they ask for nothing
pub nothing : {A : Type 0} (IsAskedOf : Option (Text × List Row) → A → Type 0) (app found : App) (words : List Text) (rows : Option (Text × List Row)) (e : Error) → found ≡ app → rows ≡ subcommand_of found words → AskNothing IsAskedOf rows → kind_of e ≡ kind.MissingSubcommand
    → IsToldBy app IsAskedOf words (told_status (kind_of e))
nothing IsAskedOf app found words rows e is same none by = (kind_of e, inr (by, rw is at (rw same at none)), refl)
