-- What the getters of `clap` read, by the rows of the matches.
use Rattle.std.proofs.Common.{◌≡◌, ◌∙◌, Bool, List, None, Option, Some, false, true, codes, option_map, subst, sym}
use Rattle.std.specs.Box.{box_value}
use Rattle.clap.specs.Words.{Row, Text, first_of, first_value, found_of, one_of, one_text, rows_of, subcommand_name_of, subcommand_rows_of}
use Rattle.clap.specs.declared.parser.matches.ArgMatches.{ArgMatches}
use Rattle.clap.specs.declared.parser.matches.ArgMatches.TheViews.{out-ArgMatches, out-SubCommand}
use Rattle.clap.specs.declared.parser.matches.Found.{Found}
use Rattle.clap.proofs.WalkLemmas.{first_value-rows, one_text-rows}
use Rattle.command_words.specs.declared.words.Inspection.{Inspection}
use Rattle.command_words.specs.declared.words.Inspection.TheVariants.{Audit, Replay}
use Rattle.command_words.specs.Matches.{AskFor, HasArguments, flag_text, inspection_name, name_of}
use Rattle.command_words.specs.Words.{Order, compile, judge, make, run}

pub word_read : (found : Found) (id : Text) (word : Option Text) → word ≡ first_value found id → word ≡ first_of id (rows_of found)
word_read found id word is = is ∙ first_value-rows found id

pub flag_read : (found : Found) (id : Text) (result b : Bool) → (one_text found id ≡ Some (codes "true") → result ≡ true) → (one_text found id ≡ Some (codes "false") → result ≡ false)
    → one_of id (rows_of found) ≡ Some (flag_text b) → result ≡ b
flag_read found id result true set unset e = set (one_text-rows found id ∙ e)
flag_read found id result false set unset e = unset (one_text-rows found id ∙ e)

-- a subcommand's name and its rows, where the matches ask for an order
asked_by : {B : Type 0} (name_at : B → Text) (rows_at : B → List Row) (sub : Option B) (o : Order) (name : Text) (rows : List Row) → Some name ≡ option_map name_at sub
    → Some rows ≡ option_map (λ (p : Text × List Row). p.1) (option_map (λ b. (name_at b, rows_at b)) sub) → AskFor (option_map (λ b. (name_at b, rows_at b)) sub) o
    → (name ≡ name_of o) × HasArguments rows o
asked_by name_at rows_at None o name rows named has ask = absurd ask
asked_by name_at rows_at (Some b) o name rows named has ask =
    let same_name : name ≡ name_at b = cc in
    let same_rows : rows ≡ rows_at b = cc in
    (same_name ∙ ask.0, subst (λ (r : List Row). HasArguments r o) (sym same_rows) ask.1)

pub asked : (m : ArgMatches) (o : Order) (name : Text) (rows : List Row) → Some name ≡ subcommand_name_of m → Some rows ≡ option_map (λ (p : Text × List Row). p.1) (subcommand_rows_of m)
    → AskFor (subcommand_rows_of m) o → (name ≡ name_of o) × HasArguments rows o
asked m o name rows named has ask =
    asked_by (λ b. (out-SubCommand (box_value b)).name.now) (λ b. rows_of (found_of (out-SubCommand (box_value b)).matches)) (out-ArgMatches m).subcommand o name rows named has ask

-- an order of the name of an inspection is that inspection
pub judge_asked : (o : Order) (how : Inspection) (rows : List Row) (given : Option Order) → inspection_name how ≡ name_of o
    → ((system scenario trace : Text) → HasArguments rows (judge how system scenario trace) → given ≡ Some (judge how system scenario trace)) → HasArguments rows o → given ≡ Some o
judge_asked (compile system) Replay rows given named is has = cc
judge_asked (compile system) Audit rows given named is has = cc
judge_asked (run threads system scenario) Replay rows given named is has = cc
judge_asked (run threads system scenario) Audit rows given named is has = cc
judge_asked (judge Replay system scenario trace) Replay rows given named is has = is system scenario trace has
judge_asked (judge Replay system scenario trace) Audit rows given named is has = cc
judge_asked (judge Audit system scenario trace) Replay rows given named is has = cc
judge_asked (judge Audit system scenario trace) Audit rows given named is has = is system scenario trace has
judge_asked (make rounds) Replay rows given named is has = cc
judge_asked (make rounds) Audit rows given named is has = cc
