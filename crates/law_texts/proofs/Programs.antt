-- The programs of the generated scenario: each script is assembled.
use Rattle.std.proofs.Common.{ℕ, zero, suc, ◌≡◌, ◌+◌, ◌^◌, ◌<◌, Bool, true, false, List, [], ◌∷◌, get_or, refl, ap, subst, arith}
use Rattle.std.specs.Prelude.{Option, Some, None, Result, Ok, Err, codes, not, ◌&&◌, if◌then◌else◌}
use Rattle.std.specs.Fmt.{decimal, digits}
use Rattle.std.specs.List.{AllByRecursion, enumerate_from, list_all}
use Rattle.std.specs.Str.{chars}
use Rattle.std.proofs.lemmas.Bool.{and_parts}
use Rattle.law_lists.proofs.Lists.{AllByRecursion-at}
use Rattle.ffm_model.specs.declared.machine.ActorId.{ActorId}
use Rattle.ffm_model.specs.declared.scenario.Scenario.{Scenario}
use Rattle.ffm_model.specs.declared.script.Instruction.{Instruction}
use Rattle.ffm_model.specs.declared.script.Operand.TheVariants.{Number}
use Rattle.ffm_model.specs.declared.system.System.{System}
use Rattle.ffm_model.specs.Actors.{kind_of}
use Rattle.ffm_model.specs.Reading.{Stop}
use Rattle.ffm_model.specs.Signatures.{line_signatures}
use Rattle.ffm_model.specs.Texts.{hex_number, is_name}
use Rattle.actor_programs.specs.declared.program.Program.{Program}
use Rattle.actor_programs.specs.declared.program.Program.TheVariants.{Plain}
use Rattle.actor_programs.specs.Programs.{Made, all_joined, as_script, first_made, made_from, made_with, next_lines, program_read, programs_of, with_program, ◌>>=◌}
use Rattle.system_texts.specs.Texts.{client_base, numbers, partition_base}
use Rattle.script_asm.specs.Lines.{assembled, assembled_lines, has_line, instruction_of, label_of, line_of, made_of, operands_of, place_of, script_or_refusal}
use Rattle.script_asm.specs.Lines as asm
use Rattle.script_asm.specs.Words.{decimal_number, first_words, head_of, negative_number, number_of, operand_of, register_of, words_of}
use Rattle.sfn_calls.specs.Partitions.{is_sfn}
use Rattle.law_texts.proofs.Made.{made_system}
use Rattle.law_texts.proofs.Lines.{operand-of-decimal, words-of-line}
use Rattle.law_texts.proofs.Scenario.{made_scenario, rounds_line}

-- ---- scripts that are assembled make programs

abbrev is_ok : {A E : Type 0} → Result A E → Bool
is_ok (Ok x) = true
is_ok (Err e) = false

abbrev is_good : System → ℕ → List (List ℕ) → Bool
is_good s a lines = not (is_sfn s a) && is_ok (assembled (kind_of s a) lines)

abbrev IsRead : System → ℕ → List (List ℕ) → Type 0
IsRead s a lines = (number : ℕ) → (p : Program) × (program_read s number a lines ≡ Ok p)

read-by : (number : ℕ) (b : Bool) (functions : Result Program Stop) (r : Result (List Instruction) ℕ) → (not b && is_ok r) ≡ true
    → (p : Program) × ((if b then functions else as_script (script_or_refusal number r)) ≡ Ok p)
read-by number true functions r e = absurd cc
read-by number false functions (Ok instructions) e = (Plain (instructions ∷ []), refl)
read-by number false functions (Err line) e = absurd cc

good-read : (s : System) (a : ℕ) (lines : List (List ℕ)) → is_good s a lines ≡ true → IsRead s a lines
good-read s a lines e number = read-by number (is_sfn s a) _ (assembled (kind_of s a) lines) e

goods-read : (s : System) (a : ℕ) (scripts : List (List (List ℕ))) → list_all (is_good s a) scripts ≡ true → AllByRecursion (IsRead s a) scripts
goods-read s a [] e = tt
goods-read s a (lines ∷ scripts) e = let both = and_parts _ _ e in (good-read s a lines both.0, goods-read s a scripts both.1)

-- by actor, from place k on
all-read : (s : System) (k : ℕ) (scripts : List (List (List (List ℕ)))) → list_all (λ own. list_all (is_good s own.0) own.1) (enumerate_from k scripts) ≡ true
    → (a b : ℕ) → b ≡ k + a → AllByRecursion (IsRead s b) (get_or scripts a [])
all-read s k [] e a b at = tt
all-read s k (own ∷ scripts) e zero b at =
    let same : k ≡ b = omega (arith, at) in
    subst (λ (b : ℕ). AllByRecursion (IsRead s b) own) same (goods-read s k own (and_parts _ _ e).0)
all-read s k (own ∷ scripts) e (suc a) b at = all-read s (k + 1) scripts (and_parts _ _ e).1 a b (omega (arith, at))

made-all : (s : System) (c : Scenario) → ((a : ℕ) → AllByRecursion (IsRead s a) (get_or c.lines a []))
    → (number : ℕ) (actors : List ActorId) (made : Made) → (all : Made) × (made_from s c number actors made ≡ Ok all)
unfolding made_from
made-all s c reads number [] made = (made, refl)
made-all s c reads number (actor ∷ actors) made =
    let go : (o : Option (List (List ℕ))) → next_lines c actor made ≡ o
    → (all : Made) × ((made_with s number actor made o >>= (λ more. made_from s c (number + 1) actors more)) ≡ Ok all) = elim [
      | None ↦ λ e. made-all s c reads (number + 1) actors made
      | Some lines ↦ λ e.
          let p : (q : Program) × (program_read s number actor.0 lines ≡ Ok q) = AllByRecursion-at (IsRead s actor.0) _ _ lines (reads actor.0) e number in
          let rest = made-all s c reads (number + 1) actors (with_program made actor p.0) in
          (rest.0, rw p.1 rest.1)
    ] in
    go (next_lines c actor made) refl

programs-made : (s : System) (c : Scenario) → list_all (λ own. list_all (is_good s own.0) own.1) (enumerate_from 0 c.lines) ≡ true
    → (programs : List Program) × (programs_of s c ≡ Ok programs)
unfolding programs_of
programs-made s c e =
    let made = made-all s c (λ a. all-read s 0 c.lines e a a (omega arith)) 0 c.order (first_made s c) in
    (all_joined s made.0, ap (λ r. r >>= (λ all. Ok (all_joined s all))) made.1)

-- ---- the generated scripts are assembled

all-good : (ws ds : List ℕ) (n : ℕ) → words_of ws ≡ codes "set" ∷ codes "r6" ∷ ds ∷ [] → operand_of ds ≡ Some (Number n)
    → list_all (λ own. list_all (is_good made_system own.0) own.1) (enumerate_from 0 (made_scenario ws).lines) ≡ true
unfolding
    chars digits numbers client_base partition_base is_name hex_number
    words_of decimal_number negative_number number_of register_of operand_of first_words head_of line_signatures
    label_of line_of place_of has_line operands_of instruction_of made_of asm.made_from assembled_lines assembled
all-good ws ds n words operand = rw (words, operand) refl

pub made-programs : (rounds : ℕ) → rounds < 2 ^ 32 → (programs : List Program) × (programs_of made_system (made_scenario (rounds_line rounds)) ≡ Ok programs)
made-programs rounds small = programs-made made_system (made_scenario (rounds_line rounds)) (all-good (rounds_line rounds) (decimal rounds) rounds (words-of-line rounds small) (operand-of-decimal rounds small))
