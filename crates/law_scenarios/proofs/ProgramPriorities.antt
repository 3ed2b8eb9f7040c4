-- The programs of a scenario are the same where priorities are others.
use Rattle.std.proofs.Common.{ℕ, ◌≡◌, ◌+◌, Bool, false, List, [], ◌∷◌, ◌++◌, length, map, replicate, refl, ap, ap₂, ◌∙◌}
use Rattle.std.specs.Prelude.{Option, Some, None, Result, Ok, if◌then◌else◌}
use Rattle.std.specs.List.{enumerate_from}
use mathlib.Core.Path.{fun_ext}
use Rattle.ffm_model.specs.declared.machine.ActorId.{ActorId}
use Rattle.ffm_model.specs.declared.scenario.Scenario.{Scenario}
use Rattle.ffm_model.specs.declared.script.SfnFunction.{SfnFunction}
use Rattle.ffm_model.specs.declared.system.ActorKind.{ActorKind}
use Rattle.ffm_model.specs.declared.system.Partition.{Partition}
use Rattle.ffm_model.specs.declared.system.System.{System}
use Rattle.ffm_model.specs.Actors.{kind_of}
use Rattle.ffm_model.specs.Reading.{Stop}
use Rattle.script_asm.specs.Lines.{lines_of, script_read}
use Rattle.sfn_calls.specs.FunctionLines.{functions_of, functions_or_refusal, limited}
use Rattle.sfn_calls.specs.Partitions.{is_sfn}
use Rattle.actor_programs.specs.declared.program.Program.{Program}
use Rattle.actor_programs.specs.declared.program.Program.TheVariants.{Plain, Functions}
use Rattle.actor_programs.specs.Programs.{◌>>=◌, Made, as_functions, as_script, device_made, first_made, joined, made_from, made_with, next_lines, program_read, programs_of, with_program}
use Rattle.law_scenarios.specs.Priorities.{DoFit, ReadAlike, aside, with_partitions}
use Rattle.law_scenarios.proofs.Fields.{count-same, made-same}
use Rattle.law_scenarios.proofs.FunctionPriorities.{functions-same}
use Rattle.law_scenarios.proofs.MachinePriorities.{kind-same}
use Rattle.law_scenarios.proofs.Scenarios.{in-same}

module _ (s : System) (qs : List Partition) (fits : DoFit s qs) (same : aside qs ≡ aside s.partitions) where
  abbrev other : System
  other = with_partitions s qs fits

  sfn-same : (a : ℕ) → is_sfn other a ≡ is_sfn s a
  sfn-same a = made-same s.partitions qs same (λ (p : Partition). p.sfn) false (λ p. refl) a

  -- ---- programs

  read-same : (number a : ℕ) (lines : List (List ℕ)) → program_read other number a lines ≡ program_read s number a lines
  read-same number a lines =
      let made : Bool → Result (List SfnFunction) ℕ → ActorKind → Result Program Stop = λ sfn functions kind.
      if sfn then as_functions (functions_or_refusal number (limited (length lines) functions)) else as_script (script_read kind number lines) in
      ap (λ (b : Bool). made b (functions_of other a (lines_of lines)) (kind_of other a)) (sfn-same a)
      ∙ ap₂ (λ (r : Result (List SfnFunction) ℕ) (kind : ActorKind). made (is_sfn s a) r kind) (functions-same s qs fits a (lines_of lines)) (kind-same s qs fits same a)

  more-same : (number : ℕ) (actor : ActorId) (made : Made) (o : Option (List (List ℕ))) → made_with other number actor made o ≡ made_with s number actor made o
  more-same number actor made None = refl
  more-same number actor made (Some lines) = ap (λ (r : Result Program Stop). r >>= (λ p. Ok (with_program made actor p))) (read-same number actor.0 lines)

  from-same : (c : Scenario) (actors : List ActorId) (number : ℕ) (made : Made) → made_from other c number actors made ≡ made_from s c number actors made
  unfolding made_from
  from-same c [] number made = refl
  from-same c (actor ∷ actors) number made =
      ap (λ (r : Result Made Stop). r >>= (λ more. made_from other c (number + 1) actors more)) (more-same number actor made (next_lines c actor made))
      ∙ ap (λ (f : Made → Result Made Stop). made_with s number actor made (next_lines c actor made) >>= f) (fun_ext (λ more. from-same c actors (number + 1) more))

  first-same : (c : Scenario) → first_made other c ≡ first_made s c
  unfolding first_made
  first-same c = ap (λ (n : ℕ). replicate (n + length s.clients) [] ++ device_made s.sources c.raises) (count-same s.partitions qs same)

  joined-same : (own : ℕ × List Program) → joined other own.0 own.1 ≡ joined s own.0 own.1
  joined-same (a, []) = ap (λ (b : Bool). if b then Functions [] else Plain ([] ∷ [])) (sfn-same a)
  joined-same (a, p ∷ []) = refl
  joined-same (a, p ∷ q ∷ ps) = refl

  pub programs-same : (c : Scenario) → programs_of other c ≡ programs_of s c
  unfolding programs_of
  programs-same c =
      let all : (ℕ × List Program → Program) → Made → Result (List Program) Stop = λ f made. Ok (map f (enumerate_from 0 made)) in
      ap (λ (first : Made). made_from other c 0 c.order first >>= all (λ own. joined other own.0 own.1)) (first-same c)
      ∙ ap (λ (r : Result Made Stop). r >>= all (λ own. joined other own.0 own.1)) (from-same c c.order 0 (first_made s c))
      ∙ ap (λ (f : ℕ × List Program → Program). made_from s c 0 c.order (first_made s c) >>= all f) (fun_ext joined-same)

pub read_alike : (s : System) (partitions : List Partition) → ReadAlike s partitions
read_alike s qs fits same = (in-same s qs fits same, programs-same s qs fits same)
