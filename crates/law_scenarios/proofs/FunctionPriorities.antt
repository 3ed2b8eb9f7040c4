-- The functions of an SFN partition are the same where priorities are others.
use Rattle.std.proofs.Common.{ℕ, ◌≡◌, List, [], ◌∷◌, ◌++◌, refl, ap, ◌∙◌}
use Rattle.std.specs.Prelude.{Result, Err, position}
use Rattle.std.specs.Option.{option_map_or}
use mathlib.Core.Path.{fun_ext}
use Rattle.ffm_model.specs.declared.script.SfnFunction.{SfnFunction}
use Rattle.ffm_model.specs.declared.system.Partition.{Partition}
use Rattle.ffm_model.specs.declared.system.System.{System}
use Rattle.script_asm.specs.Lines.{Line}
use Rattle.sfn_calls.specs.FunctionLines.{◌>>=◌, function_of, functions_below, functions_of, service_of_head}
use Rattle.sfn_calls.specs.Sections.{Section, before, is_used, sections}
use Rattle.law_scenarios.specs.Priorities.{DoFit, with_partitions}

module _ (s : System) (qs : List Partition) (fits : DoFit s qs) where
  abbrev other : System
  other = with_partitions s qs fits

  function-same : (a : ℕ) (above : List SfnFunction) (x : Section) → function_of other a above x ≡ function_of s a above x
  unfolding function_of service_of_head
  function-same a above x = refl

  below-same : (a : ℕ) (xs : List Section) (above : List SfnFunction) → functions_below other a above xs ≡ functions_below s a above xs
  unfolding functions_below
  below-same a [] above = refl
  below-same a (x ∷ xs) above =
      ap (λ (r : Result SfnFunction ℕ). r >>= (λ f. functions_below other a (above ++ f ∷ []) xs)) (function-same a above x)
      ∙ ap (λ (next : SfnFunction → Result (List SfnFunction) ℕ). function_of s a above x >>= next) (fun_ext (λ f. below-same a xs (above ++ f ∷ [])))

  pub functions-same : (a : ℕ) (lines : List Line) → functions_of other a lines ≡ functions_of s a lines
  unfolding functions_of
  functions-same a lines = ap (λ (r : Result (List SfnFunction) ℕ). option_map_or Err (position is_used (before lines)) r) (below-same a (sections 0 lines) [])
