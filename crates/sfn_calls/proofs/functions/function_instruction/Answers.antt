use Rattle.std.proofs.Common.{sym, ◌∙◌}
use Rattle.sfn_calls.proofs.FunctionLemmas.{instruction-fits}
use Rattle.sfn_calls.proofs.functions.function_instruction.Goals as goal

pub returns-then-is_function_instruction-clause-fits : goal.returns-then-is_function_instruction-clause-fits
returns-then-is_function_instruction-clause-fits c =
    instruction-fits _ c.in_ok-instruction.instruction c.in_ok-instruction.ensures.fits (sym c.is_function_instruction.ensures ∙ c.if-is_function_instruction.true)
