use Rattle.std.proofs.Common.{◌∙◌, sym, subst}
use Rattle.ffm_model.specs.SfnScripts.{IsSfnScript}
use Rattle.sfn_calls.proofs.AssemblyLemmas.{no-functions}
use Rattle.actor_programs.proofs.program.empty_program.Goals as goal

pub invariant_of-result : goal.invariant_of-result
invariant_of-result c = subst IsSfnScript (sym (c.of-functions.ensures ∙ c.new.ensures.items)) no-functions
