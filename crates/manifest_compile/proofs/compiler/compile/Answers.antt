use Rattle.law_systems.proofs.Fit.{compiled_is}
use Rattle.manifest_compile.proofs.KeepsLemmas.{reads_refusal}
use Rattle.manifest_compile.proofs.compiler.compile.Goals as goal

pub returns-in_err-regions : goal.returns-in_err-regions
returns-in_err-regions c = reads_refusal c.args.parts.now c.keep_rules.result c.from_residual.result c.in_err-regions.field-0.0 c.in_err-regions.was c.from_residual.ensures.1 c.keep_rules.ensures.keeps

pub returns : goal.returns
returns c = compiled_is c.args.parts.now c.in_ok-system_of.field-0 c.in_ok-regions.ensures.keeps c.in_ok-system_of.ensures
