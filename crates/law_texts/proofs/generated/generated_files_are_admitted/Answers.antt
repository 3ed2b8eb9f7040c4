use Rattle.std.proofs.Common.{arith}
use Rattle.law_texts.proofs.Admitted.{texts-admitted}
use Rattle.law_texts.proofs.generated.generated_files_are_admitted.Goals as goal

pub returns : goal.returns
returns c = λ rounds few. texts-admitted rounds (omega (arith, few))
