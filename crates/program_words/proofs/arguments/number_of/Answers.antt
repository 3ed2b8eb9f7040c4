use Rattle.std.proofs.Common.{ℕ, List}
use Rattle.std.specs.Prelude.{Result}
use Rattle.std.specs.Str.Parse.{ExplainsUnsignedError, HasUnsignedDigitsIfOk, ParsesUnsigned}
use Rattle.std.specs.declared.num.ParseIntError.{ParseIntError}
use Rattle.clap.specs.Words.{found_of}
use Rattle.program_words.proofs.Getters.{number_read}
use Rattle.program_words.proofs.arguments.number_of.Goals as goal

abbrev Reads : List ℕ → Result ℕ ParseIntError → Type 0
Reads text r = ParsesUnsigned 32 10 text r × ExplainsUnsignedError 10 text r × HasUnsignedDigitsIfOk text r

pub returns : goal.returns
returns c = number_read Reads (found_of c.args.found.now) c.args.id.now c.get_one.result (λ t r h. h.0) c.get_one.ensures.none c.get_one.ensures.value
