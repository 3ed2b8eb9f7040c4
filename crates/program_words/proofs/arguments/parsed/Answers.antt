use Rattle.std.proofs.Common.{map, string_bytes}
use Rattle.clap.specs.Words.{app_of}
use Rattle.program_words.proofs.Asking.{rows_matched}
use Rattle.program_words.proofs.arguments.parsed.Goals as goal

pub returns-clause-rows : goal.returns-clause-rows
returns-clause-rows c = rows_matched (app_of c.args.command) (map string_bytes c.args.words.now) c.try_get_matches_from.result c.requires c.try_get_matches_from.ensures.matches

pub returns-clause-faults : goal.returns-clause-faults
returns-clause-faults c = c.try_get_matches_from.ensures.kinds c.requires
