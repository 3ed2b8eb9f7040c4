use Rattle.clap.specs.Words.{found_of, rows_of}
use Rattle.command_words.proofs.Getters.{asked}
use Rattle.command_words.proofs.command_line.command_in.Goals as goal

pub returns : goal.returns
returns c = λ o ask.
    let met = c.in_ok-name.ensures in
    let given = asked c.args.matches.now o c.in_ok-name.name.now (rows_of (found_of c.in_ok-name.found.now)) met.name met.rows ask in
    c.command_named.ensures o given.0 given.1
