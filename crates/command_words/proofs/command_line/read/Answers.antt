use Rattle.command_words.proofs.command_line.read.Goals as goal

pub returns-clause-ok : goal.returns-clause-ok
returns-clause-ok c = λ o accepted. c.command_in.ensures o (c.in_ok-matches.ensures.ok o accepted)
