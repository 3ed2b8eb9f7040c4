use Rattle.std.specs.Prelude.{Some}
use Rattle.spm_tables.specs.Words.{with_word, word_of}
use Rattle.spm_tables.proofs.BoxLemmas.{lent-changed}
use Rattle.spm_tables.proofs.WordLemmas.{count-kept, keeps-bells}
use Rattle.spm_tables.proofs.board.SignalBoard.set_doorbell.Goals as goal

pub invariant_of-self : goal.invariant_of-self
invariant_of-self c =
    let b = c.self.inside in
    let word = word_of c.set_doorbell.new.self in
    let words = lent-changed b.words.items (with_word (Some c.args.partition.0) word) c.as_mut_slice.result.now c.refresh.new.words (count-kept (Some c.args.partition.0) word)
    c.as_mut_slice.ensures.value c.as_mut_slice.ensures.len c.refresh.ensures in
    rw (words, c.set_doorbell.ensures) (keeps-bells b.inputs b.words.items.items c.args.partition.0 c.args.set c.self.invariant)
