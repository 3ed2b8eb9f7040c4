use Rattle.spm_tables.specs.Words.{with_word, word_of}
use Rattle.spm_tables.proofs.BoxLemmas.{lent-changed}
use Rattle.spm_tables.proofs.WordLemmas.{count-kept, keeps-flags}
use Rattle.spm_tables.proofs.board.SignalBoard.set_flags.Goals as goal

pub invariant_of-self : goal.invariant_of-self
invariant_of-self c =
    let b = c.self.inside in
    let word = word_of c.set_flags.new.self in
    let words = lent-changed b.words.items (with_word c.source_owner-owner.result word) c.as_mut_slice.result.now c.refresh.new.words (count-kept c.source_owner-owner.result word)
    c.as_mut_slice.ensures.value c.as_mut_slice.ensures.len c.refresh.ensures in
    rw (words, c.source_owner-owner.ensures, c.set_flags.ensures) (keeps-flags b.inputs b.words.items.items c.args.source c.args.flags c.self.invariant)
