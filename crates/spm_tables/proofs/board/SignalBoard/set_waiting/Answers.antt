use Rattle.spm_tables.specs.Words.{with_word, word_of}
use Rattle.spm_tables.proofs.BoxLemmas.{lent-changed}
use Rattle.spm_tables.proofs.WordLemmas.{count-kept, keeps-waiting}
use Rattle.spm_tables.proofs.board.SignalBoard.set_waiting.Goals as goal

pub invariant_of-self : goal.invariant_of-self
invariant_of-self c =
    let b = c.self.inside in
    let word = word_of c.set_waiting.new.self in
    let words = lent-changed b.words.items (with_word c.service_owner-owner.result word) c.as_mut_slice.result.now c.refresh.new.words (count-kept c.service_owner-owner.result word)
    c.as_mut_slice.ensures.value c.as_mut_slice.ensures.len c.refresh.ensures in
    rw (words, c.service_owner-owner.ensures, c.set_waiting.ensures) (keeps-waiting b.inputs b.words.items.items c.args.service c.args.waits c.self.invariant)
