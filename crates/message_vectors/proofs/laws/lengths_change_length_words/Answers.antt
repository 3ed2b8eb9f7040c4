use Rattle.machine_rules.proofs.Reached.{lengths_written-outside}
use Rattle.message_vectors.proofs.laws.lengths_change_length_words.Goals as goal

pub returns : goal.returns
returns c = lengths_written-outside
