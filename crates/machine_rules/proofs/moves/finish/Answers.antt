use Rattle.std.proofs.Common.{◌≡◌, length, take, rules, ap, ◌∙◌, false}
use Rattle.ffm_model.specs.Reach.{length_word_has}
use Rattle.machine_rules.proofs.Reached.{lengths_written-outside}
use Rattle.machine_rules.proofs.moves.finish.Goals as goal

pub returns-clause-changed : goal.returns-clause-changed
returns-clause-changed c = λ x out.
    let many : length (take c.args.vectors.now.out_len c.args.vectors.now.output) ≡ c.args.vectors.now.out_len = search rules in
    let outside : length_word_has x c.args.vectors.now.out_vec (length (take c.args.vectors.now.out_len c.args.vectors.now.output)) ≡ false = rw many out in
    ap (λ m. m x) c.put_lengths.ensures.bytes ∙ lengths_written-outside _ _ x _ outside
