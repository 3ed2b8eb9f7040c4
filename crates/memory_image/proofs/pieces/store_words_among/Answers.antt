use Rattle.std.proofs.Common.{refl, ◌∙◌, length}
use Rattle.std.proofs.Math.Path.{fun_ext}
use Rattle.memory_image.proofs.Numbers.{words_step}
use Rattle.memory_image.proofs.Words.{word-inside}
use Rattle.memory_image.proofs.pieces.store_words_among.Goals as goal

pub loop-k-preserved : goal.loop-k-preserved
loop-k-preserved c = record {
  stored = words_step _ _ _ c.args.address c.loop-k.k _ c.args.words.now c.loop-k-test.true refl (fun_ext c.store_word_among.ensures.stored) c.loop-k.invariant.stored;
  regions = c.store_word_among.ensures.regions ∙ c.loop-k.invariant.regions;
}

pub store_word_among-requires-clause-inside : goal.store_word_among-requires-clause-inside
store_word_among-requires-clause-inside c =
    word-inside _ _ c.args.place c.args.address (length c.args.words.now) c.loop-k.k c.loop-k.invariant.regions c.requires.exists c.loop-k-test.true c.requires.inside
