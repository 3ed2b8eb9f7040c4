use Rattle.std.proofs.Common.{◌≡◌, ◌++◌, drop}
use Rattle.std.specs.List.{flat_map}
use Rattle.text_lines.specs.Words.{word_text}
use Rattle.text_lines.proofs.words.append_words.Given as goal

-- the words so far, and then the others
abbrev pub invariant-loop-word : goal.invariant-loop-word
invariant-loop-word l = l.text.items ++ flat_map word_text (drop l.word-index l.words) ≡ l.initial.text.items ++ flat_map word_text l.words
