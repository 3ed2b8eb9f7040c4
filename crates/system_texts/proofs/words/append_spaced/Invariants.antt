use Rattle.std.proofs.Common.{◌≡◌, ◌++◌, drop, map}
use Rattle.std.specs.List.{flat_map}
use Rattle.ffm_model.specs.TraceText.{spaced}
use Rattle.text_lines.specs.Words.{word_text}
use Rattle.system_texts.proofs.words.append_spaced.Given as goal

-- the words so far, and then the others
abbrev pub invariant-loop-word : goal.invariant-loop-word
invariant-loop-word l = l.text.items ++ flat_map spaced (map word_text (drop l.word-index l.words)) ≡ l.initial.text.items ++ flat_map spaced (map word_text l.words)
