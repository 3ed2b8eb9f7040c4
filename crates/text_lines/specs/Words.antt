-- Words of texts, as the code holds them.
-- Source: this simulator's.
use Rattle.std.specs.Prelude.{ℕ, List, [], ◌∷◌}
use Rattle.std.specs.Fmt.{decimal, signed_decimal}
use Rattle.ffm_model.specs.TraceText.{hexadecimal_word}
use Rattle.text_lines.specs.declared.words.Word.{Word}
use Rattle.text_lines.specs.declared.words.Word.TheVariants.{Text, Number, Signed, Hexadecimal, Byte}

-- the bytes of a word
abbrev pub word_text : Word → List ℕ
word_text (Text word) = word.now
word_text (Number n) = decimal n
word_text (Signed n) = signed_decimal n
word_text (Hexadecimal n) = hexadecimal_word n
word_text (Byte byte) = byte ∷ []
