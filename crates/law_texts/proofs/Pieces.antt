-- Texts with holes inside strings: how they are read as JSON, whatever plain bytes stand there.
use Rattle.std.proofs.Common.{ℕ, ◌≡◌, ◌<◌, Bool, true, false, cond, List, [], ◌∷◌, ◌++◌, map, refl, ap, ap₂, sym, ◌∙◌, arith, append_assoc}
use Rattle.std.specs.Prelude.{Option, Some, None, option_and_then, nat_le, nat_lt, not, ◌&&◌, ◌==◌, if◌then◌else◌}
use Rattle.std.specs.List.{flat_map, list_all}
use Rattle.std.specs.Str.{IsAscii, is_utf8}
use Rattle.std.proofs.lemmas.Bool.{and_parts}
use Rattle.std.proofs.lemmas.Bool.Decides.{nat_tests}
use Rattle.std.proofs.lemmas.Str.{IsAscii-append, IsUtf8-from_ascii, is_utf8-from_IsUtf8}
use Rattle.std.proofs.lemmas.Str.Ascii.{IsAscii-cons, IsAscii-nil}
use Rattle.json.specs.Lex as lexer
use Rattle.json.specs.Lex.{Lexeme, Mode, lex, lex_byte, between}
use Rattle.json.specs.Text.{content, plain, prepend}
use Rattle.json.specs.Token as token
use Rattle.json.specs.Word.{is_operator, is_space}
use Rattle.serde_json.specs.Data.{Data}
use Rattle.serde_json.specs.Read.{max_depth, of_json, read}
use Rattle.json.specs.Json as json
use Rattle.ffm_model.specs.Quote.{quote, quoted, outside, in_string, is_fraction_byte, is_run_byte}
use Rattle.ffm_model.specs.Trees.{tree_of}

-- ---- plain bytes in a string

-- no quotation mark, no backslash, no control character, and ASCII
abbrev pub is_plain : ℕ → Bool
is_plain b = nat_le 32 b && (nat_lt b 128 && (not (b == 34) && not (b == 92)))

record IsPlain (b : ℕ) : Type 0 where
  low : nat_lt b 32 ≡ false
  ascii : nat_lt b 128 ≡ true
  quote : (b == 34) ≡ false
  backslash : (b == 92) ≡ false

plain-byte : (b : ℕ) → is_plain b ≡ true → IsPlain b
plain-byte b e = record { low = grind (arith, nat_tests, e); ascii = grind (arith, nat_tests, e); quote = grind (arith, nat_tests, e); backslash = grind (arith, nat_tests, e) }

quoted-plain : (ws u : List ℕ) → list_all is_plain ws ≡ true → quoted in_string (ws ++ 34 ∷ u) ≡ ws ++ 34 ∷ quoted outside u
unfolding quoted
quoted-plain [] u e = refl
quoted-plain (b ∷ ws) u e =
    let both = and_parts _ _ e in
    let is = plain-byte b both.0 in
    rw (is.quote, is.backslash) (ap (λ (rest : List ℕ). b ∷ rest) (quoted-plain ws u both.1))

content-plain : (ws u : List ℕ) → list_all is_plain ws ≡ true → content plain (ws ++ 34 ∷ u) ≡ Some ws
unfolding content
content-plain [] u e = refl
content-plain (b ∷ ws) u e =
    let both = and_parts _ _ e in
    let is = plain-byte b both.0 in
    rw (is.quote, is.backslash, is.low) (ap (prepend (b ∷ [])) (content-plain ws u both.1))

passes : (b c : Bool) (x : ℕ) (xs : List ℕ) (k : Mode → List Lexeme) → lex_byte lexer.in_string (cond b lexer.operator (cond c lexer.space lexer.other)) x xs k ≡ k lexer.in_string
passes true c x xs k = refl
passes false true x xs k = refl
passes false false x xs k = refl

lexed-plain : (ws u : List ℕ) → list_all is_plain ws ≡ true → lex lexer.in_string (ws ++ 34 ∷ u) ≡ lex between u
unfolding lex
lexed-plain [] u e = refl
lexed-plain (b ∷ ws) u e =
    let both = and_parts _ _ e in
    let is = plain-byte b both.0 in
    rw (is.quote, is.backslash) (passes (is_operator b) (is_space b) b (ws ++ 34 ∷ u) (λ next. lex next (ws ++ 34 ∷ u)) ∙ lexed-plain ws u both.1)

-- ---- pieces: closed texts, and holes for a string

abbrev pub Piece : Type 0
Piece = Option (List ℕ)

-- a string, with its quotation marks
abbrev pub string_text : List ℕ → List ℕ
string_text ws = 34 ∷ ws ++ 34 ∷ []

abbrev pub filled : List ℕ → Piece → List ℕ
filled ws None = string_text ws
filled ws (Some text) = text

-- the text of pieces with this string in the holes
abbrev pub text_of : List ℕ → List Piece → List ℕ
text_of ws pieces = flat_map (filled ws) pieces

-- the lexemes of pieces
abbrev pub lexemes_in : Lexeme → Piece → List Lexeme
lexemes_in hole None = hole ∷ []
lexemes_in hole (Some text) = lex between text

abbrev pub lexemes_of : Lexeme → List Piece → List Lexeme
lexemes_of hole pieces = flat_map (lexemes_in hole) pieces

after-string : (ws u : List ℕ) → (ws ++ 34 ∷ []) ++ u ≡ ws ++ 34 ∷ u
after-string ws u = append_assoc ws (34 ∷ []) u

-- ---- pieces that stand for themselves, whatever follows

abbrev pub quoted_with : List ℕ → Piece → List ℕ
quoted_with u None = []
quoted_with u (Some text) = quoted outside (text ++ u)

abbrev pub kept_with : List ℕ → Piece → List ℕ
kept_with u None = []
kept_with u (Some text) = text ++ quoted outside u

abbrev pub lexed_with : List ℕ → Piece → List Lexeme
lexed_with u None = []
lexed_with u (Some text) = lex between (text ++ u)

abbrev pub lexed_before : List ℕ → Piece → List Lexeme
lexed_before u None = []
lexed_before u (Some text) = lex between text ++ lex between u

abbrev pub is_ascii_text : List ℕ → Bool
is_ascii_text text = list_all (λ b. nat_lt b 128) text

abbrev pub is_ascii_piece : Piece → Bool
is_ascii_piece None = true
is_ascii_piece (Some text) = is_ascii_text text

pub record AreClean (pieces : List Piece) : Type 0 where
  pub quotes : (u : List ℕ) → map (quoted_with u) pieces ≡ map (kept_with u) pieces
  pub lexes : (u : List ℕ) → map (lexed_with u) pieces ≡ map (lexed_before u) pieces
  pub ascii : list_all is_ascii_piece pieces ≡ true

first-same : {A : Type 0} (x y : A) (xs ys : List A) → x ∷ xs ≡ y ∷ ys → (x ≡ y) × (xs ≡ ys)
first-same x y xs ys e = (cc, cc)

rest-clean : (p : Piece) (ps : List Piece) → AreClean (p ∷ ps) → AreClean ps
rest-clean p ps c = record {
  quotes = λ u. (first-same _ _ _ _ (c.quotes u)).1;
  lexes = λ u. (first-same _ _ _ _ (c.lexes u)).1;
  ascii = (and_parts _ _ c.ascii).1;
}

-- no mark is set
piece-quoted : (ws : List ℕ) (p : Piece) (ps : List Piece) (u : List ℕ) → list_all is_plain ws ≡ true → AreClean (p ∷ ps) → quoted outside (filled ws p ++ u) ≡ filled ws p ++ quoted outside u
unfolding quoted is_run_byte is_fraction_byte
piece-quoted ws None ps u e c =
    ap (λ (text : List ℕ). 34 ∷ quoted in_string text) (after-string ws u)
    ∙ ap (λ (text : List ℕ). 34 ∷ text) (quoted-plain ws u e ∙ sym (after-string ws (quoted outside u)))
piece-quoted ws (Some text) ps u e c = (first-same _ _ _ _ (c.quotes u)).0

pub text-quoted : (ws : List ℕ) (pieces : List Piece) (u : List ℕ) → list_all is_plain ws ≡ true → AreClean pieces
    → quoted outside (text_of ws pieces ++ u) ≡ text_of ws pieces ++ quoted outside u
text-quoted ws [] u e c = refl
text-quoted ws (p ∷ ps) u e c =
    ap (quoted outside) (append_assoc (filled ws p) (text_of ws ps) u)
    ∙ piece-quoted ws p ps (text_of ws ps ++ u) e c
    ∙ ap (λ (text : List ℕ). filled ws p ++ text) (text-quoted ws ps u e (rest-clean p ps c))
    ∙ sym (append_assoc (filled ws p) (text_of ws ps) (quoted outside u))

-- a hole has one lexeme
piece-lexed : (ws : List ℕ) (p : Piece) (ps : List Piece) (u : List ℕ) → list_all is_plain ws ≡ true → AreClean (p ∷ ps)
    → lex between (filled ws p ++ u) ≡ lexemes_in (lexer.token (token.string ws)) p ++ lex between u
unfolding lex
piece-lexed ws None ps u e c =
    ap (λ (text : List ℕ). lexer.token (lexer.string_token (content plain text)) ∷ lex lexer.in_string text) (after-string ws u)
    ∙ ap₂ (λ (o : Option (List ℕ)) (rest : List Lexeme). lexer.token (lexer.string_token o) ∷ rest) (content-plain ws u e) (lexed-plain ws u e)
piece-lexed ws (Some text) ps u e c = (first-same _ _ _ _ (c.lexes u)).0

pub text-lexed : (ws : List ℕ) (pieces : List Piece) (u : List ℕ) → list_all is_plain ws ≡ true → AreClean pieces
    → lex between (text_of ws pieces ++ u) ≡ lexemes_of (lexer.token (token.string ws)) pieces ++ lex between u
text-lexed ws [] u e c = refl
text-lexed ws (p ∷ ps) u e c =
    let hole : Lexeme = lexer.token (token.string ws) in
    ap (lex between) (append_assoc (filled ws p) (text_of ws ps) u)
    ∙ piece-lexed ws p ps (text_of ws ps ++ u) e c
    ∙ ap (λ (rest : List Lexeme). lexemes_in hole p ++ rest) (text-lexed ws ps u e (rest-clean p ps c))
    ∙ sym (append_assoc (lexemes_in hole p) (lexemes_of hole ps) (lex between u))

-- ---- the tree

low-byte : (b : ℕ) → nat_lt b 128 ≡ true → b < 128
low-byte b e = grind (arith, nat_tests, e)

pub ascii-bytes : (text : List ℕ) → is_ascii_text text ≡ true → IsAscii text
ascii-bytes [] e = IsAscii-nil
ascii-bytes (b ∷ text) e = let both = and_parts _ _ e in IsAscii-cons b text (low-byte b both.0) (ascii-bytes text both.1)

plain-ascii : (ws : List ℕ) → list_all is_plain ws ≡ true → IsAscii ws
plain-ascii [] e = IsAscii-nil
plain-ascii (b ∷ ws) e = let both = and_parts _ _ e in IsAscii-cons b ws (low-byte b (plain-byte b both.0).ascii) (plain-ascii ws both.1)

piece-ascii : (ws : List ℕ) (p : Piece) → list_all is_plain ws ≡ true → is_ascii_piece p ≡ true → IsAscii (filled ws p)
piece-ascii ws None e a = IsAscii-cons 34 _ (omega arith) (IsAscii-append ws (34 ∷ []) (plain-ascii ws e) (IsAscii-cons 34 [] (omega arith) IsAscii-nil))
piece-ascii ws (Some text) e a = ascii-bytes text a

pub text-ascii : (ws : List ℕ) (pieces : List Piece) → list_all is_plain ws ≡ true → list_all is_ascii_piece pieces ≡ true → IsAscii (text_of ws pieces)
text-ascii ws [] e a = IsAscii-nil
text-ascii ws (p ∷ ps) e a =
    let both = and_parts _ _ a in
    IsAscii-append (filled ws p) (text_of ws ps) (piece-ascii ws p e both.0) (text-ascii ws ps e both.1)

-- what lexemes are
abbrev pub tree_of_lexemes : List Lexeme → Option Data
tree_of_lexemes ls = option_and_then of_json (option_and_then (λ p. json.if_last p.0 p.1) (json.value max_depth (lexer.punctuate lexer.fresh ls)))

pub text-read : (text : List ℕ) → quote text ≡ text → IsAscii text → tree_of text ≡ tree_of_lexemes (lex between text)
unfolding tree_of
text-read text same a =
    ap (λ (t : List ℕ). if is_utf8 t then read t else None) same
    ∙ ap (λ (b : Bool). if b then read text else None) (is_utf8-from_IsUtf8 text (IsUtf8-from_ascii text a))
