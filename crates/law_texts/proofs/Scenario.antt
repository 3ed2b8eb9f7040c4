-- What the generated scenario file says. Of the number of rounds it depends in one line of each client alone.
use Rattle.std.proofs.Common.{ℕ, ◌≡◌, ◌+◌, ◌-◌, ◌^◌, ◌<◌, true, List, [], ◌∷◌, ◌++◌, map, refl, ap, ap₂, sym, ◌∙◌, append_assoc, append-nil, arith, length, take}
use Rattle.std.specs.Prelude.{Option, Some, None, Result, Ok, codes}
use Rattle.std.specs.Fmt.{decimal, digits}
use Rattle.std.specs.List.{flat_map, list_all}
use Rattle.std.specs.Char.{digit_value}
use Rattle.std.specs.Str.{chars}
use Rattle.std.specs.Str.Parse.{AllDigits}
use Rattle.std.proofs.lemmas.Bool.{and_from}
use Rattle.std.proofs.lemmas.Bool.Decides.{nat_tests}
use Rattle.std.proofs.lemmas.Fmt.{decimal_is_IsNumeral}
use Rattle.std.proofs.lemmas.Str.{IsAscii-append}
use Rattle.std.proofs.lemmas.Grind.{flat_map-append}
use Rattle.json.specs.Lex as lexer
use Rattle.json.specs.Lex.{Lexeme, between, lex}
use Rattle.json.specs.Word.{word}
use Rattle.json.specs.Token as token
use Rattle.serde_json.specs.Data.{Data}
use Rattle.serde_json.proofs.OnLiterals.{serde_json_on_literals}
use Rattle.ffm_model.specs.declared.scenario.Bytes.{Bytes}
use Rattle.ffm_model.specs.declared.scenario.Scenario.{Scenario}
use Rattle.ffm_model.specs.declared.script_item.ScriptItem.{ScriptItem}
use Rattle.ffm_model.specs.Attributes.{boolean_of, items_after, list_after, list_up_to, name_of, number_of, object_of, placed, whole, whole_between}
use Rattle.ffm_model.specs.Keys.{key_text}
use Rattle.ffm_model.specs.Quote.{quote, outside, is_fraction_byte, is_marked, is_run_byte, quoted}
use Rattle.ffm_model.specs.Scenarios.{actor_names, bytes_of, hex_bytes, line_of, new_actor_of, scenario_from, scenario_in, scenario_of, scenario_with, script_of}
use Rattle.ffm_model.specs.Systems.{stopped}
use Rattle.ffm_model.specs.Trees.{tree_of}
use Rattle.ffm_model.specs.Texts.{hex_number, is_name}
use Rattle.ffm_model.specs.declared.place.PartRefusal.{PartRefusal}
use Rattle.ffm_model.specs.declared.place.Root.TheVariants as root
use Rattle.system_texts.specs.Texts.{client_base, client_script, comma, descriptors, joined, memory_text, numbers, partition_base, partition_script, scenario_text, scripts_text}
use Rattle.law_texts.proofs.Made.{made_system}
use Rattle.law_texts.proofs.Pieces.{AreClean, ascii-bytes, is_ascii_text, Piece, filled, is_plain, lexemes_of, string_text, text_of, text-ascii, text-lexed, text-quoted, text-read, tree_of_lexemes}

-- the line that sets the number of rounds
abbrev pub rounds_line : ℕ → List ℕ
rounds_line rounds = codes "set r6 " ++ decimal rounds

-- ---- the text in pieces

-- what stands before the line, and behind it, in the script of a client
abbrev front_parts : ℕ → List (List ℕ)
front_parts n = comma n ∷ codes "{\"actor\":\"N" ∷ decimal n ∷ codes "\",\"lines\":[\"connect " ∷ decimal (4096 + n) ∷ codes " 1\",\"set r5 r0\"," ∷ []

abbrev line_parts : ℕ → List (List ℕ)
line_parts rounds = (34 ∷ codes "set r6 ") ∷ decimal rounds ∷ (34 ∷ []) ∷ []

abbrev rest_parts : ℕ → List (List ℕ)
rest_parts base = codes ",\"again:\",\"call r5 0 " ∷ decimal base ∷ codes " 1 " ∷ decimal (base + 8) ∷ codes " 1\",\"sub r6 1\",\"jne r6 0 again\",\"close r5\"]}" ∷ []

abbrev partition_text : ℕ → List ℕ
partition_text n = partition_script n (partition_base n)

abbrev unit : ℕ → List Piece
unit n = Some (joined (front_parts n)) ∷ None ∷ Some (joined (rest_parts (client_base n)) ++ partition_text n) ∷ []

abbrev end_text : List ℕ
end_text = codes "],\"memory\":[" ++ (flat_map memory_text numbers ++ codes "]}")

abbrev pieces : List Piece
pieces = flat_map unit numbers

abbrev lead_text : List ℕ
lead_text = codes "{\"event_limit\":262144,\"scripts\":["

joined-append : (xs ys : List (List ℕ)) → joined (xs ++ ys) ≡ joined xs ++ joined ys
joined-append xs ys = flat_map-append (λ part. part) xs ys

client-parts : (rounds n base : ℕ) → client_script rounds n base ≡ joined (front_parts n ++ (line_parts rounds ++ rest_parts base))
unfolding client_script
client-parts rounds n base = refl

client-text : (rounds n base : ℕ) → client_script rounds n base ≡ joined (front_parts n) ++ (string_text (rounds_line rounds) ++ joined (rest_parts base))
client-text rounds n base =
    client-parts rounds n base
    ∙ joined-append (front_parts n) (line_parts rounds ++ rest_parts base)
    ∙ ap (λ (text : List ℕ). joined (front_parts n) ++ text) (joined-append (line_parts rounds) (rest_parts base))

unit-text : (rounds n : ℕ) → text_of (rounds_line rounds) (unit n) ≡ scripts_text rounds n
unfolding scripts_text
unit-text rounds n =
    let front : List ℕ = joined (front_parts n) in
    let line : List ℕ = string_text (rounds_line rounds) in
    let rest : List ℕ = joined (rest_parts (client_base n)) in
    let after : List ℕ = partition_text n in
    ap (λ (text : List ℕ). front ++ (line ++ text)) (append-nil (rest ++ after))
    ∙ ap (λ (text : List ℕ). front ++ text) (sym (append_assoc line rest after))
    ∙ sym (append_assoc front (line ++ rest) after)
    ∙ ap (λ (text : List ℕ). text ++ after) (sym (client-text rounds n (client_base n)))

units-text : (rounds : ℕ) (ns : List ℕ) → text_of (rounds_line rounds) (flat_map unit ns) ≡ flat_map (scripts_text rounds) ns
units-text rounds [] = refl
units-text rounds (n ∷ ns) =
    flat_map-append (filled (rounds_line rounds)) (unit n) (flat_map unit ns)
    ∙ ap₂ (λ (xs ys : List ℕ). xs ++ ys) (unit-text rounds n) (units-text rounds ns)

scenario-text : (rounds : ℕ) → scenario_text rounds ≡ lead_text ++ (text_of (rounds_line rounds) pieces ++ end_text)
unfolding scenario_text
scenario-text rounds = ap (λ (text : List ℕ). lead_text ++ (text ++ end_text)) (sym (units-text rounds numbers))

-- ---- the pieces stand for themselves

pieces-clean : AreClean pieces
unfolding
    serde_json_on_literals chars digits quoted is_marked is_run_byte is_fraction_byte
    numbers client_base partition_base partition_script
pieces-clean = record { quotes = λ u. refl; lexes = λ u. refl; ascii = refl }

lead-quoted : (u : List ℕ) → quoted outside (lead_text ++ u) ≡ lead_text ++ quoted outside u
unfolding chars quoted is_marked is_run_byte is_fraction_byte
lead-quoted u = refl

end-quoted : quoted outside end_text ≡ end_text
unfolding chars digits quoted is_marked is_run_byte is_fraction_byte numbers client_base memory_text descriptors
end-quoted = refl

limit-word : (u : List ℕ) → word (codes "262144," ++ u) ≡ token.number (codes "262144")
unfolding serde_json_on_literals chars
limit-word u =
    let e : length (codes "262144," ++ u) - length (codes "," ++ u) ≡ 6 = omega arith in
    ap (λ (k : ℕ). token.number (take k (codes "262144," ++ u))) e

abbrev lead_lexemes : token.Token → List Lexeme
lead_lexemes limit =
    lexer.token token.begin_object ∷ lexer.token (token.string (codes "event_limit")) ∷ lexer.colon ∷ lexer.token limit ∷ lexer.comma
    ∷ lexer.token (token.string (codes "scripts")) ∷ lexer.colon ∷ lexer.token token.begin_array ∷ []

lead-lexed : (u : List ℕ) → lex between (lead_text ++ u) ≡ lex between lead_text ++ lex between u
unfolding serde_json_on_literals chars
lead-lexed u = ap (λ (limit : token.Token). lead_lexemes limit ++ lex between u) (limit-word (codes "\"scripts\":[" ++ u))

-- ---- the tree

digit-plain : (b : ℕ) → digit_value b < 10 → is_plain b ≡ true
digit-plain b d = grind (arith, nat_tests, d)

digits-plain : (ds : List ℕ) → AllDigits 10 ds → list_all is_plain ds ≡ true
digits-plain [] d = refl
digits-plain (b ∷ ds) d = and_from _ _ (digit-plain b d.0) (digits-plain ds d.1)

pub line-plain : (rounds : ℕ) → rounds < 2 ^ 32 → list_all is_plain (rounds_line rounds) ≡ true
unfolding chars
line-plain rounds small = digits-plain (decimal rounds) (decimal_is_IsNumeral rounds (omega arith)).0.1

-- the lexemes of the whole text, with this string in its holes
abbrev made_lexemes : List ℕ → List Lexeme
made_lexemes ws = lex between lead_text ++ (lexemes_of (lexer.token (token.string ws)) pieces ++ lex between end_text)

text-kept : (ws : List ℕ) → list_all is_plain ws ≡ true → quote (lead_text ++ (text_of ws pieces ++ end_text)) ≡ lead_text ++ (text_of ws pieces ++ end_text)
text-kept ws e =
    lead-quoted (text_of ws pieces ++ end_text)
    ∙ ap (λ (text : List ℕ). lead_text ++ text) (text-quoted ws pieces end_text e pieces-clean ∙ ap (λ (text : List ℕ). text_of ws pieces ++ text) end-quoted)

lexed : (ws : List ℕ) → list_all is_plain ws ≡ true → lex between (lead_text ++ (text_of ws pieces ++ end_text)) ≡ made_lexemes ws
lexed ws e = lead-lexed (text_of ws pieces ++ end_text) ∙ ap (λ (ls : List Lexeme). lex between lead_text ++ ls) (text-lexed ws pieces end_text e pieces-clean)

end-ascii : is_ascii_text end_text ≡ true
unfolding chars digits numbers client_base memory_text descriptors
end-ascii = refl

lead-ascii : is_ascii_text lead_text ≡ true
unfolding chars
lead-ascii = refl

tree-read : (ws : List ℕ) → list_all is_plain ws ≡ true → tree_of (lead_text ++ (text_of ws pieces ++ end_text)) ≡ tree_of_lexemes (made_lexemes ws)
tree-read ws e =
    text-read (lead_text ++ (text_of ws pieces ++ end_text)) (text-kept ws e)
    (IsAscii-append lead_text _ (ascii-bytes lead_text lead-ascii) (IsAscii-append (text_of ws pieces) end_text (text-ascii ws pieces e pieces-clean.ascii) (ascii-bytes end_text end-ascii)))
    ∙ ap tree_of_lexemes (lexed ws e)

-- ---- the scenario

abbrev client_lines : List ℕ → ℕ → List (List ℕ)
client_lines ws n =
    (codes "connect " ++ (decimal (4096 + n) ++ codes " 1")) ∷ codes "set r5 r0" ∷ ws ∷ codes "again:"
    ∷ (codes "call r5 0 " ++ (decimal (client_base n) ++ (codes " 1 " ++ (decimal (client_base n + 8) ++ codes " 1"))))
    ∷ codes "sub r6 1" ∷ codes "jne r6 0 again" ∷ codes "close r5" ∷ []

abbrev partition_lines : ℕ → List (List ℕ)
partition_lines n =
    codes "top:" ∷ codes "wait 4294967295 2147483648" ∷ (codes "get r0 " ++ decimal (partition_base n)) ∷ codes "jeq r1 0 req"
    ∷ codes "reply r2 0" ∷ codes "jmp top" ∷ codes "req:" ∷ (codes "read r2 0 " ++ (decimal (partition_base n + 256) ++ codes " 4"))
    ∷ (codes "write r2 0 " ++ (decimal (partition_base n + 256) ++ codes " 4")) ∷ codes "reply r2 0" ∷ codes "jmp top" ∷ []

-- the scripts of a client and of the partition that it asks; partitions are the first actors
abbrev script_items : List ℕ → ℕ → List ScriptItem
script_items ws n =
    record { actor = record { 0 = 15 + n }; lines = client_lines ws n }
    ∷ record { actor = record { 0 = n - 1 }; lines = partition_lines n } ∷ []

abbrev memory_item : ℕ → Bytes
memory_item n = record { address = client_base n; content = 32 ∷ (n - 1) ∷ 0 ∷ 32 ∷ 4 ∷ 0 ∷ 0 ∷ 0 ∷ 48 ∷ (n - 1) ∷ 0 ∷ 32 ∷ 4 ∷ 0 ∷ 0 ∷ 0 ∷ [] }

-- with this line in each client's script
abbrev pub made_scenario : List ℕ → Scenario
made_scenario ws = scenario_with made_system 262144 (flat_map (script_items ws) numbers) [] [] (map memory_item numbers) 0

tree-told : (ws : List ℕ) → scenario_from made_system (tree_of_lexemes (made_lexemes ws)) ≡ Ok (made_scenario ws)
unfolding
    serde_json_on_literals chars digits numbers client_base partition_base partition_script memory_text descriptors
    key_text is_name hex_number boolean_of items_after list_after list_up_to name_of number_of object_of whole whole_between
    actor_names bytes_of hex_bytes line_of new_actor_of scenario_of script_of
tree-told ws = refl

pub scenario-read : (rounds : ℕ) → rounds < 2 ^ 32 → stopped (scenario_in made_system (scenario_text rounds)) ≡ Ok (made_scenario (rounds_line rounds))
unfolding scenario_in
scenario-read rounds small =
    let ws : List ℕ = rounds_line rounds in
    ap (λ (text : List ℕ). stopped (placed root.Scenario [] (scenario_from made_system (tree_of text)))) (scenario-text rounds)
    ∙ ap (λ (d : Option Data). stopped (placed root.Scenario [] (scenario_from made_system d))) (tree-read ws (line-plain rounds small))
    ∙ ap (λ (r : Result Scenario PartRefusal). stopped (placed root.Scenario [] r)) (tree-told ws)
