-- What is read of a line is printed so.
use Rattle.std.proofs.Common.{append_assoc, ◌≡◌, ℕ, zero, suc, ◌+◌, ◌-◌, ◌<◌, ◌≤◌, ◌^◌, ◌==◌, Bool, true, false, ◌&&◌, nat_lt, List, [], ◌∷◌, ◌++◌, length, get_or, map, Option, None, Some, refl, sym, ap, ◌∙◌, arith, subst}
use Rattle.std.specs.Prelude.{ℤ, pos, negsuc, IfSome, codes, decimal, nat_le, if◌then◌else◌}
use Rattle.std.specs.Fmt.{signed_decimal}
use Rattle.std.specs.Int.{w32, cast_unsigned}
use Rattle.std.specs.List.{AllByRecursion, join_with_byte}
use Rattle.std.specs.Option.{option_map}
use Rattle.std.specs.Str.{bytes_eq}
use Rattle.std.proofs.lemmas.Bool.{and_parts, lt-ltb, le-ltb}
use Rattle.std.proofs.lemmas.Bool.Decides.{nat_tests}
use Rattle.std.proofs.lemmas.Slice.Eq.{bytes_eq-Decides}
use Rattle.std.proofs.lemmas.List.{append-nil, map-append, nil_from_length}
use Rattle.std.proofs.lemmas.List.Splits.{join_with_byte-slice_split}
use Rattle.ffm_model.specs.Counts.{ActorCounts}
use Rattle.ffm_model.specs.declared.machine.Call.{Call}
use Rattle.ffm_model.specs.declared.machine.Call.TheVariants as call
use Rattle.ffm_model.specs.declared.machine.Entry.{Entry}
use Rattle.ffm_model.specs.declared.machine.Message.{Message}
use Rattle.ffm_model.specs.declared.machine.Outcome.{Outcome}
use Rattle.ffm_model.specs.declared.machine.Outcome.TheVariants as outcome
use Rattle.ffm_model.specs.Binding.{◌>>=◌}
use Rattle.ffm_model.specs.declared.signatures.OperandKind.{OperandKind}
use Rattle.ffm_model.specs.declared.signatures.OperandKind.TheVariants.{Hexadecimal, Unsigned, Signed}
use Rattle.ffm_model.specs.ScriptRuns.{call_of}
use Rattle.ffm_model.specs.Signatures.{Signature, signatures, signature_in}
use Rattle.ffm_model.specs.TraceText.{Word, FieldFits, field_word, hexadecimal_word, call_phrase, outcome_phrase, message_phrase, message_front, size_fields, actor_word, entry_text, IsU32, IsI32, IsActorOf, CallFits, OutcomeFits, MessageFits, AreFourSizes, EntryFits}
use Rattle.ffm_model.proofs.SignatureLemmas.{IsFilled, fields_from, field_from, filled, found, signed_again as bits_again}
use Rattle.trace_print.specs.Numbers.{unsigned_of, hexadecimal_of, signed_of, positive, negative}
use Rattle.trace_print.specs.View.{parts}
use Rattle.trace_print.specs.Reading.{first_by, unsigned_at, hexadecimal_at, signed_at, operand_of, operands_at, call_by, call_with, call_at, event_named, stop_at, spent_of, outcome_at, outcome_named, value_at, number_at, signals_at, message_at, sizes_at, place_of, actor_of, after_arrow, entry_at, entry_of}
use Rattle.trace_print.proofs.Options.{Gives, done, nothing, after, either, when, weaker, given_is}
use Rattle.trace_print.proofs.DecimalDigits.{unsigned_word}
use Rattle.trace_print.proofs.HexadecimalDigits.{hexadecimal_number}
use Rattle.trace_print.proofs.Again.{phrase_words}
use Rattle.trace_print.proofs.Entries.{entry_words, split_again}

-- ---- numbers

positive_word : (w : Word) (n : ℕ) → w ≡ decimal n → Gives (positive n) (λ z. (w ≡ signed_decimal z) × IsI32 z)
positive_word w n e = when (nat_lt n (2 ^ 31)) (Some (pos n)) _ (λ t. let small : n < 2 ^ 31 = grind (arith, nat_tests, t) in done (pos n) _ (e, record { sfits = small }))

negative_word : (bs : Word) (n : ℕ) → bs ≡ decimal n → Gives (negative n) (λ z. (45 ∷ bs ≡ signed_decimal z) × IsI32 z)
negative_word bs zero e = nothing _
negative_word bs (suc n) e =
    let Q : ℤ → Type 0 = λ z. (45 ∷ bs ≡ signed_decimal z) × IsI32 z in
    when (nat_le 1 (suc n) && nat_le (suc n) (2 ^ 31)) (Some (negsuc n)) Q (λ t. let small : n < 2 ^ 31 = grind (arith, nat_tests, t) in done (negsuc n) Q (ap (λ (ds : List ℕ). 45 ∷ ds) e, record { sfits = small }))

signed_word : (w : Word) → Gives (signed_of w) (λ z. (w ≡ signed_decimal z) × IsI32 z)
signed_word [] = nothing _
signed_word (b ∷ bs) =
    either (b == 45) (unsigned_of bs >>= negative) (unsigned_of (b ∷ bs) >>= positive) _ (λ t.
    let minus : b ≡ 45 = grind (arith, nat_tests, t) in
    after (unsigned_of bs) negative _ _ (unsigned_word bs) (λ n is. subst (λ (m : ℕ). Gives (negative n) (λ z. (m ∷ bs ≡ signed_decimal z) × IsI32 z)) (sym minus) (negative_word bs n is.0)))
    (after (unsigned_of (b ∷ bs)) positive _ _ (unsigned_word (b ∷ bs)) (λ n is. positive_word (b ∷ bs) n is.0))

-- ---- words

-- what is read of words after a front: the front and the words are what it spells and the words that are left, and it is in range
After : {X : Type 0} → (X → List Word) → (X → Type 0) → Option (X × List Word) → List Word → List Word → Type 0
After spell Fits o front ws = Gives o (λ a. (front ++ ws ≡ spell a.0 ++ a.1) × Fits a.0)

-- the same of a reader, after no front
record Reads {X : Type 0} (read : List Word → Option (X × List Word)) (spell : X → List Word) (Fits : X → Type 0) : Type 0 where
  pub each : (ws : List Word) → After spell Fits (read ws) [] ws

-- what a reader gives belongs to the front of what is read next
next : {X : Type 0} (Y : Type 0) {read : List Word → Option (X × List Word)} {spell : X → List Word} {Fits : X → Type 0} → Reads read spell Fits → (S : Y → List Word) (F : Y → Type 0) (front ws : List Word)
    → (f : X × List Word → Option (Y × List Word)) → ((x : X) (rest : List Word) → Fits x → After S F (f (x, rest)) (front ++ spell x) rest) → After S F (read ws >>= f) front ws
unfolding After
next Y {spell = spell} reads S F front ws f k =
    after _ f _ _ (reads.each ws) (λ a is.
    let e : (front ++ spell a.0) ++ a.1 ≡ front ++ ws = append_assoc front (spell a.0) a.1 ∙ ap (λ (v : List Word). front ++ v) (sym is.0) in
    subst (λ (v : List Word). Gives (f a) (λ r. (v ≡ S r.0 ++ r.1) × F r.0)) e (k a.0 a.1 is.1))

-- the front says it all
said : {Y : Type 0} (S : Y → List Word) (F : Y → Type 0) (y : Y) (front rest : List Word) → front ≡ S y → F y → After S F (Some (y, rest)) front rest
unfolding After Gives
said S F y front rest e h = (ap (λ (v : List Word). v ++ rest) e, h)

none_read : {Y : Type 0} (S : Y → List Word) (F : Y → Type 0) (front ws : List Word) → After S F None front ws
unfolding After Gives
none_read S F front ws = tt

-- that several numbers are in range is a pair of facts
pair : {A B : Type 0} → A → B → A × B
pair a b = (a, b)

-- where a name is a word, or else another
named : {Y : Type 0} (S : Y → List Word) (F : Y → Type 0) (name word : Word) (ws : List Word) (p q : Option (Y × List Word)) → After S F p (word ∷ []) ws → After S F q (name ∷ []) ws
    → After S F (if bytes_eq name word then p else q) (name ∷ []) ws
unfolding After
named S F name word ws p q h k = either (bytes_eq name word) p q _ (λ t. subst (λ (w : Word). After S F p (w ∷ []) ws) (sym ((bytes_eq-Decides name word).0 t)) h) k

first_reads : {X : Type 0} (f : Word → Option X) (spell : X → Word) (Fits : X → Type 0) → ((w : Word) → Gives (f w) (λ x. (w ≡ spell x) × Fits x)) → Reads (first_by f) (λ x. spell x ∷ []) Fits
unfolding After
first_reads {X} f spell Fits each = record {
  each = elim [ [] ↦ nothing _ | w ∷ ws ↦ after (f w) (λ (x : X). Some (x, ws)) _ _ (each w) (λ x is. done (x, ws) _ (ap (λ (v : Word). v ∷ ws) is.0, is.1)) ];
}

unsigned_reads : Reads unsigned_at (λ n. decimal n ∷ []) IsU32
unsigned_reads = first_reads unsigned_of decimal IsU32 unsigned_word

hexadecimal_reads : Reads hexadecimal_at (λ n. hexadecimal_word n ∷ []) IsU32
hexadecimal_reads = first_reads hexadecimal_of hexadecimal_word IsU32 hexadecimal_number

signed_reads : Reads signed_at (λ z. signed_decimal z ∷ []) IsI32
signed_reads = first_reads signed_of signed_decimal IsI32 signed_word

-- ---- calls

abbrev call_words : Call → List Word
call_words c = phrase_words (call_phrase c)

spent_is : Bool → Word
spent_is spent = if spent then codes "spent" else codes "end"

spent_word : (w : Word) → Gives (spent_of w) (λ spent. (w ≡ spent_is spent) × Unit {0})
unfolding spent_is
spent_word w =
    either (bytes_eq w (codes "end")) (Some false) _ _ (λ t. done false _ ((bytes_eq-Decides w (codes "end")).0 t, tt))
    (when (bytes_eq w (codes "spent")) (Some true) _ (λ t. done true _ ((bytes_eq-Decides w (codes "spent")).0 t, tt)))

spent_reads : Reads (first_by spent_of) (λ spent. spent_is spent ∷ []) (λ spent. Unit {0})
spent_reads = first_reads spent_of spent_is (λ spent. Unit {0}) spent_word

stop_said : (spent : Bool) (rest : List Word) → After call_words CallFits (Some (call.Stop spent, rest)) (codes "stop" ∷ spent_is spent ∷ []) rest
unfolding spent_is
stop_said true rest = said call_words CallFits (call.Stop true) _ rest refl tt
stop_said false rest = said call_words CallFits (call.Stop false) _ rest refl tt

signed_operand : (w : Word) (o : Option ℤ) → Gives o (λ z. (w ≡ signed_decimal z) × IsI32 z) → Gives (option_map (cast_unsigned w32) o) (λ n. (w ≡ field_word (field_from Signed n)) × FieldFits (field_from Signed n))
unfolding Gives
signed_operand w (Some z) h = rw (bits_again z h.1) h
signed_operand w None h = tt

operand_word : (k : OperandKind) (w : Word) → Gives (operand_of k w) (λ n. (w ≡ field_word (field_from k n)) × FieldFits (field_from k n))
operand_word Hexadecimal w = hexadecimal_number w
operand_word Unsigned w = unsigned_word w
operand_word Signed w = signed_operand w (signed_of w) (signed_word w)

-- the words that operands of these kinds are
Spelled : List OperandKind → List Word → List ℕ × List Word → Type 0
Spelled ks ws r = (ws ≡ map field_word (fields_from ks (λ i. get_or r.0 i 0)) ++ r.1) × AllByRecursion FieldFits (fields_from ks (λ i. get_or r.0 i 0))

operands_words : (ks : List OperandKind) (ws : List Word) → Gives (operands_at ks ws) (Spelled ks ws)
unfolding operands_at Spelled
operands_words [] ws = done ([], ws) _ (refl, tt)
operands_words (k ∷ ks) [] = nothing _
operands_words (k ∷ ks) (w ∷ ws) =
    after (operand_of k w >>= λ x. Some (x, ws)) _ (λ n. (w ≡ field_word (field_from k n.0)) × FieldFits (field_from k n.0) × (n.1 ≡ ws)) _ (after (operand_of k w) _ _ _ (operand_word k w) (λ n is. done (n, ws) _ (is.0, is.1, refl))) (λ n is.
    after (operands_at ks n.1) _ _ _ (operands_words ks n.1) (λ ns are.
    done (n.0 ∷ ns.0, ns.1) _ (rw (is.0, ← is.2) (ap (λ (v : List Word). field_word (field_from k n.0) ∷ v) are.0), (is.1, are.1))))

event_reads : (name : Word) (ws : List Word) → After call_words CallFits (event_named name ws) (name ∷ []) ws
unfolding event_named stop_at
event_reads name ws = search (named, said, pair, tt, none_read, next Call spent_reads, stop_said) depth 20

call_with_reads : (o : Option Signature) (name : Word) (ws : List Word) → IfSome o (λ s. (s.word ≡ name) × IsFilled s) → After call_words CallFits (call_with o name ws) (name ∷ []) ws
unfolding After Spelled call_by
call_with_reads None name ws h = event_reads name ws
call_with_reads (Some s) name ws h =
    after (operands_at s.kinds ws) _ _ _ (operands_words s.kinds ws) (λ ns are.
    let made = h.1 (λ i. get_or ns.0 i 0) in
    done (call_of s.name (λ i. get_or ns.0 i 0), ns.1) _ (rw (made.0, made.2, h.0) (ap (λ (v : List Word). name ∷ v) are.0), rw made.2 are.1))

call_reads : (ws : List Word) → After call_words CallFits (call_at ws) [] ws
unfolding After
call_reads [] = nothing _
call_reads (name ∷ ws) = call_with_reads (signature_in signatures name) name ws (found IsFilled signatures name filled)

-- ---- outcomes

sizes_words : List ℕ → List Word
sizes_words sizes = map field_word (size_fields sizes)

sizes_reads : Reads sizes_at sizes_words AreFourSizes
unfolding sizes_at sizes_words
sizes_reads = record { each = search (said, next (List ℕ) unsigned_reads) depth 10 }

abbrev outcome_words : Outcome → List Word
outcome_words o = phrase_words (outcome_phrase o)

message_said : (m : Message) (rest : List Word) → MessageFits m
    → After outcome_words OutcomeFits (Some (outcome.Got m, rest)) (codes "message" ∷ map field_word (message_front m) ++ (sizes_words m.in_size ++ sizes_words m.out_size)) rest
unfolding message_phrase sizes_words
message_said m rest fits = said outcome_words OutcomeFits (outcome.Got m) _ rest (simp map-append) fits

outcome_named_reads : (name : Word) (ws : List Word) → After outcome_words OutcomeFits (outcome_named name ws) (name ∷ []) ws
unfolding outcome_named value_at number_at signals_at message_at
outcome_named_reads name ws = search (named, said, tt, message_said, none_read, next Outcome hexadecimal_reads, next Outcome unsigned_reads, next Outcome signed_reads, next Outcome sizes_reads) depth 24

outcome_reads : (ws : List Word) → After outcome_words OutcomeFits (outcome_at ws) [] ws
unfolding After
outcome_reads [] = nothing _
outcome_reads (name ∷ ws) = outcome_named_reads name ws

-- ---- actors

place_word : (count : ℕ) (digits : Word) → Gives (place_of count digits) (λ k. (digits ≡ decimal (k + 1)) × (k < count))
place_word count digits =
    after (unsigned_of digits) _ _ _ (unsigned_word digits) (λ n is.
    when (nat_le 1 n && nat_le n count) (Some (n - 1)) _ (λ t.
    let some : 1 ≤ n = grind (arith, nat_tests, t) in
    let few : n ≤ count = grind (arith, nat_tests, t) in
    let same : n - 1 + 1 ≡ n = omega (arith, some) in
    done (n - 1) _ (is.0 ∙ ap decimal (sym same), omega (arith, some, few))))

abbrev ActorRead : ActorCounts → Word → ℕ → Type 0
ActorRead counts w a = (w ≡ actor_word counts a) × IsActorOf counts a

partition_word : (counts : ActorCounts) (digits : Word) (k : ℕ) → digits ≡ decimal (k + 1) → k < counts.partitions → ActorRead counts (112 ∷ digits) k
unfolding actor_word
partition_word counts digits k is lt = (rw (lt-ltb k counts.partitions lt, is) refl, omega (arith, lt))

client_word : (counts : ActorCounts) (digits : Word) (k : ℕ) → digits ≡ decimal (k + 1) → k < counts.clients → ActorRead counts (110 ∷ digits) (counts.partitions + k)
unfolding actor_word
client_word counts digits k is lt =
    let a : ℕ = counts.partitions + k in
    let past : counts.partitions ≤ a = omega arith in
    let within : a < counts.partitions + counts.clients = omega (arith, lt) in
    let same : counts.partitions + k - counts.partitions ≡ k = omega arith in
    (rw (le-ltb a counts.partitions past, lt-ltb a (counts.partitions + counts.clients) within, same, is) refl, omega (arith, within))

device_word : (counts : ActorCounts) (w : Word) → w ≡ codes "dev" → counts.device ≡ true → ActorRead counts w (counts.partitions + counts.clients)
unfolding actor_word
device_word counts w is device =
    let a : ℕ = counts.partitions + counts.clients in
    let past : counts.partitions ≤ a = omega arith in
    let last : a ≤ a = omega arith in
    (rw (le-ltb a counts.partitions past, le-ltb a a last) is, rw device (omega arith))

actor_reads : (counts : ActorCounts) (w : Word) → Gives (actor_of counts w) (ActorRead counts w)
unfolding actor_of
actor_reads counts [] = nothing _
actor_reads counts (b ∷ digits) =
    let Q : ℕ → Type 0 = ActorRead counts (b ∷ digits) in
    let moved : (c : ℕ) → (b == c) ≡ true → (a : ℕ) → ActorRead counts (c ∷ digits) a → Q a =
    λ c t a h. (let is : b ≡ c = grind (arith, nat_tests, t) in subst (λ (m : ℕ). ActorRead counts (m ∷ digits) a) (sym is) h) in
    either (b == 112) (place_of counts.partitions digits) _ Q (λ t.
    weaker _ _ Q (λ k h. moved 112 t k (partition_word counts digits k h.0 h.1)) (place_word counts.partitions digits))
    (either (b == 110) (place_of counts.clients digits >>= λ k. Some (counts.partitions + k)) _ Q (λ t.
    after _ (λ k. Some (counts.partitions + k)) _ Q (place_word counts.clients digits) (λ k h. done _ Q (moved 110 t (counts.partitions + k) (client_word counts digits k h.0 h.1))))
    (when (counts.device && bytes_eq (b ∷ digits) (codes "dev")) (Some (counts.partitions + counts.clients)) Q (λ t.
    let both = and_parts counts.device (bytes_eq (b ∷ digits) (codes "dev")) t in
    done (counts.partitions + counts.clients) Q (device_word counts (b ∷ digits) ((bytes_eq-Decides (b ∷ digits) (codes "dev")).0 both.1) both.0))))

-- ---- entries

arrow_reads : (ws : List Word) → Gives (after_arrow ws) (λ rest. ws ≡ codes "->" ∷ rest)
arrow_reads [] = nothing _
arrow_reads (w ∷ ws) = when (bytes_eq w (codes "->")) (Some ws) _ (λ t. done ws _ (ap (λ (v : Word). v ∷ ws) ((bytes_eq-Decides w (codes "->")).0 t)))

entry_reads : (counts : ActorCounts) (ws : List Word) → Gives (entry_at counts ws) (λ e. (ws ≡ actor_word counts e.actor.0 ∷ entry_words counts e) × EntryFits counts e)
unfolding entry_at entry_words After
entry_reads counts ws =
    after (first_by (actor_of counts) ws) _ _ _ ((first_reads (actor_of counts) (actor_word counts) (IsActorOf counts) (actor_reads counts)).each ws) (λ a a_is.
    after (call_at a.1) _ _ _ (call_reads a.1) (λ c c_is.
    after (after_arrow c.1) _ _ _ (arrow_reads c.1) (λ r r_is.
    after (outcome_at r) _ _ _ (outcome_reads r) (λ o o_is.
    when (length o.1 == 0) (Some (record { actor = record { 0 = a.0 }; call = c.0; outcome = o.0 })) _ (λ t.
    let last : o.1 ≡ [] = nil_from_length o.1 (grind (arith, nat_tests, t)) in
    let words : r ≡ phrase_words (outcome_phrase o.0) = o_is.0 ∙ ap (λ (v : List Word). phrase_words (outcome_phrase o.0) ++ v) last ∙ append-nil (phrase_words (outcome_phrase o.0)) in
    done _ _ (rw (← words, ← r_is, ← c_is.0) a_is.0, record { actor = a_is.1; call = c_is.1; outcome = o_is.1 }))))))

joined : (counts : ActorCounts) (text : List ℕ) (e : Entry) → parts 32 text ≡ actor_word counts e.actor.0 ∷ entry_words counts e → text ≡ entry_text counts e
joined counts text e is = sym (join_with_byte-slice_split 32 text) ∙ ap (join_with_byte 32) (is ∙ sym (split_again counts e)) ∙ join_with_byte-slice_split 32 (entry_text counts e)

-- the text is that of the entry that is read
pub text_of : (counts : ActorCounts) (text : List ℕ) (e : Entry) → entry_of counts text ≡ Some e → text ≡ entry_text counts e
unfolding entry_of
text_of counts text e read = joined counts text e (given_is (entry_at counts (parts 32 text)) _ e (entry_reads counts (parts 32 text)) read).0

-- and the entry is in range
pub read_fits : (counts : ActorCounts) (text : List ℕ) (r : Option Entry) → r ≡ entry_of counts text → IfSome r (EntryFits counts)
unfolding entry_of
read_fits counts text None read = tt
read_fits counts text (Some e) read = (given_is (entry_at counts (parts 32 text)) _ e (entry_reads counts (parts 32 text)) (sym read)).1
