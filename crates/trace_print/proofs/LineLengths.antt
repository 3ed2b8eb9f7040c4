-- How long the lines of a run are.
use Rattle.std.proofs.Common.{ℕ, suc, ◌≡◌, ◌+◌, ◌-◌, ◌^◌, ◌<◌, ◌≤◌, true, false, List, [], ◌∷◌, ◌++◌, length, refl, arith, length-append}
use Rattle.std.specs.Prelude.{ℤ, pos, negsuc, nat_lt, nat_le, decimal, Some, codes}
use Rattle.std.specs.Fmt.{signed_decimal}
use Rattle.std.specs.List.{flat_map, sum_by, AllByRecursion}
use Rattle.std.proofs.lemmas.Fmt.{length-decimal-le}
use Rattle.std.proofs.lemmas.Bool.Decides.{nat_tests}
use Rattle.std.proofs.lemmas.List.Sums.{sum_by-cons}
use Rattle.std.proofs.lemmas.List.Concat.{flat_map-append, length-flat_map}
use Rattle.ffm_model.specs.Counts.{ActorCounts}
use Rattle.ffm_model.specs.declared.machine.Call.{Call}
use Rattle.ffm_model.specs.declared.machine.Call.TheVariants as call
use Rattle.ffm_model.specs.declared.machine.Entry.{Entry}
use Rattle.ffm_model.specs.declared.machine.Message.{Message}
use Rattle.ffm_model.specs.declared.machine.Outcome.{Outcome}
use Rattle.ffm_model.specs.declared.machine.Outcome.TheVariants as outcome
use Rattle.ffm_model.specs.declared.system.System.{System}
use Rattle.ffm_model.specs.Actors.{counts_of}
use Rattle.ffm_model.specs.Memory.{ByteMap}
use Rattle.ffm_model.specs.State.{opening}
use Rattle.ffm_model.specs.TraceText.{Field, hexadecimal, unsigned, signed, hexadecimal_word, hexadecimal_digits, Phrase, spaced, spaced_field, spaced_phrase, call_phrase, outcome_phrase, message_phrase, message_front, size_fields, actor_word, entry_text, line, FieldFits, CallFits, OutcomeFits, MessageFits, AreFourSizes, EntryFits}
use Rattle.ffm_model.proofs.ActorLemmas.{few_partitions, few_clients}
use Rattle.trace_print.specs.Fields.{width_of}
use Rattle.trace_print.specs.RunLines.{AreShortLines, RunsHaveShortLines}
use Rattle.trace_print.proofs.Options.{chosen}
use Rattle.trace_print.proofs.Decimals.{short}
use Rattle.trace_print.proofs.Gives.{is_message, is_small, may_give, gives_rightly, each_gives}

-- ---- numbers

hexadecimal_long : (n : ℕ) → length (hexadecimal_word n) ≤ 10
unfolding hexadecimal_word hexadecimal_digits
hexadecimal_long n = omega arith

-- a number of 32 bits has at most ten digits
pub decimal_long : (n : ℕ) → n < 2 ^ 32 → length (decimal n) ≤ 10
decimal_long n lt = length-decimal-le 10 n (omega arith) (omega arith) (omega arith)

signed_long : (z : ℤ) → FieldFits (signed z) → length (signed_decimal z) ≤ 11
signed_long (pos n) fits = let small : n < 2 ^ 31 = fits.sfits in omega (arith, decimal_long n (omega arith))
signed_long (negsuc n) fits = let small : n < 2 ^ 31 = fits.sfits in omega (arith, decimal_long (suc n) (omega arith))

small_long : (z : ℤ) → is_small z ≡ true → length (signed_decimal z) ≤ 10
small_long (pos n) h = let small : n ≤ 0x3fffffff = grind (arith, nat_tests) in decimal_long n (omega arith)
small_long (negsuc n) h = cc

field_long : (f : Field) → FieldFits f → length (spaced_field f) ≤ width_of f
field_long (hexadecimal n) fits = omega (arith, hexadecimal_long n)
field_long (unsigned n) fits = omega (arith, decimal_long n fits)
field_long (signed z) fits = omega (arith, signed_long z fits)

fields_long : (fs : List Field) → AllByRecursion FieldFits fs → length (flat_map spaced_field fs) ≤ sum_by width_of fs
fields_long [] fits = omega arith
fields_long (f ∷ fs) fits = omega (arith, sum_by-cons width_of f fs, length-append (spaced_field f) (flat_map spaced_field fs), field_long f fits.0, fields_long fs fits.1)

-- ---- calls and outcomes

abbrev width : Phrase → ℕ
width p = length (flat_map spaced p.names) + sum_by width_of p.fields

phrase_long : (p : Phrase) → AllByRecursion FieldFits p.fields → length (spaced_phrase p) ≤ width p
phrase_long p fits = omega (arith, length-append (flat_map spaced p.names) (flat_map spaced_field p.fields), fields_long p.fields fits)

call_width : (c : Call) → nat_le (width (call_phrase c)) 73 ≡ true
call_width (call.Stop false) = refl
call_width (call.Stop true) = refl
call_width _ = refl

call_long : (c : Call) → CallFits c → length (spaced_phrase (call_phrase c)) ≤ 73
call_long c fits =
    let narrow : width (call_phrase c) ≤ 73 = let test = call_width c in grind (arith, nat_tests) in
    omega (arith, narrow, phrase_long (call_phrase c) fits)

outcome_long : (o : Outcome) → is_message o ≡ false → OutcomeFits o → length (spaced_phrase (outcome_phrase o)) ≤ 19
outcome_long (outcome.Value z) h fits = omega (arith, phrase_long (outcome_phrase (outcome.Value z)) (fits, tt))
outcome_long (outcome.Number n) h fits = omega (arith, phrase_long (outcome_phrase (outcome.Number n)) (fits, tt))
outcome_long (outcome.Signals n) h fits = omega (arith, phrase_long (outcome_phrase (outcome.Signals n)) (fits, tt))
outcome_long (outcome.Got m) h fits = cc
outcome_long _ h fits = omega arith

-- ---- messages

sizes_long : (s : List ℕ) → AreFourSizes s → length (flat_map spaced_field (size_fields s)) ≤ 44
sizes_long (a ∷ b ∷ c ∷ d ∷ []) fits = fields_long (size_fields (a ∷ b ∷ c ∷ d ∷ [])) (fits.1, (fits.2, (fits.3, (fits.4, tt))))
sizes_long s fits = absurd (omega (arith, fits.0))

front_short : (m : Message) → AllByRecursion FieldFits (message_front m) → is_small m.handle.0 ≡ true → length (flat_map spaced_field (message_front m)) ≤ 46
front_short m fits small =
    omega (
      arith,
      length-flat_map spaced_field (message_front m),
      signed_long m.kind fits.0,
      small_long m.handle.0 small,
      signed_long m.client_id fits.1.1.0,
      hexadecimal_long m.rhandle,
    )

-- a name and three lists of numbers
three_lists : (name : List ℕ) (x y z : List Field) → length (name ++ flat_map spaced_field (x ++ (y ++ z))) ≡ length name + (length (flat_map spaced_field x) + (length (flat_map spaced_field y) + length (flat_map spaced_field z)))
three_lists name x y z = rw (flat_map-append spaced_field x (y ++ z), flat_map-append spaced_field y z) (simp length-append)

message_parts : (m : Message) → length (spaced_phrase (message_phrase m)) ≡ 8 + (length (flat_map spaced_field (message_front m)) + (length (flat_map spaced_field (size_fields m.in_size)) + length (flat_map spaced_field (size_fields m.out_size))))
unfolding message_phrase
message_parts m = three_lists (spaced (codes "message")) (message_front m) (size_fields m.in_size) (size_fields m.out_size)

-- ---- a call and its outcome

with_message : (c : Call) (m : Message) → CallFits c → MessageFits m → may_give c m ≡ true → length (spaced_phrase (call_phrase c)) + length (spaced_phrase (outcome_phrase (outcome.Got m))) ≤ 168
with_message (call.Get signal msg) m fits message h =
    omega (
      arith,
      phrase_long (call_phrase (call.Get signal msg)) fits,
      message_parts m,
      front_short m message.0 h,
      sizes_long m.in_size message.1,
      sizes_long m.out_size message.2,
    )
with_message call.Resume m fits message h = omega (arith, message_parts m, fields_long (message_front m) message.0, sizes_long m.in_size message.1, sizes_long m.out_size message.2)
with_message _ m fits message h = cc

both_long : (c : Call) (o : Outcome) → CallFits c → OutcomeFits o → gives_rightly c o ≡ true → length (spaced_phrase (call_phrase c)) + length (spaced_phrase (outcome_phrase o)) ≤ 168
both_long c (outcome.Got m) call_fits fits h = with_message c m call_fits fits h
both_long c o call_fits fits h = omega (arith, call_long c call_fits, outcome_long o refl fits)

-- ---- lines

actor_long : (counts : ActorCounts) (a : ℕ) → counts.partitions ≤ 32 → counts.clients ≤ 16 → length (actor_word counts a) ≤ 3
unfolding actor_word
actor_long counts a few_p few_n =
    let P : List ℕ → Type 0 = λ w. length w ≤ 3 in
    chosen P (nat_lt a counts.partitions) (codes "p" ++ decimal (a + 1)) _ (λ t. let lt : a < counts.partitions = grind (arith, nat_tests) in omega (arith, short (a + 1) (omega arith))) (λ _.
    chosen P (nat_lt a (counts.partitions + counts.clients)) (codes "n" ++ decimal (a - counts.partitions + 1)) (codes "dev")
    (λ t. let lt : a < counts.partitions + counts.clients = grind (arith, nat_tests) in omega (arith, short (a - counts.partitions + 1) (omega arith))) (λ _. omega arith))

entry_long : (counts : ActorCounts) (e : Entry) → counts.partitions ≤ 32 → counts.clients ≤ 16 → EntryFits counts e → gives_rightly e.call e.outcome ≡ true → length (line (entry_text counts e)) ≤ 175
unfolding entry_text
entry_long counts e few_p few_n fits h =
    omega (arith, length-append {A = ℕ}, actor_long counts e.actor.0 few_p few_n, both_long e.call e.outcome fits.call fits.outcome h)

each_long : (s : System) (es : List Entry) → AllByRecursion (λ e. gives_rightly e.call e.outcome ≡ true) es → AllByRecursion (EntryFits (counts_of s)) es → AreShortLines s es
each_long s [] h fits = tt
each_long s (e ∷ es) h fits = (entry_long (counts_of s) e (few_partitions s) (few_clients s) fits.0 h.0, each_long s es h.1 fits.1)

pub short_lines : (s : System) (m : ByteMap) (es : List Entry) → RunsHaveShortLines s m es
short_lines s m es run fits = each_long s es (each_gives s (Some (opening s m)) es run) fits
