-- What is passed as it is, and what is written with marks.
use Rattle.std.proofs.Common.{◌≡◌, ◌<◌, ◌≤◌, ◌+◌, ℕ, Bool, true, false, List, [], ◌∷◌, ◌++◌, length, take, drop, get_or, arith, min, refl, sym, ap, ◌∙◌, append_assoc, add-zero, one-add}
use Rattle.std.specs.List.{prefix_len, take_while}
use Rattle.std.proofs.lemmas.Bool.Decides.{nat_tests}
use Rattle.std.proofs.lemmas.List.{append-nil, drop-drop, get_or-drop, length-append, length-drop, length-take-le, nil_from_length, take-append-drop, take_at}
use Rattle.std.proofs.lemmas.List.Sums.{prefix_len-le-length}
use Rattle.ffm_model.specs.Quote.{Where, outside, in_run, in_string, is_fraction_byte, is_run_byte, is_marked, marks, after_other, quoted, quote}
use Rattle.manifest_json.specs.Leads.{Leads, is_text_byte, is_other_byte}

-- ---- runs

-- the front of a list that is run bytes, and what follows it
abbrev run : List ℕ → List ℕ
run bs = take_while is_run_byte bs

abbrev behind : List ℕ → List ℕ
behind bs = drop (prefix_len is_run_byte bs) bs

run_from : (b : ℕ) (bs : List ℕ) → is_run_byte b ≡ true → run (b ∷ bs) ≡ b ∷ run bs
run_from b bs is = rw (is, one-add) refl

after_from : (b : ℕ) (bs : List ℕ) → is_run_byte b ≡ true → behind (b ∷ bs) ≡ behind bs
after_from b bs is = rw (is, one-add) refl

no_run_from : (b : ℕ) (bs : List ℕ) → is_run_byte b ≡ false → run (b ∷ bs) ≡ []
no_run_from b bs is = rw is refl

all_after : (b : ℕ) (bs : List ℕ) → is_run_byte b ≡ false → behind (b ∷ bs) ≡ b ∷ bs
all_after b bs is = rw is refl

in_run_at : (marked : Bool) (b : ℕ) (bs : List ℕ) (t : Bool) → is_run_byte b ≡ t → quoted (in_run marked) bs ≡ run bs ++ (marks marked ++ quoted outside (behind bs))
    → quoted (in_run marked) (b ∷ bs) ≡ run (b ∷ bs) ++ (marks marked ++ quoted outside (behind (b ∷ bs)))
unfolding quoted
in_run_at marked b bs true is later =
    let step : quoted (in_run marked) (b ∷ bs) ≡ b ∷ quoted (in_run marked) bs = rw is refl in
    step ∙ ap (λ x. b ∷ x) later ∙ sym (rw (run_from b bs is, after_from b bs is) refl)
in_run_at marked b bs false is later =
    let step : quoted (in_run marked) (b ∷ bs) ≡ marks marked ++ b ∷ quoted (after_other b) bs = rw is refl in
    let other : quoted outside (b ∷ bs) ≡ b ∷ quoted (after_other b) bs = rw is refl in
    step ∙ sym (rw (no_run_from b bs is, all_after b bs is, other) refl)

in_run_is : (marked : Bool) (bs : List ℕ) → quoted (in_run marked) bs ≡ run bs ++ (marks marked ++ quoted outside (behind bs))
unfolding quoted
in_run_is marked [] = sym (append-nil (marks marked))
in_run_is marked (b ∷ bs) = in_run_at marked b bs (is_run_byte b) refl (in_run_is marked bs)

abbrev with_marks : List ℕ → List ℕ
with_marks r = marks (is_marked r) ++ r ++ marks (is_marked r)

-- a run with its marks, and what follows it
whole_run : (b : ℕ) (bs : List ℕ) → is_run_byte b ≡ true → quote (b ∷ bs) ≡ with_marks (run (b ∷ bs)) ++ quote (behind (b ∷ bs))
unfolding quoted
whole_run b bs is =
    let marked : Bool = is_marked (b ∷ run bs) in
    let first : quoted outside (b ∷ bs) ≡ marks marked ++ b ∷ quoted (in_run marked) bs = rw is refl in
    let later : quoted outside (b ∷ bs) ≡ marks marked ++ b ∷ (run bs ++ (marks marked ++ quoted outside (behind bs))) = first ∙ ap (λ x. marks marked ++ b ∷ x) (in_run_is marked bs) in
    rw (run_from b bs is, after_from b bs is) (later ∙ simp append_assoc)

-- the run at the front, if there is one, with its marks, and what follows it
first_run : (bytes : List ℕ) → (0 < length bytes → is_run_byte (get_or bytes 0 0) ≡ true) → quote bytes ≡ with_marks (run bytes) ++ quote (behind bytes)
unfolding is_marked quoted
first_run [] starts = refl
first_run (b ∷ bs) starts = whole_run b bs (starts (omega arith))

unmarked : (r : List ℕ) → is_marked r ≡ false → with_marks r ≡ r
unmarked r none = rw none (append-nil r)

-- ---- what is passed

pub leads_on : (w v u : Where) (a n : ℕ) (bytes : List ℕ) → Leads w a v bytes → Leads v n u (drop a bytes) → Leads w (a + n) u bytes
leads_on w v u a n bytes first later = (fits, first.1 ∙ ap (λ t. take a bytes ++ t) later.1 ∙ sym (append_assoc (take a bytes) (take n (drop a bytes)) (quoted u (drop n (drop a bytes)))) ∙ pieces) where
  front : List ℕ
  front = take a bytes ++ take n (drop a bytes)

  long : length front ≡ a + n
  long = length-append (take a bytes) (take n (drop a bytes)) ∙ ap (λ k. k + length (take n (drop a bytes))) (length-take-le a bytes first.0) ∙ ap (λ k. a + k) (length-take-le n (drop a bytes) later.0)

  fits : a + n ≤ length bytes
  fits = let rest = length-drop a bytes in let l = later.0 in let f = first.0 in omega arith

  whole : bytes ≡ front ++ drop n (drop a bytes)
  whole = sym (append_assoc (take a bytes) (take n (drop a bytes)) (drop n (drop a bytes)) ∙ ap (λ t. take a bytes ++ t) (take-append-drop n (drop a bytes)) ∙ take-append-drop a bytes)

  taken : take (a + n) bytes ≡ front
  taken = ap (take (a + n)) whole ∙ take_at front (drop n (drop a bytes)) (a + n) long

  pieces : front ++ quoted u (drop n (drop a bytes)) ≡ take (a + n) bytes ++ quoted u (drop (a + n) bytes)
  pieces = ap (λ t. t ++ quoted u (drop n (drop a bytes))) (sym taken) ∙ ap (λ t. take (a + n) bytes ++ quoted u t) (drop-drop n a bytes)

pub leads_same : (w v : Where) (n : ℕ) (bytes others : List ℕ) → bytes ≡ others → Leads w n v bytes → Leads w n v others
leads_same w v n bytes others same leads = rw (sym same) leads

-- a longest front of bytes each of which stays, and leads back to where it stood
stays_at : (w : Where) (p : ℕ → Bool) → ((b : ℕ) (bs : List ℕ) → p b ≡ true → quoted w (b ∷ bs) ≡ b ∷ quoted w bs)
    → (b : ℕ) (bs : List ℕ) (t : Bool) → p b ≡ t → quoted w bs ≡ take_while p bs ++ quoted w (drop (prefix_len p bs) bs)
    → quoted w (b ∷ bs) ≡ take_while p (b ∷ bs) ++ quoted w (drop (prefix_len p (b ∷ bs)) (b ∷ bs))
stays_at w p stays b bs true is later = rw (is, one-add) (stays b bs is ∙ ap (λ t. b ∷ t) later)
stays_at w p stays b bs false is later = rw is refl

stay : (w : Where) (p : ℕ → Bool) → ((b : ℕ) (bs : List ℕ) → p b ≡ true → quoted w (b ∷ bs) ≡ b ∷ quoted w bs)
    → (bs : List ℕ) → quoted w bs ≡ take_while p bs ++ quoted w (drop (prefix_len p bs) bs)
stay w p stays [] = refl
stay w p stays (b ∷ bs) = stays_at w p stays b bs (p b) refl (stay w p stays bs)

text_stays : (b : ℕ) (bs : List ℕ) → is_text_byte b ≡ true → quoted in_string (b ∷ bs) ≡ b ∷ quoted in_string bs
unfolding quoted
text_stays b bs is = grind (arith, nat_tests)

other_stays : (b : ℕ) (bs : List ℕ) → is_other_byte b ≡ true → quoted outside (b ∷ bs) ≡ b ∷ quoted outside bs
unfolding quoted
other_stays b bs is = grind (arith, nat_tests)

pub text_leads : (bytes : List ℕ) → Leads in_string (prefix_len is_text_byte bytes) in_string bytes
text_leads bytes = (prefix_len-le-length is_text_byte bytes, stay in_string is_text_byte text_stays bytes)

pub other_leads : (bytes : List ℕ) → Leads outside (prefix_len is_other_byte bytes) outside bytes
other_leads bytes = (prefix_len-le-length is_other_byte bytes, stay outside is_other_byte other_stays bytes)

pub string_begins : (bytes : List ℕ) → 0 < length bytes → get_or bytes 0 0 ≡ 34 → Leads outside 1 in_string bytes
unfolding quoted is_run_byte is_fraction_byte
string_begins [] some is = absurd (omega arith)
string_begins (b ∷ bs) some is = (omega arith, rw is refl)

pub string_ends : (bytes : List ℕ) → 0 < length bytes → get_or bytes 0 0 ≡ 34 → Leads in_string 1 outside bytes
unfolding quoted
string_ends [] some is = absurd (omega arith)
string_ends (b ∷ bs) some is = (omega arith, rw is refl)

-- a backslash and the byte after it, if there is one
pub escape_leads : (bytes : List ℕ) → 0 < length bytes → get_or bytes 0 0 ≡ 92 → Leads in_string (min (length bytes) 2) in_string bytes
unfolding quoted
escape_leads [] some is = absurd (omega arith)
escape_leads (b ∷ []) some is = let one : min (length (b ∷ [])) 2 ≡ 1 = omega arith in rw one (omega arith, rw is refl)
escape_leads (b ∷ c ∷ bs) some is = let two : min (length (b ∷ c ∷ bs)) 2 ≡ 2 = omega arith in rw two (omega arith, rw is refl)

-- a string that no mark ends
pub string_runs_out : (at : ℕ) (bytes : List ℕ) → length bytes ≤ at → Leads in_string at in_string bytes → Leads in_string at outside bytes
unfolding quoted
string_runs_out at bytes past so_far =
    let empty : drop at bytes ≡ [] = nil_from_length (drop at bytes) (let long = length-drop at bytes in omega arith) in
    (so_far.0, so_far.1 ∙ ap (λ t. take at bytes ++ quoted in_string t) empty ∙ sym (ap (λ t. take at bytes ++ quoted outside t) empty))

pub run_leads : (bytes : List ℕ) → is_marked (run bytes) ≡ false → (0 < length bytes → is_run_byte (get_or bytes 0 0) ≡ true) → Leads outside (prefix_len is_run_byte bytes) outside bytes
run_leads bytes none starts = (prefix_len-le-length is_run_byte bytes, first_run bytes starts ∙ ap (λ t. t ++ quote (behind bytes)) (unmarked (run bytes) none))

pub run_length : (bytes : List ℕ) → length (run bytes) ≡ prefix_len is_run_byte bytes
run_length bytes = length-take-le (prefix_len is_run_byte bytes) bytes (prefix_len-le-length is_run_byte bytes)

-- ---- the steps of writing

pub piece_step : (n : ℕ) (rest out all : List ℕ) → Leads outside n outside rest → (n < length rest → is_run_byte (get_or rest n 0) ≡ true)
    → out ++ quote rest ≡ all → ((out ++ take n rest) ++ with_marks (run (drop n rest))) ++ quote (behind (drop n rest)) ≡ all
piece_step n rest out all plain starts so_far =
    let begins : 0 < length (drop n rest) → is_run_byte (get_or (drop n rest) 0 0) ≡ true = λ some. let long = length-drop n rest in rw (get_or-drop n rest 0 0, add-zero n) (starts (omega arith)) in
    append_assoc (out ++ take n rest) (with_marks (run (drop n rest))) (quote (behind (drop n rest)))
    ∙ ap (λ t. (out ++ take n rest) ++ t) (sym (first_run (drop n rest) begins))
    ∙ append_assoc out (take n rest) (quote (drop n rest))
    ∙ ap (λ t. out ++ t) (sym plain.1)
    ∙ so_far

nothing_more : quote [] ≡ []
unfolding quoted
nothing_more = refl

pub all_written : (rest out all : List ℕ) → length rest ≡ 0 → out ++ quote rest ≡ all → out ≡ all
all_written rest out all none so_far = sym (append-nil out) ∙ ap (λ x. out ++ x) (sym (ap quote (nil_from_length rest none) ∙ nothing_more)) ∙ so_far

-- bytes that stay to their end
pub all_plain : (n : ℕ) (bytes : List ℕ) → n ≡ length bytes → Leads outside n outside bytes → quote bytes ≡ bytes
all_plain n bytes all plain =
    let none : length (drop n bytes) ≡ 0 = let long = length-drop n bytes in omega arith in
    plain.1 ∙ ap (λ t. take n bytes ++ quote t) (nil_from_length (drop n bytes) none) ∙ ap (λ t. take n bytes ++ t) nothing_more
    ∙ ap (λ t. take n bytes ++ t) (sym (nil_from_length (drop n bytes) none)) ∙ take-append-drop n bytes
