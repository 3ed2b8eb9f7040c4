-- The texts of whole traces: their lines, their first wrong line, and that different traces have different ones.
use Rattle.std.proofs.Common.{◌≡◌, ℕ, suc, ◌+◌, ◌≤◌, List, [], ◌∷◌, ◌++◌, length, map, refl, sym, ap, ◌∙◌, append_assoc, arith, subst, lit≤, length-append}
use Rattle.std.specs.List.{flat_map, AllByRecursion}
use Rattle.ffm_model.specs.Counts.{ActorCounts}
use Rattle.ffm_model.specs.declared.machine.Entry.{Entry}
use Rattle.ffm_model.specs.declared.machine.Verdict.{Verdict}
use Rattle.ffm_model.specs.declared.constants.TheConstants.{MAX_ENTRIES}
use Rattle.ffm_model.specs.TraceText.{Word, line, entry_text, verdict_text, trace_text, EntryFits}
use Rattle.trace_print.specs.View.{parts}
use Rattle.trace_print.specs.Lines.{IsEntryText, IsVerdictText, IsWrong, unended, neither, one_too_many, past_end, IsFirstWrong, here, later}
use Rattle.trace_print.proofs.Plain.{split_word, plain_verdict}
use Rattle.trace_print.proofs.Entries.{FewActors, same_entry, text_of_entry}
use Rattle.trace_print.proofs.Verdicts.{not_both, same_verdict}

abbrev pub texts_of : ActorCounts → List Entry → List Word
texts_of counts es = map (entry_text counts) es

abbrev pub lines_of : ActorCounts → List Entry → List ℕ
lines_of counts es = flat_map (λ e. line (entry_text counts e)) es

-- the parts of lines of entries, and of what stands after them
pub parts_after : (counts : ActorCounts) (es : List Entry) (rest : List ℕ) → parts 10 (lines_of counts es ++ rest) ≡ texts_of counts es ++ parts 10 rest
parts_after counts [] rest = refl
parts_after counts (e ∷ es) rest =
    let regrouped : lines_of counts (e ∷ es) ++ rest ≡ entry_text counts e ++ 10 ∷ (lines_of counts es ++ rest) = simp append_assoc in
    let first = split_word 10 31 (entry_text counts e) (lines_of counts es ++ rest) (lit≤ tt) (text_of_entry counts e) in
    ap (parts 10) regrouped ∙ (first ∙ ap (λ (ws : List Word). entry_text counts e ∷ ws) (parts_after counts es rest))

-- the first wrong line after lines of entries
pub wrong_after : (counts : ActorCounts) (n : ℕ) (es : List Entry) (texts : List Word) (k : ℕ) → AllByRecursion (EntryFits counts) es → n + length es ≤ MAX_ENTRIES
    → IsFirstWrong counts (n + length es) texts k → IsFirstWrong counts n (texts_of counts es ++ texts) k
wrong_after counts n [] texts k fits le w = let e : n + 0 ≡ n = omega arith in subst (λ (m : ℕ). IsFirstWrong counts m texts k) e w
wrong_after counts n (e ∷ es) texts k fits le w =
    let moved : n + suc (length es) ≡ n + 1 + length es = omega arith in
    later n (entry_text counts e) (texts_of counts es ++ texts) k (e, fits.0, refl) (omega arith)
    (wrong_after counts (n + 1) es texts k fits.1 (omega arith) (subst (λ (m : ℕ). IsFirstWrong counts m texts k) moved w))

-- the parts that are left of a trace's text after n entries
abbrev pub left : ActorCounts → ℕ → List Entry → Verdict → List Word
left counts n es v = texts_of counts es ++ (verdict_text v (n + length es) ∷ [] ∷ [])

pub head_is : (x y : Word) (xs ys : List Word) → x ∷ xs ≡ y ∷ ys → (x ≡ y) × (xs ≡ ys)
head_is x y xs ys e = (cc, cc)

verdict_left : (counts : ActorCounts) (n : ℕ) (v : Verdict) (text : Word) (rest : List Word) → text ∷ rest ≡ left counts n [] v → IsVerdictText n text × (rest ≡ [] ∷ [])
verdict_left counts n v text rest e =
    let same = head_is text (verdict_text v (n + 0)) rest ([] ∷ []) e in
    let zero : n + 0 ≡ n = omega arith in
    ((v, same.0 ∙ ap (verdict_text v) zero), same.1)

entry_left : (counts : ActorCounts) (n : ℕ) (d : Entry) (es : List Entry) (v : Verdict) (text : Word) (rest : List Word) → EntryFits counts d → text ∷ rest ≡ left counts n (d ∷ es) v → IsEntryText counts text × (rest ≡ left counts (n + 1) es v)
entry_left counts n d es v text rest fits e =
    let same = head_is text (entry_text counts d) rest (texts_of counts es ++ (verdict_text v (n + suc (length es)) ∷ [] ∷ [])) e in
    let moved : n + suc (length es) ≡ n + 1 + length es = omega arith in
    ((d, fits, same.0), same.1 ∙ ap (λ (m : ℕ). texts_of counts es ++ (verdict_text v m ∷ [] ∷ [])) moved)

-- no part of a trace's text is wrong
not_wrong : (counts : ActorCounts) (n : ℕ) {texts : List Word} {k : ℕ} → IsWrong counts n texts k → (es : List Entry) (v : Verdict) → AllByRecursion (EntryFits counts) es → n + length es ≤ MAX_ENTRIES → texts ≡ left counts n es v → ⊥
not_wrong counts n (unended text) es v fits le e = absurd (omega (arith, ap length e, length-append (texts_of counts es) (verdict_text v (n + length es) ∷ [] ∷ [])))
not_wrong counts n (neither text rest no_entry no_verdict) [] v fits le e = no_verdict (verdict_left counts n v text rest e).0
not_wrong counts n (neither text rest no_entry no_verdict) (d ∷ es) v fits le e = no_entry (entry_left counts n d es v text rest fits.0 e).0
not_wrong counts n (one_too_many text rest is_entry full) [] v fits le e = not_both counts n text is_entry (verdict_left counts n v text rest e).0
not_wrong counts n (one_too_many text rest is_entry full) (d ∷ es) v fits le e = absurd (omega (arith, le, full))
not_wrong counts n (past_end text next rest is_verdict more) [] v fits le e = more (verdict_left counts n v text (next ∷ rest) e).1
not_wrong counts n (past_end text next rest is_verdict more) (d ∷ es) v fits le e = not_both counts n text (entry_left counts n d es v text (next ∷ rest) fits.0 e).0 is_verdict

pub no_wrong_line : (counts : ActorCounts) {n : ℕ} {texts : List Word} {k : ℕ} → IsFirstWrong counts n texts k → (es : List Entry) (v : Verdict) → AllByRecursion (EntryFits counts) es → n + length es ≤ MAX_ENTRIES → texts ≡ left counts n es v → ⊥
no_wrong_line counts (here n texts k w) es v fits le e = not_wrong counts n w es v fits le e
no_wrong_line counts (later n text rest k is_entry room w) [] v fits le e = not_both counts n text is_entry (verdict_left counts n v text rest e).0
no_wrong_line counts (later n text rest k is_entry room w) (d ∷ es) v fits le e = no_wrong_line counts w es v fits.1 (omega arith) (entry_left counts n d es v text rest fits.0 e).1

-- different traces have different texts
same_left : (counts : ActorCounts) (n : ℕ) (ds es : List Entry) (v w : Verdict) → FewActors counts → AllByRecursion (EntryFits counts) ds → AllByRecursion (EntryFits counts) es → left counts n ds v ≡ left counts n es w → (ds ≡ es) × (v ≡ w)
same_left counts n [] [] v w few p q e =
    let same = (head_is (verdict_text v (n + 0)) (verdict_text w (n + 0)) ([] ∷ []) ([] ∷ []) e).0 in
    (refl, same_verdict (n + 0) v w same)
same_left counts n [] (f ∷ es) v w few p q e =
    let zero : n + 0 ≡ n = omega arith in
    let entry = entry_left counts n f es w (verdict_text v (n + 0)) ([] ∷ []) q.0 e in
    absurd (not_both counts n (verdict_text v (n + 0)) entry.0 (v, ap (verdict_text v) zero))
same_left counts n (d ∷ ds) [] v w few p q e =
    let zero : n + 0 ≡ n = omega arith in
    let entry = entry_left counts n d ds v (verdict_text w (n + 0)) ([] ∷ []) p.0 (sym e) in
    absurd (not_both counts n (verdict_text w (n + 0)) entry.0 (w, ap (verdict_text w) zero))
same_left counts n (d ∷ ds) (f ∷ es) v w few p q e =
    let mine = entry_left counts n d ds v (entry_text counts d) (texts_of counts ds ++ (verdict_text v (n + suc (length ds)) ∷ [] ∷ [])) p.0 refl in
    let same = head_is (entry_text counts d) (entry_text counts f) (texts_of counts ds ++ (verdict_text v (n + suc (length ds)) ∷ [] ∷ [])) (texts_of counts es ++ (verdict_text w (n + suc (length es)) ∷ [] ∷ [])) e in
    let yours = entry_left counts n f es w (entry_text counts d) (texts_of counts ds ++ (verdict_text v (n + suc (length ds)) ∷ [] ∷ [])) q.0 e in
    let others = same_left counts (n + 1) ds es v w few p.1 q.1 (sym mine.1 ∙ yours.1) in
    let first = same_entry counts d f few p.0 q.0 same.0 in
    (ap (λ (x : Entry). x ∷ ds) first ∙ ap (λ (xs : List Entry). f ∷ xs) others.0, others.1)

-- the parts of a trace's text
pub left_of_trace : (counts : ActorCounts) (es : List Entry) (v : Verdict) → parts 10 (trace_text counts es v) ≡ left counts 0 es v
left_of_trace counts es v =
    let last : parts 10 (line (verdict_text v (length es))) ≡ verdict_text v (length es) ∷ [] ∷ [] = split_word 10 31 (verdict_text v (length es)) [] (lit≤ tt) (plain_verdict v (length es)) in
    let zero : length es ≡ 0 + length es = omega arith in
    parts_after counts es (line (verdict_text v (length es))) ∙ ap (λ (ws : List Word). texts_of counts es ++ ws) (last ∙ ap (λ (m : ℕ). verdict_text v m ∷ [] ∷ []) zero)

pub same_trace : (counts : ActorCounts) → FewActors counts → (ds es : List Entry) (v w : Verdict) → AllByRecursion (EntryFits counts) ds → AllByRecursion (EntryFits counts) es → trace_text counts ds v ≡ trace_text counts es w → (ds ≡ es) × (v ≡ w)
same_trace counts few ds es v w p q e = same_left counts 0 ds es v w few p q (sym (left_of_trace counts ds v) ∙ (ap (parts 10) e ∙ left_of_trace counts es w))
