-- What is known of a text after some of its lines.
use Rattle.std.proofs.Common.{◌≡◌, ℕ, ◌+◌, ◌≤◌, List, [], ◌++◌, length, drop, sym, ap, ◌∙◌, arith, subst}
use Rattle.std.specs.List.{AllByRecursion}
use Rattle.std.proofs.lemmas.List.{drop_all}
use Rattle.ffm_model.specs.Counts.{ActorCounts}
use Rattle.ffm_model.specs.declared.machine.Entry.{Entry}
use Rattle.ffm_model.specs.declared.machine.Verdict.{Verdict}
use Rattle.ffm_model.specs.declared.constants.TheConstants.{MAX_ENTRIES}
use Rattle.ffm_model.specs.TraceText.{Word, line, verdict_text, trace_text, EntryFits}
use Rattle.trace_print.specs.View.{parts}
use Rattle.trace_print.specs.Lines.{IsWrong, unended, IsFirstWrong, here}
use Rattle.trace_print.proofs.Traces.{texts_of, lines_of, parts_after, wrong_after, no_wrong_line, left_of_trace}

pub found_by : (counts : ActorCounts) (n : ℕ) (bytes rest : List ℕ) (es : List Entry) (v : Verdict) → bytes ≡ lines_of counts es ++ rest → n ≡ length es → rest ≡ line (verdict_text v n) → bytes ≡ trace_text counts es v
found_by counts n bytes rest es v so_far count last = so_far ∙ ap (λ (r : List ℕ). lines_of counts es ++ r) (last ∙ ap (λ (m : ℕ). line (verdict_text v m)) count)

pub told : (counts : ActorCounts) (n : ℕ) (bytes rest : List ℕ) (es : List Entry) (k : ℕ) → bytes ≡ lines_of counts es ++ rest → n ≡ length es → n ≤ MAX_ENTRIES → AllByRecursion (EntryFits counts) es → IsWrong counts n (parts 10 rest) k
    → IsFirstWrong counts 0 (parts 10 bytes) k
told counts n bytes rest es k so_far count few fits w =
    let cut : parts 10 bytes ≡ texts_of counts es ++ parts 10 rest = ap (parts 10) so_far ∙ parts_after counts es rest in
    let behind : n ≡ 0 + length es = omega (arith, count) in
    let first = wrong_after counts 0 es (parts 10 rest) k fits (omega (arith, few, count)) (subst (λ (m : ℕ). IsFirstWrong counts m (parts 10 rest) k) behind (here n (parts 10 rest) k w)) in
    subst (λ (texts : List Word). IsFirstWrong counts 0 texts k) (sym cut) first

-- no line feed ends the empty text
pub cut_off : (counts : ActorCounts) (n i : ℕ) (bytes : List ℕ) → length bytes ≤ i → IsWrong counts n (parts 10 (drop i bytes)) (n + 1)
cut_off counts n i bytes le = subst (λ (r : List ℕ). IsWrong counts n (parts 10 r) (n + 1)) (sym (drop_all i bytes le)) (unended [])

-- a trace's text has no wrong line
pub never : (counts : ActorCounts) (bytes : List ℕ) (k : ℕ) (es : List Entry) (v : Verdict) → IsFirstWrong counts 0 (parts 10 bytes) k → AllByRecursion (EntryFits counts) es → length es ≤ MAX_ENTRIES → bytes ≡ trace_text counts es v → ⊥
never counts bytes k es v w fits few e = no_wrong_line counts w es v fits (omega (arith, few)) (ap (parts 10) e ∙ left_of_trace counts es v)
