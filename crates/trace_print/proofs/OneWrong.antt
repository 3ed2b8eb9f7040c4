-- A text has one first wrong line.
use Rattle.std.proofs.Common.{◌≡◌, ℕ, ◌+◌, ◌<◌, List, [], ◌∷◌, refl, sym, arith, subst}
use Rattle.ffm_model.specs.Counts.{ActorCounts}
use Rattle.ffm_model.specs.declared.constants.TheConstants.{MAX_ENTRIES}
use Rattle.ffm_model.specs.TraceText.{Word}
use Rattle.trace_print.specs.Lines.{IsEntryText, IsVerdictText, IsWrong, unended, neither, one_too_many, past_end, IsFirstWrong, here, later}
use Rattle.trace_print.proofs.Traces.{head_is}
use Rattle.trace_print.proofs.Verdicts.{not_both}

-- an entry's text, with room for it and another part after it, isn't wrong
entry_is_right : (counts : ActorCounts) (n : ℕ) {texts : List Word} {k : ℕ} → IsWrong counts n texts k → (text : Word) (rest : List Word) → IsEntryText counts text → n < MAX_ENTRIES → (rest ≡ [] → ⊥) → texts ≡ text ∷ rest → ⊥
entry_is_right counts n (unended other) text rest is_entry room some e = some (sym (head_is other text [] rest e).1)
entry_is_right counts n (neither other others no_entry no_verdict) text rest is_entry room some e = no_entry (subst (IsEntryText counts) (sym (head_is other text others rest e).0) is_entry)
entry_is_right counts n (one_too_many other others also full) text rest is_entry room some e = absurd (omega (arith, full, room))
entry_is_right counts n (past_end other next others is_verdict more) text rest is_entry room some e = not_both counts n text is_entry (subst (IsVerdictText n) (head_is other text (next ∷ others) rest e).0 is_verdict)

nothing_wrong : (counts : ActorCounts) (n : ℕ) {texts : List Word} {k : ℕ} → IsWrong counts n texts k → texts ≡ [] → ⊥
nothing_wrong counts n (unended text) e = absurd cc
nothing_wrong counts n w e = absurd cc

no_first : (counts : ActorCounts) {n : ℕ} {texts : List Word} {k : ℕ} → IsFirstWrong counts n texts k → texts ≡ [] → ⊥
no_first counts (here n texts k w) e = nothing_wrong counts n w e
no_first counts (later n text rest k is_entry room w) e = absurd cc

-- what stands after the verdict is wrong, and nothing before it
past_is : (counts : ActorCounts) (n : ℕ) {texts : List Word} {k : ℕ} → IsWrong counts n texts k → (text next : Word) (rest : List Word) → IsVerdictText n text → texts ≡ text ∷ next ∷ rest → k ≡ n + 2
past_is counts n (unended other) text next rest is_verdict e = absurd cc
past_is counts n (neither other others no_entry no_verdict) text next rest is_verdict e = absurd (no_verdict (subst (IsVerdictText n) (sym (head_is other text others (next ∷ rest) e).0) is_verdict))
past_is counts n (one_too_many other others is_entry full) text next rest is_verdict e = absurd (not_both counts n other is_entry (subst (IsVerdictText n) (sym (head_is other text others (next ∷ rest) e).0) is_verdict))
past_is counts n (past_end other after others also more) text next rest is_verdict e = refl

one_wrong : (counts : ActorCounts) (n : ℕ) {xs ys : List Word} {j k : ℕ} → IsWrong counts n xs j → IsWrong counts n ys k → xs ≡ ys → j ≡ k
one_wrong counts n (past_end text next rest is_verdict more) w e = sym (past_is counts n w text next rest is_verdict (sym e))
one_wrong counts n w (past_end text next rest is_verdict more) e = past_is counts n w text next rest is_verdict e
one_wrong counts n w v e = refl

pub one_first_wrong : (counts : ActorCounts) {n : ℕ} {xs : List Word} {j : ℕ} → IsFirstWrong counts n xs j → {ys : List Word} {k : ℕ} → IsFirstWrong counts n ys k → xs ≡ ys → j ≡ k
one_first_wrong counts (here n xs j w) (here _ ys k v) e = one_wrong counts n w v e
one_first_wrong counts (here n xs j w) (later _ text rest k is_entry room v) e = absurd (entry_is_right counts n w text rest is_entry room (no_first counts v) e)
one_first_wrong counts (later n text rest j is_entry room w) (here _ ys k v) e = absurd (entry_is_right counts n v text rest is_entry room (no_first counts w) (sym e))
one_first_wrong counts (later n text rest j is_entry room w) (later _ other others k also too v) e = one_first_wrong counts w v (head_is text other rest others e).1
