-- Reading operands one by one.
use Rattle.std.proofs.Common.{◌≡◌, ℕ, ◌+◌, ◌<◌, ◌≤◌, List, [], ◌∷◌, ◌++◌, Option, None, Some, drop, length, get_or, refl, ap, sym, ◌∙◌, append_assoc}
use Rattle.std.specs.Prelude.{codes}
use Rattle.std.specs.Option.{option_map, option_map_or}
use Rattle.std.proofs.lemmas.List.{drop_more, drop_all, append-nil}
use Rattle.ffm_model.specs.Binding.{◌>>=◌}
use Rattle.ffm_model.specs.TraceText.{Word}
use Rattle.ffm_model.specs.declared.signatures.OperandKind.{OperandKind}
use Rattle.ffm_model.specs.declared.machine.Call.{Call}
use Rattle.ffm_model.specs.declared.machine.Call.TheVariants as call
use Rattle.ffm_model.specs.Signatures.{line_signatures, interrupt_signatures}
use Rattle.trace_print.specs.Reading.{call_at, event_named, first_by, operand_of, operands_at, word_at}

abbrev pub after_all : List ℕ → List ℕ × List Word → List ℕ × List Word
after_all ns r = (ns ++ r.0, r.1)

-- what was read, and what is read of the other kinds
abbrev pub read_on : List ℕ → List OperandKind → List Word → Option (List ℕ × List Word)
read_on ns ks ws = option_map (after_all ns) (operands_at ks ws)

one_more : (ns : List ℕ) (n : ℕ) (o : Option (List ℕ × List Word)) → option_map (after_all (ns ++ n ∷ [])) o ≡ option_map (after_all ns) (o >>= λ (r : List ℕ × List Word). Some (after_all (n ∷ []) r))
one_more ns n None = refl
one_more ns n (Some r) = rw append_assoc refl

pub goes_on : (ns : List ℕ) (n i : ℕ) (ks : List OperandKind) (d : OperandKind) (ws rest : List Word) (t : Option (List ℕ × List Word)) → i < length ks → first_by (operand_of (get_or ks i d)) ws ≡ Some (n, rest) → read_on ns (drop i ks) ws ≡ t → read_on (ns ++ n ∷ []) (drop (i + 1) ks) rest ≡ t
unfolding operands_at
goes_on ns n i ks d ws rest t lt e so_far = one_more ns n (operands_at (drop (i + 1) ks) rest) ∙ sym (rw (drop_more ks i d lt, e) at (sym so_far))

pub stops : (ns : List ℕ) (i : ℕ) (ks : List OperandKind) (d : OperandKind) (ws : List Word) (t : Option (List ℕ × List Word)) → i < length ks → first_by (operand_of (get_or ks i d)) ws ≡ None → read_on ns (drop i ks) ws ≡ t → None ≡ t
unfolding operands_at
stops ns i ks d ws t lt e so_far = rw (drop_more ks i d lt, e) at so_far

pub ends : (ns : List ℕ) (i : ℕ) (ks : List OperandKind) (ws : List Word) (t : Option (List ℕ × List Word)) → length ks ≤ i → read_on ns (drop i ks) ws ≡ t → Some (ns, ws) ≡ t
unfolding operands_at
ends ns i ks ws t le so_far = rw (drop_all i ks le, append-nil) at so_far

-- a first word and the others, and a return with the words after it
abbrev with_word : Word → List Word → Option (Word × List Word)
with_word w ws = Some (w, ws)

abbrev return_before : List Word → Option (Call × List Word)
return_before ws = Some (call.Resume, ws)

-- no signature has the word of a return
at-resume : (ws : List Word) → call_at (codes "resume" ∷ ws) ≡ return_before ws
unfolding event_named line_signatures interrupt_signatures
at-resume ws = refl

same-return : (name w : Word) (ws vs : List Word) → with_word name ws ≡ with_word w vs → name ≡ codes "resume" → return_before ws ≡ call_at (w ∷ vs)
same-return name w ws vs e is =
    let front : name ≡ w = ap (λ o. option_map_or (λ (p : Word × List Word). p.0) o []) e in
    let rest : ws ≡ vs = ap (λ o. option_map_or (λ (p : Word × List Word). p.1) o []) e in
    ap return_before rest ∙ sym (ap (λ n. call_at (n ∷ vs)) (sym front ∙ is) ∙ at-resume vs)

-- the return of a call, by the first of all words
pub resumed : (all : List Word) (name : Word) (ws : List Word) → with_word name ws ≡ word_at all → name ≡ codes "resume" → return_before ws ≡ call_at all
resumed [] name ws e is = cc
resumed (w ∷ vs) name ws e is = same-return name w ws vs e is
