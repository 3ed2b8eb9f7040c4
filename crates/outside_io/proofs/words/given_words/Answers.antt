use Rattle.std.proofs.Common.{map, string_bytes, ap, ◌∙◌, ◌++◌, ◌∷◌, [], ◌≡◌, ℕ, List, Option, None, Some, IsNone, refl}
use Rattle.std.proofs.lemmas.List.{map-append}
use Rattle.outside_io.proofs.Given.{none_given, word_given}
use Rattle.outside_io.proofs.words.given_words.Goals as goal

is_none : {X : Type 0} (o : Option X) → ((x : X) → o ≡ Some x → ⊥) → IsNone o
is_none None never = refl
is_none (Some x) never = absurd (never x refl)

pub returns-in_default-text_of : goal.returns-in_default-text_of
returns-in_default-text_of g c =
    none_given _ _ c.loop-number.number c.in_ok-bytes.field-0 c.in-Some.bytes c.in_ok-bytes.ensures c.in-Some.is (c.text_of.ensures.none (is_none _ c.in_default-text_of.not-Some)) (ap (map string_bytes) c.clear.ensures.items)

pub loop-number-preserved : goal.loop-number-preserved
loop-number-preserved g c =
    word_given _ _ _ c.loop-number.number c.in_ok-bytes.field-0 c.in-Some.bytes c.loop-number.invariant c.in_ok-bytes.ensures c.in-Some.is
    (ap (map string_bytes) c.in_ok-push.ensures.items ∙ map-append string_bytes c.loop-number.given.items (c.in-Some-text_of.word ∷ []) ∙ ap (λ (w : List ℕ). map string_bytes c.loop-number.given.items ++ w ∷ []) c.in-Some-text_of.ensures.text)
