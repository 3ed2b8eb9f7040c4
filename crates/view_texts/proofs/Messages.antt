-- The text of a message, part by part.
use Rattle.std.proofs.Common.{◌≡◌, ◌++◌, ◌∷◌, [], ◌∙◌, ℕ, List, ap, append_assoc, codes, drop, sym}
use Rattle.std.specs.List.{flat_map}
use Rattle.std.proofs.lemmas.Grind.{flat_map-append}
use Rattle.ffm_model.specs.declared.machine.Message.{Message}
use Rattle.ffm_model.specs.declared.machine.Outcome.TheVariants.{Got}
use Rattle.ffm_model.specs.TraceText.{message_front, message_phrase, size_fields, spaced, spaced_field}
use Rattle.view_texts.specs.Outcomes.{message_words, outcome_text}

-- a message's words, and then its sizes
pub outcome_of_message : (m : Message) → outcome_text (Got m) ≡ message_words m ++ (flat_map spaced_field (size_fields m.in_size) ++ flat_map spaced_field (size_fields m.out_size))
unfolding outcome_text message_phrase
outcome_of_message m =
    ap (λ (y : List ℕ). drop 1 (flat_map spaced (codes "message" ∷ []) ++ y))
    (flat_map-append spaced_field (message_front m) (size_fields m.in_size ++ size_fields m.out_size)
    ∙ ap (λ (x : List ℕ). flat_map spaced_field (message_front m) ++ x) (flat_map-append spaced_field (size_fields m.in_size) (size_fields m.out_size)))

-- three parts that were appended
pub three_parts : (t t₁ t₂ t₃ x y z all : List ℕ) → all ≡ x ++ (y ++ z) → t₁ ≡ t ++ x → t₂ ≡ t₁ ++ y → t₃ ≡ t₂ ++ z → t₃ ≡ t ++ all
three_parts t t₁ t₂ t₃ x y z all parts one two three =
    three ∙ ap (λ (u : List ℕ). u ++ z) (two ∙ ap (λ (u : List ℕ). u ++ y) one) ∙ append_assoc (t ++ x) y z ∙ append_assoc t x (y ++ z)
    ∙ ap (λ (u : List ℕ). t ++ u) (sym parts)
