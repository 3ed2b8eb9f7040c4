-- A panic at once, and step by step.
use Rattle.std.proofs.Common.{ℕ, ◌≡◌, List, [], ◌∷◌, ◌++◌, refl, ap, ◌∙◌, sym}
use Rattle.std.specs.Prelude.{Option, Some, None, option_and_then, filter, filter_map, not}
use Rattle.ffm_model.specs.declared.objects.OpenConnection.{OpenConnection}
use Rattle.ffm_model.specs.declared.objects.PendingMessage.{PendingMessage}
use Rattle.ffm_model.specs.declared.system.System.{System}
use Rattle.ffm_model.specs.Actors.{is_service_of}
use Rattle.ffm_model.specs.Panic.{disconnection, panic_effect, panic_steps, without_client, without_service}
use Rattle.ffm_model.specs.State.{SpmState}

-- two choices, one after the other, are one
pub chosen_twice : {A B C : Type 0} (g : A → Option B) (f : B → Option C) (xs : List A) → filter_map f (filter_map g xs) ≡ filter_map (λ x. option_and_then f (g x)) xs
chosen_twice g f [] = refl
chosen_twice {B = B} {C = C} g f (x ∷ xs) =
    let rest : List B = filter_map g xs in
    let one : (o : Option B) → g x ≡ o → filter_map f (filter_map g (x ∷ xs)) ≡ filter_map (λ x. option_and_then f (g x)) (x ∷ xs) =
    elim [
      | None ↦ λ e. rw (e, chosen_twice g f xs) refl
      | Some y ↦ λ e. rw (e, chosen_twice g f xs) refl
    ] in
    one (g x) refl

pub effect-steps : (s : System) (b : SpmState) (p : ℕ) → panic_effect s b p ≡ panic_steps s b p
effect-steps s b p =
    let left : List PendingMessage = filter (λ m. not (is_service_of s p m.service)) b.messages in
    let cs : List OpenConnection = b.connections in
    ap (λ (xs : List OpenConnection). record (panic_effect s b p) { connections = xs }) (sym (chosen_twice (without_service s p) (without_client p) cs))
    ∙ ap (λ (ms : List PendingMessage). record (panic_effect s b p) { connections = filter_map (without_client p) (filter_map (without_service s p) cs); messages = left ++ ms }) (sym (chosen_twice (without_service s p) (disconnection p) cs))
