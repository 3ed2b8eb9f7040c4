-- Outcomes that are told apart.
use Rattle.std.proofs.Common.{ℕ, ◌≡◌, true, refl}
use Rattle.std.specs.Prelude.{ℤ}
use Rattle.ffm_model.specs.declared.machine.Message.{Message}
use Rattle.ffm_model.specs.declared.machine.Outcome.{Outcome}
use Rattle.ffm_model.specs.declared.machine.Outcome.TheVariants.{Value, Number, Signals, Got, Blocked, Done, Panicked}
use Rattle.ffm_model.specs.Step.{outcome_eq}

-- outcomes that are equal but for numbers
pub same-kind : {X : Type 0} (f : Outcome → X) → ((z w : ℤ) → outcome_eq (Value z) (Value w) ≡ true → f (Value z) ≡ f (Value w)) → ((n k : ℕ) → outcome_eq (Number n) (Number k) ≡ true → f (Number n) ≡ f (Number k))
    → ((n k : ℕ) → outcome_eq (Signals n) (Signals k) ≡ true → f (Signals n) ≡ f (Signals k)) → ((m n : Message) → outcome_eq (Got m) (Got n) ≡ true → f (Got m) ≡ f (Got n)) → (o p : Outcome) → outcome_eq o p ≡ true → f o ≡ f p
same-kind f values numbers signals messages (Value z) (Value w) e = values z w e
same-kind f values numbers signals messages (Number n) (Number k) e = numbers n k e
same-kind f values numbers signals messages (Signals n) (Signals k) e = signals n k e
same-kind f values numbers signals messages (Got m) (Got n) e = messages m n e
same-kind f values numbers signals messages Blocked Blocked e = refl
same-kind f values numbers signals messages Done Done e = refl
same-kind f values numbers signals messages Panicked Panicked e = refl
same-kind f values numbers signals messages _ _ e = cc

pub done-is : (o : Outcome) → outcome_eq Done o ≡ true → o ≡ Done
done-is Done e = refl
done-is _ e = cc

pub panicked-is : (o : Outcome) → outcome_eq Panicked o ≡ true → o ≡ Panicked
panicked-is Panicked e = refl
panicked-is _ e = cc
