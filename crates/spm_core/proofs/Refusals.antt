-- What a refusal says of the state that it is given in.
use Rattle.std.proofs.Common.{◌≡◌, ℕ, ◌≤◌, Bool, true, false, true≢false, Option, Some, None, sym, refl, arith}
use Rattle.std.specs.Prelude.{not, ◌==◌, nat_le, if◌then◌else◌, option_and_then, IsSome}
use Rattle.ffm_model.specs.declared.system.System.{System}
use Rattle.ffm_model.specs.declared.machine.Answer.{Answer}
use Rattle.ffm_model.specs.declared.machine.Answer.TheVariants as answer
use Rattle.ffm_model.specs.declared.machine.Verdict.TheVariants.{Quiet, Stalled, Full}
use Rattle.ffm_model.specs.declared.objects.ActorPhase.{ActorPhase}
use Rattle.ffm_model.specs.declared.objects.ActorPhase.TheVariants as phase
use Rattle.ffm_model.specs.State.{State, phase_of}
use Rattle.ffm_model.specs.Signals.{can_go_on, enabled}
use Rattle.ffm_model.specs.Verdicts.{some_enabled, some_blocked, verdict_at}
use Rattle.spm_core.specs.Manager.{is_gone, refusal_at}

-- the refusal by its four tests
unfoldable pub by_tests : Bool → Bool → Bool → Bool → Option Answer
by_tests gone some full on =
    if gone then Some answer.Gone else (if not some then Some answer.Over else (if full then Some answer.Full else (if on then None else Some answer.NotYet)))

pub gone_is : (gone some full on : Bool) → by_tests gone some full on ≡ Some answer.Gone → gone ≡ true
unfolding by_tests
gone_is true some full on h = refl
gone_is false false full on h = cc
gone_is false true true on h = cc
gone_is false true false true h = cc
gone_is false true false false h = cc

pub not_yet_is : (gone some full on : Bool) → by_tests gone some full on ≡ Some answer.NotYet → on ≡ false
unfolding by_tests
not_yet_is true some full on h = cc
not_yet_is false false full on h = cc
not_yet_is false true true on h = cc
not_yet_is false true false true h = cc
not_yet_is false true false false h = refl

pub over_is : (gone some full on : Bool) → by_tests gone some full on ≡ Some answer.Over → some ≡ false
unfolding by_tests
over_is true some full on h = cc
over_is false false full on h = refl
over_is false true true on h = cc
over_is false true false true h = cc
over_is false true false false h = cc

pub full_is : (gone some full on : Bool) → by_tests gone some full on ≡ Some answer.Full → full ≡ true
unfolding by_tests
full_is true some full on h = cc
full_is false false full on h = cc
full_is false true true on h = refl
full_is false true false true h = cc
full_is false true false false h = cc

pub none_is : (gone some full on : Bool) → by_tests gone some full on ≡ None → (on ≡ true) × (full ≡ false)
unfolding by_tests
none_is true some full on h = cc
none_is false false full on h = cc
none_is false true true on h = cc
none_is false true false true h = (refl, refl)
none_is false true false false h = cc

-- one that is gone cannot go on
pub gone_off : (p : ActorPhase) (word : ℕ) → is_gone p ≡ true → can_go_on p word ≡ false
gone_off phase.Running word h = cc
gone_off phase.Blocked word h = refl
gone_off (phase.Waiting mask) word h = cc
gone_off (phase.Ready o) word h = cc
gone_off (phase.Connected n) word h = cc
gone_off phase.Ended word h = refl
gone_off phase.Panicked word h = refl

-- when there is a verdict
pub verdict_off : (some full blocked : Bool) → some ≡ false → IsSome (if some then (if full then Some Full else None) else (if blocked then Some Stalled else Some Quiet))
verdict_off true full blocked h = absurd (true≢false h)
verdict_off false full true h = refl
verdict_off false full false h = refl

pub verdict_full : (some full blocked : Bool) → full ≡ true → IsSome (if some then (if full then Some Full else None) else (if blocked then Some Stalled else Some Quiet))
verdict_full true true blocked h = refl
verdict_full true false blocked h = absurd (true≢false (sym h))
verdict_full false full true h = refl
verdict_full false full false h = refl

pub over_has_verdict : (s : System) (limit count a : ℕ) (st : Option State) → option_and_then (λ x. refusal_at s limit count x.spm a) st ≡ Some answer.Over
    → IsSome (option_and_then (λ x. verdict_at s limit count x.spm) st)
unfolding by_tests
over_has_verdict s limit count a None h = cc
over_has_verdict s limit count a (Some x) h =
    verdict_off (some_enabled s x.spm) (count == limit) (some_blocked s x.spm) (over_is (is_gone (phase_of x.spm a)) (some_enabled s x.spm) (nat_le limit count) (enabled s x.spm a) h)

pub full_has_verdict : (s : System) (limit count a : ℕ) (st : Option State) → count ≤ limit → option_and_then (λ x. refusal_at s limit count x.spm a) st ≡ Some answer.Full
    → IsSome (option_and_then (λ x. verdict_at s limit count x.spm) st)
unfolding by_tests
full_has_verdict s limit count a None short h = cc
full_has_verdict s limit count a (Some x) short h =
    let past : nat_le limit count ≡ true = full_is (is_gone (phase_of x.spm a)) (some_enabled s x.spm) (nat_le limit count) (enabled s x.spm a) h in
    let full : (count == limit) ≡ true = grind arith in
    verdict_full (some_enabled s x.spm) (count == limit) (some_blocked s x.spm) full
