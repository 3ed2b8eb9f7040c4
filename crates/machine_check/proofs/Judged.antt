-- The judgement of a trace, one entry further.
use Rattle.std.proofs.Common.{arith, ℕ, ◌≡◌, ◌<◌, ◌≤◌, ◌+◌, Bool, true, false, List, [], ◌∷◌, refl, ap, sym, ◌∙◌, inl, inr, ◌⊎◌}
use Rattle.std.specs.Prelude.{nat_le, None, Ok, if◌then◌else◌}
use Rattle.std.specs.Option.{option_map_or}
use Rattle.std.specs.BTreeSet.{BTreeSet}
use Rattle.std.specs.Prelude.{ℤ}
use Rattle.std.proofs.lemmas.Bool.{le-leb, lt-leb, cond-true, cond-false}
use Rattle.ffm_model.specs.declared.system.System.{System}
use Rattle.ffm_model.specs.declared.machine.Entry.{Entry}
use Rattle.ffm_model.specs.declared.machine.Handle.{Handle}
use Rattle.ffm_model.specs.declared.machine.Verdict.{Verdict}
use Rattle.ffm_model.specs.Memory.{ByteMap}
use Rattle.ffm_model.specs.Step.{step}
use Rattle.ffm_model.specs.Verdicts.{Judgement, IllegalAt, judged, judged_from}
use Rattle.machine_calls.specs.declared.machine.Machine.{Machine}
use Rattle.machine_check.specs.declared.judging.Checker.{Checker}
use Rattle.machine_calls.specs.Machine.{state_of, IsMachineOf}
use Rattle.machine_check.specs.Performed.{Steps}
use Rattle.machine_check.specs.Checking.{Accepts, ChecksTo, IsAccepted, Starts}

-- ---- one entry

pub none_by : (s : System) (m new : Machine) (all : List Handle) (e : Entry) (known : BTreeSet ℤ) (b : Bool) → Steps s m all e (Ok b) new known → b ≡ false → step s (state_of m all) e ≡ None
none_by s m new all e known true steps is = absurd (cc)
none_by s m new all e known false steps is = steps

pub accepted : (s : System) (limit : ℕ) (c new : Checker) (all : List Handle) (e : Entry) (b : Bool) → c.count < limit → Steps s c.machine all e (Ok b) new.machine new.given → b ≡ true
    → IsMachineOf s new.machine → new.machine.objects.connections_made ≤ new.count → new.count ≡ c.count + 1 → IsAccepted s limit c all e new
accepted s limit c new all e false below steps is kept made count = absurd (cc)
accepted s limit c new all e true below steps is kept made count = record {
  below = below;
  count = count;
  given = steps.0;
  knows = steps.1;
  is_step = steps.2;
  kept = kept;
  made = made;
}

-- ---- the judgement

-- either way
pub either : {X : Type 0} (b : Bool) (x y : X) → y ≡ x → (if b then x else y) ≡ x
either true x y h = refl
either false x y h = h

-- before the first entry
unfoldable pub from_start : (s : System) (m : ByteMap) (limit : ℕ) (v : Verdict) (es : List Entry) (c : Checker) → Starts s m c → ChecksTo s limit v (judged s m limit es v) c es
from_start s m limit v es c start = record {
  all = [];
  knows = start.knows;
  kept = start.kept;
  made = omega (arith, start.made);
  judged = ap (λ st. judged_from s limit v 0 es st) (sym start.state) ∙ ap (λ n. judged_from s limit v n es (state_of c.machine [])) (sym start.count);
}

-- the entry was not accepted
pub no_entry : (s : System) (limit : ℕ) (v : Verdict) (j : Judgement) (c new : Checker) (e : Entry) (es : List Entry) (b : Bool) (k : ChecksTo s limit v j c (e ∷ es))
    → Accepts s limit c k.all e (Ok b) new → b ≡ false → (j ≡ IllegalAt (c.count + 1)) × (new.count ≡ c.count)
no_entry s limit v j c new e es true k accepts is = absurd (cc)
no_entry s limit v j c new e es false k accepts is = (k.judged ∙ illegal accepts.0, accepts.1) where
  illegal : (limit ≤ c.count) ⊎ (step s (state_of c.machine k.all) e ≡ None) → judged_from s limit v c.count (e ∷ es) (state_of c.machine k.all) ≡ IllegalAt (c.count + 1)
  illegal (inl over) = cond-true (nat_le limit c.count) _ _ (le-leb limit c.count over)
  illegal (inr none) = either (nat_le limit c.count) _ _ (ap (λ o. option_map_or (λ st. judged_from s limit v (c.count + 1) es st) o (IllegalAt (c.count + 1))) none)

-- it was, and the others decide
unfoldable pub next_entry : (s : System) (limit : ℕ) (v : Verdict) (j : Judgement) (c new : Checker) (e : Entry) (es : List Entry) (k : ChecksTo s limit v j c (e ∷ es))
    → IsAccepted s limit c k.all e new → ChecksTo s limit v j new es
next_entry s limit v j c new e es k it = record {
  all = it.given;
  knows = it.knows;
  kept = it.kept;
  made = it.made;
  judged =
      k.judged ∙ cond-false (nat_le limit c.count) _ _ (lt-leb limit c.count it.below)
      ∙ ap (λ o. option_map_or (λ st. judged_from s limit v (c.count + 1) es st) o (IllegalAt (c.count + 1))) it.is_step
      ∙ ap (λ n. judged_from s limit v n es (state_of new.machine it.given)) (sym it.count);
}

pub was_accepted : (s : System) (limit : ℕ) (c new : Checker) (all : List Handle) (e : Entry) (b : Bool) → Accepts s limit c all e (Ok b) new → b ≡ true → IsAccepted s limit c all e new
was_accepted s limit c new all e true accepts is = accepts
was_accepted s limit c new all e false accepts is = absurd (cc)
