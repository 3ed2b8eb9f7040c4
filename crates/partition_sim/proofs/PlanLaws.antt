-- Plans that make the same calls have the same runs.
use Rattle.std.proofs.Common.{◌≡◌, List, [], ◌∷◌, ◌++◌, ◌∙◌, sym}
use Rattle.std.specs.Prelude.{◌↔◌}
use Rattle.ffm_model.specs.declared.machine.Entry.{Entry}
use Rattle.ffm_model.specs.declared.machine.Outcome.{Outcome}
use Rattle.ffm_model.specs.Plans.{Plan, RunFrom, PlanRun}

run-from : (f g : Plan) → ((os : List Outcome) → f os ≡ g os) → (es : List Entry) (os : List Outcome) → RunFrom f os es → RunFrom g os es
run-from f g h [] os r = tt
run-from f g h (e ∷ es) os r = (r.0 ∙ h os, run-from f g h es (os ++ e.outcome ∷ []) r.1)

pub same-runs : (f g : Plan) → ((os : List Outcome) → f os ≡ g os) → (es : List Entry) → PlanRun f es ↔ PlanRun g es
same-runs f g h es = ((λ r. run-from f g h es [] r), (λ r. run-from g f (λ os. sym (h os)) es [] r))
