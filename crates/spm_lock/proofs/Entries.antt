-- One entry more, of this actor or of another.
use Rattle.std.proofs.Common.{◌≡◌, List, [], ◌∷◌, ◌++◌, ap, ◌∙◌}
use Rattle.std.proofs.lemmas.List.{map-append}
use Rattle.ffm_model.proofs.RecordLemmas.{ends_blocked-push}
use Rattle.ffm_model.specs.declared.machine.Entry.{Entry}
use Rattle.ffm_model.specs.Records.{outcomes_of, ends_blocked, is_blocked_outcome}

pub ends_with : (es : List Entry) (e : Entry) → ends_blocked (outcomes_of (es ++ e ∷ [])) ≡ is_blocked_outcome e.outcome
ends_with es e = ap ends_blocked (map-append (λ (x : Entry). x.outcome) es (e ∷ [])) ∙ ends_blocked-push (outcomes_of es) e.outcome
