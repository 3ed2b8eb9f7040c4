-- The handling of a source, as the tables keep it.
use Rattle.std.proofs.Common.{ℕ, ◌≡◌, true, false, not, ◌&&◌, ◌∙◌}
use Rattle.std.specs.Prelude.{nat_lt, nat_le, length}
use Rattle.std.proofs.lemmas.Bool.{and_parts, not-true}
use Rattle.ffm_model.specs.declared.system.System.{System}
use Rattle.ffm_model.specs.SignalCalls.{has_flih}
use Rattle.doorbell_irq.proofs.HandlingLemmas.{handling-is}
use Rattle.spm_tables.specs.TablesView.{TablesView, MadeFor, handling}

-- a source whose interrupt may be raised has a second-level handler
pub is-slih : (s : System) (d : TablesView) (source : ℕ) → MadeFor d s → (nat_lt source (length s.sources) && not (has_flih s source)) ≡ true → handling d source ≡ false
is-slih s d source made may = handling-is s d made source ∙ not-true (has_flih s source) (and_parts (nat_lt source (length s.sources)) _ may).1

-- and one that may fire has a first-level handler
pub is-flih : (s : System) (d : TablesView) (source answer : ℕ) → MadeFor d s → (nat_lt source (length s.sources) && (has_flih s source && nat_le answer 1)) ≡ true → handling d source ≡ true
is-flih s d source answer made may =
    handling-is s d made source ∙ (and_parts (has_flih s source) (nat_le answer 1) (and_parts (nat_lt source (length s.sources)) _ may).1).0
