-- The tables keep the handling of the system's sources.
use Rattle.std.proofs.Common.{ℕ, zero, suc, ◌≡◌, Bool, false, List, [], ◌∷◌, map, ◌∙◌, ap, refl}
use Rattle.std.specs.Prelude.{slice_get}
use Rattle.std.specs.Option.{option_map_or}
use Rattle.ffm_model.specs.declared.system.System.{System}
use Rattle.ffm_model.specs.declared.system.Source.{Source}
use Rattle.ffm_model.specs.SignalCalls.{has_flih}
use Rattle.spm_tables.specs.declared.signals.OwnedSignal.{OwnedSignal}
use Rattle.spm_tables.specs.TablesView.{TablesView, MadeFor, Shape, handling, source_signal}

abbrev flih_at : List OwnedSignal → ℕ → Bool
flih_at xs i = option_map_or (λ x. x.flih) (slice_get xs i) false

flih-map : (xs : List Source) (i : ℕ) → flih_at (map source_signal xs) i ≡ option_map_or (λ x. x.flih) (slice_get xs i) false
flih-map [] i = refl
flih-map (x ∷ xs) zero = refl
flih-map (x ∷ xs) (suc i) = flih-map xs i

pub handling-is : (s : System) (d : TablesView) → MadeFor d s → (i : ℕ) → handling d i ≡ has_flih s i
handling-is s d made i = ap (λ (h : Shape). flih_at h.sources i) made ∙ flih-map s.sources i
