-- The asserted signals of a partition's services and interrupt sources, out of the lists that tell of them.
-- Source: FF-M 1.0, signals.
use Rattle.std.specs.Prelude.{ℕ, ◌==◌, ◌&&◌, if◌then◌else◌, List, Some, None, get_or, drop}
use Rattle.std.specs.List.{list_any, filter_map, enumerate_from}
use Rattle.ffm_model.specs.declared.system.Service.{Service}
use Rattle.ffm_model.specs.declared.system.Source.{Source}
use Rattle.ffm_model.specs.declared.objects.PendingMessage.{PendingMessage}
use Rattle.ffm_model.specs.declared.objects.SourceFlags.{SourceFlags}
use Rattle.ffm_model.specs.State.{is_undelivered, no_flags}

-- those of the services from a place on
abbrev pub services_from : List Service → List PendingMessage → ℕ → ℕ → List ℕ
services_from services messages p i = filter_map (λ e. if (e.1.owner == p) && list_any (is_undelivered e.0) messages then Some e.1.signal else None) (enumerate_from i (drop i services))

abbrev pub services_asserted : List Service → List PendingMessage → ℕ → List ℕ
services_asserted services messages p = filter_map (λ e. if (e.1.owner == p) && list_any (is_undelivered e.0) messages then Some e.1.signal else None) (enumerate_from 0 services)

-- those of the sources from a place on
abbrev pub sources_from : List Source → List SourceFlags → ℕ → ℕ → List ℕ
sources_from sources flags p i = filter_map (λ e. if (e.1.owner == p) && (get_or flags e.0 no_flags).asserted then Some e.1.signal else None) (enumerate_from i (drop i sources))

abbrev pub sources_asserted : List Source → List SourceFlags → ℕ → List ℕ
sources_asserted sources flags p = filter_map (λ e. if (e.1.owner == p) && (get_or flags e.0 no_flags).asserted then Some e.1.signal else None) (enumerate_from 0 sources)
