use Rattle.std.proofs.Common.{◌≡◌, ◌∙◌, ap, sym, subst}
use Rattle.ffm_model.specs.Parts.{parts_of_system}
use Rattle.ffm_model.specs.PartsItems.{PartsRecord, IsParts}
use Rattle.law_systems.proofs.Fit.{lists_fit, lists_are_numbered}
use Rattle.manifest_compile.proofs.SystemLemmas.{signals_fit, partitions_are, sources_are, same_parts}
use Rattle.manifest_compile.proofs.systems.system_of.Goals as goal

pub services_of-requires : goal.services_of-requires
services_of-requires c =
    signals_fit c.args.parts.now c.as_slice-manifests.result.now c.requires.none (c.as_slice-manifests.ensures ∙ ap (λ (p : PartsRecord). p.manifests) c.parts.view_is)

pub sources_of-requires-clause-signals : goal.sources_of-requires-clause-signals
sources_of-requires-clause-signals c =
    signals_fit c.args.parts.now c.as_slice-manifests.result.now c.requires.none (c.as_slice-manifests.ensures ∙ ap (λ (p : PartsRecord). p.manifests) c.parts.view_is)

pub invariant_of-system : goal.invariant_of-system
invariant_of-system c =
    let p = c.args.parts.now in
    let ms = c.as_slice-manifests.result.now in
    let level : c.parts.inside.level ≡ p.level = ap (λ (p : PartsRecord). p.level) c.parts.view_is in
    let manifests : ms ≡ p.manifests = c.as_slice-manifests.ensures ∙ ap (λ (p : PartsRecord). p.manifests) c.parts.view_is in
    let services = c.in_ok-services.ensures p (sym manifests) in
    let parts : IsParts p = subst IsParts c.parts.view_is c.parts.invariant in
    rw (c.of.ensures, c.of-2.ensures) (record {
      counted = lists_are_numbered p c.in_ok-services.services c.args.regions parts c.requires.none services c.requires.regions;
      well_formed =
          lists_fit p c.parts.inside.level c.in_ok-partitions.partitions c.in_ok-services.services c.in_ok-sources.sources c.args.regions c.in_ok-clients.clients c.args.budgets parts c.requires.none
          level (partitions_are p c.parts.inside.level ms c.in_ok-partitions.partitions level manifests c.in_ok-partitions.ensures) services
          (sources_are p ms c.in_ok-sources.sources manifests c.in_ok-sources.ensures)
          c.requires.regions (c.in_ok-clients.ensures ∙ c.as_slice.ensures ∙ ap (λ (p : PartsRecord). p.clients) c.parts.view_is) c.requires.budgets;
    })

pub returns : goal.returns
returns c =
    let p = c.args.parts.now in
    let ms = c.as_slice-manifests.result.now in
    let level : c.parts.inside.level ≡ p.level = ap (λ (p : PartsRecord). p.level) c.parts.view_is in
    let manifests : ms ≡ p.manifests = c.as_slice-manifests.ensures ∙ ap (λ (p : PartsRecord). p.manifests) c.parts.view_is in
    ap parts_of_system c.in_ok-ordered.ensures
    ∙ rw (c.of.ensures, c.of-2.ensures) (same_parts p c.parts.inside.level c.in_ok-partitions.partitions c.in_ok-services.services c.in_ok-sources.sources c.args.regions c.in_ok-clients.clients c.args.budgets
    level (partitions_are p c.parts.inside.level ms c.in_ok-partitions.partitions level manifests c.in_ok-partitions.ensures)
    (c.in_ok-services.ensures p (sym manifests))
    (sources_are p ms c.in_ok-sources.sources manifests c.in_ok-sources.ensures)
    c.requires.regions (c.in_ok-clients.ensures ∙ c.as_slice.ensures ∙ ap (λ (p : PartsRecord). p.clients) c.parts.view_is) c.requires.budgets)
