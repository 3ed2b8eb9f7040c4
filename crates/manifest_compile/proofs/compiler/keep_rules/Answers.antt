use Rattle.std.proofs.Common.{◌∙◌, append-nil}
use Rattle.ffm_model.specs.Rules.{too_many_partitions, duplicate_indices, too_many_stateless}
use Rattle.manifest_compile.proofs.KeepsLemmas.{behind, part_refused, since_indices, since_regions}
use Rattle.manifest_compile.proofs.compiler.keep_rules.Goals as goal

pub returns-in_err-regions-clause-keeps : goal.returns-in_err-regions-clause-keeps
returns-in_err-regions-clause-keeps c =
    part_refused _ _ _ c.regions.result c.from_residual-in_err-regions.result c.in_err-regions.field-0.0 c.in_err-regions.was c.from_residual-in_err-regions.ensures.1 c.regions.ensures.keeps
    (since_regions c.args.parts.now c.in_ok-partitions_differ.ensures c.in_ok-services_differ.ensures c.in_ok-sids_differ.ensures c.in_ok-dependencies_are_known.ensures c.in_ok-dependencies_are_others.ensures
    c.in_ok-dependencies_end.ensures c.in_ok-signals_are_few.ensures)

pub returns-in_err-partitions_are_few-clause-keeps : goal.returns-in_err-partitions_are_few-clause-keeps
returns-in_err-partitions_are_few-clause-keeps c =
    part_refused (too_many_partitions c.args.parts.now) _ _ c.partitions_are_few.result c.from_residual-in_err-partitions_are_few.result c.in_err-partitions_are_few.field-0.0 c.in_err-partitions_are_few.was c.from_residual-in_err-partitions_are_few.ensures.1 c.partitions_are_few.ensures
    (behind _ _ _ c.in_ok-regions.ensures.keeps (since_regions c.args.parts.now c.in_ok-partitions_differ.ensures c.in_ok-services_differ.ensures c.in_ok-sids_differ.ensures c.in_ok-dependencies_are_known.ensures c.in_ok-dependencies_are_others.ensures
    c.in_ok-dependencies_end.ensures c.in_ok-signals_are_few.ensures))

pub returns-in_err-indices_differ-clause-keeps : goal.returns-in_err-indices_differ-clause-keeps
returns-in_err-indices_differ-clause-keeps c =
    part_refused (duplicate_indices c.args.parts.now) _ _ c.indices_differ.result c.from_residual-in_err-indices_differ.result c.in_err-indices_differ.field-0.0 c.in_err-indices_differ.was c.from_residual-in_err-indices_differ.ensures.1 c.indices_differ.ensures
    (since_indices c.args.parts.now c.in_ok-partitions_are_few.ensures c.in_ok-pairs.ensures.keeps c.in_ok-budgets_are_permitted.ensures c.in_ok-sources_differ.ensures (c.in_ok-regions-2.ensures.keeps c.args.parts.now c.in_ok-regions.ensures.sizes)
    ∙ behind _ _ _ c.in_ok-regions.ensures.keeps (since_regions c.args.parts.now c.in_ok-partitions_differ.ensures c.in_ok-services_differ.ensures c.in_ok-sids_differ.ensures c.in_ok-dependencies_are_known.ensures c.in_ok-dependencies_are_others.ensures
    c.in_ok-dependencies_end.ensures c.in_ok-signals_are_few.ensures))

pub returns-in_err-stateless_are_few-clause-keeps : goal.returns-in_err-stateless_are_few-clause-keeps
returns-in_err-stateless_are_few-clause-keeps c =
    part_refused (too_many_stateless c.args.parts.now) _ _ c.stateless_are_few.result c.from_residual-in_err-stateless_are_few.result c.in_err-stateless_are_few.field-0.0 c.in_err-stateless_are_few.was c.from_residual-in_err-stateless_are_few.ensures.1 c.stateless_are_few.ensures
    (append-nil _ ∙ behind _ _ _ c.in_ok-indices_differ.ensures (since_indices c.args.parts.now c.in_ok-partitions_are_few.ensures c.in_ok-pairs.ensures.keeps c.in_ok-budgets_are_permitted.ensures c.in_ok-sources_differ.ensures (c.in_ok-regions-2.ensures.keeps c.args.parts.now c.in_ok-regions.ensures.sizes)
    ∙ behind _ _ _ c.in_ok-regions.ensures.keeps (since_regions c.args.parts.now c.in_ok-partitions_differ.ensures c.in_ok-services_differ.ensures c.in_ok-sids_differ.ensures c.in_ok-dependencies_are_known.ensures c.in_ok-dependencies_are_others.ensures
    c.in_ok-dependencies_end.ensures c.in_ok-signals_are_few.ensures)))
