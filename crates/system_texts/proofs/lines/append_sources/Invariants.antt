use Rattle.std.proofs.Common.{◌≡◌, ◌++◌, drop, filter}
use Rattle.std.specs.Prelude.{◌==◌}
use Rattle.std.specs.List.{flat_map}
use Rattle.ffm_model.specs.Listing.{source_line}
use Rattle.system_texts.proofs.lines.append_sources.Given as goal

-- the lines so far, and then those of the other interrupts
abbrev pub invariant-loop-source : goal.invariant-loop-source
invariant-loop-source l = l.text.items ++ flat_map source_line (filter (λ v. v.owner == l.owner) (drop l.source-index l.system.sources)) ≡ l.initial.text.items ++ flat_map source_line (filter (λ v. v.owner == l.owner) l.system.sources)
