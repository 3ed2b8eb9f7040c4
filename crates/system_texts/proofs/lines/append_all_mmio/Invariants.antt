use Rattle.std.proofs.Common.{◌≡◌, ◌++◌, drop}
use Rattle.std.specs.List.{flat_map}
use Rattle.ffm_model.specs.Listing.{mmio_line}
use Rattle.system_texts.proofs.lines.append_all_mmio.Given as goal

-- the lines so far, and then those of the other regions
abbrev pub invariant-loop-region : goal.invariant-loop-region
invariant-loop-region l = l.text.items ++ flat_map (λ r. mmio_line l.place r r.class) (drop l.region-index l.system.regions) ≡ l.initial.text.items ++ flat_map (λ r. mmio_line l.place r r.class) l.system.regions
