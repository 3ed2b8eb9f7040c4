use Rattle.std.proofs.Common.{sym}
use Rattle.std.proofs.lemmas.List.Quantifiers.{position-Some}
use Rattle.ffm_model.specs.declared.system.Class.TheVariants.{Ram}
use Rattle.ffm_model.specs.Memory.{lies_in}
use Rattle.memory_image.proofs.Located.{class_found, class_missing}
use Rattle.memory_image.proofs.ranges.class_of.Goals as goal

pub bounds-regions-place : goal.bounds-regions-place
bounds-regions-place c = rw c.as_slice-regions.ensures ((position-Some (lies_in c.args.base c.args.len) c.args.system.now.regions c.in-Some.place (record { base = 0; size = 0; class = Ram 0 }) (sym c.in-Some.ensures)).0)

pub returns-in-Some : goal.returns-in-Some
returns-in-Some c = rw c.as_slice-regions.ensures (class_found c.args.system.now c.in-Some.place c.args.base c.args.len _ c.requires (sym c.in-Some.ensures))

pub returns-in-None : goal.returns-in-None
returns-in-None c = class_missing c.args.system.now c.args.base c.args.len (sym c.in-None.ensures)
