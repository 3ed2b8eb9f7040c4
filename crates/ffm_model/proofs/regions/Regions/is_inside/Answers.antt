use Rattle.std.proofs.Common.{◌∙◌, ap}
use Rattle.std.specs.Prelude.{is_some}
use Rattle.ffm_model.specs.Memory.{lies_in}
use Rattle.ffm_model.proofs.RangeLemmas.{any_place}
use Rattle.ffm_model.proofs.regions.Regions.is_inside.Goals as goal

pub returns : goal.returns
returns c = c.is_some.ensures ∙ ap is_some c.place_with.ensures ∙ any_place (lies_in c.args.address c.args.len) c.args.self.now
