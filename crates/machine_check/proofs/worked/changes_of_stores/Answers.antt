-- The step is computed, and the change shown for each address.
use Rattle.std.proofs.Common.{[], Some, None, refl}
use Rattle.ffm_model.specs.Step.{step}
use Rattle.machine_check.specs.Worked.{first_change}
use Rattle.machine_check.proofs.StoredBytes.{own_byte, outside_byte, same_byte}
use Rattle.machine_check.proofs.worked.changes_of_stores.Goals as goal

pub returns : goal.returns
unfolding step
returns c = record {
  own = (Some (first_change 0x30000004 1 None), [], refl, (own_byte, refl));
  outside = (Some (first_change 0x30000020 1 (Some 0x30000020)), [], refl, (outside_byte, refl));
  same_byte = (None, [], refl, (same_byte 0x30000004, refl));
  load = (None, [], refl, (λ x. refl, refl));
}
