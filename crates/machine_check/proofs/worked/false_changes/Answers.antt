-- Each breaks a field of what is told.
use Rattle.std.proofs.Common.{◌≡◌, ◌∷◌, ◌∙◌, true, false, [], Some, None, arith}
use Rattle.ffm_model.specs.Step.{step}
use Rattle.machine_check.specs.declared.auditing.Change.{Change}
use Rattle.machine_check.specs.Auditing.{IsChangeOf}
use Rattle.machine_check.specs.Worked.{first_change, neighbour_system}
use Rattle.machine_check.proofs.StoredBytes.{no_change, none_here, only_change, stored, zeros}
use Rattle.machine_check.proofs.worked.false_changes.Goals as goal

pub returns-clause-left_out : goal.returns-clause-left_out
unfolding step
returns-clause-left_out c h =
    let none = no_change (IsChangeOf neighbour_system 1 0 zeros (stored 0x30000004 7)) h.0 h.1 h.2 h.3.0 in
    let no : true ≡ false = none 0x30000004 in
    cc

pub returns-clause-counted_twice : goal.returns-clause-counted_twice
unfolding step
returns-clause-counted_twice c h =
    let change = only_change (IsChangeOf neighbour_system 1 0 zeros (stored 0x30000004 7)) h.0 h.1 (first_change 0x30000004 2 None) h.2 h.3.1 h.3.0 in
    omega (arith, change.count)

pub returns-clause-another_address : goal.returns-clause-another_address
unfolding step
returns-clause-another_address c h =
    let change = only_change (IsChangeOf neighbour_system 1 0 zeros (stored 0x30000004 7)) h.0 h.1 (first_change 0x30000005 1 None) h.2 h.3.1 h.3.0 in
    let no : false ≡ true = change.lowest.0 in
    cc

pub returns-clause-not_outside : goal.returns-clause-not_outside
unfolding step
returns-clause-not_outside c h =
    let change = only_change (IsChangeOf neighbour_system 1 0 zeros (stored 0x30000020 7)) h.0 h.1 (first_change 0x30000020 1 None) h.2 h.3.1 h.3.0 in
    let no : true ≡ false = change.outside 0x30000020 in
    cc

pub returns-clause-made_up : goal.returns-clause-made_up
unfolding step
returns-clause-made_up c change h =
    let told = only_change (IsChangeOf neighbour_system 1 0 zeros zeros) h.0 h.1 change h.2 h.3.1 h.3.0 in
    let no : false ≡ true = told.lowest.0 in
    cc

pub returns-clause-another_place : goal.returns-clause-another_place
unfolding step
returns-clause-another_place c h =
    let loaded = IsChangeOf neighbour_system 1 0 zeros zeros in
    let left = none_here loaded h.0 (first_change 0x30000004 1 None ∷ []) h.1 (λ (change : Change) (told : loaded (Some change)). let no : false ≡ true = told.lowest.0 in absurd cc) h.2 h.3.0 in
    let next = h.3.1 in
    let change = only_change (IsChangeOf neighbour_system 2 0 zeros (stored 0x30000004 7)) next.0 next.1 (first_change 0x30000004 1 None) (left ∙ next.2) next.3.1 next.3.0 in
    omega (arith, change.place)
