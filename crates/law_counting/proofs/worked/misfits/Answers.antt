-- Each state breaks one field.
use Rattle.std.proofs.Common.{◌≡◌, ◌≤◌, arith, true}
use Rattle.law_counting.specs.Worked.{client, vault}
use Rattle.law_counting.proofs.worked.misfits.Goals as goal

pub returns : goal.returns
returns c = record {
  waits_for_nothing = λ h. let none : 0 ≡ 1 = h.phases client in omega arith;
  message_left_over = λ h. let one : 1 ≡ 0 = h.paired (λ n a v ph. true) in omega arith;
  one_number_twice = λ h. let less : 1 ≤ 0 = h.rising.1.0 in omega arith;
  beyond_the_budget = λ h. let more : 1 ≤ 0 = h.budgets vault 0 in omega arith;
}
