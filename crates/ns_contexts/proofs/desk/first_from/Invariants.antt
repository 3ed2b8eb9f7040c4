use Rattle.std.proofs.Common.{◌≡◌, ◌-◌, ◌<◌}
use Rattle.ffm_model.specs.Contexts.{first_from}
use Rattle.ns_contexts.proofs.desk.first_from.Given as goal

abbrev pub invariant-loop-i : goal.invariant-loop-i
invariant-loop-i l = record {
  within : l.at < l.count;
  rest : first_from l.count l.ended l.at (l.n - l.i) ≡ first_from l.count l.ended l.context l.n;
}
