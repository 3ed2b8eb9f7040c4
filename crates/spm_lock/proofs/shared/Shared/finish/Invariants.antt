use Rattle.std.proofs.Common.{◌≡◌, [], ◌++◌, map}
use Rattle.spm_lock.specs.Views.{taker}
use Rattle.spm_lock.specs.Passes.{right_in}
use Rattle.spm_lock.proofs.shared.Shared.finish.Given as goal

abbrev pub invariant-loop-pass : goal.invariant-loop-pass
invariant-loop-pass l = (l.target.table_id ≡ l.table.shared.table_id) × (l.target.me ≡ (taker l.table.shared.key.value (map right_in l.yielded), [])) × (l.yielded ++ l.pass-iterator.rest.items ≡ l.fn.passes)
