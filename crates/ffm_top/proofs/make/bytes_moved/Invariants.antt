use Rattle.std.proofs.Common.{◌≡◌, ◌≤◌, ◌*◌, take}
use Rattle.ffm_top.specs.Makes.{bytes_moved}
use Rattle.ffm_top.proofs.make.bytes_moved.Given as goal

-- what the events so far moved
abbrev pub invariant-loop-place : goal.invariant-loop-place
invariant-loop-place l = record {
  sum : l.moved ≡ bytes_moved (take l.place l.spm.history);
  small : l.moved ≤ l.place * 4294967295;
}
