use Rattle.std.proofs.Common.{◌≡◌, length}
use Rattle.test_threads.proofs.drives.worker.Goals as goal

pub returns : goal.returns
returns g c = λ a.
    let v = c.script.view_is in
    let l = c.len-contexts.ensures in
    let many : length c.args.script ≡ c.len-contexts.result = cc in
    record {
      own_is = tt;
      empty = rw c.new.ensures.pass c.requires;
      follows = rw (c.new.ensures.runner, c.new.ensures.script, c.new-runner.ensures.role) (c.new-runner.ensures.follows c.args.script many);
      unfinished = c.new.ensures.unfinished;
      first = c.new.ensures.first;
    }
