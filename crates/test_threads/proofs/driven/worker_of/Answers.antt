use Rattle.test_threads.proofs.driven.worker_of.Goals as goal

pub returns-clause-unstarted : goal.returns-clause-unstarted
returns-clause-unstarted g c = record {
  follows = rw (c.new.ensures.runner, c.new.ensures.script, c.new-runner.ensures.role) (c.new-runner.ensures.follows c.in_ok-script.script c.in_ok-script.ensures);
  unfinished = c.new.ensures.unfinished;
  first = c.new.ensures.first;
}
