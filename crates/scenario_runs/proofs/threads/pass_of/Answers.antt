use Rattle.std.proofs.Common.{◌≡◌, ◌∷◌, ◌++◌, ◌∙◌, ap, subst}
use Rattle.std.specs.Prelude.{option_to_list}
use Rattle.scenario_runs.specs.declared.threads.Progress.{Progress}
use Rattle.scenario_runs.specs.Threads.{Crew, IsAt, SameWorkers, left_of}
use Rattle.scenario_runs.proofs.Crews.{done_by, same_trans, next_done, next_left, next_finished}
use Rattle.scenario_runs.proofs.threads.pass_of.Goals as goal

pub returns-in-Started-clause-pass : goal.returns-in-Started-clause-pass
returns-in-Started-clause-pass g c =
    let before = c.args.seat.crew.value in
    let at = subst (IsAt c.args.shared.now before) c.in-Started.is c.requires.seat.1 in
    done_by c.args.shared.now before c.driven.result c.worker_of.result
    (same_trans before c.join-drove.result.1 c.driven.result (subst (λ (b : Crew). SameWorkers b c.join-drove.result.1) at.1 c.join-drove.ensures.same) c.driven.ensures.same) c.driven.ensures.finished c.worker_of.ensures

pub returns-clause-pass : goal.returns-clause-pass
returns-clause-pass g c =
    let crew = c.args.seat.crew.value in
    let workers = c.args.workers.now.rest.items in
    let later = c.next.new.self.rest.items in
    let popped : workers ≡ c.unwrap.result ∷ later = c.next.ensures.items ∙ ap (λ o. option_to_list o ++ later) c.unwrap.ensures in
    let same = subst (λ (p : Progress). SameWorkers (left_of crew p ++ c.requires.next.0) workers) c.in-Waiting.is c.requires.next.1 in
    next_done c.args.shared.now crew c.requires.next.0 workers later c.unwrap.result c.requires.seat.0.0 same c.requires.finished popped

pub returns-clause-left : goal.returns-clause-left
returns-clause-left g c =
    let crew = c.args.seat.crew.value in
    let workers = c.args.workers.now.rest.items in
    let later = c.next.new.self.rest.items in
    let popped : workers ≡ c.unwrap.result ∷ later = c.next.ensures.items ∙ ap (λ o. option_to_list o ++ later) c.unwrap.ensures in
    λ rest same. next_left crew rest workers later c.unwrap.result c.requires.seat.0.0 (subst (λ (p : Progress). SameWorkers (left_of crew p ++ rest) workers) c.in-Waiting.is same) popped

pub returns-clause-finished : goal.returns-clause-finished
returns-clause-finished g c =
    let workers = c.args.workers.now.rest.items in
    let later = c.next.new.self.rest.items in
    let popped : workers ≡ c.unwrap.result ∷ later = c.next.ensures.items ∙ ap (λ o. option_to_list o ++ later) c.unwrap.ensures in
    next_finished c.args.shared.now workers later c.unwrap.result c.requires.finished popped
