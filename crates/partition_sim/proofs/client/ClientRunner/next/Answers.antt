use Rattle.std.proofs.Common.{◌≡◌, ◌∙◌, refl, ap, List}
use Rattle.std.specs.Option.{unwrap_or}
use Rattle.ffm_model.specs.declared.machine.Outcome.{Outcome}
use Rattle.ffm_model.specs.declared.script.Instruction.{Instruction}
use Rattle.ffm_model.specs.Contexts.{picked_context}
use Rattle.ffm_model.specs.ScriptRuns.{Point}
use Rattle.partition_sim.specs.Clients.{ClientStanding, FollowsAll, AskedAll, EachAtCall, contexts_after}
use Rattle.partition_sim.proofs.ClientLemmas.{found, asked, asked-follows, planned, points-long}
use Rattle.partition_sim.proofs.client.ClientRunner.next.Goals as goal

pub returns : goal.returns
returns c = rw (← c.self.view_is) (
    let scripts : List (List Instruction) = c.args.script.now in
    let parts : c.as_slice-parts.result.now ≡ scripts = c.as_slice-parts.ensures ∙ c.script.view_is in
    let old : ClientStanding = record { contexts = c.self.inside.contexts; desk = c.self.inside.desk; caller = c.self.inside.caller; waiting = c.self.inside.waiting } in
    let new : ClientStanding = record old { contexts = c.settle_all.new.contexts; caller = c.unwrap_or-self-inside.result } in
    let points : List Outcome → List Point = λ os. (contexts_after scripts os).points in
    let at : (os : List Outcome) → FollowsAll scripts os old → EachAtCall scripts (points os) new.contexts =
    λ os f. let settled = rw parts at (c.settle_all.ensures (points os)) in settled f.each in
    let pick : (os : List Outcome) → FollowsAll scripts os old → c.pick-picked.result ≡ picked_context scripts (contexts_after scripts os) = λ os f.
    let inside = rw c.turn.ensures.turn at c.turn.ensures.within in
    let flags = rw parts at (c.ended_contexts.ensures (points os)) in
    found scripts os old c.ended_contexts.result c.pick-picked.result f inside (flags (at os f)) c.pick-picked.ensures.picked in
    let caller = c.unwrap_or-self-inside.ensures ∙ ap (unwrap_or c.pick-picked.result) c.turn.ensures.turn in
    let asks : (os : List Outcome) → FollowsAll scripts os old → AskedAll scripts os new =
    λ os f. asked scripts os old new c.pick-picked.result f (pick os f) refl refl caller (at os f) in
    record {
      call = λ os f. let due = rw parts at (c.call_due.ensures (points os)) in planned scripts os old c.pick-picked.result c.call_due.result f (pick os f) (due (points-long scripts os) (at os f));
      asked = asks;
      count = refl;
      again = λ os f. asked-follows scripts os new (asks os f);
    })
