use Rattle.std.proofs.Common.{ℕ, ◌+◌, ◌<◌, Bool, List, [], false, take, arith, ap, sym, subst, ◌∙◌}
use Rattle.ffm_model.specs.declared.script.Instruction.{Instruction}
use Rattle.ffm_model.specs.Actors.{actor_count}
use Rattle.ffm_model.specs.Held.{Holder, holder_of}
use Rattle.ffm_model.specs.HeldPlans.{Holding, held_engine, holding_none}
use Rattle.ffm_model.specs.Plans.{Engine, plan_of}
use Rattle.view_scripts.specs.Standings.{LeavesAt}
use Rattle.view_scripts.proofs.Fits.{actor-fits}
use Rattle.view_scripts.proofs.Following.{Followed, followed-none, leaves, next-own}
use Rattle.view_scripts.proofs.standing.holding_standing.Goals as goal

pub loop-index-init : goal.loop-index-init
loop-index-init c =
    let p : Holder = holder_of c.args.system.now c.args.actor in
    let script : List Instruction = c.instructions-instructions.result.now in
    record {
      followed = subst (λ (x : Holding). Followed (held_engine p script) holding_none c.args.actor [] x false) (sym c.holding_none-holding.ensures) (followed-none (held_engine p script) holding_none c.args.actor);
      holder = ap (λ h. h.holder) c.new-held.ensures;
    }

pub holding_takes-requires-clause-actor : goal.holding_takes-requires-clause-actor
holding_takes-requires-clause-actor c =
    let there : c.args.actor < actor_count c.args.system.now = omega (arith, c.requires.partition) in
    actor-fits c.args.system.now c.args.actor _ _ c.counts-counts.ensures c.if-entry-actor.false there

pub returns-then-not-branch : goal.returns-then-not-branch
returns-then-not-branch c =
    let p : Holder = holder_of c.args.system.now c.args.actor in
    let script : List Instruction = c.instructions-instructions.result.now in
    let es = c.args.entries.now in
    let k : ℕ = c.loop-index.index in
    let of : Holder → Engine Holding = λ q. held_engine q script in
    subst (λ (l : List Instruction). LeavesAt (plan_of (held_engine p l) holding_none) c.args.actor es (k + 1)) c.instructions-instructions.ensures.part
    (leaves (held_engine p script) holding_none c.args.actor es k _ c.loop-index-test.true (held_engine c.loop-index.held.holder script) (ap of c.loop-index.invariant.holder)
    c.loop-index.holding c.holding_takes.new.holding c.loop-index.pending c.in_ok-holding_takes.field-0 c.loop-index.invariant.followed c.if-entry-actor.false c.if-not-branch.true c.in_ok-holding_takes.ensures.taken)

pub loop-index-preserved : goal.loop-index-preserved
loop-index-preserved c =
    let p : Holder = holder_of c.args.system.now c.args.actor in
    let script : List Instruction = c.instructions-instructions.result.now in
    let es = c.args.entries.now in
    let k : ℕ = c.loop-index.index in
    let of : Holder → Engine Holding = λ q. held_engine q script in
    let next = next-own (held_engine p script) holding_none c.args.actor es k _ c.loop-index-test.true (held_engine c.loop-index.held.holder script) (ap of c.loop-index.invariant.holder)
    c.loop-index.holding c.holding_takes.new.holding c.loop-index.pending c.in_ok-holding_takes.field-0 c.loop-index.invariant.followed c.if-entry-actor.false c.if-not-branch.false c.in_ok-holding_takes.ensures.taken in
    record {
      followed = subst (λ (b : Bool). Followed (held_engine p script) holding_none c.args.actor (take (k + 1) es) c.holding_takes.new.holding b) (sym c.is_blocked-pending.ensures) next;
      holder = c.in_ok-holding_takes.ensures.holder ∙ c.loop-index.invariant.holder;
    }
