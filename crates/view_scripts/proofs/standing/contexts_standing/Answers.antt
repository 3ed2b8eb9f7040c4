use Rattle.std.proofs.Common.{ℕ, ◌≡◌, ◌+◌, ◌<◌, Bool, [], false, length, take, ap, refl, sym, subst, ◌∙◌}
use Rattle.ffm_model.specs.Contexts.{Contexts, context_engine, opening_contexts}
use Rattle.ffm_model.specs.Plans.{plan_of}
use Rattle.script_points.specs.Points.{AreContexts, Parts}
use Rattle.script_points.proofs.Turns.{opening-are}
use Rattle.view_scripts.specs.Standings.{LeavesAt}
use Rattle.view_scripts.proofs.Fits.{actor-fits, taken-are}
use Rattle.view_scripts.proofs.Following.{Followed, followed-none, leaves, next-own}
use Rattle.view_scripts.proofs.standing.contexts_standing.Goals as goal

pub loop-index-init : goal.loop-index-init
loop-index-init c =
    let parts : Parts = c.as_slice-parts.result.now in
    let same : parts ≡ c.args.script.now = cc in
    let at : c.in_ok-contexts.contexts ≡ opening_contexts parts = c.in_ok-contexts.ensures ∙ ap opening_contexts (sym same) in
    let some : 0 < length parts = subst (λ (l : Parts). 0 < length l) (sym c.as_slice-parts.ensures) c.script.invariant.some in
    record {
      followed = subst (λ (x : Contexts). Followed (context_engine parts) (opening_contexts parts) c.args.actor [] x false) (sym at) (followed-none (context_engine parts) (opening_contexts parts) c.args.actor);
      are = subst (AreContexts parts) (sym at) (opening-are parts some);
    }

pub contexts_take-requires-clause-actor : goal.contexts_take-requires-clause-actor
contexts_take-requires-clause-actor c =
    actor-fits c.args.system.now c.args.actor _ _ c.counts-counts.ensures c.if-entry-actor.false c.requires.actor

pub returns-then-not-branch : goal.returns-then-not-branch
returns-then-not-branch c =
    let parts : Parts = c.as_slice-parts.result.now in
    let same : parts ≡ c.args.script.now = cc in
    let es = c.args.entries.now in
    let k : ℕ = c.loop-index.index in
    subst (λ (l : Parts). LeavesAt (plan_of (context_engine l) (opening_contexts l)) c.args.actor es (k + 1)) same
    (leaves (context_engine parts) (opening_contexts parts) c.args.actor es k _ c.loop-index-test.true (context_engine parts) refl c.loop-index.contexts c.contexts_take.new.contexts
    c.loop-index.pending c.in_ok-contexts_take.field-0 c.loop-index.invariant.followed c.if-entry-actor.false c.if-not-branch.true c.in_ok-contexts_take.ensures)

pub loop-index-preserved : goal.loop-index-preserved
loop-index-preserved c =
    let parts : Parts = c.as_slice-parts.result.now in
    let es = c.args.entries.now in
    let k : ℕ = c.loop-index.index in
    let y : Contexts = c.contexts_take.new.contexts in
    let next = next-own (context_engine parts) (opening_contexts parts) c.args.actor es k _ c.loop-index-test.true (context_engine parts) refl c.loop-index.contexts y
    c.loop-index.pending c.in_ok-contexts_take.field-0 c.loop-index.invariant.followed c.if-entry-actor.false c.if-not-branch.false c.in_ok-contexts_take.ensures in
    record {
      followed = subst (λ (b : Bool). Followed (context_engine parts) (opening_contexts parts) c.args.actor (take (k + 1) es) y b) (sym c.is_blocked-pending.ensures) next;
      are = taken-are parts c.loop-index.contexts y c.loop-index.pending c.in_ok-contexts_take.field-0 es k _ c.if-not-branch.false c.in_ok-contexts_take.ensures c.loop-index.invariant.are;
    }
