use Rattle.std.proofs.Common.{ℕ, ◌≤◌, length, arith, sym, ◌∙◌}
use Rattle.std.proofs.lemmas.List.{get_or_default}
use Rattle.view_scripts.proofs.Ends.{ends, finds, passes, skips}
use Rattle.view_scripts.proofs.standing.end_of.Goals as goal

pub loop-entry-preserved-then-entry-actor : goal.loop-entry-preserved-then-entry-actor
loop-entry-preserved-then-entry-actor c =
    let k : ℕ = c.loop-entry.entry-index in
    sym (skips c.args.actor c.args.entries.now k _ c.loop-entry-test.true (get_or_default c.args.entries.now k _ _ c.loop-entry-test.true) c.if-entry-actor.true) ∙ c.loop-entry.invariant

pub returns-in-Some : goal.returns-in-Some
returns-in-Some c =
    let k : ℕ = c.loop-entry.entry-index in
    sym (finds c.args.actor c.args.entries.now k _ c.loop-entry-test.true (get_or_default c.args.entries.now k _ _ c.loop-entry-test.true) c.in-Some.end c.if-entry-actor.false c.in-Some.ensures) ∙ c.loop-entry.invariant

pub loop-entry-preserved : goal.loop-entry-preserved
loop-entry-preserved c =
    let k : ℕ = c.loop-entry.entry-index in
    sym (passes c.args.actor c.args.entries.now k _ c.loop-entry-test.true (get_or_default c.args.entries.now k _ _ c.loop-entry-test.true) c.if-entry-actor.false c.in-None.ensures) ∙ c.loop-entry.invariant

pub returns : goal.returns
returns c =
    let over : length c.args.entries.now ≤ c.loop-entry.entry-index = omega arith in
    ends c.args.actor c.args.entries.now c.loop-entry.entry-index over ∙ c.loop-entry.invariant
