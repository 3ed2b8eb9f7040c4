use Rattle.std.proofs.Common.{ℕ, ◌≡◌, ◌-◌, ◌+◌, ap₂, ◌∙◌, sym, arith}
use Rattle.ffm_model.specs.Contexts.{first_from}
use Rattle.ns_contexts.proofs.DeskLemmas.{first-here, first-next, first-none}
use Rattle.ns_contexts.proofs.desk.first_from.Goals as goal

pub returns-then-not-ended-at : goal.returns-then-not-ended-at
returns-then-not-ended-at c =
    sym (first-here c.args.count c.args.ended.now c.loop-i.at (c.args.n - c.loop-i.i) (omega arith) c.if-not-ended-at.true) ∙ c.loop-i.invariant.rest

pub loop-i-preserved : goal.loop-i-preserved
loop-i-preserved c =
    let less : c.args.n - c.loop-i.i - 1 ≡ c.args.n - (c.loop-i.i + 1) = omega arith in
    record {
      within = c.next_context-at.ensures.within;
      rest = ap₂ (λ (at n : ℕ). first_from c.args.count c.args.ended.now at n) c.next_context-at.ensures.next (sym less)
          ∙ (sym (first-next c.args.count c.args.ended.now c.loop-i.at (c.args.n - c.loop-i.i) (omega arith) c.if-not-ended-at.false) ∙ c.loop-i.invariant.rest);
    }

pub returns : goal.returns
returns c = sym (first-none c.args.count c.args.ended.now c.loop-i.at (c.args.n - c.loop-i.i) (omega arith)) ∙ c.loop-i.invariant.rest
