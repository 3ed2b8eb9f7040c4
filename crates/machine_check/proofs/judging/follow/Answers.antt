use Rattle.std.proofs.Common.{◌+◌, ◌++◌, List, take, drop, arith, ap, sym, subst, ◌∙◌}
use Rattle.std.proofs.lemmas.List.{drop_more, length-take, take_all, take_more, take-append-drop}
use Rattle.ffm_model.specs.declared.machine.Entry.{Entry}
use Rattle.memory_image.specs.Pieces.{byte_at}
use Rattle.machine_check.specs.Reaching.{IsAfter}
use Rattle.machine_check.proofs.Followed.{after_more, after_none, stopped}
use Rattle.machine_check.proofs.Judged.{was_accepted}
use Rattle.machine_check.proofs.judging.follow.Goals as goal

pub loop-entry-init : goal.loop-entry-init
loop-entry-init c =
    let start = c.in_ok-checker.ensures.starts in
    record { behind = after_none c.args.system.now (byte_at c.args.memory.now) c.in_ok-checker.checker start; within = omega (arith, start.count) }

pub accept-requires : goal.accept-requires
accept-requires c =
    let k = c.loop-entry.invariant.behind in
    record { kept = k.kept; made = k.made; few = omega (arith, k.count, length-take c.loop-entry.entry-index c.args.entries.now, c.requires.few) }

pub returns-then-not-branch : goal.returns-then-not-branch
returns-then-not-branch c =
    let es = c.args.entries.now in
    let i = c.loop-entry.entry-index in
    let k = c.loop-entry.invariant.behind in
    stopped c.args.system.now (byte_at c.args.memory.now) c.args.limit (take i es) (drop (i + 1) es) es c.loop-entry.checker c.accept.new.self k _ _
    (sym (take-append-drop i es) ∙ ap (λ (l : List Entry). take i es ++ l) (drop_more es i _ c.loop-entry-test.true)) c.loop-entry.invariant.within (c.in_ok-accept.ensures.accepts k.handles k.knows) c.if-not-branch.true

pub loop-entry-preserved : goal.loop-entry-preserved
loop-entry-preserved c =
    let s = c.args.system.now in
    let m = byte_at c.args.memory.now in
    let es = c.args.entries.now in
    let i = c.loop-entry.entry-index in
    let k = c.loop-entry.invariant.behind in
    let it = was_accepted s c.args.limit c.loop-entry.checker c.accept.new.self k.handles _ _ (c.in_ok-accept.ensures.accepts k.handles k.knows) c.if-not-branch.false in
    record {
      behind = subst (λ (l : List Entry). IsAfter s m l c.accept.new.self) (sym (take_more es i _ c.loop-entry-test.true)) (after_more s m c.args.limit (take i es) c.loop-entry.checker c.accept.new.self k _ it);
      within = omega (arith, it.count, it.below);
    }

pub returns : goal.returns
returns c =
    (subst (λ (l : List Entry). IsAfter c.args.system.now (byte_at c.args.memory.now) l c.loop-entry.checker) (take_all _ _ c.loop-entry-test.false) c.loop-entry.invariant.behind, c.loop-entry.invariant.within)
