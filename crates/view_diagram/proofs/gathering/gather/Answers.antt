use Rattle.std.proofs.Common.{◌+◌, drop, arith, subst}
use Rattle.std.proofs.lemmas.List.{drop_all, drop_more}
use Rattle.memory_image.specs.Pieces.{byte_at}
use Rattle.view_diagram.proofs.Gathered.{GathersTo, all_gathered, gather_begins, next_gathered, none_left}
use Rattle.machine_check.proofs.Judged.{was_accepted}
use Rattle.view_diagram.proofs.gathering.gather.Goals as goal

pub loop-entry-init : goal.loop-entry-init
loop-entry-init c = record {
  gathers = gather_begins c.args.system.now (byte_at c.args.memory.now) c.args.limit c.args.part c.args.entries.now c.in_ok-checker.checker c.in_ok-last.last.places.items _ c.in_ok-checker.ensures.starts c.in_ok-last.ensures c.new-arrows.ensures.items;
  few = omega (arith, c.in_ok-checker.ensures.starts.count);
}

pub returns-then-not-branch : goal.returns-then-not-branch
returns-then-not-branch c =
    let s = c.args.system.now in
    let m = byte_at c.args.memory.now in
    let left = drop (c.loop-entry.entry-index + 1) c.args.entries.now in
    let k = subst (λ es. GathersTo s m c.args.limit c.args.part c.args.entries.now c.loop-entry.checker c.loop-entry.last.places.items c.loop-entry.arrows.items es) (drop_more _ _ _ c.loop-entry-test.true) c.loop-entry.invariant.gathers in
    none_left s m c.args.limit c.args.part c.args.entries.now c.loop-entry.checker c.accept.new.self c.loop-entry.last.places.items c.loop-entry.arrows.items _ left _ k (c.in_ok-accept.ensures.accepts k.all k.knows) c.if-not-branch.true _ c.of.ensures

pub loop-entry-preserved : goal.loop-entry-preserved
loop-entry-preserved c =
    let s = c.args.system.now in
    let m = byte_at c.args.memory.now in
    let left = drop (c.loop-entry.entry-index + 1) c.args.entries.now in
    let k = subst (λ es. GathersTo s m c.args.limit c.args.part c.args.entries.now c.loop-entry.checker c.loop-entry.last.places.items c.loop-entry.arrows.items es) (drop_more _ _ _ c.loop-entry-test.true) c.loop-entry.invariant.gathers in
    let it = was_accepted s c.args.limit c.loop-entry.checker c.accept.new.self k.all _ _ (c.in_ok-accept.ensures.accepts k.all k.knows) c.if-not-branch.false in
    record {
      gathers = next_gathered s m c.args.limit c.args.part c.args.entries.now c.loop-entry.checker c.accept.new.self c.loop-entry.last.places.items _ c.loop-entry.arrows.items c.in_ok-found.found.items _ _ left k it
          c.in_ok-append.ensures.items c.in_ok-found.ensures c.note.ensures;
      few = omega (arith, c.accept.ensures.count, c.loop-entry.invariant.few);
    }

pub returns : goal.returns
returns c =
    let s = c.args.system.now in
    let m = byte_at c.args.memory.now in
    all_gathered s m c.args.limit c.args.part c.args.entries.now c.loop-entry.checker c.loop-entry.last.places.items c.loop-entry.arrows.items
    (subst (λ left. GathersTo s m c.args.limit c.args.part c.args.entries.now c.loop-entry.checker c.loop-entry.last.places.items c.loop-entry.arrows.items left) (drop_all _ _ c.loop-entry-test.false) c.loop-entry.invariant.gathers) _ c.of-2.ensures
