use Rattle.std.proofs.Common.{arith, ◌≡◌, ◌+◌, ap, subst, sym, ◌∙◌}
use Rattle.std.proofs.lemmas.List.{length-take, take_more}
use Rattle.memory_image.specs.Pieces.{byte_at}
use Rattle.machine_check.proofs.Followed.{after_none}
use Rattle.machine_check.proofs.Judged.{was_accepted}
use Rattle.view_texts.specs.Counted.{AreCounts}
use Rattle.view_texts.specs.Moves.{moved_in, with_move}
use Rattle.view_texts.specs.Waited.{waits_in, waits_of}
use Rattle.view_texts.proofs.Moves.{moved_more, moved_none}
use Rattle.view_texts.proofs.Tallied.{counts_more, counts_none}
use Rattle.view_texts.proofs.Waited.{waits_more, waits_none}
use Rattle.view_texts.proofs.Followed.{all_counted, further, stopped}
use Rattle.view_texts.proofs.counts.legal_entries.Goals as goal

pub loop-entry-init : goal.loop-entry-init
loop-entry-init c =
    let start = c.in_ok-checker.ensures.starts in
    record {
      behind = after_none c.args.system.now (byte_at c.args.memory.now) c.in_ok-checker.checker start;
      within = omega (arith, start.count);
      count = omega (arith, start.count, c.in_ok-counts.ensures.count);
      total = c.in_ok-counts.ensures.total;
      counts = subst (λ n. AreCounts c.args.system.now (byte_at c.args.memory.now) c.args.entries.now n c.in_ok-counts.counts.entries.items c.in_ok-counts.counts.calls.items c.in_ok-counts.counts.most_connections c.in_ok-counts.counts.most_messages) (sym start.count)
          (counts_none c.args.system.now (byte_at c.args.memory.now) c.args.entries.now _ _ _ _ c.in_ok-counts.ensures.entries c.in_ok-counts.ensures.calls c.in_ok-counts.ensures.connections c.in_ok-counts.ensures.messages);
      moved = moved_none c.args.system.now (byte_at c.args.memory.now) c.args.entries.now _ c.in_ok-counts.ensures.moved ∙ ap (moved_in c.args.system.now (byte_at c.args.memory.now) c.args.entries.now) (sym start.count);
      waits = waits_none c.args.system.now c.args.entries.now _ c.in_ok-counts.ensures.waits ∙ ap (waits_in c.args.system.now c.args.entries.now) (sym start.count);
    }

pub accept-requires : goal.accept-requires
accept-requires c =
    let b = c.loop-entry.invariant.behind in
    record { kept = b.kept; made = b.made; few = omega (arith, b.count, length-take c.loop-entry.entry-index c.args.entries.now, c.requires.few) }

pub returns-then-not-branch : goal.returns-then-not-branch
returns-then-not-branch c =
    let i = c.loop-entry.invariant in
    record {
      tallied = stopped c.args.system.now (byte_at c.args.memory.now) c.args.limit c.args.entries.now c.loop-entry.entry-index _ c.loop-entry.checker c.accept.new.self i.behind _ c.loop-entry.counts
          c.loop-entry-test.true (take_more c.args.entries.now c.loop-entry.entry-index _ c.loop-entry-test.true) (c.in_ok-accept.ensures.accepts i.behind.handles i.behind.knows) c.if-not-branch.true i.within i.count i.total i.counts i.moved;
      waits = i.waits ∙ ap (waits_in c.args.system.now c.args.entries.now) (sym i.count);
    }

pub loop-entry-preserved : goal.loop-entry-preserved
loop-entry-preserved c =
    let i = c.loop-entry.invariant in
    let it = was_accepted c.args.system.now c.args.limit c.loop-entry.checker c.accept.new.self i.behind.handles _ _ (c.in_ok-accept.ensures.accepts i.behind.handles i.behind.knows) c.if-not-branch.false in
    let more = take_more c.args.entries.now c.loop-entry.entry-index _ c.loop-entry-test.true in
    let behind = further c.args.system.now (byte_at c.args.memory.now) c.args.limit c.args.entries.now c.loop-entry.entry-index _ c.loop-entry.checker c.accept.new.self i.behind more it in
    let here : c.loop-entry.checker.count ≡ c.loop-entry.entry-index = omega (arith, i.behind.count, length-take c.loop-entry.entry-index c.args.entries.now, c.loop-entry-test.true) in
    let count : c.accept.new.self.count ≡ c.loop-entry.entry-index + 1 = omega (arith, it.count, here) in
    record {
      behind = behind;
      within = omega (arith, it.count, it.below);
      count = c.add.ensures.count;
      total = c.add.ensures.total ∙ i.total;
      counts = subst (λ n. AreCounts c.args.system.now (byte_at c.args.memory.now) c.args.entries.now n c.add.new.self.entries.items c.add.new.self.calls.items c.add.new.self.most_connections c.add.new.self.most_messages) (sym count)
          (counts_more c.args.system.now (byte_at c.args.memory.now) c.args.entries.now c.loop-entry.entry-index _ _ _ _ _ _ _ _ _ _ c.loop-entry-test.true c.requires.few
          behind.state c.add.ensures.entries c.add.ensures.calls c.add.ensures.connections c.add.ensures.messages (subst (λ n. AreCounts c.args.system.now (byte_at c.args.memory.now) c.args.entries.now n c.loop-entry.counts.entries.items c.loop-entry.counts.calls.items c.loop-entry.counts.most_connections c.loop-entry.counts.most_messages) here i.counts));
      moved = moved_more c.args.system.now (byte_at c.args.memory.now) c.args.entries.now c.loop-entry.entry-index _ _ c.loop-entry.counts.moved.items c.add_move.new.rows.items c.loop-entry-test.true i.behind.state
          (c.in_ok-add_move.ensures ∙ ap (λ v. with_move v.items c.move_of-step.result) c.add.ensures.moved ∙ ap (with_move c.loop-entry.counts.moved.items) c.move_of-step.ensures)
          (i.moved ∙ ap (moved_in c.args.system.now (byte_at c.args.memory.now) c.args.entries.now) here) ∙ ap (moved_in c.args.system.now (byte_at c.args.memory.now) c.args.entries.now) (sym count);
      waits = waits_more c.args.system.now c.args.entries.now c.loop-entry.entry-index c.accept.new.self.count _ (waits_of c.loop-entry.counts) (waits_of c.add.new.self) c.loop-entry-test.true more count
          c.add.ensures.waits (i.waits ∙ ap (waits_in c.args.system.now c.args.entries.now) here) ∙ ap (waits_in c.args.system.now c.args.entries.now) (sym count);
    }

pub returns : goal.returns
returns c =
    let i = c.loop-entry.invariant in
    record { tallied = all_counted c.args.system.now (byte_at c.args.memory.now) c.args.limit c.args.entries.now c.loop-entry.entry-index c.loop-entry.checker c.loop-entry.counts i.behind c.loop-entry-test.false i.within i.count i.total i.counts i.moved; waits = i.waits ∙ ap (waits_in c.args.system.now c.args.entries.now) (sym i.count) }
