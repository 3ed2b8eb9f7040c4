use Rattle.std.proofs.Common.{◌≡◌, ◌-◌}
use Rattle.std.specs.Prelude.{fold}
use Rattle.std.specs.List.{range_with_len}
use Rattle.view_texts.specs.Waited.{all_closed, closed_at, waits_of}
use Rattle.view_texts.proofs.counts.TraceCounts.close_waits.Given as goal

-- only the waits are other ones: those so far were closed, and then the others will be
abbrev pub invariant-loop-actor : goal.invariant-loop-actor
invariant-loop-actor l = record {
  rest : l.self ≡ record l.initial.self { longest = l.self.longest; pending = l.self.pending };
  waits : fold (closed_at l.place) (waits_of l.self) (range_with_len l.actor (l.actor-end - l.actor))
      ≡ all_closed (waits_of l.initial.self) l.place l.actor-end;
}
