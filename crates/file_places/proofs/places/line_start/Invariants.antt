use Rattle.std.proofs.Common.{◌≡◌, ◌+◌, ◌≤◌, length, not, take}
use Rattle.std.specs.List.{suffix_len}
use Rattle.file_places.specs.Lines.{is_line_feed}
use Rattle.file_places.proofs.places.line_start.Given as goal

abbrev pub invariant-loop-start : goal.invariant-loop-start
invariant-loop-start l =
    (l.start ≤ length l.front)
    × (l.start + suffix_len (λ b. not (is_line_feed b)) l.front ≡ length l.front + suffix_len (λ b. not (is_line_feed b)) (take l.start l.front))

abbrev pub decreases-loop-start : goal.decreases-loop-start
decreases-loop-start l = l.start
