use Rattle.std.proofs.Common.{◌≡◌, drop, map}
use Rattle.text_lines.specs.Refusals.{name_in}
use Rattle.text_lines.proofs.refusals.name_in.Given as goal

-- the codes so far are others
abbrev pub invariant-loop-named : goal.invariant-loop-named
invariant-loop-named l = name_in (map (λ c. (c.code, c.name.now)) (drop l.named-index l.names)) l.code ≡ name_in (map (λ c. (c.code, c.name.now)) l.names) l.code
