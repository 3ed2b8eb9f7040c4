use Rattle.std.proofs.Common.{◌≡◌, ◌++◌, ℕ, List, take}
use Rattle.std.specs.Prelude.{All}
use Rattle.std.specs.List.{filter_map}
use Rattle.machine_rules.specs.Vectors.{AreWithin}
use Rattle.machine_calls.specs.Leaving.{disconnection_left}
use Rattle.machine_calls.proofs.panic.send_disconnections.Given as goal

-- the disconnections of the connections so far are sent
abbrev pub invariant-loop-connection : goal.invariant-loop-connection
invariant-loop-connection l = record {
  sent : l.messages.items ≡ l.fn.messages.items ++ filter_map (disconnection_left l.system l.partition) (take l.connection-index l.connections);
  fits : (regions : List (ℕ × ℕ)) → All (λ m. AreWithin regions m.vectors) l.fn.messages.items → All (λ m. AreWithin regions m.vectors) l.messages.items;
}
