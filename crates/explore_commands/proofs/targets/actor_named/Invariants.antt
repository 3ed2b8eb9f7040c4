use Rattle.std.proofs.Common.{◌≢◌, ℕ, ◌<◌}
use Rattle.view_texts.specs.Names.{actor_name}
use Rattle.explore_commands.proofs.targets.actor_named.Given as goal

-- none so far has the name
abbrev pub invariant-actors : goal.invariant-actors
invariant-actors l = (k : ℕ) → k < l.actor → actor_name l.system k ≢ l.name
