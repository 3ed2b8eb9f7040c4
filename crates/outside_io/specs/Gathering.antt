-- A sink that gathers bytes before another one: what waits in it, and what it tells.
-- Source: this project's rule for the outside.
use Rattle.std.specs.Prelude.{ℕ, List, drop, take, ◌++◌}
use Rattle.outside_io.specs.Sink.{SinkSeen}
use Rattle.outside_io.specs.declared.gathering.Gathering.{Gathering}

-- the sink that takes what is handed on
abbrev pub sink_of : {S : Type 0} → Gathering S → S
sink_of gathering = gathering.sink

-- the bytes that were taken and not handed on yet
abbrev pub waiting_in : {S : Type 0} → Gathering S → List ℕ
waiting_in gathering = drop gathering.at (take gathering.len gathering.held)

-- what a sink tells behind which these bytes wait
abbrev pub behind : SinkSeen → List ℕ → SinkSeen
behind seen waiting = record { handed = seen.handed; waiting = seen.waiting ++ waiting; faults = seen.faults }

-- what its sink tells, and behind it what it holds
abbrev pub seen_through : {S : Type 0} → (S → SinkSeen) → Gathering S → SinkSeen
seen_through seen gathering = behind (seen (sink_of gathering)) (waiting_in gathering)
