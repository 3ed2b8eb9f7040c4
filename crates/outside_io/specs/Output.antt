-- A writer as a sink: how often it failed, and what it tells.
-- Source: this project's rule for its trusted edge.
use Rattle.std.specs.Prelude.{ℕ, List, [], Option, None, Bool, if◌then◌else◌}
use Rattle.outside_io.specs.Sink.{SinkSeen}
use Rattle.outside_io.specs.declared.output.Output.{Output}

-- how many writes failed
abbrev pub faults_of : {W : Type 0} {telling : _} {write : _} → Output W telling write → ℕ
faults_of output = output.faults

-- the bytes that the writer holds, where it tells them from the start on
abbrev pub told_through : {W : Type 0} {telling : _} {write : _} → Bool → (W → Option (List ℕ)) → Output W telling write → Option (List ℕ)
told_through tells contents output = if tells then contents output.writer else None

-- nothing waits in it
abbrev pub seen_through : {W : Type 0} {telling : _} {write : _} → Bool → (W → Option (List ℕ)) → Output W telling write → SinkSeen
seen_through tells contents output = record { handed = told_through tells contents output; waiting = []; faults = faults_of output }
