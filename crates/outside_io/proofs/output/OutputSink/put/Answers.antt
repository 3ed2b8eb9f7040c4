use Rattle.std.proofs.Common.{ℕ, List, Bool, true, false, Option, None, Some, IsTrue, IsSome, refl, if◌then◌else◌}
use Rattle.std.specs.Io.KnownBytes.{Appends}
use Rattle.outside_io.specs.Sink.{Adds}
use Rattle.outside_io.proofs.SinkSteps.{took_at_once}
use Rattle.outside_io.proofs.output.OutputSink.put.Goals as goal

-- what a writer tells grew by these bytes
told_more : (tells : Bool) (o n : Option (List ℕ)) (x : List ℕ) → (IsTrue tells → IsSome o) → Appends o n x → Adds (if tells then o else None) (if tells then n else None) x
told_more false o n x told p = tt
told_more true None n x told p = let none : IsSome {T = List ℕ} None = told refl in absurd cc
told_more true (Some o) None x told p = absurd p
told_more true (Some o) (Some n) x told p = p

pub returns-in-Ok-clause-puts : goal.returns-in-Ok-clause-puts
returns-in-Ok-clause-puts g c = took_at_once _ _ _ refl refl (told_more g.W.Telling.tells _ _ _ c.args.self.now.told c.in-Ok.ensures.bytes) refl
