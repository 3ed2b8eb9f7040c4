use Rattle.std.proofs.Common.{◌≡◌, ◌++◌, drop}
use Rattle.ffm_model.specs.Ranges.{sids_of, starts_from, starts_of}
use Rattle.ffm_model.proofs.services.sids_listed.Given as goal

-- the SIDs so far, and those of the services that are left, are all
abbrev pub invariant-loop-place : goal.invariant-loop-place
invariant-loop-place l = l.sids.items ++ starts_from l.place (sids_of (drop l.place l.services)) ≡ starts_of (sids_of l.services)
