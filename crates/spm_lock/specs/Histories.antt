-- Histories of a shared manager: what a front is to a history that begins with it.
-- Source: this simulator's.
use Rattle.std.specs.Prelude.{◌≡◌, ℕ, List, ◌++◌}
use Rattle.ffm_model.specs.declared.machine.Entry.{Entry}
use Rattle.ffm_model.specs.Actors.{actor_count}
use Rattle.ffm_model.specs.Step.{Run}
use Rattle.memory_image.specs.Pieces.{byte_at}
use Rattle.spm_core.specs.Manager.{Opening}

-- how many actors there are, and so how many passes
abbrev pub actors : Opening → ℕ
actors o = actor_count o.system

-- the entries are a run of the machine from that opening
abbrev pub IsRun : Opening → List Entry → Type 0
IsRun o history = Run o.system (byte_at o.memory) history

-- the second begins with the first
abbrev pub Begins : List Entry → List Entry → Type 0
Begins xs ys = (rest : List Entry) × (ys ≡ xs ++ rest)
