-- Which bytes each entry of a trace changed.
-- Source: of this simulator; which RAM is an actor's own is by FF-M 1.0, memory isolation of partitions.
use Rattle.std.specs.Prelude.{ℕ, ◌+◌, ◌-◌, ◌≡◌, Bool, false, not, ◌&&◌, if◌then◌else◌, List, [], ◌∷◌, take, Option, None, Some, IsSomeAnd}
use Rattle.std.specs.List.{list_any, cons_option}
use Rattle.std.specs.Option.{option_map_or}
use Rattle.memory_image.specs.Differences.{differs, count_in, IsLeast}
use Rattle.ffm_model.specs.declared.system.System.{System}
use Rattle.ffm_model.specs.declared.machine.Entry.{Entry}
use Rattle.ffm_model.specs.declared.machine.Verdict.{Verdict}
use Rattle.ffm_model.specs.Actors.{is_partition, kind_of}
use Rattle.ffm_model.specs.Memory.{ByteMap, is_ram_of}
use Rattle.ffm_model.specs.PartitionRam.{ram_of}
use Rattle.ffm_model.specs.Reach.{covers}
use Rattle.ffm_model.specs.State.{State, opening}
use Rattle.ffm_model.specs.Step.{step}
use Rattle.ffm_model.specs.Verdicts.{Judgement, Legal, IllegalAt, judged}
use Rattle.ffm_model.specs.Ranges.{ranges_of}
use Rattle.machine_check.specs.declared.auditing.AuditReport.{AuditReport}
use Rattle.machine_check.specs.declared.auditing.Change.{Change}
use Rattle.machine_check.specs.Answers.{judgement}

-- the address lies in the actor's own RAM: a partition's own region, and of a non-secure client the non-secure region; a device has none
abbrev pub own_ram : System → ℕ → ℕ → Bool
own_ram s a x =
    if is_partition (kind_of s a)
    then option_map_or (λ r. covers r x) (ram_of s a) false
    else list_any (λ r. is_ram_of s a r.class && covers r x) s.regions

-- what the entry at place k, of the actor a, changed: the least address, how many bytes, and the least address outside of the actor's own RAM
pub record IsChange (s : System) (k a : ℕ) (old new : ByteMap) (change : Change) : Type 0 where
  pub place : change.place ≡ k
  pub lowest : IsLeast (differs old new) (Some change.lowest)
  pub count : change.count ≡ count_in (differs old new) (ranges_of s.regions)
  pub outside : IsLeast (λ x. differs old new x && not (own_ram s a x)) change.outside

-- an entry has a change where a byte differs after it, and none where no byte does
abbrev pub IsChangeOf : System → ℕ → ℕ → ByteMap → ByteMap → Option Change → Type 0
IsChangeOf s k a old new None = IsLeast (differs old new) None
IsChangeOf s k a old new (Some change) = IsChange s k a old new change

-- entries that are steps from a state on, the first at place k, and the changes that they have, in their order
abbrev pub AreChanges : System → ℕ → State → List Entry → List Change → Type 0
AreChanges s k st [] changes = changes ≡ []
AreChanges s k st (e ∷ es) changes =
    (here : Option Change) × (later : List Change) × (changes ≡ cons_option here later)
    × IsSomeAnd (step s st e) (λ new. IsChangeOf s k e.actor.0 st.memory new.memory here × AreChanges s (k + 1) new es later)

-- the entries before the first illegal place, or all
abbrev pub legal_entries : Judgement → List Entry → List Entry
legal_entries Legal es = es
legal_entries (IllegalAt n) es = take (n - 1) es

-- how the trace is judged, and the changes of its legal entries
pub record IsAudit (s : System) (m : ByteMap) (limit : ℕ) (es : List Entry) (v : Verdict) (report : AuditReport) : Type 0 where
  pub result : judgement report.result ≡ judged s m limit es v
  pub changes : AreChanges s 1 (opening s m) (legal_entries (judged s m limit es v) es) report.changes
