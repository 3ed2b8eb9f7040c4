-- The arrows of a part of a trace, and which call each answer belongs to.
-- Source: this simulator's; the legal entries are those of `judged` of the model. FF-M 1.0: a client is blocked from its call to the answer, so its last entry is the call that is answered.
use Rattle.std.specs.Prelude.{ℕ, ◌+◌, ◌-◌, ◌==◌, nat_le, Bool, true, false, ◌&&◌, if◌then◌else◌, List, [], ◌∷◌, ◌++◌, map, replicate, get_or, slice_get, slice_set, Option, Some, None}
use Rattle.std.specs.Option.{option_map_or}
use Rattle.ffm_model.specs.declared.system.System.{System}
use Rattle.ffm_model.specs.declared.machine.Entry.{Entry}
use Rattle.ffm_model.specs.Actors.{actor_count}
use Rattle.ffm_model.specs.Memory.{ByteMap}
use Rattle.ffm_model.specs.Signals.{is_blocked}
use Rattle.ffm_model.specs.State.{SpmState, State, opening, phase_of}
use Rattle.ffm_model.specs.Step.{step}
use Rattle.view_diagram.specs.declared.arrows.Arrow.{Arrow}
use Rattle.view_diagram.specs.declared.arrows.Meaning.{Meaning}
use Rattle.view_diagram.specs.declared.arrows.Meaning.TheVariants as meaning
use Rattle.view_diagram.specs.declared.gathering.Part.{Part}
use Rattle.view_diagram.specs.declared.gathering.PlacedArrow.{PlacedArrow}
use Rattle.view_diagram.specs.Arrows.{arrows_of}

-- places are counted from 1
abbrev pub entry_at : List Entry → ℕ → Option Entry
entry_at es k = if k == 0 then None else slice_get es (k - 1)

abbrev pub is_in_part : Part → ℕ → Bool
is_in_part part k = nat_le part.from k && nat_le k part.to

-- ---- pairs of a call and its answer

-- a reply, or the release of a client by a panic
abbrev pub is_answer : Meaning → Bool
is_answer (meaning.Reply service kind status) = true
is_answer (meaning.Release service kind) = true
is_answer _ = false

-- the place of the call that an arrow answers: the last entry of the actor that it goes to, where that actor is blocked; `last` has the place of each actor's last entry
abbrev pub answered_place : SpmState → List ℕ → Arrow → Option ℕ
answered_place b last a = if is_answer a.meaning && is_blocked (phase_of b a.to.0) then Some (get_or last a.to.0 0) else None

-- ---- the arrows of entries

abbrev pub placed : ℕ → SpmState → List ℕ → Arrow → PlacedArrow
placed k b last a = record { place = k; arrow = a; answers = answered_place b last a }

-- the arrows of the entry at place k
abbrev pub arrows_at : System → Part → ℕ → SpmState → List ℕ → Entry → List PlacedArrow
arrows_at s part k b last e = if is_in_part part k then map (placed k b last) (arrows_of s b e) else []

-- the arrows of the entries after n others that led to a state, up to the first that is no step or exceeds the limit
abbrev pub arrows_from : System → ℕ → Part → ℕ → List ℕ → List Entry → State → List PlacedArrow
arrows_from s limit part n last [] st = []
arrows_from s limit part n last (e ∷ es) st =
    if nat_le limit n
    then []
    else option_map_or (λ new. arrows_at s part (n + 1) st.spm last e ++ arrows_from s limit part (n + 1) (slice_set last e.actor.0 (n + 1)) es new) (step s st e) []

-- those of a trace from its opening on, where no actor has an entry
abbrev pub arrows_in : System → ByteMap → ℕ → Part → List Entry → List PlacedArrow
arrows_in s m limit part es = arrows_from s limit part 0 (replicate (actor_count s) 0) es (opening s m)
