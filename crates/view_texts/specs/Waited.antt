-- The waits of a trace's actors: from the entry whose call blocks to the one by which it returns.
-- Source: FF-M 1.0: psa_connect, psa_call, psa_close and psa_wait block their caller.
use Rattle.std.specs.Prelude.{ℕ, ◌-◌, ◌==◌, ◌&&◌, ◌||◌, nat_lt, Bool, true, false, if◌then◌else◌, List, fold, get_or, replicate, slice_get, slice_set, zero, suc}
use Rattle.std.specs.List.{range_with_len}
use Rattle.std.specs.Option.{option_map_or}
use Rattle.ffm_model.specs.declared.machine.Call.{Call}
use Rattle.ffm_model.specs.declared.machine.Call.TheVariants as call
use Rattle.ffm_model.specs.declared.machine.Entry.{Entry}
use Rattle.ffm_model.specs.declared.machine.Outcome.TheVariants.{Blocked}
use Rattle.ffm_model.specs.declared.system.System.{System}
use Rattle.ffm_model.specs.Actors.{actor_count}
use Rattle.ffm_model.specs.Step.{outcome_eq}
use Rattle.view_texts.specs.declared.counts.TraceCounts.{TraceCounts}
use Rattle.view_texts.specs.declared.counts.Wait.{Wait}
use Rattle.view_texts.specs.declared.counts.TheConstants.{NO_WAIT}
use Rattle.view_texts.specs.Calls.{place_of}

-- by actor, the wait that isn't over, and the longest one
pub record Waits : Type 0 where
  pub pending : List Wait
  pub longest : List Wait

abbrev pub waits_of : TraceCounts → Waits
waits_of t = record { pending = t.pending.items; longest = t.longest.items }

abbrev pub no_waits : ℕ → Waits
no_waits count = record { pending = replicate count NO_WAIT; longest = replicate count NO_WAIT }

-- ---- one wait

abbrev pub is_longer : Wait → Wait → Bool
is_longer longest wait = nat_lt 0 wait.from && ((longest.from == 0) || nat_lt longest.entries wait.entries)

-- the longer one of two, and the first where both are as long
abbrev pub longer : Wait → Wait → Wait
longer longest wait = if is_longer longest wait then wait else longest

-- a call waits from this place on
abbrev pub begun : ℕ → Call → Wait
begun place c = record { from = place; entries = 0; is_over = false; call = place_of c }

-- up to this place
abbrev pub up_to : ℕ → Bool → Wait → Wait
up_to place is_over wait = record wait { entries = place - wait.from; is_over = is_over }

-- ---- the waits of all actors

-- an actor begins to wait
unfoldable pub with_wait : Waits → ℕ → Wait → Waits
with_wait w a wait = record w { pending = slice_set w.pending a wait }

-- an actor's wait is over, or goes on at the end of the trace
unfoldable pub closed : Waits → ℕ → ℕ → Bool → Waits
closed w place a is_over = record {
  pending = slice_set w.pending a NO_WAIT;
  longest = slice_set w.longest a (longer (get_or w.longest a NO_WAIT) (up_to place is_over (get_or w.pending a NO_WAIT)));
}

abbrev pub is_return : Call → Bool
is_return call.Resume = true
is_return _ = false

-- after the entry at this place, counted from 1
abbrev pub noted : Waits → ℕ → Entry → Waits
noted w place e =
    if outcome_eq e.outcome Blocked
    then with_wait w e.actor.0 (begun place e.call)
    else (if is_return e.call then closed w place e.actor.0 true else w)

-- after the first so many entries
unfoldable pub waits_in : System → List Entry → ℕ → Waits
waits_in s es zero = no_waits (actor_count s)
waits_in s es (suc k) = option_map_or (noted (waits_in s es k) (suc k)) (slice_get es k) (waits_in s es k)

abbrev pub closed_at : ℕ → Waits → ℕ → Waits
closed_at place w a = closed w place a false

-- no wait of the first so many actors is over
abbrev pub all_closed : Waits → ℕ → ℕ → Waits
all_closed w place count = fold (closed_at place) w (range_with_len 0 count)

-- of each actor, the longest wait in so many entries, of which the last one may not be over
abbrev pub longest_in : System → List Entry → ℕ → List Wait
longest_in s es count = (all_closed (waits_in s es count) count (actor_count s)).longest
