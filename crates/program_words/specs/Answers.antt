-- What words are answered into a sink, by what is due of them.
-- Source: this simulator's.
use Rattle.std.specs.Prelude.{◌≡◌, ◌⊎◌, ◌<◌, ℕ, List, Ok, Err}
use Rattle.outside_io.specs.Sink.{Hands, SinkSeen}

-- by the statuses that there are, the texts that are due with a status, and when a file can't be
-- read or no memory is found
pub record IsAnswered
    (IsStatus : ℕ → Type 0) (Due : List ℕ → ℕ → Type 0) (Unread Unfinished : Type 0)
    (out out_after : SinkSeen) (status : ℕ) : Type 0 where
  pub status_is : IsStatus status
  -- 0 to 6: a text that is due was written whole. 8: a put or the flush failed, and such a text
  -- wasn't. 7 and 9: nothing was written
  pub whole : status < 7 → (text : List ℕ)
      × Due text status
      × Hands {E = Unit {0}} out out_after (Ok (tt {0})) text
  pub part : status ≡ 8 → (text : List ℕ) × (wanted : ℕ)
      × Due text wanted
      × Hands {T = Unit {0}} out out_after (Err (tt {0})) text
  pub nothing : (status ≡ 7) ⊎ (status ≡ 9) → out_after ≡ out
  pub unread : status ≡ 7 → Unread
  pub unfinished : status ≡ 9 → Unfinished
