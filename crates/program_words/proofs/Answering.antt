-- What words are answered into a sink, out of what was made of the sink.
use Rattle.std.proofs.Common.{◌≡◌, ℕ, ◌<◌, List, arith, inl, inr, refl}
use Rattle.std.specs.Prelude.{◌⊎◌, Ok, Err}
use Rattle.outside_io.specs.Sink.{Hands, SinkSeen}
use Rattle.program_words.specs.Answers.{IsAnswered}

not_both : (status : ℕ) → status < 7 → (status ≡ 7) ⊎ (status ≡ 9) → ⊥
not_both status lt (inl seven) = omega arith
not_both status lt (inr nine) = omega arith

-- the text was written whole
pub whole : (IsStatus : ℕ → Type 0) (Due : List ℕ → ℕ → Type 0) (Unread Unfinished : Type 0) (out after : SinkSeen) (text : List ℕ) (status : ℕ) → IsStatus status → status < 7 → Due text status → Hands {E = Unit {0}} out after (Ok (tt {0})) text
    → IsAnswered IsStatus Due Unread Unfinished out after status
whole IsStatus Due Unread Unfinished out after text status is lt due hands = record {
  status_is = is;
  whole = λ _. (text, due, hands);
  part = λ eight. absurd (omega arith);
  nothing = λ e. absurd (not_both status lt e);
  unread = λ seven. absurd (omega arith);
  unfinished = λ nine. absurd (omega arith);
}

-- it wasn't
pub part : (IsStatus : ℕ → Type 0) (Due : List ℕ → ℕ → Type 0) (Unread Unfinished : Type 0) (out after : SinkSeen) (text : List ℕ) (status : ℕ) → IsStatus 8 → Due text status → Hands {T = Unit {0}} out after (Err (tt {0})) text
    → IsAnswered IsStatus Due Unread Unfinished out after 8
part IsStatus Due Unread Unfinished out after text status is due hands = record {
  status_is = is;
  whole = λ lt. absurd (omega arith);
  part = λ _. (text, status, due, hands);
  nothing = λ e. absurd (elim e [ inl seven ↦ omega arith | inr nine ↦ omega arith ]);
  unread = λ seven. absurd (omega arith);
  unfinished = λ nine. absurd (omega arith);
}

-- a file wasn't read
pub file_unread : (IsStatus : ℕ → Type 0) (Due : List ℕ → ℕ → Type 0) (Unread Unfinished : Type 0) (out : SinkSeen) → IsStatus 7 → Unread → IsAnswered IsStatus Due Unread Unfinished out out 7
file_unread IsStatus Due Unread Unfinished out is unread = record {
  status_is = is;
  whole = λ lt. absurd (omega arith);
  part = λ eight. absurd (omega arith);
  nothing = λ _. refl;
  unread = λ _. unread;
  unfinished = λ nine. absurd (omega arith);
}

-- no memory was found
pub no_memory_found : (IsStatus : ℕ → Type 0) (Due : List ℕ → ℕ → Type 0) (Unread Unfinished : Type 0) (out : SinkSeen) → IsStatus 9 → Unfinished → IsAnswered IsStatus Due Unread Unfinished out out 9
no_memory_found IsStatus Due Unread Unfinished out is unfinished = record {
  status_is = is;
  whole = λ lt. absurd (omega arith);
  part = λ eight. absurd (omega arith);
  nothing = λ _. refl;
  unread = λ seven. absurd (omega arith);
  unfinished = λ _. unfinished;
}
