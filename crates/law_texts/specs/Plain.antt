-- How a trace is judged, in plain words: when it is legal, and else at which place it is wrong.
-- Source: this simulator's. `judged` of the model goes entry by entry; this says what comes of it.
use Rattle.std.specs.Prelude.{ℕ, ◌+◌, ◌≡◌, ◌<◌, ◌≤◌, ◌↔◌, ◌⊎◌, List, ◌∷◌, ◌++◌, length, Some, None}
use Rattle.ffm_model.specs.declared.system.System.{System}
use Rattle.ffm_model.specs.declared.machine.Entry.{Entry}
use Rattle.ffm_model.specs.declared.machine.Verdict.{Verdict}
use Rattle.ffm_model.specs.Memory.{ByteMap}
use Rattle.ffm_model.specs.Step.{Run, after, step_on}
use Rattle.ffm_model.specs.Verdicts.{Legal, IllegalAt, judged, verdict_of}

-- the entries are a run, at most as many as the limit, and the verdict is that of the run
pub record IsLegal (s : System) (m : ByteMap) (limit : ℕ) (es : List Entry) (v : Verdict) : Type 0 where
  pub run : Run s m es
  pub within : length es ≤ limit
  pub verdict : verdict_of s m limit es ≡ Some v

-- the entry at place n, counted from 1, is no step of the machine after the entries before it
pub record IsNoStep (s : System) (m : ByteMap) (es : List Entry) (n : ℕ) : Type 0 where
  pub before : List Entry
  pub entry : Entry
  pub rest : List Entry
  pub parts : es ≡ before ++ entry ∷ rest
  pub place : n ≡ length before + 1
  pub none : step_on s (after s m before) entry ≡ None

-- what may be wrong at a place: the entry is no step, or it is above the limit, or the place is the verdict's, one after all entries
abbrev pub MayBeWrong : System → ByteMap → ℕ → List Entry → ℕ → Type 0
MayBeWrong s m limit es n = IsNoStep s m es n ⊎ ((limit < n) ⊎ (n ≡ length es + 1))

-- n is the least such place
pub record IsFirstWrong (s : System) (m : ByteMap) (limit : ℕ) (es : List Entry) (n : ℕ) : Type 0 where
  pub wrong : MayBeWrong s m limit es n
  pub least : (k : ℕ) → 1 ≤ k → k < n → MayBeWrong s m limit es k → ⊥

-- the judgement says Legal exactly where the trace is legal, and else the first place
pub record JudgedPlainly (s : System) (m : ByteMap) (limit : ℕ) (es : List Entry) (v : Verdict) : Type 0 where
  pub legal : (judged s m limit es v ≡ Legal) ↔ IsLegal s m limit es v
  pub illegal : (n : ℕ) → judged s m limit es v ≡ IllegalAt n → IsFirstWrong s m limit es n
