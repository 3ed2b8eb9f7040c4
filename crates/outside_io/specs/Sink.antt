-- What a sink tells of itself, and what a write makes of it.
-- `None` says that it isn't told: the standard output tells no bytes.
-- Source: this project's rule for the outside.
use Rattle.std.specs.Prelude.{◌≡◌, ℕ, ◌<◌, List, [], ◌++◌, length, take, Option, None, Some, Result, Ok, Err}
use Rattle.outside_io.specs.Count.{Rose}

-- what it handed on to where it stays, where that is told; what it took and still holds back; how often it failed
pub record SinkSeen : Type 0 where
  pub handed : Option (List ℕ)
  pub waiting : List ℕ
  pub faults : ℕ

-- these bytes came behind those before; where they are told afterwards, they were told before
abbrev pub Adds : Option (List ℕ) → Option (List ℕ) → List ℕ → Type 0
Adds before None bytes = Unit {0}
Adds None (Some after) bytes = ⊥
Adds (Some before) (Some after) bytes = after ≡ before ++ bytes

-- the sink took this piece: a front of what waited and the piece was handed on, and the rest waits
pub record Takes (before after : SinkSeen) (piece : List ℕ) : Type 0 where
  pub front : List ℕ
  pub whole : before.waiting ++ piece ≡ front ++ after.waiting
  pub adds : Adds before.handed after.handed front

-- the sink took a proper prefix of this text
pub record TakesPart (before after : SinkSeen) (text : List ℕ) : Type 0 where
  pub part : List ℕ
  pub rest : List ℕ
  pub whole : text ≡ part ++ rest
  pub some : 0 < length rest
  pub takes : Takes before after part

-- the sink took this text, and no fault was counted
abbrev pub Took : SinkSeen → SinkSeen → List ℕ → Type 0
Took before after text = Takes before after text × (after.faults ≡ before.faults)

-- the sink took a proper prefix of this text, and a fault was counted
abbrev pub TookPart : SinkSeen → SinkSeen → List ℕ → Type 0
TookPart before after text = TakesPart before after text × Rose before.faults after.faults

-- `Ok`: so many bytes were taken; `Err`: none was taken, and a fault was counted
abbrev pub Puts : {E : Type 0} → SinkSeen → SinkSeen → Result ℕ E → List ℕ → Type 0
Puts before after (Ok count) piece = Took before after (take count piece)
Puts before after (Err _) piece = Takes before after [] × Rose before.faults after.faults

-- `Ok`: the whole text was taken; `Err`: a proper prefix of it, and a fault was counted
abbrev pub Writes : {T E : Type 0} → SinkSeen → SinkSeen → Result T E → List ℕ → Type 0
Writes before after (Ok _) text = Took before after text
Writes before after (Err _) text = TookPart before after text

-- `Ok`: nothing of `waiting` is left; `Err`: some of it is, and a fault was counted
abbrev pub HandsOn : {T E : Type 0} → SinkSeen → SinkSeen → Result T E → List ℕ → Type 0
HandsOn before after (Ok _) waiting = Took before after [] × (waiting ≡ [])
HandsOn before after (Err _) waiting = Takes before after [] × ((0 < length waiting) × Rose before.faults after.faults)

-- a flush: what waited is handed on whole, or a fault was counted and some of it waits still
abbrev pub Flushes : {T E : Type 0} → SinkSeen → SinkSeen → Result T E → Type 0
Flushes before after result = HandsOn before after result after.waiting

-- a front of this text was taken, and some of what waited and of the text wasn't handed on: either waits still, or wasn't taken
pub record HandsPart (before after : SinkSeen) (text : List ℕ) : Type 0 where
  pub front : List ℕ
  pub rest : List ℕ
  pub whole : text ≡ front ++ rest
  pub takes : Takes before after front
  pub some : 0 < length (after.waiting ++ rest)

-- a write and then a flush. `Ok`: the text was taken, and nothing waits; `Err`: what waited and the text were not handed on whole, and a fault was counted
abbrev pub Hands : {T E : Type 0} → SinkSeen → SinkSeen → Result T E → List ℕ → Type 0
Hands before after (Ok _) text = Took before after text × (after.waiting ≡ [])
Hands before after (Err _) text = HandsPart before after text × Rose before.faults after.faults
