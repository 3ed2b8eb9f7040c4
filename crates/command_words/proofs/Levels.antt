-- How `clap` walks over words that are no flag, and over a subcommand with its words.
use Rattle.std.proofs.Common.{◌≡◌, ◌∙◌, ℕ, Bool, refl, sym, append-nil, append_assoc, ap, true, false, not, List, [], ◌∷◌, ◌++◌, Some, None}
use Rattle.std.specs.Prelude.{◌&&◌, ◌==◌, fold, find}
use Rattle.std.specs.List.{list_all}
use Rattle.clap.specs.Words.{App, Rule, Shape, Text}
use Rattle.clap.specs.Walk.{Held, Names, Walk, answers_to, arg_by_index, finished, idle, nothing_held, stop_after, to_positional, value, walk, walk_from, walked}
use Rattle.clap.specs.Simple.{entered, label_of, names_of, rows_at}
use Rattle.clap.specs.Takes.{built_takes, default_passes, is_valid, level_passes, settle_passes, step_passes, turn_passes, walk_passes}
use Rattle.clap.proofs.OnLiterals.{clap_on_literals}
use Rattle.command_words.specs.Words.{is_file_word}

-- a walk that waits for no value, at a position
abbrev pub at : Held → ℕ → Walk
at h position = record { held = h; waiting = idle; position = position; is_trailing = false; stopped = None }

-- ---- a word that is no flag

pub walked_file : (c : List Rule) (h : Held) (position : ℕ) (word : Text) → is_file_word word ≡ true
    → walked c [] (at h position) word ≡ to_positional c (arg_by_index c position) word (at h position) h
unfolding clap_on_literals
walked_file c h position [] e = cc
walked_file c h position (x ∷ xs) e = go (x == 45) refl e
  where
    go : (b : Bool) → (x == 45) ≡ b → not b ≡ true → walked c [] (at h position) (x ∷ xs) ≡ to_positional c (arg_by_index c position) (x ∷ xs) (at h position) h
    go true is e = cc
    go false is e = simp is

pub turn_file : (s : Shape) (h : Held) (position : ℕ) (word : Text) → is_file_word word ≡ true
    → turn_passes s [] (at h position) word ≡ step_passes s position h value
unfolding clap_on_literals
turn_file s h position [] e = cc
turn_file s h position (x ∷ xs) e = go (x == 45) refl e
  where
    go : (b : Bool) → (x == 45) ≡ b → not b ≡ true → turn_passes s [] (at h position) (x ∷ xs) ≡ step_passes s position h value
    go true is e = cc
    go false is e = simp is

-- ---- one word after the other

pub passes_on : (s : Shape) (names : Names) (w after : Walk) (word : Text) (rest : List Text) → turn_passes s names w word ≡ true
    → walked s.rules names w word ≡ after → walk_passes s names after rest ≡ true → walk_passes s names w (word ∷ rest) ≡ true
unfolding walk_passes
passes_on s names w after word rest turn next e = rw (turn, next) e

pub passes_end : (s : Shape) (names : Names) (w : Walk) → walk_passes s names w [] ≡ true
unfolding walk_passes
passes_end s names w = refl

pub level_from : (s : Shape) (names : Names) (words : List Text) (has : Bool) (end : Walk) → walk s.rules names nothing_held words ≡ end
    → walk_passes s names (walk_from nothing_held) words ≡ true
    → (settle_passes s.rules s.args_override_self end.held && (list_all default_passes s.rules && is_valid s (finished s.rules end.held) has)) ≡ true
    → level_passes s names nothing_held words has ≡ true
level_from s names words has end is passes ends = rw (passes, is) ends

-- ---- a subcommand, and its words

abbrev stopped_at : Text → List Text → Walk
stopped_at name words = record (walk_from nothing_held) { stopped = Some (name, words) }

-- each word after a subcommand's name is one of the subcommand's
walked_after : (c : List Rule) (names : Names) (name : Text) (before words : List Text)
    → fold (walked c names) (stopped_at name before) words ≡ stopped_at name (before ++ words)
unfolding clap_on_literals
walked_after c names name before [] = ap (stopped_at name) (sym (append-nil before))
walked_after c names name before (word ∷ words) =
    walked_after c names name (before ++ word ∷ []) words ∙ ap (stopped_at name) (append_assoc before (word ∷ []) words)

passes_after : (s : Shape) (names : Names) (name : Text) (before words : List Text) → walk_passes s names (stopped_at name before) words ≡ true
unfolding clap_on_literals
passes_after s names name before [] = refl
passes_after s names name before (word ∷ words) = passes_after s names name (before ++ word ∷ []) words

module _ (a : App) (name : Text) (s : Shape) (words : List Text)
    (met : walked a.top.rules (names_of a) (walk_from nothing_held) name ≡ stopped_at name [])
    (found : find (λ s. answers_to name (label_of s)) a.subs ≡ Some s) where
  walk_is : walk a.top.rules (names_of a) nothing_held (name ∷ words) ≡ stopped_at name words
  walk_is = ap (λ w. fold (walked a.top.rules (names_of a)) w words) met ∙ walked_after a.top.rules (names_of a) name [] words

  stop_is : stop_after a.top.rules (names_of a) (name ∷ words) ≡ Some (name, words)
  stop_is = ap (λ (w : Walk). w.stopped) walk_is

  pub entered_at : entered a (stop_after a.top.rules (names_of a) (name ∷ words)) ≡ Some (rows_at s words)
  entered_at = rw (stop_is, found) refl

  pub takes_at : turn_passes a.top (names_of a) (walk_from nothing_held) name ≡ true
      → (list_all default_passes a.top.rules && is_valid a.top (finished a.top.rules nothing_held) true) ≡ true
      → level_passes s [] nothing_held words false ≡ true → built_takes a nothing_held (name ∷ words) ≡ true
  takes_at turn ends level =
      let passes : walk_passes a.top (names_of a) (walk_from nothing_held) (name ∷ words) ≡ true =
      passes_on a.top (names_of a) (walk_from nothing_held) (stopped_at name []) name words turn met (passes_after a.top (names_of a) name [] words) in
      rw (walk_is, found, level, passes) ends
