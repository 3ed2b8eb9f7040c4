use Rattle.std.proofs.Common.{◌≡◌, ◌++◌, drop, map}
use Rattle.std.specs.List.{flat_map}
use Rattle.view_texts.specs.Columns.{after_comma}
use Rattle.view_texts.proofs.columns.put_others.Given as goal

-- the words so far, and then the others
abbrev pub invariant-loop-word : goal.invariant-loop-word
invariant-loop-word l = l.text.items ++ flat_map after_comma (map (λ w. w.now) (drop l.word-index l.words)) ≡ l.initial.text.items ++ flat_map after_comma (map (λ w. w.now) l.words)
