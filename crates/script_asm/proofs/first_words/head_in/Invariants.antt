use Rattle.std.proofs.Common.{◌≡◌, drop, map}
use Rattle.script_asm.specs.Words.{look_up}
use Rattle.script_asm.proofs.first_words.head_in.Given as goal

abbrev pub invariant-loop-name : goal.invariant-loop-name
invariant-loop-name l = look_up (map (λ t. (t.0.now, t.1)) (drop l.name-index l.table)) l.word ≡ look_up (map (λ t. (t.0.now, t.1)) l.table) l.word
