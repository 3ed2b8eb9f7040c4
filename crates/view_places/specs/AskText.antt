-- The text that tells what the machine answers to a call at a place of a trace.
-- Source: this simulator's; calls and answers are told as a trace has them.
use Rattle.std.specs.Prelude.{ℕ, Bool, true, false, List, [], ◌∷◌, ◌++◌, codes}
use Rattle.std.specs.Fmt.{decimal}
use Rattle.ffm_model.specs.declared.system.System.{System}
use Rattle.ffm_model.specs.TraceText.{Word}
use Rattle.view_places.specs.declared.asking.CallAfter.{CallAfter}
use Rattle.view_places.specs.declared.asking.Reply.{Reply}
use Rattle.view_places.specs.declared.asking.Reply.TheVariants as reply
use Rattle.view_places.specs.WhyText.{actor_line, condition_lines, due_line, rule_words}
use Rattle.view_texts.specs.Columns.{joined}
use Rattle.view_texts.specs.Outcomes.{entry_line}

-- an answer that shows a handle may show any fresh one
abbrev pub other_handles : Bool → Word
other_handles true = codes "        with this handle or any other fresh one\n"
other_handles false = []

-- the answer, or the rule by which the call may not be made
abbrev pub reply_lines : System → CallAfter → Reply → List ℕ
reply_lines s t (reply.Answer o gives_handle) =
    due_line s t.entry o ++ (other_handles gives_handle ++ condition_lines t.entry.call t.conditions.items t.is_refused)
reply_lines s t (reply.Refused r) = joined (codes "rule    " ∷ rule_words r ∷ codes "\n" ∷ [])

unfoldable pub told_lines : System → CallAfter → List ℕ
told_lines s t = actor_line s t.entry.actor.0 t.doing.items ++ reply_lines s t t.reply

-- of a call that is asked for
unfoldable pub ask_text : System → CallAfter → List ℕ
ask_text s t =
    joined (codes "after entry " ∷ decimal t.count ∷ codes " of " ∷ decimal t.total ∷ codes "\n" ∷ []) ++ told_lines s t

-- of the legal entry at a place
unfoldable pub legal_entry_text : System → ℕ → CallAfter → List ℕ
legal_entry_text s place t =
    joined (codes "entry " ∷ decimal place ∷ codes " of " ∷ decimal t.total ∷ codes " is legal\nentry   " ∷ [])
    ++ (entry_line s t.entry ++ told_lines s t)
