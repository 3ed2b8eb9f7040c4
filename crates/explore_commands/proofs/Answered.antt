-- What is due of the words and the files, out of what was read and found.
-- Source: this simulator's.
use Rattle.std.proofs.Common.{◌≡◌, ◌≢◌, ℕ, ◌<◌, ◌≤◌, List, [], arith, inl, inr, refl, subst, sym}
use Rattle.std.specs.Prelude.{◌⊎◌, Option, None, Some, Result, Ok, Err, IfOk, MatchResult}
use Rattle.clap.specs.Words.{kind_of}
use Rattle.clap.specs.declared.error.Error.{Error}
use Rattle.clap.specs.declared.error.kind.ErrorKind.TheVariants as kind
use Rattle.file_places.specs.declared.kept.KeptFile.{KeptFile}
use Rattle.outside_io.specs.Files.{Asks, FilesSeen, stopped}
use Rattle.outside_io.specs.Sink.{Hands, SinkSeen}
use Rattle.outside_io.proofs.FilesSteps.{asks_lost, asks_unrefused}
use Rattle.ffm_model.specs.declared.place.Refusal.{Refusal}
use Rattle.ffm_model.specs.declared.machine.Memory.{Memory}
use Rattle.ffm_model.specs.Reading.{refused}
use Rattle.text_lines.specs.Refusals.{refusal_line}
use Rattle.work_orders.specs.Work.{Work, run_of}
use Rattle.work_orders.specs.declared.unanswered.Unanswered.{Unanswered}
use Rattle.work_orders.specs.declared.unanswered.Unanswered.TheVariants as unanswered
use Rattle.work_orders.specs.declared.work.RunWork.{RunWork}
use Rattle.program_words.proofs.Answering.{file_unread, no_memory_found, part, whole}
use Rattle.program_words.specs.declared.answers.Answer.{Answer}
use Rattle.explore_commands.specs.Answers.{Answered, AnswersRequest, AnswersWords, Due, EndsWith, IsFound, IsFoundStatus, IsStatus, Unfinished, Unread, files_asked}
use Rattle.program_words.specs.declared.explore.Request.{Request}
use Rattle.program_words.specs.Arguments.{told_status}
use Rattle.program_words.specs.Explore.{AsksFor, IsTold}

-- ---- the answer to a request

-- an answer, or that no memory was found for it
pub answer_or : (P : Answer → Type 0) (r : Result Answer Memory) (answer : Result Answer Unanswered) → MatchResult r (λ a. answer ≡ Ok a) (λ e. answer ≡ Err unanswered.Memory) → IfOk r P
    → MatchResult answer P (λ e. e ≡ unanswered.Memory)
answer_or P (Ok a) answer is p = subst (λ x. MatchResult x P (λ e. e ≡ unanswered.Memory)) (sym is) p
answer_or P (Err m) answer is p = subst (λ x. MatchResult x P (λ e. e ≡ unanswered.Memory)) (sym is) refl

-- the files were read, and this is found, or no memory was
pub found_answer : (r : Request) (a b : FilesSeen) (kept : List KeptFile) (w : RunWork) (answer : Result Answer Unanswered) → Asks a b (Ok (run_of w.threads w.system w.scenario w.programs)) (files_asked r)
    → MatchResult answer (λ x. IsFound w.system w.scenario w.programs r kept x.text.items x.status) (λ e. e ≡ unanswered.Memory) → AnswersRequest r a b kept answer
found_answer r a b kept w (Ok x) asks found = record { due = Ok (run_of w.threads w.system w.scenario w.programs); reads = asks; is_due = found }
found_answer r a b kept w (Err e) asks found = subst (λ x. AnswersRequest r a b kept (Err x)) (sym found) (asks_lost a b (run_of w.threads w.system w.scenario w.programs) (files_asked r) asks)

-- a file is refused, or no memory was found for the line
pub refused_answer : (r : Request) (a b : FilesSeen) (kept : List KeptFile) (f : Refusal) (answer : Result Answer Unanswered) → Asks {A = Work} a b (Err (stopped (refused f))) (files_asked r)
    → MatchResult answer (λ x. (x.text.items ≡ refusal_line f) × (x.status ≡ 1)) (λ e. e ≡ unanswered.Memory) → AnswersRequest r a b kept answer
refused_answer r a b kept f (Ok x) asks is = record { due = Err (refused f); reads = asks; is_due = is }
refused_answer r a b kept f (Err e) asks is = subst (λ x. AnswersRequest r a b kept (Err x)) (sym is) (asks_unrefused a b (refused f) (files_asked r) asks)

-- ---- the answer to the words

-- they ask for this
pub asked_answer : (words : List (List ℕ)) (r : Request) (a b : FilesSeen) (kept : List KeptFile) (result : Result Answer Unanswered) → AsksFor words r → AnswersRequest r a b kept result → AnswersWords words a b kept result
asked_answer words r a b kept (Ok answer) asks is = inr (r, asks, is)
asked_answer words r a b kept (Err unanswered.File) asks is = (r, asks, is)
asked_answer words r a b kept (Err unanswered.Memory) asks is = inr (r, asks, is)

-- they ask for nothing, and were answered
told_answer : (words : List (List ℕ)) (e : Error) (a : FilesSeen) (kept : List KeptFile) (answer : Answer) → (kind_of e ≡ kind.OutOfMemory) ⊎ IsTold words (told_status (kind_of e)) → answer.status ≡ told_status (kind_of e)
    → kind_of e ≢ kind.OutOfMemory → AnswersWords words a a kept (Ok answer)
told_answer words e a kept answer (inl memory) status other = absurd (other memory)
told_answer words e a kept answer (inr told) status other = inl (subst (IsTold words) (sym status) told, refl)

-- and so they were, or no memory was found
pub told_words : (words : List (List ℕ)) (e : Error) (a : FilesSeen) (kept : List KeptFile) (r : Result Answer Memory) (answer : Result Answer Unanswered) → MatchResult r (λ x. answer ≡ Ok x) (λ m. answer ≡ Err unanswered.Memory)
    → (kind_of e ≡ kind.OutOfMemory) ⊎ IsTold words (told_status (kind_of e)) → IfOk r (λ x. x.status ≡ told_status (kind_of e)) → IfOk r (λ x. kind_of e ≢ kind.OutOfMemory) → AnswersWords words a a kept answer
told_words words e a kept (Ok x) answer is told status other = subst (AnswersWords words a a kept) (sym is) (told_answer words e a kept x told status other)
told_words words e a kept (Err m) answer is told status other = subst (AnswersWords words a a kept) (sym is) (inl refl)

-- with a status of what was answered
pub told_found : (r : Result Answer Memory) (answer : Result Answer Unanswered) → MatchResult r (λ x. answer ≡ Ok x) (λ m. answer ≡ Err unanswered.Memory) → IfOk r (λ x. x.status ≤ 2) → IfOk answer (λ x. IsFoundStatus x.status)
told_found (Ok x) answer is few = subst (λ y. IfOk y (λ z. IsFoundStatus z.status)) (sym is) (inl few)
told_found (Err m) answer is few = subst (λ y. IfOk y (λ z. IsFoundStatus z.status)) (sym is) tt

-- ---- what is made of files and sink

is_status : (status : ℕ) → IsFoundStatus status → IsStatus status
is_status status (inl few) = inl few
is_status status (inr more) = inr (omega arith, omega arith)

below_seven : (status : ℕ) → IsFoundStatus status → status < 7
below_seven status (inl few) = omega arith
below_seven status (inr more) = omega arith

-- the text was written whole
pub answered_whole : (words : List (List ℕ)) (f g : FilesSeen) (kept : List KeptFile) (out after : SinkSeen) (text : List ℕ) (status : ℕ) → Due words f g kept text status → IsFoundStatus status → Hands {E = Unit {0}} out after (Ok (tt {0})) text → Answered words f g kept out after status
answered_whole words f g kept out after text status due is hands = whole IsStatus (Due words f g kept) (Unread words f g) (Unfinished words f g) out after text status (is_status status is) (below_seven status is) due hands

-- it wasn't
pub answered_part : (words : List (List ℕ)) (f g : FilesSeen) (kept : List KeptFile) (out after : SinkSeen) (text : List ℕ) (status : ℕ) → Due words f g kept text status → Hands {T = Unit {0}} out after (Err (tt {0})) text → Answered words f g kept out after 8
answered_part words f g kept out after text status due hands = part IsStatus (Due words f g kept) (Unread words f g) (Unfinished words f g) out after text status (inr (omega arith, omega arith)) due hands

-- a file wasn't read
pub answered_unread : (words : List (List ℕ)) (f g : FilesSeen) (kept : List KeptFile) (out : SinkSeen) → Unread words f g → Answered words f g kept out out 7
answered_unread words f g kept out unread = file_unread IsStatus (Due words f g kept) (Unread words f g) (Unfinished words f g) out (inr (omega arith, omega arith)) unread

-- no memory was found
pub answered_unfinished : (words : List (List ℕ)) (f g : FilesSeen) (kept : List KeptFile) (out : SinkSeen) → Unfinished words f g → Answered words f g kept out out 9
answered_unfinished words f g kept out unfinished = no_memory_found IsStatus (Due words f g kept) (Unread words f g) (Unfinished words f g) out (inr (omega arith, omega arith)) unfinished

-- ---- the program

-- no memory was found for its words
pub ends_unread : (told : Option (List (List ℕ))) (f : FilesSeen) (kept : List KeptFile) (out : SinkSeen) → EndsWith told f f kept out out 9
ends_unread None f kept out = ([], tt, answered_unfinished [] f f kept out (inl refl))
ends_unread (Some given) f kept out = (given, inl refl, answered_unfinished given f f kept out (inl refl))
