-- What was asked for, done and written, is what the words and the files call for.
use Rattle.std.proofs.Common.{ℕ, Bool, true, false, ◌≡◌, ◌⊎◌, ◌<◌, ◌≤◌, List, [], Option, None, Some, Result, Ok, Err, inl, inr, refl, sym, subst, ◌∙◌, arith}
use Rattle.std.specs.Prelude.{◌≢◌, IfSome, IsOkAnd}
use Rattle.ffm_model.specs.declared.machine.Entry.{Entry}
use Rattle.ffm_model.specs.Reading.{Contents, Reading, Stop, refused}
use Rattle.command_words.specs.Words.{Order, asks_threads, order_of}
use Rattle.outside_io.specs.Files.{Answers, Asks, FilesSeen, NoValue, MayHold, failed, no_memory, stopped}
use Rattle.outside_io.specs.Sink.{SinkSeen, Hands}
use Rattle.outside_io.proofs.FilesSteps.{asks_given, asks_lost}
use Rattle.work_orders.specs.View.{work}
use Rattle.work_orders.specs.Work.{Work, work_of}
use Rattle.work_orders.specs.declared.unanswered.Unanswered.TheVariants as unanswered
use Rattle.ffm_top.specs.declared.asked.Asked.{Asked}
use Rattle.ffm_top.specs.declared.asked.Asked.TheVariants as asked
use Rattle.ffm_top.specs.Answers.{Answered, IsDoneStatus, IsStatus, all_asked}
use Rattle.ffm_top.specs.Asked.{AskedBy, AskedDue, IsToDo, IsValidAsked, TakesThreads, wants_threads}
use Rattle.ffm_top.specs.Due.{DueBy, IsValidBy, IsValidWork, LeftBy, OrderDue, names_asked}
use Rattle.ffm_top.proofs.Reports.{valid_done, work_status}

-- ---- threads

-- threads are wanted where they are asked for
pub may_want : (b : Bool) (a : Asked) → TakesThreads b a → wants_threads a ≡ true → b ≡ true
may_want b asked.Usage takes wants = absurd cc
may_want b (asked.Refused r) takes wants = absurd cc
may_want b (asked.Work w) takes wants = sym takes ∙ wants

-- no threads are asked for, or it's no run that was done
not_done : (b : Bool) (ended : Option (List Entry)) (text : List ℕ) (status : ℕ) → status ≡ 1 → LeftBy b ended text status
not_done false ended text status one = tt
not_done true ended text status one = λ other. absurd (other one)

left_by : (o : Option Order) (f g : FilesSeen) (ended : Option (List Entry)) (a : Asked) (text : List ℕ) (status : ℕ) → AskedBy o f g (Ok a) → TakesThreads (asks_threads o) a → AskedDue a ended text status → LeftBy (asks_threads o) ended text status
left_by None f g ended asked.Usage text status by takes due = tt
left_by None f g ended (asked.Refused r) text status by takes due = absurd by
left_by None f g ended (asked.Work w) text status by takes due = absurd by
left_by (Some o) f g ended asked.Usage text status by takes due = absurd by
left_by (Some o) f g ended (asked.Refused r) text status by takes due = not_done (asks_threads (Some o)) ended text status due.1
left_by (Some o) f g ended (asked.Work w) text status by takes due = subst (λ (b : Bool). LeftBy b ended text status) takes due.1

-- ---- what is due

due_by : (g : Result Work Stop) (h : Result Work Stop) (text : List ℕ) (status : ℕ) → g ≡ h → DueBy h text status → DueBy g text status
due_by g h text status is due = subst (λ (x : Result Work Stop). DueBy x text status) (sym is) due

pub due_over : (o : Option Order) (f g : FilesSeen) (ended : Option (List Entry)) (a : Asked) (text : List ℕ) (status : ℕ) → AskedBy o f g (Ok a) → AskedDue a ended text status
    → (of : Contents) → MayHold f.held of (names_asked o of) → OrderDue o of text status
due_over None f g ended asked.Usage text status by due of may = due
due_over None f g ended (asked.Refused r) text status by due of may = absurd by
due_over None f g ended (asked.Work w) text status by due of may = absurd by
due_over (Some o) f g ended asked.Usage text status by due of may = absurd by
due_over (Some o) f g ended (asked.Refused r) text status by due of may = due_by _ (Err (refused r)) text status (by.answers of may).1 due
due_over (Some o) f g ended (asked.Work w) text status by due of may = due_by _ (Ok (work w)) text status (by.answers of may).1 due.0

-- ---- what was read

all_of : {A : Type 0} (f g : FilesSeen) (r : Result A NoValue) (asked : Contents → Reading A) → ((of : Contents) → MayHold f.held of (asked of).names → Answers {A = Unit {0}} f g (Ok tt) (record { names = (asked of).names; gives = Ok tt }))
    → (g.faults ≡ f.faults) × (g.last_failed ≡ f.last_failed) → g.held ≡ f.held → Asks {A = Unit {0}} f g (Ok tt) (λ of. record { names = (asked of).names; gives = Ok tt })
all_of f g r asked answers counts keeps = record { keeps = keeps; answers = answers; counts = counts }

pub reads_all : (o : Option Order) (f g : FilesSeen) (a : Asked) → AskedBy o f g (Ok a) → Asks {A = Unit {0}} f g (Ok tt) (λ of. record { names = names_asked o of; gives = Ok tt })
reads_all None f g asked.Usage by = subst (λ (h : FilesSeen). Asks {A = Unit {0}} f h (Ok tt) (λ of. record { names = []; gives = Ok tt })) (sym by) (asks_given f tt)
reads_all None f g (asked.Refused r) by = absurd by
reads_all None f g (asked.Work w) by = absurd by
reads_all (Some o) f g asked.Usage by = absurd by
reads_all (Some o) f g (asked.Refused r) by = all_of f g (Err (stopped (refused r))) (λ of. work_of of o) (λ of may. ((by.answers of may).0, refl)) by.counts by.keeps
reads_all (Some o) f g (asked.Work w) by = all_of f g (Ok (work w)) (λ of. work_of of o) (λ of may. ((by.answers of may).0, refl)) by.counts by.keeps

reads_failed : (o : Option Order) (f g : FilesSeen) → AskedBy o f g (Err unanswered.File) → Asks {A = Unit {0}} f g (Err failed) (λ of. record { names = names_asked o of; gives = Ok tt })
reads_failed None f g by = absurd by
reads_failed (Some o) f g by = record { keeps = by.keeps; answers = λ of may. by.answers of may; counts = by.counts }

reads_front : (o : Option Order) (f g : FilesSeen) → AskedBy o f g (Err unanswered.Memory) → Asks {A = Unit {0}} f g (Err no_memory) (λ of. record { names = names_asked o of; gives = Ok tt })
reads_front None f g by = absurd by
reads_front (Some o) f g by = record { keeps = by.keeps; answers = λ of may. by.answers of may; counts = by.counts }

-- ---- statuses

-- a text that is due has one of these
due_status : (ended : Option (List Entry)) (a : Asked) (text : List ℕ) (status : ℕ) → AskedDue a ended text status → (status ≤ 2) ⊎ ((4 ≤ status) × (status ≤ 6))
due_status ended asked.Usage text status due = inl (omega arith)
due_status ended (asked.Refused r) text status due = inl (omega arith)
due_status ended (asked.Work w) text status due = elim (work_status (work w) text status due.0) [ inl one ↦ inl (omega arith) | inr done ↦ elim done [ inl none ↦ inl (omega arith) | inr p ↦ inr p ] ]

below_seven : (status : ℕ) → (status ≤ 2) ⊎ ((4 ≤ status) × (status ≤ 6)) → status < 7
below_seven status (inl p) = omega arith
below_seven status (inr p) = omega arith

is_status : (status : ℕ) → (status ≤ 2) ⊎ ((4 ≤ status) × (status ≤ 6)) → IsStatus status
is_status status (inl p) = inl p
is_status status (inr p) = inr (p.0, omega arith)

not_two : (w : Work) (text : List ℕ) (status : ℕ) → (status ≡ 1) ⊎ IsDoneStatus status → status ≡ 2 → ⊥
not_two w text status (inl one) two = omega arith
not_two w text status (inr (inl none)) two = omega arith
not_two w text status (inr (inr p)) two = omega arith

usage_by : (o : Option Order) (f g : FilesSeen) (ended : Option (List Entry)) (a : Asked) (text : List ℕ) (status : ℕ) → AskedBy o f g (Ok a) → AskedDue a ended text status → status ≡ 2 → o ≡ None
usage_by None f g ended a text status by due two = refl
usage_by (Some o) f g ended asked.Usage text status by due two = absurd by
usage_by (Some o) f g ended (asked.Refused r) text status by due two = absurd (omega arith)
usage_by (Some o) f g ended (asked.Work w) text status by due two = absurd (not_two (work w) text status (work_status (work w) text status due.0) two)

no_words_by : (o : Option Order) (f g : FilesSeen) (ended : Option (List Entry)) (a : Asked) (text : List ℕ) (status : ℕ) → AskedBy o f g (Ok a) → AskedDue a ended text status → o ≡ None → status ≡ 2
no_words_by None f g ended asked.Usage text status by due none = due.1
no_words_by None f g ended (asked.Refused r) text status by due none = absurd by
no_words_by None f g ended (asked.Work w) text status by due none = absurd by
no_words_by (Some o) f g ended a text status by due none = absurd cc

-- without words there is an answer
no_halt : (o : Option Order) (f g : FilesSeen) → AskedBy o f g (Err unanswered.Memory) → o ≡ None → ⊥
no_halt None f g by none = by
no_halt (Some o) f g by none = cc

no_fault : (o : Option Order) (f g : FilesSeen) → AskedBy o f g (Err unanswered.File) → o ≡ None → ⊥
no_fault None f g by none = by
no_fault (Some o) f g by none = cc

valid_asked : (o : Option Order) (f g : FilesSeen) (a : Asked) (of : Contents) → f.held ≡ Some of → AskedBy o f g (Ok a) → IsValidBy o of → IsValidAsked a
valid_asked None f g a of told by valid = absurd valid
valid_asked (Some o) f g asked.Usage of told by valid = absurd by
valid_asked (Some o) f g (asked.Refused r) of told by valid = let refusal = subst (λ (x : Result Work Stop). IsOkAnd x IsValidWork) (by.answers of (inl told)).1 valid in absurd refusal
valid_asked (Some o) f g (asked.Work w) of told by valid = subst (λ (x : Result Work Stop). IsOkAnd x IsValidWork) (by.answers of (inl told)).1 valid

complete_by : (o : Option Order) (held : Option Contents) (f g : FilesSeen) (a : Asked) (status : ℕ) → f.held ≡ held → AskedBy o f g (Ok a) → (IsValidAsked a → IsDoneStatus status)
    → IfSome held (λ of. IsValidBy o of → status ≢ 7 → status ≢ 8 → IsDoneStatus status ⊎ (status ≡ 9))
complete_by o None f g a status told by done = tt
complete_by o (Some of) f g a status told by done = λ valid read written. inl (done (valid_asked o f g a of told by valid))

-- a status that makes no promise
free : (held : Option Contents) (V : Contents → Type 0) (status : ℕ) → (status ≡ 7) ⊎ ((status ≡ 8) ⊎ (status ≡ 9)) → IfSome held (λ of. V of → status ≢ 7 → status ≢ 8 → IsDoneStatus status ⊎ (status ≡ 9))
free None V status is = tt
free (Some of) V status (inl seven) = λ valid read written. absurd (read seven)
free (Some of) V status (inr (inl eight)) = λ valid read written. absurd (written eight)
free (Some of) V status (inr (inr nine)) = λ valid read written. inr nine

-- a file that was refused wasn't valid
asked_done : (ended : Option (List Entry)) (a : Asked) (text : List ℕ) (status : ℕ) → AskedDue a ended text status → IsValidAsked a → IsDoneStatus status
asked_done ended asked.Usage text status due valid = absurd valid
asked_done ended (asked.Refused r) text status due valid = absurd valid
asked_done ended (asked.Work w) text status due valid = valid_done (work w) text status due.0 valid

-- ---- answers

-- the text was written whole
pub answered_whole : (words : List (List ℕ)) (ended : Option (List Entry)) (f g : FilesSeen) (out after : SinkSeen) (a : Asked) (text : List ℕ) (status : ℕ)
    → AskedBy (order_of words) f g (Ok a) → TakesThreads (asks_threads (order_of words)) a → AskedDue a ended text status → Hands {T = Unit {0}} {E = Unit {0}} out after (Ok tt) text
    → Answered words ended f g out after status
answered_whole words ended f g out after a text status by takes due hands =
    let is = due_status ended a text status due in
    let lt : status < 7 = below_seven status is in
    record {
      status_is = is_status status is;
      due = λ _. (text, due_over (order_of words) f g ended a text status by due, left_by (order_of words) f g ended a text status by takes due, hands);
      part = λ e. absurd (omega arith);
      nothing = λ e. absurd (elim e [ inl p ↦ omega arith | inr p ↦ omega arith ]);
      read = λ _. reads_all (order_of words) f g a by;
      read_failed = λ e. absurd (omega arith);
      read_part = λ e. absurd (omega arith);
      usage = usage_by (order_of words) f g ended a text status by due;
      no_words = λ none. inl (no_words_by (order_of words) f g ended a text status by due none);
      complete = complete_by (order_of words) f.held f g a status refl by (asked_done ended a text status due);
    }

-- it wasn't
pub answered_part : (words : List (List ℕ)) (ended : Option (List Entry)) (f g : FilesSeen) (out after : SinkSeen) (a : Asked) (text : List ℕ) (status : ℕ)
    → AskedBy (order_of words) f g (Ok a) → TakesThreads (asks_threads (order_of words)) a → AskedDue a ended text status → Hands {T = Unit {0}} {E = Unit {0}} out after (Err tt) text
    → Answered words ended f g out after 8
answered_part words ended f g out after a text status by takes due hands = record {
  status_is = inr (omega arith, omega arith);
  due = λ lt. absurd (omega arith);
  part = λ _. (text, status, due_over (order_of words) f g ended a text status by due, left_by (order_of words) f g ended a text status by takes due, hands);
  nothing = λ e. absurd (elim e [ inl p ↦ omega arith | inr p ↦ omega arith ]);
  read = λ _. reads_all (order_of words) f g a by;
  read_failed = λ e. absurd (omega arith);
  read_part = λ e. absurd (omega arith);
  usage = λ e. absurd (omega arith);
  no_words = λ _. inr refl;
  complete = free f.held (IsValidBy (order_of words)) 8 (inr (inl refl));
}

-- a file that is asked for wasn't read
pub answered_unread : (words : List (List ℕ)) (ended : Option (List Entry)) (f g : FilesSeen) (out : SinkSeen) → AskedBy (order_of words) f g (Err unanswered.File) → Answered words ended f g out out 7
answered_unread words ended f g out by = record {
  status_is = inr (omega arith, omega arith);
  due = λ lt. absurd (omega arith);
  part = λ e. absurd (omega arith);
  nothing = λ _. refl;
  read = λ e. absurd (elim e [ inl p ↦ omega arith | inr p ↦ omega arith ]);
  read_failed = λ _. reads_failed (order_of words) f g by;
  read_part = λ e. absurd (omega arith);
  usage = λ e. absurd (omega arith);
  no_words = λ none. absurd (no_fault (order_of words) f g by none);
  complete = free f.held (IsValidBy (order_of words)) 7 (inl refl);
}

no_memory_by : (words : List (List ℕ)) (ended : Option (List Entry)) (f g : FilesSeen) (out : SinkSeen) → Asks f g (Err no_memory) (all_asked words) → (order_of words ≡ None → ⊥) → Answered words ended f g out out 9
no_memory_by words ended f g out reads some = record {
  status_is = inr (omega arith, omega arith);
  due = λ lt. absurd (omega arith);
  part = λ e. absurd (omega arith);
  nothing = λ _. refl;
  read = λ e. absurd (elim e [ inl p ↦ omega arith | inr p ↦ omega arith ]);
  read_failed = λ e. absurd (omega arith);
  read_part = λ _. reads;
  usage = λ e. absurd (omega arith);
  no_words = λ none. absurd (some none);
  complete = free f.held (IsValidBy (order_of words)) 9 (inr (inr refl));
}

-- no memory was found while the files were read
pub answered_no_memory : (words : List (List ℕ)) (ended : Option (List Entry)) (f g : FilesSeen) (out : SinkSeen) → AskedBy (order_of words) f g (Err unanswered.Memory) → Answered words ended f g out out 9
answered_no_memory words ended f g out by = no_memory_by words ended f g out (reads_front (order_of words) f g by) (no_halt (order_of words) f g by)

some_words : (o : Option Order) (f g : FilesSeen) (a : Asked) → AskedBy o f g (Ok a) → IsToDo a → o ≡ None → ⊥
some_words None f g asked.Usage by to_do none = to_do
some_words None f g (asked.Refused r) by to_do none = by
some_words None f g (asked.Work w) by to_do none = by
some_words (Some o) f g a by to_do none = cc

-- or for the work
pub answered_undone : (words : List (List ℕ)) (ended : Option (List Entry)) (f g : FilesSeen) (out : SinkSeen) (a : Asked) → AskedBy (order_of words) f g (Ok a) → IsToDo a → Answered words ended f g out out 9
answered_undone words ended f g out a by to_do = no_memory_by words ended f g out (asks_lost f g tt (all_asked words) (reads_all (order_of words) f g a by)) (some_words (order_of words) f g a by to_do)
