-- One step that reads files after the other.
use Rattle.std.proofs.Common.{◌≡◌, ◌⊎◌, ℕ, ◌<◌, List, [], ◌∷◌, ◌++◌, Option, None, Some, Result, Ok, Err, Vec, inl, inr, refl, ap, sym, subst, ◌∙◌, append_assoc, append-nil, length, arith, tests, IsSomeAnd, IfOk, ◌≤◌}
use Rattle.std.specs.Prelude.{IfSome}
use Rattle.std.specs.Option.{option_map}
use Rattle.ffm_model.specs.declared.codes.TheConstants.{FILE_TOO_LONG}
use Rattle.ffm_model.specs.declared.place.Place.{Place}
use Rattle.ffm_model.specs.declared.place.ReadError.{ReadError}
use Rattle.ffm_model.specs.declared.place.ReadError.TheVariants as read_error
use Rattle.ffm_model.specs.Reading.{Contents, Reading, Stop, ◌>>=◌, go_on, asks_nothing, file_at, refused_at, within_limit, Reads}
use Rattle.outside_io.specs.declared.files.FileError.{FileError}
use Rattle.outside_io.specs.declared.files.FileError.TheVariants as file_error
use Rattle.outside_io.specs.Files.{FilesSeen, ReadBetween, ReadsFile, ReadsOnce, ReadsWhole, FaultsBy, FailedName, NoValue, stopped, failed, no_memory, ReadsFront, Answers, Counts, MayHold, Asks, read_at, seen_as}

-- ---- names that were read

-- none was read
pub read_none : (a : Option (List (List ℕ))) → ReadBetween a a []
read_none None = tt
read_none (Some a) = sym (append-nil a)

-- some names, and then others
pub read_then : (a b c : Option (List (List ℕ))) (xs ys : List (List ℕ)) → ReadBetween a b xs → ReadBetween b c ys → ReadBetween a c (xs ++ ys)
read_then a b None xs ys p q = tt
read_then None None (Some c) xs ys p q = q
read_then None (Some b) (Some c) xs ys p q = p
read_then (Some a) None (Some c) xs ys p q = absurd q
read_then (Some a) (Some b) (Some c) xs ys p q = q ∙ ap (λ (s : List (List ℕ)). s ++ ys) p ∙ append_assoc a xs ys

-- ---- one read

fits : (place : Place) (limit : ℕ) (o : Option (List ℕ)) (bytes : List ℕ) → o ≡ Some bytes → length bytes ≤ limit → within_limit place limit o ≡ Ok bytes
fits place limit o bytes e le = rw e (grind (arith, tests))

is_over : (place : Place) (limit : ℕ) (o : Option (List ℕ)) → IsSomeAnd o (λ bytes. limit < length bytes) → within_limit place limit o ≡ Err (refused_at FILE_TOO_LONG place)
is_over place limit None p = absurd p
is_over place limit (Some bytes) p = grind (arith, tests)

-- where reads are told or not, the name was read once or not yet
perhaps_read : (a b : FilesSeen) (name : List ℕ) → ReadBetween a.reads b.reads [] ⊎ ReadBetween a.reads b.reads (name ∷ []) → ReadsFront a b (name ∷ [])
perhaps_read a b name (inl none) = record { front = []; rest = name ∷ []; whole = refl; read = none }
perhaps_read a b name (inr read) = record { front = name ∷ []; rest = []; whole = refl; read = read }

one_answer : {A : Type 0} (place : Place) (a b : FilesSeen) (r : Result (Vec ℕ A) FileError) (limit : ℕ) (name : List ℕ) (content : Option (List ℕ)) → IfOk r (λ bytes. length bytes.items ≤ limit) → ReadsWhole limit content r
    → ReadsOnce a.reads b.reads r name → FailedName a.last_failed b.last_failed r name → Answers a b (read_at place r) (record { names = name ∷ []; gives = within_limit place limit content })
one_answer place a b (Ok bytes) limit name content short p q l = (q, fits place limit content bytes.items p short)
one_answer place a b (Err file_error.TooLong) limit name content short p q l = (q, is_over place limit content p)
one_answer place a b (Err file_error.Failed) limit name content short p q l = record { front = []; name = name; rest = []; whole = refl; read = q; last = l }
one_answer place a b (Err file_error.Memory) limit name content short p q l = perhaps_read a b name q

one_told : {A : Type 0} (place : Place) (a b : FilesSeen) (r : Result (Vec ℕ A) FileError) (limit : ℕ) (name : List ℕ) (h : Option Contents) (of : Contents) → MayHold h of (name ∷ []) → IfSome h (λ at. ReadsWhole limit (at name) r)
    → IfOk r (λ bytes. length bytes.items ≤ limit) → ReadsOnce a.reads b.reads r name → FailedName a.last_failed b.last_failed r name → Answers a b (read_at place r) (file_at of place limit name)
one_told place a b r limit name h of (inl told) p short q l =
    one_answer place a b r limit name (of name) short (subst (λ (o : Option Contents). IfSome o (λ at. ReadsWhole limit (at name) r)) told p) q l
one_told place a b r limit name h of (inr none) p short q l = absurd cc

one_counted : {A : Type 0} (place : Place) (a b : FilesSeen) (r : Result (Vec ℕ A) FileError) (name : List ℕ) → FaultsBy a.faults b.faults r → FailedName a.last_failed b.last_failed r name → Counts a b (read_at place r)
one_counted place a b (Ok bytes) name p q = (p, q)
one_counted place a b (Err file_error.TooLong) name p q = (p, q)
one_counted place a b (Err file_error.Failed) name p q = p
one_counted place a b (Err file_error.Memory) name p q = (p, q)

-- a read is work that asks for one file
pub asks_file : {A : Type 0} (place : Place) (a b : FilesSeen) (r : Result (Vec ℕ A) FileError) (limit : ℕ) (name : List ℕ) → ReadsFile a b r limit name → Asks a b (read_at place r) (λ of. file_at of place limit name)
asks_file place a b r limit name p = record {
  keeps = p.keeps;
  answers = λ of may. one_told place a b r limit name a.held of may p.whole p.within p.once p.failed;
  counts = one_counted place a b r name p.faults p.failed;
}

-- ---- two steps

-- names that were asked for in front
go_front : {Y Z : Type 0} (names : List (List ℕ)) (gives : Result Y Stop) (f : Y → Reading Z) → (go_on names gives f).names ≡ [] → names ≡ []
go_front [] gives f none = refl
go_front (name ∷ names) (Ok y) f none = absurd cc
go_front (name ∷ names) (Err e) f none = absurd cc

go_after : {Y Z : Type 0} (names : List (List ℕ)) (gives : Result Y Stop) (f : Y → Reading Z) (y : Y) → gives ≡ Ok y → (go_on names gives f).names ≡ [] → (f y).names ≡ []
go_after names gives f y is none =
    let here : names ≡ [] = go_front names gives f none in
    rw (here, is) at none

may_first : {Y Z : Type 0} (h : Option Contents) (of : Contents) (first : Reading Y) (f : Y → Reading Z) → MayHold h of (first >>= f).names → MayHold h of first.names
may_first h of first f (inl told) = inl told
may_first h of first f (inr none) = inr (go_front first.names first.gives f none)

may_second : {Y Z : Type 0} (h m : Option Contents) (of : Contents) (first : Reading Y) (f : Y → Reading Z) (y : Y) → first.gives ≡ Ok y → m ≡ h → MayHold h of (first >>= f).names → MayHold m of (f y).names
may_second h m of first f y is same (inl told) = inl (same ∙ told)
may_second h m of first f y is same (inr none) = inr (go_after first.names first.gives f y is none)

-- the answer after names that were read
later : {Z : Type 0} (a b c : FilesSeen) (r : Result Z NoValue) (xs : List (List ℕ)) (asked : Reading Z) → ReadBetween a.reads b.reads xs → b.last_failed ≡ a.last_failed → Answers b c r asked
    → Answers a c r (record { names = xs ++ asked.names; gives = asked.gives })
later a b c (Ok x) xs asked p same (q, gives) = (read_then a.reads b.reads c.reads xs asked.names p q, gives)
later a b c (Err (stopped s)) xs asked p same (q, gives) = (read_then a.reads b.reads c.reads xs asked.names p q, gives)
later a b c (Err failed) xs asked p same q = record {
  front = xs ++ q.front;
  name = q.name;
  rest = q.rest;
  whole = ap (λ (s : List (List ℕ)). xs ++ s) q.whole ∙ sym (append_assoc xs q.front (q.name ∷ q.rest));
  read = subst (λ (s : List (List ℕ)). ReadBetween a.reads c.reads s) (sym (append_assoc xs q.front (q.name ∷ []))) (read_then a.reads b.reads c.reads xs (q.front ++ q.name ∷ []) p q.read);
  last = q.last ∙ ap (λ (s : Option (Option (List ℕ))). option_map (λ _. Some q.name) s) same;
}
later a b c (Err no_memory) xs asked p same q = record {
  front = xs ++ q.front;
  rest = q.rest;
  whole = ap (λ (s : List (List ℕ)). xs ++ s) q.whole ∙ sym (append_assoc xs q.front q.rest);
  read = read_then a.reads b.reads c.reads xs q.front p q.read;
}

-- after a first step that gave y
after_first : {Y Z : Type 0} (a b c : FilesSeen) (r : Result Z NoValue) (first : Reading Y) (f : Y → Reading Z) (y : Y) → ReadBetween a.reads b.reads first.names → first.gives ≡ Ok y → b.last_failed ≡ a.last_failed
    → Answers b c r (f y) → Answers a c r (first >>= f)
after_first a b c r first f y p gives same q = rw gives (later a b c r first.names (f y) p same q)

counts_then : {Z : Type 0} (a b c : FilesSeen) (r : Result Z NoValue) → (b.faults ≡ a.faults) × (b.last_failed ≡ a.last_failed) → Counts b c r → Counts a c r
counts_then a b c (Ok x) (s, l) (t, m) = (t ∙ s, m ∙ l)
counts_then a b c (Err (stopped e)) (s, l) (t, m) = (t ∙ s, m ∙ l)
counts_then a b c (Err failed) (s, l) q = rw s at q
counts_then a b c (Err no_memory) (s, l) (t, m) = (t ∙ s, m ∙ l)

told_then : {Y Z : Type 0} (a b c : FilesSeen) (r : Result Z NoValue) (first : Contents → Reading Y) (second : Contents → Y → Reading Z) (y : Y) (of : Contents) → b.held ≡ a.held → b.last_failed ≡ a.last_failed
    → MayHold a.held of (first of >>= second of).names → ReadBetween a.reads b.reads (first of).names × ((first of).gives ≡ Ok y) → (MayHold b.held of (second of y).names → Answers b c r (second of y))
    → Answers a c r (first of >>= second of)
told_then a b c r first second y of keeps same may (read, gives) q =
    after_first a b c r (first of) (second of) y read gives same (q (may_second a.held b.held of (first of) (second of) y gives keeps may))

-- the second of two steps decides
pub asks_then : {Y Z : Type 0} (a b c : FilesSeen) (r : Result Z NoValue) (first : Contents → Reading Y) (second : Contents → Y → Reading Z) (y : Y)
    → Asks a b (Ok y) first → Asks b c r (λ of. second of y) → Asks a c r (λ of. first of >>= second of)
asks_then a b c r first second y p q = record {
  keeps = q.keeps ∙ p.keeps;
  answers = λ of may. told_then a b c r first second y of p.keeps p.counts.1 may (p.answers of (may_first a.held of (first of) (second of) may)) (q.answers of);
  counts = counts_then a b c r p.counts q.counts;
}

-- a step that gave nothing is the end
stops : {Y Z : Type 0} (a b : FilesSeen) (e : NoValue) (names : List (List ℕ)) (gives : Result Y Stop) (f : Y → Reading Z) → Answers {A = Y} a b (Err e) (record { names = names; gives = gives }) → Answers {A = Z} a b (Err e) (go_on names gives f)
stops a b (stopped s) names (Ok y) f (p, e) = absurd cc
stops a b (stopped s) names (Err t) f (p, e) = (p, cc)
stops a b failed names (Ok y) f p = record {
  front = p.front;
  name = p.name;
  rest = p.rest ++ (f y).names;
  whole = ap (λ (s : List (List ℕ)). s ++ (f y).names) p.whole ∙ append_assoc p.front (p.name ∷ p.rest) (f y).names;
  read = p.read;
  last = p.last;
}
stops a b failed names (Err t) f p = p
stops a b no_memory names (Ok y) f p = record {
  front = p.front;
  rest = p.rest ++ (f y).names;
  whole = ap (λ (s : List (List ℕ)). s ++ (f y).names) p.whole ∙ append_assoc p.front p.rest (f y).names;
  read = p.read;
}
stops a b no_memory names (Err t) f p = p

counts_stop : (Y Z : Type 0) (a b : FilesSeen) (e : NoValue) → Counts {A = Y} a b (Err e) → Counts {A = Z} a b (Err e)
counts_stop Y Z a b (stopped s) p = p
counts_stop Y Z a b failed p = p
counts_stop Y Z a b no_memory p = p

-- the first of two steps gave nothing
pub asks_stops : {Y Z : Type 0} (a b : FilesSeen) (e : NoValue) (first : Contents → Reading Y) (second : Contents → Y → Reading Z) → Asks {A = Y} a b (Err e) first → Asks {A = Z} a b (Err e) (λ of. first of >>= second of)
asks_stops {Y = Y} {Z = Z} a b e first second p = record {
  keeps = p.keeps;
  answers = λ of may. stops a b e (first of).names (first of).gives (second of) (p.answers of (may_first a.held of (first of) (second of) may));
  counts = counts_stop Y Z a b e p.counts;
}

-- ---- steps that ask for no file

pure_answer : {X Y : Type 0} (a : FilesSeen) (view : X → Y) (r : Result X ReadError) (gives : Result Y Stop) → Reads view r gives → Answers a a (seen_as view r) (asks_nothing gives)
pure_answer a view (Ok x) gives p = (read_none a.reads, p)
pure_answer a view (Err (read_error.Refused f)) gives p = (read_none a.reads, p)
pure_answer a view (Err read_error.Memory) gives p = record { front = []; rest = []; whole = refl; read = read_none a.reads }

pure_counts : {X Y : Type 0} (a : FilesSeen) (view : X → Y) (r : Result X ReadError) → Counts a a (seen_as view r)
pure_counts a view (Ok x) = (refl, refl)
pure_counts a view (Err (read_error.Refused f)) = (refl, refl)
pure_counts a view (Err read_error.Memory) = (refl, refl)

-- what is read of bytes alone asks for no file
pub asks_pure : {X Y : Type 0} (a : FilesSeen) (view : X → Y) (r : Result X ReadError) (gives : Result Y Stop) → Reads view r gives → Asks a a (seen_as view r) (λ of. asks_nothing gives)
asks_pure a view r gives p = record { keeps = refl; answers = λ of may. pure_answer a view r gives p; counts = pure_counts a view r }

none_yet : {Z : Type 0} (a : FilesSeen) (asked : Reading Z) → Answers a a (Err no_memory) asked
none_yet a asked = record { front = []; rest = asked.names; whole = refl; read = read_none a.reads }

-- no memory was found, before any file was read
pub asks_unread : {Z : Type 0} (a : FilesSeen) (asked : Contents → Reading Z) → Asks a a (Err no_memory) asked
asks_unread a asked = record { keeps = refl; answers = λ of may. none_yet a (asked of); counts = (refl, refl) }

-- what bytes alone call for
pub asks_given : {A : Type 0} (a : FilesSeen) (x : A) → Asks a a (Ok x) (λ of. asks_nothing (Ok x))
asks_given a x = record { keeps = refl; answers = λ of may. (read_none a.reads, refl); counts = (refl, refl) }

-- a file's step, and then what its value alone calls for
pub asks_part : {X Y Z : Type 0} (a b : FilesSeen) (view : X → Z) (r : Result X ReadError) (first : Contents → Reading Y) (gives : Y → Result Z Stop) (y : Y)
    → Asks a b (Ok y) first → Reads view r (gives y) → Asks a b (seen_as view r) (λ of. first of >>= λ y. asks_nothing (gives y))
asks_part a b view r first gives y p q = asks_then a b b (seen_as view r) first (λ of y. asks_nothing (gives y)) y p (asks_pure b view r (gives y) q)

-- the same of equal readings
pub asks_as : {A : Type 0} (a b : FilesSeen) (r : Result A NoValue) (f g : Contents → Reading A) → ((of : Contents) → f of ≡ g of) → Asks a b r f → Asks a b r g
asks_as {A = A} a b r f g same p = record {
  keeps = p.keeps;
  answers = λ of may. subst (λ (x : Reading A). Answers a b r x) (same of) (p.answers of (subst (λ (x : Reading A). MayHold a.held of x.names) (sym (same of)) may));
  counts = p.counts;
}

-- ---- want of memory in place of an answer

all_read : {A : Type 0} (a b : FilesSeen) (asked : Reading A) → ReadBetween a.reads b.reads asked.names → Answers {A = A} a b (Err no_memory) asked
all_read a b asked p = record { front = asked.names; rest = []; whole = sym (append-nil asked.names); read = p }

-- a value was given, and no memory was found for it
pub asks_lost : {A : Type 0} (a b : FilesSeen) (x : A) (asked : Contents → Reading A) → Asks a b (Ok x) asked → Asks {A = A} a b (Err no_memory) asked
asks_lost {A = A} a b x asked p = record { keeps = p.keeps; answers = λ of may. all_read a b (asked of) (p.answers of may).0; counts = p.counts }

-- and the same of a refusal
pub asks_unrefused : {A : Type 0} (a b : FilesSeen) (s : Stop) (asked : Contents → Reading A) → Asks {A = A} a b (Err (stopped s)) asked → Asks {A = A} a b (Err no_memory) asked
asks_unrefused {A = A} a b s asked p = record { keeps = p.keeps; answers = λ of may. all_read a b (asked of) (p.answers of may).0; counts = p.counts }
