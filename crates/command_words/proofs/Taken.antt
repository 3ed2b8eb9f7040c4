-- `clap` takes the accepted words, and its matches ask for their order.
use Rattle.std.proofs.Common.{◌≡◌, ◌∙◌, ℕ, refl, sym, ap, subst, true, false, List, [], ◌∷◌, codes, Some}
use Rattle.std.specs.Prelude.{◌&&◌, find}
use Rattle.std.specs.List.{list_all}
use Rattle.clap.specs.Words.{App, Rule, Shape, Text, built, subcommand_of, takes}
use Rattle.clap.specs.Walk.{Held, Walk, answers_to, arg_by_index, finished, nothing_held, reacted, rows_after, to_positional, walk, walk_from, walked}
use Rattle.clap.specs.Simple.{built_leaf, filled, inherited, label_of, marked_built, names_of, with_leaf_noted}
use Rattle.clap.specs.Takes.{default_passes, is_valid, level_passes, react_passes, settle_passes, turn_passes, walk_passes}
use Rattle.clap.proofs.OnLiterals.{clap_on_literals}
use Rattle.command_words.specs.declared.words.Inspection.{Inspection}
use Rattle.command_words.specs.declared.words.Inspection.TheVariants.{Replay, Audit}
use Rattle.command_words.specs.Words.{Order, compile, run, judge, make, is_file_word, rounds_of}
use Rattle.command_words.specs.CommandLine.{compile_app, ffm_app, make_app, run_app, threads_rule, trace_app}
use Rattle.command_words.specs.Matches.{AskFor, HasArguments, name_of}
use Rattle.command_words.proofs.Levels.{at, entered_at, level_from, passes_end, passes_on, takes_at, turn_file, walked_file}

-- a subcommand as it is built
abbrev leaf : App → Shape
leaf a = built_leaf (inherited (with_leaf_noted (marked_built ffm_app.top)) a.top)

-- the walk after a file's name
abbrev step : Shape → Walk → Text → Walk
step s w word = to_positional s.rules (arg_by_index s.rules w.position) word w w.held

-- the words after the subcommand's name are taken, and are the order's
record Reads (s : Shape) (words : List Text) (o : Order) : Type 0 where
  level : level_passes s [] nothing_held words false ≡ true
  arguments : HasArguments (rows_after s.rules [] words) o

reads_from : (s : Shape) (words : List Text) (o : Order) (end : Walk) → walk s.rules [] nothing_held words ≡ end
    → walk_passes s [] (walk_from nothing_held) words ≡ true
    → (settle_passes s.rules s.args_override_self end.held && (list_all default_passes s.rules && is_valid s (finished s.rules end.held) false)) ≡ true
    → HasArguments (finished s.rules end.held) o → Reads s words o
reads_from s words o end is passes ends arguments = record {
  level = level_from s [] words false end is passes ends;
  arguments = subst (λ (w : Walk). HasArguments (finished s.rules w.held) o) (sym is) arguments;
}

compile_reads : (x : Text) → is_file_word x ≡ true → Reads (leaf compile_app) (x ∷ []) (compile x)
compile_reads x e =
    let s = leaf compile_app in
    let end = step s (at nothing_held 1) x in
    let one = walked_file s.rules nothing_held 1 x e in
    reads_from s (x ∷ []) (compile x) end one (passes_on s [] (at nothing_held 1) end x [] (turn_file s nothing_held 1 x e) one (passes_end s [] end)) refl refl

run_reads : (x y : Text) → is_file_word x ≡ true → is_file_word y ≡ true → Reads (leaf run_app) (x ∷ y ∷ []) (run false x y)
run_reads x y e d =
    let s = leaf run_app in
    let w1 = step s (at nothing_held 1) x in
    let w2 = step s w1 y in
    let one : walked s.rules [] (at nothing_held 1) x ≡ w1 = walked_file s.rules nothing_held 1 x e in
    let two : walked s.rules [] w1 y ≡ w2 = walked_file s.rules w1.held 2 y d in
    reads_from s (x ∷ y ∷ []) (run false x y) w2 (ap (λ w. walked s.rules [] w y) one ∙ two)
    (passes_on s [] (at nothing_held 1) w1 x (y ∷ []) (turn_file s nothing_held 1 x e) one
    (passes_on s [] w1 w2 y [] (turn_file s w1.held 2 y d) two (passes_end s [] w2))) refl (refl, refl, refl)

-- ---- a run with threads

abbrev threads : Rule
threads = filled threads_rule

-- what is held after the flag
abbrev flagged : Held → Held
flagged = reacted (leaf run_app).rules threads []

walked_flag : (h : Held) (position : ℕ) → walked (leaf run_app).rules [] (at h position) (codes "--threads") ≡ at (flagged h) position
unfolding clap_on_literals
walked_flag h position = refl

turn_flag : (h : Held) (position : ℕ) → turn_passes (leaf run_app) [] (at h position) (codes "--threads") ≡ (react_passes (leaf run_app).rules false threads [] h && true)
unfolding clap_on_literals
turn_flag h position = refl

first_flag_reads : (x y : Text) → is_file_word x ≡ true → is_file_word y ≡ true → Reads (leaf run_app) (codes "--threads" ∷ x ∷ y ∷ []) (run true x y)
first_flag_reads x y e d =
    let s = leaf run_app in
    let w1 = at (flagged nothing_held) 1 in
    let w2 = step s w1 x in
    let w3 = step s w2 y in
    let one = walked_flag nothing_held 1 in
    let two : walked s.rules [] w1 x ≡ w2 = walked_file s.rules w1.held 1 x e in
    let three : walked s.rules [] w2 y ≡ w3 = walked_file s.rules w2.held 2 y d in
    reads_from s (codes "--threads" ∷ x ∷ y ∷ []) (run true x y) w3 (ap (λ w. walked s.rules [] (walked s.rules [] w x) y) one ∙ ap (λ w. walked s.rules [] w y) two ∙ three)
    (passes_on s [] (at nothing_held 1) w1 (codes "--threads") (x ∷ y ∷ []) (turn_flag nothing_held 1) one
    (passes_on s [] w1 w2 x (y ∷ []) (turn_file s w1.held 1 x e) two
    (passes_on s [] w2 w3 y [] (turn_file s w2.held 2 y d) three (passes_end s [] w3)))) refl (refl, refl, refl)

middle_flag_reads : (x y : Text) → is_file_word x ≡ true → is_file_word y ≡ true → Reads (leaf run_app) (x ∷ codes "--threads" ∷ y ∷ []) (run true x y)
middle_flag_reads x y e d =
    let s = leaf run_app in
    let w1 = step s (at nothing_held 1) x in
    let w2 = at (flagged w1.held) 2 in
    let w3 = step s w2 y in
    let one : walked s.rules [] (at nothing_held 1) x ≡ w1 = walked_file s.rules nothing_held 1 x e in
    let two : walked s.rules [] w1 (codes "--threads") ≡ w2 = walked_flag w1.held 2 in
    let three : walked s.rules [] w2 y ≡ w3 = walked_file s.rules w2.held 2 y d in
    reads_from s (x ∷ codes "--threads" ∷ y ∷ []) (run true x y) w3 (ap (λ w. walked s.rules [] (walked s.rules [] w (codes "--threads")) y) one ∙ ap (λ w. walked s.rules [] w y) two ∙ three)
    (passes_on s [] (at nothing_held 1) w1 x (codes "--threads" ∷ y ∷ []) (turn_file s nothing_held 1 x e) one
    (passes_on s [] w1 w2 (codes "--threads") (y ∷ []) (turn_flag w1.held 2) two
    (passes_on s [] w2 w3 y [] (turn_file s w2.held 2 y d) three (passes_end s [] w3)))) refl (refl, refl, refl)

last_flag_reads : (x y : Text) → is_file_word x ≡ true → is_file_word y ≡ true → Reads (leaf run_app) (x ∷ y ∷ codes "--threads" ∷ []) (run true x y)
last_flag_reads x y e d =
    let s = leaf run_app in
    let w1 = step s (at nothing_held 1) x in
    let w2 = step s w1 y in
    let w3 = at (flagged w2.held) 3 in
    let one : walked s.rules [] (at nothing_held 1) x ≡ w1 = walked_file s.rules nothing_held 1 x e in
    let two : walked s.rules [] w1 y ≡ w2 = walked_file s.rules w1.held 2 y d in
    let three : walked s.rules [] w2 (codes "--threads") ≡ w3 = walked_flag w2.held 3 in
    reads_from s (x ∷ y ∷ codes "--threads" ∷ []) (run true x y) w3 (ap (λ w. walked s.rules [] (walked s.rules [] w y) (codes "--threads")) one ∙ ap (λ w. walked s.rules [] w (codes "--threads")) two ∙ three)
    (passes_on s [] (at nothing_held 1) w1 x (y ∷ codes "--threads" ∷ []) (turn_file s nothing_held 1 x e) one
    (passes_on s [] w1 w2 y (codes "--threads" ∷ []) (turn_file s w1.held 2 y d) two
    (passes_on s [] w2 w3 (codes "--threads") [] (turn_flag w2.held 3) three (passes_end s [] w3)))) refl (refl, refl, refl)

-- ---- a trace

trace_reads : (name x y z : Text) (how : Inspection) → is_file_word x ≡ true → is_file_word y ≡ true → is_file_word z ≡ true
    → Reads (leaf (trace_app name)) (x ∷ y ∷ z ∷ []) (judge how x y z)
trace_reads name x y z how e d f =
    let s = leaf (trace_app name) in
    let w1 = step s (at nothing_held 1) x in
    let w2 = step s w1 y in
    let w3 = step s w2 z in
    let one : walked s.rules [] (at nothing_held 1) x ≡ w1 = walked_file s.rules nothing_held 1 x e in
    let two : walked s.rules [] w1 y ≡ w2 = walked_file s.rules w1.held 2 y d in
    let three : walked s.rules [] w2 z ≡ w3 = walked_file s.rules w2.held 3 z f in
    reads_from s (x ∷ y ∷ z ∷ []) (judge how x y z) w3 (ap (λ w. walked s.rules [] (walked s.rules [] w y) z) one ∙ ap (λ w. walked s.rules [] w z) two ∙ three)
    (passes_on s [] (at nothing_held 1) w1 x (y ∷ z ∷ []) (turn_file s nothing_held 1 x e) one
    (passes_on s [] w1 w2 y (z ∷ []) (turn_file s w1.held 2 y d) two
    (passes_on s [] w2 w3 z [] (turn_file s w2.held 3 z f) three (passes_end s [] w3)))) refl (refl, refl, refl)

-- ---- a generated run

make_reads : (x : Text) (rounds : ℕ) → is_file_word x ≡ true → rounds_of x ≡ Some rounds → Reads (leaf make_app) (x ∷ []) (make rounds)
make_reads x rounds e spells =
    let s = leaf make_app in
    let end = step s (at nothing_held 1) x in
    let one = walked_file s.rules nothing_held 1 x e in
    reads_from s (x ∷ []) (make rounds) end one (passes_on s [] (at nothing_held 1) end x [] (turn_file s nothing_held 1 x e) one (passes_end s [] end)) refl spells

-- ---- the command, and the words after it

-- the words are taken, and their matches ask for the order
pub record Taken (words : List Text) (o : Order) : Type 0 where
  pub takes : takes ffm_app words ≡ true
  pub asks : AskFor (subcommand_of ffm_app words) o

abbrev top : App
top = built ffm_app

-- the name is that of a command
record IsNamed (name : Text) (s : Shape) : Type 0 where
  met : walked top.top.rules (names_of top) (walk_from nothing_held) name ≡ record (walk_from nothing_held) { stopped = Some (name, []) }
  found : find (λ s. answers_to name (label_of s)) top.subs ≡ Some s
  turn : turn_passes top.top (names_of top) (walk_from nothing_held) name ≡ true

taken_by : (program name : Text) (s : Shape) (words : List Text) (o : Order) → IsNamed name s → s.name ≡ name_of o → Reads s words o → Taken (program ∷ name ∷ words) o
taken_by program name s words o named is reads = record {
  takes = takes_at top name s words named.met named.found named.turn refl reads.level;
  asks = subst (λ f. AskFor f o) (sym (entered_at top name s words named.met named.found)) (is, reads.arguments);
}

compile_named : IsNamed (codes "compile") (leaf compile_app)
unfolding clap_on_literals
compile_named = record { met = refl; found = refl; turn = refl }

run_named : IsNamed (codes "run") (leaf run_app)
unfolding clap_on_literals
run_named = record { met = refl; found = refl; turn = refl }

replay_named : IsNamed (codes "replay") (leaf (trace_app (codes "replay")))
unfolding clap_on_literals
replay_named = record { met = refl; found = refl; turn = refl }

audit_named : IsNamed (codes "audit") (leaf (trace_app (codes "audit")))
unfolding clap_on_literals
audit_named = record { met = refl; found = refl; turn = refl }

make_named : IsNamed (codes "make") (leaf make_app)
unfolding clap_on_literals
make_named = record { met = refl; found = refl; turn = refl }

-- ---- each accepted list

pub compile_taken : (program x : Text) → is_file_word x ≡ true → Taken (program ∷ codes "compile" ∷ x ∷ []) (compile x)
compile_taken program x e = taken_by program (codes "compile") (leaf compile_app) (x ∷ []) (compile x) compile_named refl (compile_reads x e)

pub run_taken : (program x y : Text) → is_file_word x ≡ true → is_file_word y ≡ true → Taken (program ∷ codes "run" ∷ x ∷ y ∷ []) (run false x y)
run_taken program x y e d = taken_by program (codes "run") (leaf run_app) (x ∷ y ∷ []) (run false x y) run_named refl (run_reads x y e d)

pub first_flag_taken : (program x y : Text) → is_file_word x ≡ true → is_file_word y ≡ true → Taken (program ∷ codes "run" ∷ codes "--threads" ∷ x ∷ y ∷ []) (run true x y)
first_flag_taken program x y e d = taken_by program (codes "run") (leaf run_app) (codes "--threads" ∷ x ∷ y ∷ []) (run true x y) run_named refl (first_flag_reads x y e d)

pub middle_flag_taken : (program x y : Text) → is_file_word x ≡ true → is_file_word y ≡ true → Taken (program ∷ codes "run" ∷ x ∷ codes "--threads" ∷ y ∷ []) (run true x y)
middle_flag_taken program x y e d = taken_by program (codes "run") (leaf run_app) (x ∷ codes "--threads" ∷ y ∷ []) (run true x y) run_named refl (middle_flag_reads x y e d)

pub last_flag_taken : (program x y : Text) → is_file_word x ≡ true → is_file_word y ≡ true → Taken (program ∷ codes "run" ∷ x ∷ y ∷ codes "--threads" ∷ []) (run true x y)
last_flag_taken program x y e d = taken_by program (codes "run") (leaf run_app) (x ∷ y ∷ codes "--threads" ∷ []) (run true x y) run_named refl (last_flag_reads x y e d)

pub replay_taken : (program x y z : Text) → is_file_word x ≡ true → is_file_word y ≡ true → is_file_word z ≡ true
    → Taken (program ∷ codes "replay" ∷ x ∷ y ∷ z ∷ []) (judge Replay x y z)
replay_taken program x y z e d f =
    taken_by program (codes "replay") (leaf (trace_app (codes "replay"))) (x ∷ y ∷ z ∷ []) (judge Replay x y z) replay_named refl (trace_reads (codes "replay") x y z Replay e d f)

pub audit_taken : (program x y z : Text) → is_file_word x ≡ true → is_file_word y ≡ true → is_file_word z ≡ true
    → Taken (program ∷ codes "audit" ∷ x ∷ y ∷ z ∷ []) (judge Audit x y z)
audit_taken program x y z e d f =
    taken_by program (codes "audit") (leaf (trace_app (codes "audit"))) (x ∷ y ∷ z ∷ []) (judge Audit x y z) audit_named refl (trace_reads (codes "audit") x y z Audit e d f)

pub make_taken : (program x : Text) (rounds : ℕ) → is_file_word x ≡ true → rounds_of x ≡ Some rounds → Taken (program ∷ codes "make" ∷ x ∷ []) (make rounds)
make_taken program x rounds e spells = taken_by program (codes "make") (leaf make_app) (x ∷ []) (make rounds) make_named refl (make_reads x rounds e spells)
