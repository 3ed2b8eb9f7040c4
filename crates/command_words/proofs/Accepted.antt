-- Each accepted list is taken by `clap`, whose matches ask for its order.
use Rattle.std.proofs.Common.{◌≡◌, ◌⊎◌, ℕ, Bool, inl, inr, refl, sym, subst, eqb-true, true, false, List, [], ◌∷◌, codes, Option, Some, None, option_map, not}
use Rattle.std.specs.Prelude.{◌&&◌, ◌==◌, if◌then◌else◌}
use Rattle.std.specs.Str.{bytes_eq}
use Rattle.std.proofs.lemmas.Slice.Eq.{bytes_eq-Decides}
use Rattle.std.proofs.lemmas.Bool.{and_parts}
use Rattle.clap.specs.Words.{Text}
use Rattle.command_words.specs.declared.words.Inspection.{Inspection}
use Rattle.command_words.specs.declared.words.Inspection.TheVariants.{Replay, Audit}
use Rattle.command_words.specs.Words.{Order, compile, run, judge, make, command_words, compile_words, flagged_words, is_file_word, is_flag, make_words, order_of, rounds_of, run_files, run_words, trace_files, trace_words}
use Rattle.command_words.proofs.Taken.{Taken, audit_taken, compile_taken, first_flag_taken, last_flag_taken, make_taken, middle_flag_taken, replay_taken, run_taken}

-- which of two answers was given
either : {X : Type 0} (b : Bool) (one other : Option X) (x : X) → (if b then one else other) ≡ Some x → ((b ≡ true) × (one ≡ Some x)) ⊎ ((b ≡ false) × (other ≡ Some x))
either true one other x e = inl (refl, e)
either false one other x e = inr (refl, e)

-- an answer that was given under a condition
given : {X : Type 0} (b : Bool) (v x : X) → (if b then Some v else None) ≡ Some x → (b ≡ true) × (v ≡ x)
given true v x e = (refl, cc)
given false v x e = cc

is_text : (word text : Text) → bytes_eq word text ≡ true → text ≡ word
is_text word text e = sym ((bytes_eq-Decides word text).0 e)

-- ---- a number's word

digits_word : (word : Text) (rounds : ℕ) → rounds_of word ≡ Some rounds → is_file_word word ≡ true
unfolding rounds_of
digits_word [] rounds e = cc
digits_word (d ∷ ds) rounds e = go (d == 45) refl
  where
    hyphen : (x : ℕ) → x ≡ 45 → rounds_of (x ∷ ds) ≡ Some rounds → ⊥
    hyphen x is spells = let bad : None ≡ Some rounds = rw is at spells in cc

    go : (b : Bool) → (d == 45) ≡ b → not (d == 45) ≡ true
    go true is = absurd (hyphen d (eqb-true d 45 is) e)
    go false is = rw is refl

-- ---- each command

compile_case : (program : Text) (words : List Text) (o : Order) → compile_words words ≡ Some o → Taken (program ∷ codes "compile" ∷ words) o
compile_case program [] o e = cc
compile_case program (x ∷ []) o e =
    let word = given (is_file_word x) (compile x) o e in
    subst (Taken (program ∷ codes "compile" ∷ x ∷ [])) word.1 (compile_taken program x word.0)
compile_case program (x ∷ y ∷ words) o e = cc

run_case : (program x y : Text) (o : Order) → run_files false x y ≡ Some o → Taken (program ∷ codes "run" ∷ x ∷ y ∷ []) o
run_case program x y o e =
    let files = given (is_file_word x && is_file_word y) (run false x y) o e in
    let each = and_parts (is_file_word x) (is_file_word y) files.0 in
    subst (Taken (program ∷ codes "run" ∷ x ∷ y ∷ [])) files.1 (run_taken program x y each.0 each.1)

flag_case : (program x y z : Text) (o : Order) → flagged_words x y z ≡ Some o → Taken (program ∷ codes "run" ∷ x ∷ y ∷ z ∷ []) o
flag_case program x y z o e = elim (either (is_flag x) (run_files true y z) _ o e) [
  | inl first ↦
      let files = given (is_file_word y && is_file_word z) (run true y z) o first.1 in
      let each = and_parts (is_file_word y) (is_file_word z) files.0 in
      rw (← is_text x (codes "--threads") first.0) (subst (Taken (program ∷ codes "run" ∷ codes "--threads" ∷ y ∷ z ∷ [])) files.1 (first_flag_taken program y z each.0 each.1))
  | inr rest ↦ elim (either (is_flag y) (run_files true x z) _ o rest.1) [
    | inl middle ↦
        let files = given (is_file_word x && is_file_word z) (run true x z) o middle.1 in
        let each = and_parts (is_file_word x) (is_file_word z) files.0 in
        rw (← is_text y (codes "--threads") middle.0) (subst (Taken (program ∷ codes "run" ∷ x ∷ codes "--threads" ∷ z ∷ [])) files.1 (middle_flag_taken program x z each.0 each.1))
    | inr others ↦ elim (either (is_flag z) (run_files true x y) None o others.1) [
      | inl last ↦
          let files = given (is_file_word x && is_file_word y) (run true x y) o last.1 in
          let each = and_parts (is_file_word x) (is_file_word y) files.0 in
          rw (← is_text z (codes "--threads") last.0) (subst (Taken (program ∷ codes "run" ∷ x ∷ y ∷ codes "--threads" ∷ [])) files.1 (last_flag_taken program x y each.0 each.1))
      | inr none ↦ let bad : None ≡ Some o = none.1 in cc
    ]
  ]
]

run_cases : (program : Text) (words : List Text) (o : Order) → run_words words ≡ Some o → Taken (program ∷ codes "run" ∷ words) o
run_cases program [] o e = cc
run_cases program (x ∷ []) o e = cc
run_cases program (x ∷ y ∷ []) o e = run_case program x y o e
run_cases program (x ∷ y ∷ z ∷ []) o e = flag_case program x y z o e
run_cases program (x ∷ y ∷ z ∷ w ∷ words) o e = cc

trace_case : (program x y z : Text) (how : Inspection) (name : Text) (o : Order) → trace_files how x y z ≡ Some o
    → (is_file_word x ≡ true → is_file_word y ≡ true → is_file_word z ≡ true → Taken (program ∷ name ∷ x ∷ y ∷ z ∷ []) (judge how x y z))
    → Taken (program ∷ name ∷ x ∷ y ∷ z ∷ []) o
trace_case program x y z how name o e taken =
    let files = given (is_file_word x && (is_file_word y && is_file_word z)) (judge how x y z) o e in
    let first = and_parts (is_file_word x) (is_file_word y && is_file_word z) files.0 in
    let others = and_parts (is_file_word y) (is_file_word z) first.1 in
    subst (Taken (program ∷ name ∷ x ∷ y ∷ z ∷ [])) files.1 (taken first.0 others.0 others.1)

trace_cases : (program : Text) (how : Inspection) (name : Text) (words : List Text) (o : Order) → trace_words how words ≡ Some o
    → ((x y z : Text) → is_file_word x ≡ true → is_file_word y ≡ true → is_file_word z ≡ true → Taken (program ∷ name ∷ x ∷ y ∷ z ∷ []) (judge how x y z))
    → Taken (program ∷ name ∷ words) o
trace_cases program how name [] o e taken = cc
trace_cases program how name (x ∷ []) o e taken = cc
trace_cases program how name (x ∷ y ∷ []) o e taken = cc
trace_cases program how name (x ∷ y ∷ z ∷ []) o e taken = trace_case program x y z how name o e (taken x y z)
trace_cases program how name (x ∷ y ∷ z ∷ w ∷ words) o e taken = cc

make_case : (program x : Text) (spelled : Option ℕ) (o : Order) → rounds_of x ≡ spelled → option_map make spelled ≡ Some o → Taken (program ∷ codes "make" ∷ x ∷ []) o
make_case program x None o spells e = cc
make_case program x (Some rounds) o spells e =
    let is : make rounds ≡ o = cc in
    subst (Taken (program ∷ codes "make" ∷ x ∷ [])) is (make_taken program x rounds (digits_word x rounds spells) spells)

make_cases : (program : Text) (words : List Text) (o : Order) → make_words words ≡ Some o → Taken (program ∷ codes "make" ∷ words) o
make_cases program [] o e = cc
make_cases program (x ∷ []) o e = make_case program x (rounds_of x) o refl e
make_cases program (x ∷ y ∷ words) o e = cc

command_cases : (program name : Text) (words : List Text) (o : Order) → command_words name words ≡ Some o → Taken (program ∷ name ∷ words) o
command_cases program name words o e = elim (either (bytes_eq name (codes "compile")) (compile_words words) _ o e) [
  | inl is ↦ rw (← is_text name (codes "compile") is.0) (compile_case program words o is.1)
  | inr a ↦ elim (either (bytes_eq name (codes "run")) (run_words words) _ o a.1) [
    | inl is ↦ rw (← is_text name (codes "run") is.0) (run_cases program words o is.1)
    | inr b ↦ elim (either (bytes_eq name (codes "replay")) (trace_words Replay words) _ o b.1) [
      | inl is ↦ rw (← is_text name (codes "replay") is.0) (trace_cases program Replay (codes "replay") words o is.1 (replay_taken program))
      | inr c ↦ elim (either (bytes_eq name (codes "audit")) (trace_words Audit words) _ o c.1) [
        | inl is ↦ rw (← is_text name (codes "audit") is.0) (trace_cases program Audit (codes "audit") words o is.1 (audit_taken program))
        | inr d ↦ elim (either (bytes_eq name (codes "make")) (make_words words) None o d.1) [
          | inl is ↦ rw (← is_text name (codes "make") is.0) (make_cases program words o is.1)
          | inr none ↦ let bad : None ≡ Some o = none.1 in cc
        ]
      ]
    ]
  ]
]

pub accepted_taken : (words : List Text) (o : Order) → order_of words ≡ Some o → Taken words o
accepted_taken [] o e = cc
accepted_taken (program ∷ []) o e = cc
accepted_taken (program ∷ name ∷ words) o e = command_cases program name words o e
