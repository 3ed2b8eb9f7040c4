-- Each step on the table keeps the rule.
use Rattle.std.proofs.Common.{eqb, eq-eqb, ◌≡◌, ◌≢◌, ℕ, zero, suc, ◌+◌, ◌-◌, ◌%◌, ◌^◌, ◌<◌, ◌≤◌, List, [], ◌∷◌, ◌++◌, length, get_or, set, Option, Some, None, sym, refl, ap, ◌∙◌, subst, ⊎_elim, arith, length-append, append-nil}
use mathlib.Core.Logic.{dite}
use mathlib.Core.Option.{some, none, some-injective, some-ne-none}
use mathlib.Core.Option as maybe
use native.Mathlib.Decide.{ℕ_discrete}
use prog.Atomic.{either}
use lib.ListN.{get_elem?}
use Rattle.atomic_table.specs.Table.{State, Me, step, Act, keeps, takes, gives, stepped, Allows, Splits, Joins, Enters, opening, Final, Seen}
use Rattle.std.proofs.lemmas.Bool.Decides.{nat_tests}
use Rattle.ffm_model.proofs.RecordLemmas.{entries_of-apart}
use Rattle.atomic_table.proofs.Lists.{at_longer, at_set, set_again, set_here, set_else, at_snoc, one_turn}
use Rattle.ffm_model.specs.declared.machine.Entry.{Entry}
use Rattle.ffm_model.specs.Records.{entries_of}
use Rattle.spm_core.specs.Manager.{Managed}
use Rattle.spm_lock.specs.Histories.{actors, IsRun, Begins}
use Rattle.spm_lock.specs.declared.view.Right.{Right}
use Rattle.spm_lock.specs.declared.view.Stage.{Stage}
use Rattle.spm_lock.specs.declared.view.Stage.TheVariants.{Idle, Waits, Has}
use Rattle.spm_lock.specs.declared.view.View.{View}
use Rattle.spm_lock.specs.Views.{total, turns_in, turns_by, has, has_at, held, held_at, ticket_of, weight, times, rights_to, right_of, pass_with, maker, taker, spent_seat}
use Rattle.spm_lock.specs.Rule.{AllFit, Staged, Sits, Ruled, Kept, words_of, drew, looked, counted, gave_back, came}
use Rattle.spm_lock.proofs.Totals.{total_set, total_snoc, total_two, total_le, each_set, each_snoc}
use Rattle.spm_lock.proofs.Rights.{AllFit-more, AllFit-append, times-append, one_to, no_right, not_unmade}

-- no seat has the manager
abbrev pub NoneHas : List View → Type 0
NoneHas vs = (j t : ℕ) (v : View) → get_elem? vs j ≡ some v → v.stage ≡ Has t → ⊥

-- a ticket that is held is one of those drawn, and not below the one that is served, and there is a right
pub ticket_below : {S : Type 0} (drawn served t : ℕ) (h : List Entry) (homes : List (maybe.Option S)) (rs : List Right) (st : Stage) → Staged drawn served h homes rs st → ticket_of st ≡ Some t
    → (served ≤ t) × (t < drawn) × (0 < length rs)
ticket_below drawn served t h homes rs Idle k is = absurd (cc)
ticket_below drawn served t h homes rs (Waits u) k is = let same : u ≡ t = cc in let a = k.0 in let b = k.1 in (omega arith, omega arith, k.2)
ticket_below drawn served t h homes rs (Has u) k is = let same : u ≡ t = cc in let a = k.0 in let b = k.1 in (omega arith, omega arith, k.2)

-- what a seat that has not the manager knows stays so
pub staged_stays : {S : Type 0} (drawn served drawn' served' : ℕ) (h h' : List Entry) (homes homes' : List (maybe.Option S)) (rs : List Right) (st : Stage)
    → drawn ≤ drawn' → ((t : ℕ) → st ≡ Waits t → served' ≤ t) → ((t : ℕ) → st ≡ Has t → ⊥) → Staged drawn served h homes rs st → Staged drawn' served' h' homes' rs st
staged_stays drawn served drawn' served' h h' homes homes' rs Idle more ahead not k = tt
staged_stays drawn served drawn' served' h h' homes homes' rs (Waits t) more ahead not k = let b = k.1 in (ahead t refl, omega arith, k.2)
staged_stays drawn served drawn' served' h h' homes homes' rs (Has t) more ahead not k = absurd (not t refl)

pub staged_drawn : {S : Type 0} (drawn served : ℕ) (h : List Entry) (homes : List (maybe.Option S)) (rs : List Right) (st : Stage) → Staged drawn served h homes rs st → Staged (drawn + 1) served h homes rs st
staged_drawn drawn served h homes rs Idle k = tt
staged_drawn drawn served h homes rs (Waits t) k = let b = k.1 in (k.0, omega arith, k.2)
staged_drawn drawn served h homes rs (Has t) k = let b = k.1 in (k.0, omega arith, k.2, k.3, k.4)

-- who holds a ticket has a right
pub held_le_weight : {S : Type 0} (x : Managed) (drawn served : ℕ) (h : List Entry) (homes : List (maybe.Option S)) (rs : List Right) (m : ℕ) (st : Stage) → Staged drawn served h homes rs st → held_at st ≤ length rs + m
held_le_weight x drawn served h homes rs m Idle k = omega arith
held_le_weight x drawn served h homes rs m (Waits t) k = let b = k.2 in omega arith
held_le_weight x drawn served h homes rs m (Has t) k = let b = k.2 in omega arith

-- the tickets, where one view changes
apart_set : (vs : List View) (id : ℕ) (w : View) → ((j k t : ℕ) (u v : View) → get_elem? vs j ≡ some u → get_elem? vs k ≡ some v → ticket_of u.stage ≡ Some t → ticket_of v.stage ≡ Some t → j ≡ k)
    → ((j t : ℕ) (u : View) → j ≢ id → get_elem? vs j ≡ some u → ticket_of u.stage ≡ Some t → ticket_of w.stage ≡ Some t → ⊥)
    → (j k t : ℕ) (u v : View) → get_elem? (set vs id w) j ≡ some u → get_elem? (set vs id w) k ≡ some v → ticket_of u.stage ≡ Some t → ticket_of v.stage ≡ Some t → j ≡ k
apart_set vs id w old new j k t u v at there p q = ⊎_elim
    (λ (a : (j ≡ id) × (w ≡ u)). ⊎_elim
    (λ (b : (k ≡ id) × (w ≡ v)). a.0 ∙ sym b.0)
    (λ (b : (k ≢ id) × (get_elem? vs k ≡ some v)). absurd (new k t v b.0 b.1 q (ap (λ (y : View). ticket_of y.stage) a.1 ∙ p)))
    (at_set vs id k w v there))
    (λ (a : (j ≢ id) × (get_elem? vs j ≡ some u)). ⊎_elim
    (λ (b : (k ≡ id) × (w ≡ v)). absurd (new j t u a.0 a.1 p (ap (λ (y : View). ticket_of y.stage) b.1 ∙ q)))
    (λ (b : (k ≢ id) × (get_elem? vs k ≡ some v)). old j k t u v a.1 b.1 p q)
    (at_set vs id k w v there))
    (at_set vs id j w u at)

-- where no seat has the manager after a view changed that had it not
none_back : (vs : List View) (id : ℕ) (v w : View) → get_elem? vs id ≡ some v → ((t : ℕ) → v.stage ≡ Has t → ⊥) → NoneHas (set vs id w) → NoneHas vs
none_back vs id v w at not now j t u there has = dite (ℕ_discrete j id)
    (λ same. not t (ap (λ (y : View). y.stage) (some-injective v u (sym at ∙ (ap (get_elem? vs) (sym same) ∙ there))) ∙ has))
    (λ other. now j t u (set_else vs id j w other ∙ there) has)

turns-append : (xs ys : List Right) → turns_in (xs ++ ys) ≡ turns_in xs + turns_in ys
turns-append [] ys = omega arith
turns-append (x ∷ xs) ys = let h = turns-append xs ys in omega arith

at_inside : (vs : List View) (i : ℕ) (v : View) → get_elem? vs i ≡ some v → i < length vs
at_inside [] i v e = absurd (some-ne-none v (sym e))
at_inside (u ∷ vs) zero v e = omega arith
at_inside (u ∷ vs) (suc i) v e = let h = at_inside vs i v e in omega arith

wrapped_one : (d : ℕ) → (d % 2 ^ 64 + 1) % 2 ^ 64 ≡ (d + 1) % 2 ^ 64
wrapped_one d = omega arith

abbrev pub held_value : {B : Type 0} → List (ℕ × Option B) → Option B
held_value [] = None
held_value (x ∷ xs) = x.1

module _ {B : Type 0} (managed : B → Managed) (x : Managed) where
  abbrev Homes : Type 0
  Homes = List (maybe.Option (Option B))

  abbrev R : ℕ → ℕ → List Entry → Homes → List View → Type 0
  R = Ruled managed x

  abbrev St : Type 0
  St = State (Option B) View

  -- a step of an idle pass, which draws a ticket
  ruled_draws : (drawn served : ℕ) (h : List Entry) (homes : Homes) (vs : List View) (id : ℕ) (y : Managed) (r : Right) → R drawn served h homes vs → get_elem? vs id ≡ some (pass_with y r Idle)
      → R (drawn + 1) served h homes (set vs id (pass_with y r (Waits drawn)))
  ruled_draws drawn served h homes vs id y r k at =
      let v = pass_with y r Idle in let w = pass_with y r (Waits drawn) in let mine = k.each id v at in record {
        run = k.run;
        small = k.small;
        short = k.short;
        tickets = let t = k.tickets in let s = total_set held vs id v w at in omega arith;
        turned = let t = k.turned in let s = total_set turns_by vs id v w at in let h = total_set has vs id v w at in omega arith;
        few = let t = k.few in let s = total_set weight vs id v w at in omega arith;
        one_right = λ a. let t = k.one_right a in let s = total_set (rights_to a) vs id v w at in omega arith;
        each = each_set (λ j. Sits x (drawn + 1) served h homes) vs id w
            (λ j u other there. let s = k.each j u there in record { start_is = s.start_is; staged = staged_drawn drawn served h homes u.rights u.stage s.staged; fit = s.fit; unmade = s.unmade })
            record { start_is = mine.start_is; staged = (let t = k.tickets in omega arith, omega arith, omega arith); fit = mine.fit; unmade = mine.unmade };
        apart = apart_set vs id w k.apart (λ j t u other there has is. let s = ticket_below drawn served t h homes u.rights u.stage (k.each j u there).staged has in let below = s.1 in let same : drawn ≡ t = cc in omega arith);
        home = λ now. k.home (none_back vs id v w at (λ t e. absurd (cc)) now);
      }

  -- the words, as they are known
  word_at : (s : St) (drawn served : ℕ) (h : List Entry) (i : ℕ) → s.words ≡ words_of drawn served h → get_or s.words i 0 ≡ get_or (words_of drawn served h) i 0
  word_at s drawn served h i is = ap (λ (ws : List ℕ). get_or ws i 0) is

  pub draws : (slots id : ℕ) (m : Me (Option B) View) (y : Managed) (r : Right) → m ≡ (pass_with y r Idle, [])
      → Allows (Kept managed x) slots id m 1 (λ n. (n + 1) % 2 ^ 64) (drew managed m)
  draws slots id m y r is = subst (λ (z : Me (Option B) View). Allows (Kept managed x) slots id z 1 (λ n. (n + 1) % 2 ^ 64) (drew managed z)) (sym is)
      (λ s k _ at _. let d : ℕ = k.drawn in (
        pass_with y r (Waits d),
        keeps,
        tt,
        record {
          drawn = d + 1;
          served = k.served;
          history = k.history;
          words = ap (λ (ws : List ℕ). set ws 1 ((get_or ws 1 0 + 1) % 2 ^ 64)) k.words ∙ ap (λ (n : ℕ). length k.history ∷ n ∷ k.served % 2 ^ 64 ∷ []) (wrapped d);
          ruled = ruled_draws d k.served k.history s.homes s.views id y r k.ruled at;
        },
        (d, word_at s d k.served k.history 1 k.words, refl),
      ))
    where
      wrapped : (d : ℕ) → (d % 2 ^ 64 + 1) % 2 ^ 64 ≡ (d + 1) % 2 ^ 64
      wrapped d = omega arith

  -- no more tickets are out than there are actors
  few_out : (drawn served : ℕ) (h : List Entry) (homes : Homes) (vs : List View) → R drawn served h homes vs → drawn < served + 2 ^ 64
  few_out drawn served h homes vs k =
      let t = k.tickets in let f = k.few in let s = k.small in
      let le = total_le held weight vs (λ j v at. let c = k.each j v at in held_le_weight x drawn served h homes v.rights (v.last - v.next) v.stage c.staged) in omega arith

  -- where a seat waits with the ticket that is served, nobody has the manager
  none_has : (drawn served : ℕ) (h : List Entry) (homes : Homes) (vs : List View) (id : ℕ) (y : Managed) (r : Right) → R drawn served h homes vs → get_elem? vs id ≡ some (pass_with y r (Waits served)) → NoneHas vs
  none_has drawn served h homes vs id y r k at j t u there has =
      let staged = subst (Staged drawn served h homes u.rights) has (k.each j u there).staged in
      let same : j ≡ id = k.apart j id served u (pass_with y r (Waits served)) there at (ap ticket_of has ∙ ap (λ (n : ℕ). Some n) staged.0) refl in
      let v : pass_with y r (Waits served) ≡ u = some-injective _ u (sym at ∙ (ap (get_elem? vs) (sym same) ∙ there)) in
      let e : Waits served ≡ Has t = ap (λ (z : View). z.stage) v ∙ has in absurd (cc)

  -- a waiting pass whose ticket is served has the manager from now on
  ruled_looks : (drawn served : ℕ) (h : List Entry) (homes : Homes) (vs : List View) (id : ℕ) (y : Managed) (r : Right) (b : B) → R drawn served h homes vs → get_elem? vs id ≡ some (pass_with y r (Waits served))
      → (managed b).history ≡ h
      → R drawn served h (none ∷ []) (set vs id (pass_with y (record { actor = r.actor; turns = r.turns + 1; front = (managed b).history }) (Has served)))
  ruled_looks drawn served h homes vs id y r b k at same =
      let v = pass_with y r (Waits served) in
      let q : Right = record { actor = r.actor; turns = r.turns + 1; front = (managed b).history } in
      let w = pass_with y q (Has served) in
      let mine = k.each id v at in
      let nobody = none_has drawn served h homes vs id y r k at in record {
        run = k.run;
        small = k.small;
        short = k.short;
        tickets = let t = k.tickets in let s = total_set held vs id v w at in omega arith;
        turned = let t = k.turned in let s = total_set turns_by vs id v w at in let h = total_set has vs id v w at in omega arith;
        few = let t = k.few in let s = total_set weight vs id v w at in omega arith;
        one_right = λ a. let t = k.one_right a in let s = total_set (rights_to a) vs id v w at in omega arith;
        each = each_set (λ j. Sits x drawn served h (none ∷ [])) vs id w
            (λ j u other there. let s = k.each j u there in record {
              start_is = s.start_is;
              staged = staged_stays drawn served drawn served h h homes (none ∷ []) u.rights u.stage (omega arith)
                  (λ t is. (ticket_below drawn served t h homes u.rights u.stage s.staged (ap ticket_of is)).0) (λ t is. nobody j t u there is) s.staged;
              fit = s.fit;
              unmade = s.unmade;
            })
            record {
              start_is = mine.start_is;
              staged = (refl, mine.staged.1, mine.staged.2, refl, same);
              fit = ((([], sym same ∙ sym (append-nil (managed b).history)), sym (ap (entries_of r.actor) same)), tt);
              unmade = mine.unmade;
            };
        apart = apart_set vs id w k.apart (λ j t u other there has is. other (k.apart j id t u v there at has is));
        home = λ now. absurd (now id served w (set_here vs id w (at_inside vs id v at)) refl);
      }

  -- what a look may give
  abbrev LookGives : ℕ → ℕ → Managed → Right → ℕ → St → Type 0
  LookGives slots id y r t s = let m : Me (Option B) View = (pass_with y r (Waits t), []) in let n : ℕ = get_or s.words 2 0 in
      (w : View) × (a : Act (Option B)) × Rattle.atomic_table.specs.Table.Valid s.homes [] a × Kept managed x (stepped s 2 n id [] w a) × looked managed m n (w, Rattle.atomic_table.specs.Table.carried_after [] a)

  abbrev seized : Managed → Right → ℕ → B → Me (Option B) View
  seized y r t b = (pass_with y (record { actor = r.actor; turns = r.turns + 1; front = (managed b).history }) (Has t), (0, Some b) ∷ [])

  look_hits : (slots id : ℕ) (y : Managed) (r : Right) (s : St) (k : Kept managed x s) → get_elem? s.views id ≡ some (pass_with y r (Waits k.served)) → LookGives slots id y r k.served s
  look_hits slots id y r s k at =
      let d : ℕ = k.drawn in let e : ℕ = k.served in let h = k.history in
      let v = pass_with y r (Waits e) in
      let mine = k.ruled.each id v at in
      let start : y ≡ x = mine.start_is (omega arith) in
      let here = k.ruled.home (none_has d e h s.homes s.views id y r k.ruled at) in
      let b : B = here.0 in
      let q : Right = record { actor = r.actor; turns = r.turns + 1; front = (managed b).history } in
      let w = pass_with y q (Has e) in (
        w,
        takes 0 (Some b),
        ap (λ (hs : Homes). get_elem? hs 0) here.1,
        record {
          drawn = d;
          served = e;
          history = h;
          words = ap (λ (ws : List ℕ). set ws 2 (get_or ws 2 0)) k.words;
          ruled = subst (λ (hs : Homes). R d e h (set hs 0 none) (set s.views id w)) (sym here.1) (ruled_looks d e h s.homes s.views id y r b k.ruled at here.3);
        },
        (λ t is. let same : e ≡ t = cc in (
          (λ _ p has. let head : r ≡ p = cc in (
            b,
            ap (λ (z : Right × ℕ). seized y z.0 z.1 b) (λ i. (head i, same i)),
            here.2 ∙ ap (λ (z : Managed). z.opening) (sym start),
            subst (λ (z : Right). Begins z.front (managed b).history) head (mine.fit.0.0.0, here.3 ∙ mine.fit.0.0.1),
            subst (λ (z : Right). entries_of z.actor (managed b).history ≡ entries_of z.actor z.front) head (ap (entries_of r.actor) here.3 ∙ mine.fit.0.1),
            subst (λ (z : Managed). IsRun z.opening (managed b).history) (sym start) (subst (IsRun x.opening) (sym here.3) k.ruled.run),
          )),
          (λ miss. absurd (miss (word_at s d e h 2 k.words ∙ ap (λ (z : ℕ). z % 2 ^ 64) same))),
        )),
      )

  look_misses : (slots id : ℕ) (y : Managed) (r : Right) (t : ℕ) (s : St) → Kept managed x s → get_elem? s.views id ≡ some (pass_with y r (Waits t)) → get_or s.words 2 0 ≢ t % 2 ^ 64 → LookGives slots id y r t s
  look_misses slots id y r t s k at miss = let v = pass_with y r (Waits t) in (
    v,
    keeps,
    tt,
    record {
      drawn = k.drawn;
      served = k.served;
      history = k.history;
      words = ap (λ (ws : List ℕ). set ws 2 (get_or ws 2 0)) k.words;
      ruled = subst (R k.drawn k.served k.history s.homes) (sym (set_again s.views id v at)) k.ruled;
    },
    (λ u is. let same : t ≡ u = cc in ((λ hit. absurd (miss (hit ∙ ap (λ (z : ℕ). z % 2 ^ 64) (sym same)))), (λ _. refl))),
  )

  pub looks : (slots id : ℕ) (m : Me (Option B) View) (y : Managed) (r : Right) (t : ℕ) → m ≡ (pass_with y r (Waits t), [])
      → Allows (Kept managed x) slots id m 2 (λ n. n) (looked managed m)
  looks slots id m y r t is = subst (λ (z : Me (Option B) View). Allows (Kept managed x) slots id z 2 (λ n. n) (looked managed z)) (sym is)
      (λ s k _ at _. dite (ℕ_discrete (get_or s.words 2 0) (t % 2 ^ 64))
      (λ hit.
      let d : ℕ = k.drawn in let e : ℕ = k.served in
      let mine = (k.ruled.each id (pass_with y r (Waits t)) at).staged in
      let low = mine.0 in let high = mine.1 in let few = few_out d e k.history s.homes s.views k.ruled in
      let same : e ≡ t = one_turn e t (2 ^ 64) low (omega arith) (sym (word_at s d e k.history 2 k.words) ∙ hit) in
      subst (λ (u : ℕ). get_elem? s.views id ≡ some (pass_with y r (Waits u)) → LookGives slots id y r u s) same (look_hits slots id y r s k) at)
      (λ miss. look_misses slots id y r t s k at miss))

  -- nobody but the one seat has the manager
  none_else : (drawn served t : ℕ) (h : List Entry) (homes : Homes) (vs : List View) (id : ℕ) (y : Managed) (r : Right) → R drawn served h homes vs → get_elem? vs id ≡ some (pass_with y r (Has t))
      → (j u : ℕ) (v : View) → j ≢ id → get_elem? vs j ≡ some v → v.stage ≡ Has u → ⊥
  none_else drawn served t h homes vs id y r k at j u v other there has =
      let theirs = subst (Staged drawn served h homes v.rights) has (k.each j v there).staged in
      let mine = (k.each id (pass_with y r (Has t)) at).staged in
      other (k.apart j id served v (pass_with y r (Has t)) there at (ap ticket_of has ∙ ap (λ (n : ℕ). Some n) theirs.0) (ap (λ (n : ℕ). Some n) mine.0))

  others_right : (drawn served : ℕ) (h : List Entry) (homes : Homes) (vs : List View) (id : ℕ) (y : Managed) (r : Right) (st : Stage) → R drawn served h homes vs → get_elem? vs id ≡ some (pass_with y r st)
      → (a j : ℕ) (u : View) → r.actor ≡ a → j ≢ id → get_elem? vs j ≡ some u → rights_to a u ≡ 0
  others_right drawn served h homes vs id y r st k at a j u is other there =
      let two = total_two (rights_to a) vs id j (pass_with y r st) u (λ e. other (sym e)) at there in let one = k.one_right a in let mine = one_to a r (pass_with y r st) is refl in omega arith

  ruled_counts : (drawn served t : ℕ) (h : List Entry) (homes : Homes) (vs : List View) (id : ℕ) (y : Managed) (r : Right) (e : Entry) → R drawn served h homes vs → get_elem? vs id ≡ some (pass_with y r (Has t))
      → e.actor.0 ≡ r.actor → IsRun y.opening (h ++ e ∷ []) → length (h ++ e ∷ []) < 2 ^ 32
      → R drawn served (h ++ e ∷ []) homes (set vs id (pass_with y (right_of r.actor r.turns (h ++ e ∷ [])) (Has t)))
  ruled_counts drawn served t h homes vs id y r e k at is made short =
      let v = pass_with y r (Has t) in
      let q = right_of r.actor r.turns (h ++ e ∷ []) in
      let w = pass_with y q (Has t) in
      let mine = k.each id v at in
      let start : y ≡ x = mine.start_is (omega arith) in
      let nobody = none_else drawn served t h homes vs id y r k at in record {
        run = subst (λ (z : Managed). IsRun z.opening (h ++ e ∷ [])) start made;
        small = k.small;
        short = short;
        tickets = let t = k.tickets in let s = total_set held vs id v w at in omega arith;
        turned = let t = k.turned in let s = total_set turns_by vs id v w at in let h = total_set has vs id v w at in omega arith;
        few = let t = k.few in let s = total_set weight vs id v w at in omega arith;
        one_right = λ a. let t = k.one_right a in let s = total_set (rights_to a) vs id v w at in omega arith;
        each = each_set (λ j. Sits x drawn served (h ++ e ∷ []) homes) vs id w
            (λ j u other there. let s = k.each j u there in let none_of = others_right drawn served h homes vs id y r (Has t) k at e.actor.0 j u (sym is) other there in record {
              start_is = s.start_is;
              staged = staged_stays drawn served drawn served h (h ++ e ∷ []) homes homes u.rights u.stage (omega arith)
                  (λ t is. (ticket_below drawn served t h homes u.rights u.stage s.staged (ap ticket_of is)).0) (λ t is. nobody j t u other there is) s.staged;
              fit = AllFit-more h e u.rights (no_right e.actor.0 u none_of) s.fit;
              unmade = λ a low high. entries_of-apart a h e (λ same. not_unmade e.actor.0 u none_of (subst (λ (n : ℕ). u.next ≤ n) (sym same) low) (subst (λ (n : ℕ). n < u.last) (sym same) high)) ∙ s.unmade a low high;
            })
            record {
              start_is = mine.start_is;
              staged = (mine.staged.0, mine.staged.1, mine.staged.2, mine.staged.3, refl);
              fit = ((([], sym (append-nil (h ++ e ∷ []))), refl), tt);
              unmade = λ a low high. absurd (omega arith);
            };
        apart = apart_set vs id w k.apart (λ j t u other there has is. other (k.apart j id t u v there at has is));
        home = λ now. absurd (now id t w (set_here vs id w (at_inside vs id v at)) refl);
      }

  pub counts : (slots id : ℕ) (m : Me (Option B) View) (y : Managed) (r : Right) (t : ℕ) (z : Option B) (b : B) (e : Entry) (old new : ℕ) → m ≡ (pass_with y r (Has t), (0, z) ∷ []) → (managed b).history ≡ r.front ++ e ∷ []
      → e.actor.0 ≡ r.actor → IsRun y.opening (managed b).history → length (managed b).history < 2 ^ 32 → new ≡ length (managed b).history → old + 1 ≡ new
      → Allows (Kept managed x) slots id m 0 (λ n. either (eqb n old) new n) (counted managed (some (Some b)) m)
  counts slots id m y r t z b e old new is grown whose made short new_is old_is = subst (λ (u : Me (Option B) View). Allows (Kept managed x) slots id u 0 (λ n. either (eqb n old) new n) (counted managed (some (Some b)) u)) (sym is)
      (λ s k _ at _.
      let d : ℕ = k.drawn in let v = pass_with y r (Has t) in let h = k.history in
      let front : r.front ≡ h = (k.ruled.each id v at).staged.4 in
      let more : (managed b).history ≡ h ++ e ∷ [] = grown ∙ ap (λ (l : List Entry). l ++ e ∷ []) front in
      let short' : length (h ++ e ∷ []) < 2 ^ 32 = subst (λ (l : List Entry). length l < 2 ^ 32) more short in
      let ruled = ruled_counts d k.served t h s.homes s.views id y r e k.ruled at whose (subst (IsRun y.opening) more made) short' in
      let longer : length (managed b).history ≡ length h + 1 = ap length more ∙ length-append h (e ∷ []) in
      let found : length h ≡ old = omega arith in (
        pass_with y (right_of r.actor r.turns (managed b).history) (Has t),
        keeps,
        tt,
        record {
          drawn = d;
          served = k.served;
          history = (managed b).history;
          words = ap (λ (ws : List ℕ). set ws 0 (either (eqb (get_or ws 0 0) old) new (get_or ws 0 0))) k.words ∙ ap (λ (n : ℕ). n ∷ d % 2 ^ 64 ∷ k.served % 2 ^ 64 ∷ []) (ap (λ q. either q new (length h)) (eq-eqb (length h) old found) ∙ new_is);
          ruled = subst (λ (l : List Entry). R d k.served l s.homes (set s.views id (pass_with y (right_of r.actor r.turns l) (Has t)))) (sym more) ruled;
        },
        (λ p c has told. let head : r ≡ p = cc in let value : some (Some b) ≡ some (Some c) = told in let same : b ≡ c = cc in
            ap (λ (u : Right × B). counted_as y u.0 t u.1) (λ i. (head i, same i))),
      ))
    where
      counted_as : Managed → Right → ℕ → B → Me (Option B) View
      counted_as y r t b = (pass_with y (right_of r.actor r.turns (managed b).history) (Has t), (0, z) ∷ [])

  ruled_serves : (drawn served t : ℕ) (h : List Entry) (homes : Homes) (vs : List View) (id : ℕ) (y : Managed) (r : Right) (b : B) → R drawn served h homes vs → get_elem? vs id ≡ some (pass_with y r (Has t))
      → (managed b).opening ≡ y.opening → (managed b).history ≡ r.front
      → R drawn (served + 1) h (some (Some b) ∷ []) (set vs id (pass_with y r Idle))
  ruled_serves drawn served t h homes vs id y r b k at begun same =
      let v = pass_with y r (Has t) in
      let w = pass_with y r Idle in
      let mine = k.each id v at in
      let start : y ≡ x = mine.start_is (omega arith) in
      let front : r.front ≡ h = mine.staged.4 in
      let nobody = none_else drawn served t h homes vs id y r k at in record {
        run = k.run;
        small = k.small;
        short = k.short;
        tickets = let t = k.tickets in let s = total_set held vs id v w at in omega arith;
        turned = let t = k.turned in let s = total_set turns_by vs id v w at in let h = total_set has vs id v w at in omega arith;
        few = let t = k.few in let s = total_set weight vs id v w at in omega arith;
        one_right = λ a. let t = k.one_right a in let s = total_set (rights_to a) vs id v w at in omega arith;
        each = each_set (λ j. Sits x drawn (served + 1) h (some (Some b) ∷ [])) vs id w
            (λ j u other there. let s = k.each j u there in record {
              start_is = s.start_is;
              staged = staged_stays drawn served drawn (served + 1) h h homes (some (Some b) ∷ []) u.rights u.stage (omega arith)
                  (λ n is.
                  let low = (ticket_below drawn served n h homes u.rights u.stage s.staged (ap ticket_of is)).0 in
                  let mine_is = mine.staged.0 in
                  let not : n ≢ t = λ same. other (k.apart j id t u v there at (ap ticket_of is ∙ ap (λ (z : ℕ). Some z) same) refl) in omega arith)
                  (λ n is. nobody j n u other there is) s.staged;
              fit = s.fit;
              unmade = s.unmade;
            })
            record { start_is = mine.start_is; staged = tt; fit = mine.fit; unmade = mine.unmade };
        apart = apart_set vs id w k.apart (λ j t u other there has is. absurd (cc));
        home = λ now. (b, refl, begun ∙ ap (λ (z : Managed). z.opening) start, same ∙ front);
      }

  pub serves : (slots id : ℕ) (m : Me (Option B) View) (y : Managed) (r : Right) (t : ℕ) (b : B) → m ≡ (pass_with y r (Has t), (0, Some b) ∷ []) → (managed b).opening ≡ y.opening → (managed b).history ≡ r.front
      → Allows (Kept managed x) slots id m 2 (λ n. (n + 1) % 2 ^ 64) (gave_back managed m)
  serves slots id m y r t b is begun same = subst (λ (z : Me (Option B) View). Allows (Kept managed x) slots id z 2 (λ n. (n + 1) % 2 ^ 64) (gave_back managed z)) (sym is)
      (λ s k _ at _.
      let d : ℕ = k.drawn in let e : ℕ = k.served in
      let out : s.homes ≡ none ∷ [] = (k.ruled.each id (pass_with y r (Has t)) at).staged.3 in (
        pass_with y r Idle,
        gives,
        tt,
        record {
          drawn = d;
          served = e + 1;
          history = k.history;
          words = ap (λ (ws : List ℕ). set ws 2 ((get_or ws 2 0 + 1) % 2 ^ 64)) k.words ∙ ap (λ (n : ℕ). length k.history ∷ d % 2 ^ 64 ∷ n ∷ []) (wrapped_one e);
          ruled = subst (λ (hs : Homes). R d (e + 1) k.history (set hs 0 (some (Some b))) (set s.views id (pass_with y r Idle))) (sym out)
              (ruled_serves d e t k.history s.homes s.views id y r b k.ruled at begun same);
        },
        refl,
      ))

  no_range : (a : ℕ) (y : Managed) (rs : List Right) → rights_to a (taker y rs) ≡ times a rs
  no_range a y rs = grind (arith, nat_tests)

  -- a seat comes with a view of no ticket
  ruled_comes : (drawn served : ℕ) (h : List Entry) (homes : Homes) (vs : List View) (w : View) → R drawn served h homes vs → w.stage ≡ Idle → turns_by w ≡ 0 → Sits x drawn served h homes w → ((a : ℕ) → total (rights_to a) vs + rights_to a w ≤ 1)
      → total weight vs + weight w ≤ actors x.opening → R drawn served h homes (vs ++ w ∷ [])
  ruled_comes drawn served h homes vs w k idle fresh sits one few = record {
    run = k.run;
    small = k.small;
    short = k.short;
    tickets = let t = k.tickets in let s = total_snoc held vs w in let z : held w ≡ 0 = ap held_at idle in omega arith;
    turned = let t = k.turned in let s = total_snoc turns_by vs w in let h = total_snoc has vs w in let z : has w ≡ 0 = ap has_at idle in omega arith;
    few = let s = total_snoc weight vs w in omega arith;
    one_right = λ a. let o = one a in let s = total_snoc (rights_to a) vs w in omega arith;
    each = each_snoc (Sits x drawn served h homes) vs w k.each sits;
    apart = λ i j t u v there at has is. ⊎_elim
        (λ there'. ⊎_elim (λ at'. k.apart i j t u v there' at' has is) (λ (e : w ≡ v). absurd (idle_ticket v t (ap (λ (z : View). z.stage) (sym e) ∙ idle) is)) (at_snoc vs w v j at))
        (λ (e : w ≡ u). absurd (idle_ticket u t (ap (λ (z : View). z.stage) (sym e) ∙ idle) has))
        (at_snoc vs w u i there);
    home = λ now. k.home (λ j t u there has. now j t u (at_longer vs (w ∷ []) j u there) has);
  }
    where
      idle_ticket : (u : View) (t : ℕ) → u.stage ≡ Idle → ticket_of u.stage ≡ Some t → ⊥
      idle_ticket u t is has = let e : ticket_of Idle ≡ Some t = ap ticket_of (sym is) ∙ has in cc

  pub comes : (slots i : ℕ) (m : Me (Option B) View) → m.0.start ≡ x → Enters (Kept managed x) slots i (λ n w. came managed m n (w, []))
  comes slots i m begun s k _ _ = (
    taker x [],
    record {
      drawn = k.drawn;
      served = k.served;
      history = k.history;
      words = k.words;
      ruled = ruled_comes k.drawn k.served k.history s.homes s.views (taker x []) k.ruled refl refl
          record { start_is = λ _. refl; staged = tt; fit = tt; unmade = λ a low high. absurd (omega arith) }
          (λ a. let o = k.ruled.one_right a in let z = no_range a x [] in omega arith) (let f = k.ruled.few in omega arith);
    },
    ap (λ (z : Managed). taker z []) (sym begun),
  )

  -- a maker cuts off the next right
  pub splits_off : (id : ℕ) (y : Managed) (n : ℕ) → n < actors y.opening → Splits (Kept managed x) id (maker y n) (maker y (n + 1)) (pass_with y (right_of n 0 []) Idle)
  splits_off id y n more s k at =
      let r = k.ruled in
      let v = maker y n in
      let w = maker y (n + 1) in
      let p = pass_with y (right_of n 0 []) Idle in
      let mine = r.each id v at in
      let start : y ≡ x = mine.start_is (omega arith) in
      let vs = s.views in record {
        drawn = k.drawn;
        served = k.served;
        history = k.history;
        words = k.words;
        ruled = ruled_comes k.drawn k.served k.history s.homes (set vs id w) p (ruled_shrinks k.drawn k.served k.history s.homes vs id y n r at) refl refl
            record { start_is = λ _. start; staged = tt; fit = (((k.history, refl), mine.unmade n (omega arith) more), tt); unmade = λ a low high. absurd (omega arith) }
            (λ a. let o = r.one_right a in let t = total_set (rights_to a) vs id v w at in let c = cut a y n more in omega arith)
            (let f = r.few in let t = total_set weight vs id v w at in omega arith);
      }
    where
      cut : (a : ℕ) (y : Managed) (n : ℕ) → n < actors y.opening → rights_to a (maker y (n + 1)) + rights_to a (pass_with y (right_of n 0 []) Idle) ≡ rights_to a (maker y n)
      cut a y n more = grind (arith, nat_tests)

      ruled_shrinks : (drawn served : ℕ) (h : List Entry) (homes : Homes) (vs : List View) (id : ℕ) (y : Managed) (n : ℕ) → R drawn served h homes vs → get_elem? vs id ≡ some (maker y n) → R drawn served h homes (set vs id (maker y (n + 1)))
      ruled_shrinks drawn served h homes vs id y n k at =
          let v = maker y n in let w = maker y (n + 1) in let mine = k.each id v at in record {
            run = k.run;
            small = k.small;
            short = k.short;
            tickets = let t = k.tickets in let s = total_set held vs id v w at in omega arith;
            turned = let t = k.turned in let s = total_set turns_by vs id v w at in let h = total_set has vs id v w at in omega arith;
            few = let t = k.few in let s = total_set weight vs id v w at in omega arith;
            one_right = λ a. let t = k.one_right a in let s = total_set (rights_to a) vs id v w at in let c = fewer a y n in omega arith;
            each = each_set (λ j. Sits x drawn served h homes) vs id w (λ j u other there. k.each j u there)
                record { start_is = λ some_left. mine.start_is (omega arith); staged = tt; fit = tt; unmade = λ a low high. mine.unmade a (omega arith) high };
            apart = apart_set vs id w k.apart (λ j t u other there has is. absurd (cc));
            home = λ now. k.home (none_back vs id v w at (λ t e. absurd (cc)) now);
          }
        where
          fewer : (a : ℕ) (y : Managed) (n : ℕ) → rights_to a (maker y (n + 1)) ≤ rights_to a (maker y n)
          fewer a y n = grind (arith, nat_tests)

  -- a taker takes in the right of a pass that holds no ticket
  pub takes_in : (id : ℕ) (y : Managed) (rs : List Right) (other : ℕ) (z : Managed) (q : Right) → y ≡ x
      → Joins (Kept managed x) id (taker y rs) other (pass_with z q Idle) (taker y (rs ++ q ∷ [])) spent_seat
  takes_in id y rs other z q start s k at ne there =
      let r = k.ruled in let vs = s.views in let h = k.history in let homes = s.homes in
      let v = taker y rs in let both = taker y (rs ++ q ∷ []) in let w = pass_with z q Idle in let us = set vs id both in
      let there' : get_elem? vs other ≡ some w = sym (set_else vs id other both ne) ∙ there in
      let mine = r.each id v at in let theirs = r.each other w there' in record {
        drawn = k.drawn;
        served = k.served;
        history = h;
        words = k.words;
        ruled = record {
          run = r.run;
          small = r.small;
          short = r.short;
          tickets = let t = r.tickets in let a = total_set held vs id v both at in let b = total_set held us other w spent_seat there in omega arith;
          turned = let t = r.turned in let a = total_set turns_by vs id v both at in let b = total_set turns_by us other w spent_seat there in let c = total_set has vs id v both at in let d = total_set has us other w spent_seat there in let e = turns-append rs (q ∷ []) in omega arith;
          few = let t = r.few in let a = total_set weight vs id v both at in let b = total_set weight us other w spent_seat there in let l = length-append rs (q ∷ []) in omega arith;
          one_right = λ n.
              let t = r.one_right n in let a = total_set (rights_to n) vs id v both at in let b = total_set (rights_to n) us other w spent_seat there in
              let c = no_range n y rs in let d = no_range n y (rs ++ q ∷ []) in let e = times-append n rs (q ∷ []) in let f = from_pass n z q in let g = from_spent n in omega arith;
          each = each_set (λ j. Sits x k.drawn k.served h homes) us other spent_seat
              (λ j u apart_from there. each_set (λ j. Sits x k.drawn k.served h homes) vs id both (λ j u _ there. r.each j u there)
              record { start_is = λ _. start; staged = tt; fit = AllFit-append h rs (q ∷ []) mine.fit theirs.fit; unmade = λ a low high. absurd (omega arith) } j u there)
              record { start_is = λ some_left. absurd (omega arith); staged = tt; fit = tt; unmade = λ a low high. absurd (omega arith) };
          apart = apart_set us other spent_seat (apart_set vs id both r.apart (λ j t u _ _ _ is. absurd (cc))) (λ j t u _ _ _ is. absurd (cc));
          home = λ now. r.home (none_back vs id v both at (λ t e. absurd (cc)) (none_back us other w spent_seat there (λ t e. absurd (cc)) now));
        };
      }
    where
      from_pass : (n : ℕ) (z : Managed) (q : Right) → rights_to n (pass_with z q Idle) ≡ times n (q ∷ [])
      from_pass n z q = grind (arith, nat_tests)

      from_spent : (n : ℕ) → rights_to n spent_seat ≡ 0
      from_spent n = grind (arith, nat_tests)

  -- the table at the start
  pub opens : (b : B) → managed b ≡ x → x.history ≡ [] → actors x.opening < 2 ^ 32 → Kept managed x (opening (0 ∷ 0 ∷ 0 ∷ []) (Some b ∷ []) (maker x 0))
  opens b is empty small = record {
    drawn = 0;
    served = 0;
    history = [];
    words = refl;
    ruled = record {
      run = refl;
      small = small;
      short = omega arith;
      tickets = refl;
      turned = refl;
      few = omega arith;
      one_right = λ a. at_most a;
      each = λ j v at. one_view (λ (u : View). Sits x 0 0 [] (some (Some b) ∷ []) u) j v at record { start_is = λ _. refl; staged = tt; fit = tt; unmade = λ a low high. refl };
      apart = λ j i t u v at there has is. absurd (one_view (λ (w : View). ticket_of w.stage ≡ Some t → ⊥) j u at (λ e. cc) has);
      home = λ now. (b, refl, ap (λ (z : Managed). z.opening) is, ap (λ (z : Managed). z.history) is ∙ empty);
    };
  }
    where
      at_most : (a : ℕ) → rights_to a (maker x 0) + 0 ≤ 1
      at_most a = grind (arith, nat_tests)

      one_view : (P : View → Type 0) (j : ℕ) (v : View) → get_elem? (maker x 0 ∷ []) j ≡ some v → P (maker x 0) → P v
      one_view P zero v at p = subst P (some-injective _ v at) p
      one_view P (suc j) v at p = absurd (some-ne-none v (sym at))

  -- at the end, with a taker that has every right: the manager is at home, and each right fits its history
  pub closes : (id : ℕ) (y : Managed) (rs : List Right) (ws : List ℕ) (xs : List (Option B)) → length rs ≡ actors x.opening → Final (Seen (Kept managed x) id (taker y rs)) ws xs
      → (b : B) × (get_elem? xs 0 ≡ some (Some b)) × ((managed b).opening ≡ x.opening) × AllFit (managed b).history rs × IsRun x.opening (managed b).history
  closes id y rs ws xs all last =
      let s = last.0 in let k = last.1.0 in let at = last.1.1 in let r = k.ruled in
      let home = r.home (λ j t u there has.
      let staged = subst (Staged k.drawn k.served k.history s.homes u.rights) has (r.each j u there).staged in
      dite (ℕ_discrete j id)
      (λ same. let is : taker y rs ≡ u = some-injective _ u (sym at ∙ (ap (get_elem? s.views) (sym same) ∙ there)) in let e : Idle ≡ Has t = ap (λ (z : View). z.stage) is ∙ has in absurd (cc))
      (λ other. let two = total_two weight s.views j id u (taker y rs) other there at in let few = r.few in let some_right = staged.2 in absurd (omega arith)))
      in (
        home.0,
        last.4 0 (Some home.0) (ap (λ (hs : Homes). get_elem? hs 0) home.1),
        home.2,
        subst (λ (l : List Entry). AllFit l rs) (sym home.3) (r.each id (taker y rs) at).fit,
        subst (IsRun x.opening) (sym home.3) r.run,
      )
