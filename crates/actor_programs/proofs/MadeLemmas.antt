-- The scripts of a scenario, assembled one after the other.
use Rattle.std.proofs.Common.{ℕ, ◌≡◌, ◌<◌, ◌≤◌, ◌+◌, ◌++◌, List, [], ◌∷◌, ⊎_elim, length, drop, get_or, refl, ap, sym, ◌∙◌, subst, arith}
use Rattle.std.specs.Prelude.{Result, Ok, Err, slice_set, replicate}
use Rattle.std.specs.List.{AllByRecursion}
use Rattle.std.proofs.lemmas.Bool.{cases_eq, cases_lt}
use Rattle.std.proofs.lemmas.List.{append-nil, drop_more, drop_all, get_or_append_left, get_or_default, get_or_past, get_or-replicate, get_or-set_other, get_or-set_same, length-append, length-replicate, length-set, set-set}
use Rattle.std.proofs.Math.Seq.{get_or-append_seam}
use Rattle.law_lists.proofs.Lists.{AllByRecursion-push}
use Rattle.ffm_model.specs.declared.machine.ActorId.{ActorId}
use Rattle.ffm_model.specs.declared.place.ReadError.{ReadError}
use Rattle.ffm_model.specs.declared.place.ReadError.TheVariants as read_error
use Rattle.ffm_model.specs.declared.scenario.RaiseItem.{RaiseItem}
use Rattle.ffm_model.specs.declared.scenario.Scenario.{Scenario}
use Rattle.ffm_model.specs.declared.system.Source.{Source}
use Rattle.ffm_model.specs.declared.system.System.{System}
use Rattle.ffm_model.specs.Actors.{actor_count, device_count}
use Rattle.ffm_model.specs.Reading.{Stop, Reads}
use Rattle.ffm_model.specs.Scenarios.{most_scripts}
use Rattle.script_asm.specs.Device.{device_script}
use Rattle.actor_programs.specs.declared.program.Program.{Program}
use Rattle.actor_programs.specs.declared.program.Program.TheVariants.{Plain}
use Rattle.ffm_model.proofs.ActorLemmas.{some_scripts}
use Rattle.actor_programs.proofs.ActorLemmas.{not_sfn}
use Rattle.actor_programs.specs.Programs.{Made, AreMade, IsOfOneScript, ◌>>=◌, device_made, first_made, made_from, made_with, next_lines, with_program}

abbrev pub no_programs : List Program
no_programs = []

-- a refusal of a part is the refusal of the whole
pub same_refusal : {X Y A B : Type 0} (one : X → A) (all : Y → B) (e : ReadError) (part : Result A Stop) (whole : Result B Stop) → ((stop : Stop) → part ≡ Err stop → whole ≡ Err stop)
    → Reads one (Err e) part → Reads all (Err e) whole
same_refusal one all (read_error.Refused f) part whole goes h = goes _ h
same_refusal one all read_error.Memory part whole goes h = tt

-- ---- one script more

-- programs that are taken out, and put back with one more
pub put_back : (made : Made) (actor : ActorId) (p : Program) (left was own : List Program) → actor.0 < length made → was ≡ get_or made actor.0 was → own ≡ was ++ p ∷ []
    → slice_set (slice_set made actor.0 left) actor.0 own ≡ with_program made actor p
put_back made actor p left was own lt is more =
    set-set made actor.0 left own ∙ ap (λ (y : List Program). slice_set made actor.0 y) (more ∙ ap (λ (y : List Program). y ++ p ∷ []) (is ∙ get_or_default made actor.0 was [] lt))

pub with_long : (made : Made) (actor : ActorId) (p : Program) → length (with_program made actor p) ≡ length made
with_long made actor p = length-set made actor.0 (get_or made actor.0 [] ++ p ∷ [])

-- ---- script by script

pub made-next : (s : System) (c : Scenario) (n : ℕ) (xs : List ActorId) (made more : Made) (d : ActorId) → n < length xs
    → made_with s n (get_or xs n d) made (next_lines c (get_or xs n d) made) ≡ Ok more
    → made_from s c n (drop n xs) made ≡ made_from s c (n + 1) (drop (n + 1) xs) more
unfolding made_from
made-next s c n xs made more d lt e =
    ap (λ (ys : List ActorId). made_from s c n ys made) (drop_more xs n d lt)
    ∙ ap (λ (r : Result Made Stop). r >>= (λ (m : Made). made_from s c (n + 1) (drop (n + 1) xs) m)) e

pub made-wrong : (s : System) (c : Scenario) (n : ℕ) (xs : List ActorId) (made : Made) (stop : Stop) (d : ActorId) → n < length xs
    → made_with s n (get_or xs n d) made (next_lines c (get_or xs n d) made) ≡ Err stop → made_from s c n (drop n xs) made ≡ Err stop
unfolding made_from
made-wrong s c n xs made stop d lt e =
    ap (λ (ys : List ActorId). made_from s c n ys made) (drop_more xs n d lt)
    ∙ ap (λ (r : Result Made Stop). r >>= (λ (m : Made). made_from s c (n + 1) (drop (n + 1) xs) m)) e

pub made-end : (s : System) (c : Scenario) (n : ℕ) (xs : List ActorId) (made : Made) → length xs ≤ n → made_from s c n (drop n xs) made ≡ Ok made
unfolding made_from
made-end s c n xs made all = ap (λ (ys : List ActorId). made_from s c n ys made) (drop_all n xs all)

-- ---- before the first script

pub none-at : (n a : ℕ) → get_or (replicate n []) a [] ≡ no_programs
none-at n a =
    ⊎_elim (λ (lt : a < n). get_or-replicate n a no_programs no_programs lt)
    (λ (past : n ≤ a). get_or_past (replicate n no_programs) a no_programs (subst (λ (k : ℕ). k ≤ a) (sym (length-replicate n no_programs)) past))
    (cases_lt a n)

none-are : (s : System) (n : ℕ) → AreMade s (replicate n [])
none-are s n = record {
  each = λ a lt. subst (AllByRecursion (IsOfOneScript s a)) (sym (none-at n a)) tt;
  few = λ a lt. subst (λ (own : List Program). length own ≤ most_scripts s a) (sym (none-at n a)) (omega arith);
}

-- one actor more
one-more : (s : System) (made : Made) (own : List Program) (n : ℕ) → length made ≡ n → AreMade s made → AllByRecursion (IsOfOneScript s n) own → length own ≤ most_scripts s n → AreMade s (made ++ own ∷ [])
one-more s made own n long are one room = record {
  each = λ a lt.
      let within : a < length made + 1 = subst (λ (k : ℕ). a < k) (length-append made (own ∷ [])) lt in
      ⊎_elim
      (λ e. subst (λ (k : ℕ). AllByRecursion (IsOfOneScript s k) (get_or (made ++ own ∷ []) k [])) (sym e)
      (subst (AllByRecursion (IsOfOneScript s (length made))) (sym (get_or-append_seam made own [] [])) (subst (λ (k : ℕ). AllByRecursion (IsOfOneScript s k) own) (sym long) one)))
      (λ other. let low : a < length made = omega arith in subst (AllByRecursion (IsOfOneScript s a)) (sym (get_or_append_left made (own ∷ []) [] a low)) (are.each a low))
      (cases_eq a (length made));
  few = λ a lt.
      let within : a < length made + 1 = subst (λ (k : ℕ). a < k) (length-append made (own ∷ [])) lt in
      ⊎_elim
      (λ e. subst (λ (k : ℕ). length (get_or (made ++ own ∷ []) k []) ≤ most_scripts s k) (sym e)
      (subst (λ (x : List Program). length x ≤ most_scripts s (length made)) (sym (get_or-append_seam made own [] [])) (subst (λ (k : ℕ). length own ≤ most_scripts s k) (sym long) room)))
      (λ other. let low : a < length made = omega arith in subst (λ (x : List Program). length x ≤ most_scripts s a) (sym (get_or_append_left made (own ∷ []) [] a low)) (are.few a low))
      (cases_eq a (length made));
}

one-part : (raises : List RaiseItem) → length (device_script raises) ≡ 1
unfolding device_script
one-part raises = refl

device-long : (xs : List Source) (raises : List RaiseItem) → length (device_made xs raises) ≡ device_count xs
device-long [] raises = refl
device-long (x ∷ xs) raises = refl

device-are : (s : System) (n : ℕ) (made : Made) (xs : List Source) (raises : List RaiseItem) → length s.partitions ≤ n → length made ≡ n → AreMade s made → AreMade s (made ++ device_made xs raises)
device-are s n made [] raises past long are = subst (AreMade s) (sym (append-nil made)) are
device-are s n made (x ∷ xs) raises past long are =
    one-more s made (Plain (device_script raises) ∷ []) n long are ((not_sfn s n past, one-part raises), tt) (some_scripts s n)

pub first_long : (s : System) (c : Scenario) → length (first_made s c) ≡ actor_count s
unfolding first_made
first_long s c =
    let n = length s.partitions + length s.clients in
    length-append (replicate n no_programs) (device_made s.sources c.raises) ∙ ap (λ (k : ℕ). k + length (device_made s.sources c.raises)) (length-replicate n no_programs) ∙ ap (λ (k : ℕ). n + k) (device-long s.sources c.raises)

pub first_are : (s : System) (c : Scenario) → AreMade s (first_made s c)
unfolding first_made
first_are s c =
    let n = length s.partitions + length s.clients in
    device-are s n (replicate n no_programs) s.sources c.raises (omega arith) (length-replicate n no_programs) (none-are s n)
