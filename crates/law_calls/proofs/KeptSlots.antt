-- The slots of the messages that stay.
use Rattle.std.proofs.Common.{ℕ, zero, suc, ◌≡◌, ◌<◌, Bool, true, false, cond, ◌||◌, List, [], ◌∷◌, ◌++◌, length, map, filter, get_or, arith, ◌∙◌, ap, refl}
use Rattle.std.specs.Prelude.{All}
use Rattle.std.specs.List.{list_any}
use Rattle.std.proofs.lemmas.List.Elements.{All-head, All-tail}
use Rattle.std.proofs.lemmas.List.Folds.{list_any-append}
use Rattle.ffm_model.specs.declared.objects.PendingMessage.{PendingMessage}
use Rattle.ffm_model.specs.Names.{SlotName, is_same_message, slots_kept, stays}
use Rattle.object_pools.specs.declared.slot.Held.{Held}
use Rattle.handle_table.specs.Handles.{slot_name}
use Rattle.law_counting.proofs.Slots.{same-self}
use Rattle.spm_tables.specs.declared.item.QueuedMessage.{QueuedMessage}
use Rattle.spm_tables.specs.TablesView.{held_message}
use Rattle.law_calls.specs.PoolChanges.{is_like}
use Rattle.law_lists.proofs.Tests.{list_any-map}

abbrev pub name_list : List (Held QueuedMessage) → List SlotName
name_list hs = map (λ (h : Held QueuedMessage). slot_name h.slot) hs

abbrev pub message_list : List (Held QueuedMessage) → List PendingMessage
message_list hs = map held_message hs

-- whether a message stays, by the items of the tables
pub stays-is : (ns : List (Held QueuedMessage)) (h : Held QueuedMessage) → stays (message_list ns) (held_message h) ≡ list_any (is_like h) ns
stays-is ns h = list_any-map held_message (is_same_message (held_message h)) ns

-- the slots of the messages that pass a test are those of the items that pass it
pub kept-where : (p : PendingMessage → Bool) (q : Held QueuedMessage → Bool) (hs : List (Held QueuedMessage)) → All (λ h. p (held_message h) ≡ q h) hs
    → slots_kept p (message_list hs) (name_list hs) ≡ name_list (filter q hs)
kept-where p q [] same = refl
kept-where p q (h ∷ hs) same =
    let rest : slots_kept p (message_list hs) (name_list hs) ≡ name_list (filter q hs) =
    kept-where p q hs (All-tail (λ x. p (held_message x) ≡ q x) h hs same) in
    let go : (b : Bool) → cond {A = List SlotName} b (slot_name h.slot ∷ slots_kept p (message_list hs) (name_list hs)) (slots_kept p (message_list hs) (name_list hs))
    ≡ name_list (cond {A = List (Held QueuedMessage)} b (h ∷ filter q hs) (filter q hs)) =
    elim [ true ↦ ap (λ (ts : List SlotName). slot_name h.slot ∷ ts) rest | false ↦ rest ] in
    ap (λ b. cond {A = List SlotName} b (slot_name h.slot ∷ slots_kept p (message_list hs) (name_list hs)) (slots_kept p (message_list hs) (name_list hs)))
    (All-head (λ x. p (held_message x) ≡ q x) h hs same) ∙ go (q h)

-- where all stay
pub kept-all : (p : PendingMessage → Bool) (hs : List (Held QueuedMessage)) → All (λ h. p (held_message h) ≡ true) hs → slots_kept p (message_list hs) (name_list hs) ≡ name_list hs
kept-all p hs stay = kept-where p (λ h. true) hs stay ∙ ap name_list (filter-all hs) where
  filter-all : (xs : List (Held QueuedMessage)) → filter (λ h. true) xs ≡ xs
  filter-all [] = refl
  filter-all (x ∷ xs) = ap (λ (ys : List (Held QueuedMessage)). x ∷ ys) (filter-all xs)

or_true : (b : Bool) → (b || true) ≡ true
or_true true = refl
or_true false = refl

pub any-at : {X : Type 0} (q : X → Bool) (xs : List X) (k : ℕ) (d : X) → k < length xs → q (get_or xs k d) ≡ true → list_any q xs ≡ true
any-at q [] k d lt e = absurd (omega (arith, lt))
any-at q (x ∷ xs) zero d lt e = ap (λ b. b || list_any q xs) e
any-at q (x ∷ xs) (suc k) d lt e = ap (λ b. q x || b) (any-at q xs k d (omega (arith, lt)) e) ∙ or_true (q x)

pub like_itself : (h : Held QueuedMessage) → is_like h h ≡ true
like_itself h = same-self (held_message h)

-- each message of the first part stays
pub stay-own : (hs rest : List (Held QueuedMessage)) → All (λ h. list_any (is_like h) (hs ++ rest) ≡ true) hs
stay-own hs rest = λ k d lt.
    let h : Held QueuedMessage = get_or hs k d in
    list_any-append (is_like h) hs rest ∙ ap (λ b. b || list_any (is_like h) rest) (any-at (is_like h) hs k d lt (like_itself h))

pub stay-all : (hs : List (Held QueuedMessage)) → All (λ h. list_any (is_like h) hs ≡ true) hs
stay-all hs = λ k d lt. any-at (is_like (get_or hs k d)) hs k d lt (like_itself (get_or hs k d))
