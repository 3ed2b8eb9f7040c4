-- One piece after the other, and one text after the other.
use Rattle.std.proofs.Common.{◌≡◌, Bool, true, false, if◌then◌else◌, ℕ, ◌+◌, ◌-◌, ◌<◌, List, [], ◌∷◌, ◌++◌, Option, None, Some, Result, Ok, Err, take, drop, length, get_or, ap, ◌∙◌, sym, append_assoc, append-nil, arith, subst, refl}
use Rattle.std.specs.List.{flat_map}
use Rattle.std.proofs.lemmas.List.Concat.{flat_map-append, flat_map-cons}
use Rattle.std.proofs.lemmas.List.{take_all, drop_more, take_more, take-append-drop, take_rest, length-append, length-drop}
use Rattle.std.proofs.Math.Seq.{take-add}
use Rattle.outside_io.specs.Count.{Rose}
use Rattle.outside_io.specs.Sink.{SinkSeen, Adds, Takes, Took, TookPart, Writes, HandsPart, Hands, Flushes}

adds_none : (a : Option (List ℕ)) → Adds a a []
adds_none None = tt
adds_none (Some a) = sym (append-nil a)

adds_then : (a b c : Option (List ℕ)) (x y : List ℕ) → Adds a b x → Adds b c y → Adds a c (x ++ y)
adds_then a b None x y p q = tt
adds_then None None (Some c) x y p q = q
adds_then None (Some b) (Some c) x y p q = p
adds_then (Some a) None (Some c) x y p q = absurd q
adds_then (Some a) (Some b) (Some c) x y p q = q ∙ ap (λ (s : List ℕ). s ++ y) p ∙ append_assoc a x y

-- a piece, and then a second one
pub takes_then : (a b c : SinkSeen) (x y : List ℕ) → Takes a b x → Takes b c y → Takes a c (x ++ y)
takes_then a b c x y p q = record {
  front = p.front ++ q.front;
  whole = sym (append_assoc a.waiting x y) ∙ (ap (λ (s : List ℕ). s ++ y) p.whole ∙ (append_assoc p.front b.waiting y ∙ (ap (λ (s : List ℕ). p.front ++ s) q.whole ∙ sym (append_assoc p.front q.front c.waiting))));
  adds = adds_then a.handed b.handed c.handed p.front q.front p.adds q.adds;
}

-- nothing was taken
pub took_none : (a : SinkSeen) → Took a a []
took_none a = (record { front = []; whole = append-nil a.waiting; adds = adds_none a.handed }, refl)

-- a sink in which nothing waits took a piece
pub took_at_once : (a b : SinkSeen) (x : List ℕ) → a.waiting ≡ [] → b.waiting ≡ [] → Adds a.handed b.handed x → b.faults ≡ a.faults → Took a b x
took_at_once a b x none none_now adds same = (record { front = x; whole = rw (none, none_now) (sym (append-nil x)); adds = adds }, same)

-- a piece that is kept whole, as long as the sink tells its bytes
pub kept_whole : (over : Bool) (bytes more piece : List ℕ) → over ≡ false → more ≡ bytes ++ piece → Adds (if over then None else Some bytes) (if over then None else Some more) (take (length piece) piece)
kept_whole false bytes more piece is e = e ∙ ap (λ (t : List ℕ). bytes ++ t) (sym (take_all (length piece) piece (omega arith)))
kept_whole true bytes more piece is e = absurd cc

-- ---- texts

pub took_then : (a b c : SinkSeen) (x y : List ℕ) → Took a b x → Took b c y → Took a c (x ++ y)
took_then a b c x y (p, s) (q, t) = (takes_then a b c x y p q, t ∙ s)

-- the first text failed, and so both do
pub took_part_first : (a b : SinkSeen) (x y : List ℕ) → TookPart a b x → TookPart a b (x ++ y)
took_part_first a b x y (p, rose) = (
  record {
    part = p.part;
    rest = p.rest ++ y;
    whole = ap (λ (s : List ℕ). s ++ y) p.whole ∙ append_assoc p.part p.rest y;
    some = omega (arith, p.some, length-append p.rest y);
    takes = p.takes;
  },
  rose,
)

-- the second text failed
pub took_part_then : (a b c : SinkSeen) (x y : List ℕ) → Took a b x → TookPart b c y → TookPart a c (x ++ y)
took_part_then a b c x y (p, s) (q, rose) = (
  record {
    part = x ++ q.part;
    rest = q.rest;
    whole = ap (λ (s : List ℕ). x ++ s) q.whole ∙ sym (append_assoc x q.part q.rest);
    some = q.some;
    takes = takes_then a b c x q.part p q.takes;
  },
  rw s at rose,
)

-- the second text decides
pub writes_then : {U E : Type 0} (a b c : SinkSeen) (r : Result U E) (x y : List ℕ) → Took a b x → Writes b c r y → Writes a c r (x ++ y)
writes_then a b c (Ok u) x y p q = took_then a b c x y p q
writes_then a b c (Err e) x y p q = took_part_then a b c x y p q

-- ---- the rest of a text, and lists of texts

-- a piece more of a text
pub took_more : (a b c : SinkSeen) (i n : ℕ) (xs : List ℕ) → Took a b (take i xs) → Took b c (take n (take (length xs - i) (drop i xs))) → Took a c (take (i + n) xs)
took_more a b c i n xs p q = rw (take-add i n xs) (took_then a b c (take i xs) (take n (drop i xs)) p (rw take_rest at q))

-- no piece more of a text that isn't whole
pub took_part_at : (a b c : SinkSeen) (i : ℕ) (xs : List ℕ) → i < length xs → Took a b (take i xs) → Takes b c [] × Rose b.faults c.faults → TookPart a c xs
took_part_at a b c i xs lt (p, s) (q, rose) = (
  record {
    part = take i xs ++ [];
    rest = drop i xs;
    whole = sym (ap (λ (t : List ℕ). t ++ drop i xs) (append-nil (take i xs)) ∙ take-append-drop i xs);
    some = omega (arith, lt, length-drop {A = ℕ});
    takes = takes_then a b c (take i xs) [] p q;
  },
  rw s at rose,
)

-- an item's text more
pub took_item : {X : Type 0} (f : X → List ℕ) (xs : List X) (i : ℕ) (d : X) (a b c : SinkSeen) → i < length xs → Took a b (flat_map f (take i xs)) → Took b c (f (get_or xs i d)) → Took a c (flat_map f (take (i + 1) xs))
took_item {X = X} f xs i d a b c lt p q =
    let x : X = get_or xs i d in
    let more : flat_map f (take (i + 1) xs) ≡ flat_map f (take i xs) ++ f x =
    ap (flat_map f) (take_more xs i d lt) ∙ (flat_map-append f (take i xs) (x ∷ []) ∙ ap (λ (t : List ℕ). flat_map f (take i xs) ++ t) (flat_map-cons f x [] ∙ append-nil (f x))) in
    subst (λ (t : List ℕ). Took a c t) (sym more) (took_then a b c _ _ p q)

-- the texts of the first items, and a proper prefix of the next one's
pub took_part_item : {X : Type 0} (f : X → List ℕ) (xs : List X) (i : ℕ) (d : X) (a b c : SinkSeen) → i < length xs → Took a b (flat_map f (take i xs)) → TookPart b c (f (get_or xs i d)) → TookPart a c (flat_map f xs)
took_part_item f xs i d a b c lt p q =
    let rest : flat_map f (drop i xs) ≡ f (get_or xs i d) ++ flat_map f (drop (i + 1) xs) = ap (flat_map f) (drop_more xs i d lt) ∙ flat_map-cons f (get_or xs i d) (drop (i + 1) xs) in
    let whole : flat_map f xs ≡ flat_map f (take i xs) ++ (f (get_or xs i d) ++ flat_map f (drop (i + 1) xs)) =
    ap (flat_map f) (sym (take-append-drop i xs)) ∙ (flat_map-append f (take i xs) (drop i xs) ∙ ap (λ (t : List ℕ). flat_map f (take i xs) ++ t) rest) in
    subst (λ (t : List ℕ). TookPart a c t) (sym whole) (took_part_then a b c _ _ p (took_part_first b c _ _ q))

-- ---- what is handed on

-- a text that isn't taken whole isn't handed on whole
pub hands_cut : (a b : SinkSeen) (x : List ℕ) → TookPart a b x → HandsPart a b x × Rose a.faults b.faults
hands_cut a b x (p, rose) = (record { front = p.part; rest = p.rest; whole = p.whole; takes = p.takes; some = omega (arith, p.some, length-append b.waiting p.rest) }, rose)

-- a text that was taken whole, and a flush
pub hands_flushed : {T E : Type 0} (a b c : SinkSeen) (r : Result T E) (x : List ℕ) → Took a b x → Flushes b c r → Hands a c r x
hands_flushed a b c (Ok u) x p (q, none) = (subst (λ (w : List ℕ). Took a c w) (append-nil x) (took_then a b c x [] p q), none)
hands_flushed a b c (Err e) x (p, s) (q, (some, rose)) = (
  record {
    front = x;
    rest = [];
    whole = sym (append-nil x);
    takes = subst (λ (w : List ℕ). Takes a c w) (append-nil x) (takes_then a b c x [] p q);
    some = subst (λ (w : List ℕ). 0 < length w) (sym (append-nil c.waiting)) some;
  },
  rw s at rose,
)
