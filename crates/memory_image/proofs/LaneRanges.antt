-- For memories that agree outside of some ranges, the count of differences and the least one are those of the ranges.
use Rattle.std.proofs.Common.{◌≡◌, ◌≤◌, ◌<◌, ℕ, zero, suc, ◌+◌, ◌-◌, Bool, true, false, cond, nat_lt, List, [], ◌∷◌, ◌&&◌, ◌||◌, Option, None, Some, count_by, refl, ap, sym, ◌∙◌, arith}
use Rattle.std.proofs.lemmas.Bool.Decides.{nat_tests}
use Rattle.std.proofs.lemmas.List.Sums.{sum_by-cons}
use Rattle.std.specs.List.{range_with_len}
use Rattle.std.proofs.lemmas.Bool.{and_right, or_from, or_left, or_right}
use Rattle.memory_image.specs.Differences.{range_covers, any_covers, count_in, AreApart, IsLeast, lesser}

abbrev from : (ℕ → Bool) → ℕ → ℕ → ℕ
from p a zero = 0
from p a (suc n) = cond (p a) 1 0 + from p (a + 1) n

count_from : (p : ℕ → Bool) (a n : ℕ) → count_by p (range_with_len a n) ≡ from p a n
count_from p a zero = refl
count_from p a (suc n) = sum_by-cons (λ x. cond (p x) 1 0) a (range_with_len (a + 1) n) ∙ ap (λ k. cond (p a) 1 0 + k) (count_from p (a + 1) n)

count_same : (p q : ℕ → Bool) (a n : ℕ) → ((x : ℕ) → a ≤ x → x < a + n → p x ≡ q x) → from p a n ≡ from q a n
count_same p q a zero same = refl
count_same p q a (suc n) same =
    let first = same a (omega arith) (omega arith) in
    let rest = count_same p q (a + 1) n (λ x low high. same x (omega arith) (omega arith)) in
    ap (λ b. cond b 1 0 + from p (a + 1) n) first ∙ ap (λ k. cond (q a) 1 0 + k) rest

count_none : (p : ℕ → Bool) (a n : ℕ) → ((x : ℕ) → a ≤ x → x < a + n → p x ≡ false) → from p a n ≡ 0
count_none p a zero none = refl
count_none p a (suc n) none =
    let first = none a (omega arith) (omega arith) in
    let rest = count_none p (a + 1) n (λ x low high. none x (omega arith) (omega arith)) in
    ap (λ b. cond b 1 0 + from p (a + 1) n) first ∙ omega (arith, rest)

count_add : (p : ℕ → Bool) (a m n : ℕ) → from p a (m + n) ≡ from p a m + from p (a + m) n
count_add p a zero n =
    let z : 0 + n ≡ n = omega arith in
    let e : a ≡ a + 0 = omega arith in
    let moved = ap (λ b. from p b n) e in
    ap (from p a) z ∙ omega (arith, moved)
count_add p a (suc m) n =
    let e : suc m + n ≡ suc (m + n) = omega arith in
    let f : (a + 1) + m ≡ a + suc m = omega arith in
    let rest = count_add p (a + 1) m n ∙ ap (λ b. from p (a + 1) m + from p b n) f in
    let sum = ap (λ k. cond (p a) 1 0 + k) rest in
    ap (from p a) e ∙ (sum ∙ omega arith)

each_split : (b c d : Bool) → (c ≡ true → d ≡ false) → cond (b && (c || d)) 1 0 ≡ cond (b && c) 1 0 + cond (b && d) 1 0
each_split false c d apart = refl
each_split true false d apart = omega arith
each_split true true d apart = let e = apart refl in ap (λ k. 1 + cond k 1 0) (sym e)

count_split : (p c d : ℕ → Bool) (a n : ℕ) → ((x : ℕ) → c x ≡ true → d x ≡ false)
    → from (λ x. p x && (c x || d x)) a n ≡ from (λ x. p x && c x) a n + from (λ x. p x && d x) a n
count_split p c d a zero apart = omega arith
count_split p c d a (suc n) apart =
    let first = each_split (p a) (c a) (d a) (apart a) in
    let rest = count_split p c d (a + 1) n apart in
    omega (arith, first, rest)

and_true : (b c : Bool) → c ≡ true → (b && c) ≡ b
and_true true c holds = holds
and_true false c holds = refl

-- a count within one range, over all addresses below a limit
count_range : (p : ℕ → Bool) (r : ℕ × ℕ) (limit : ℕ) → r.0 + r.1 ≤ limit → from (λ x. p x && range_covers r x) 0 limit ≡ from p r.0 r.1
count_range p r limit room =
    let q = λ (x : ℕ). p x && range_covers r x in
    let k = limit - (r.0 + r.1) in
    let e : limit ≡ r.0 + (r.1 + k) = omega arith in
    let low = count_none q 0 r.0 (λ x l h. and_right (p x) (range_covers r x) (grind (arith, nat_tests))) in
    let mid = count_same q p r.0 r.1 (λ x l h. and_true (p x) (range_covers r x) (grind (arith, nat_tests))) in
    let high = count_none q (r.0 + r.1) k (λ x l h. and_right (p x) (range_covers r x) (grind (arith, nat_tests))) in
    let one = count_add q 0 r.0 (r.1 + k) in
    let zeroth : from q (0 + r.0) (r.1 + k) ≡ from q r.0 (r.1 + k) = let e : 0 + r.0 ≡ r.0 = omega arith in ap (λ b. from q b (r.1 + k)) e in
    let two = count_add q r.0 r.1 k in
    ap (from q 0) e ∙ omega (arith, low, mid, high, one, zeroth, two)

count_covered : (p : ℕ → Bool) (rs : List (ℕ × ℕ)) (limit : ℕ) → AreApart limit rs → count_in p rs ≡ from (λ x. p x && any_covers rs x) 0 limit
count_covered p [] limit apart = sym (count_none (λ x. p x && false) 0 limit (λ x l h. and_right (p x) false refl))
count_covered p (r ∷ rs) limit apart =
    let first = count_range p r limit apart.0 in
    let head = sum_by-cons (λ (q : ℕ × ℕ). count_by p (range_with_len q.0 q.1)) r rs in
    let bridge = count_from p r.0 r.1 in
    let rest = count_covered p rs limit apart.2 in
    let split = count_split p (range_covers r) (any_covers rs) 0 limit apart.1 in
    head ∙ omega (arith, first, rest, split, bridge)

-- a test that the other one covers
pub covered : (b c : Bool) → (c ≡ false → b ≡ false) → (b && c) ≡ b
covered true true h = refl
covered true false h = sym (h refl)
covered false c h = refl

-- what passes is counted alike in each set of ranges that has it all
pub count_in_ranges : (p : ℕ → Bool) (rs qs : List (ℕ × ℕ)) (limit : ℕ) → AreApart limit rs → AreApart limit qs
    → ((x : ℕ) → any_covers rs x ≡ false → p x ≡ false) → ((x : ℕ) → any_covers qs x ≡ false → p x ≡ false) → count_in p rs ≡ count_in p qs
count_in_ranges p rs qs limit rs_apart qs_apart in_rs in_qs =
    let one = count_same (λ x. p x && any_covers rs x) (λ x. p x && any_covers qs x) 0 limit
    (λ x l h. covered (p x) (any_covers rs x) (in_rs x) ∙ sym (covered (p x) (any_covers qs x) (in_qs x))) in
    count_covered p rs limit rs_apart ∙ (one ∙ sym (count_covered p qs limit qs_apart))

lesser_by : (t : Bool) (p q : ℕ → Bool) (a b : ℕ) → nat_lt a b ≡ t → IsLeast p (Some a) → IsLeast q (Some b)
    → IsLeast (λ x. p x || q x) (cond t (Some a) (Some b))
lesser_by true p q a b e one other =
    let less : a < b = grind (arith, nat_tests) in
    (or_left (p a) (q a) one.0, λ x below. or_from (p x) (q x) (one.1 x below) (other.1 x (omega arith)))
lesser_by false p q a b e one other =
    let less : b ≤ a = grind (arith, nat_tests) in
    (or_right (p b) (q b) other.0, λ x below. or_from (p x) (q x) (one.1 x (omega arith)) (other.1 x below))

-- the least in either of two sets is the lesser of their least
pub lesser_of : (p q : ℕ → Bool) (a b : Option ℕ) → IsLeast p a → IsLeast q b → IsLeast (λ x. p x || q x) (lesser a b)
lesser_of p q None None one other = λ x. or_from (p x) (q x) (one x) (other x)
lesser_of p q None (Some b) one other = (or_right (p b) (q b) other.0, λ x below. or_from (p x) (q x) (one x) (other.1 x below))
lesser_of p q (Some a) None one other = (or_left (p a) (q a) one.0, λ x below. or_from (p x) (q x) (one.1 x below) (other x))
lesser_of p q (Some a) (Some b) one other = lesser_by (nat_lt a b) p q a b refl one other

-- the same test has the same least
pub least_same : (p q : ℕ → Bool) (found : Option ℕ) → ((x : ℕ) → p x ≡ q x) → IsLeast p found → IsLeast q found
least_same p q None same least = λ x. sym (same x) ∙ least x
least_same p q (Some a) same least = (sym (same a) ∙ least.0, λ x below. sym (same x) ∙ least.1 x below)
