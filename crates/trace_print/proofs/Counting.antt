-- Reading digits one by one.
use Rattle.std.proofs.Common.{◌≡◌, ℕ, ◌+◌, ◌<◌, ◌≤◌, List, Option, None, Some, drop, length, get_or, sym, ap, ◌∙◌}
use Rattle.std.proofs.lemmas.List.{drop_more, drop_all}
use Rattle.ffm_model.specs.Binding.{◌>>=◌}
use Rattle.trace_print.specs.Numbers.{with_digit, number_after}

after_first : (base n i : ℕ) (digits : List ℕ) (t : Option ℕ) → i < length digits → number_after base n (drop i digits) ≡ t → (with_digit base n (get_or digits i 0) >>= λ m. number_after base m (drop (i + 1) digits)) ≡ t
unfolding number_after
after_first base n i digits t lt so_far = sym (ap (number_after base n) (drop_more digits i 0 lt)) ∙ so_far

pub goes_on : (base n m i : ℕ) (digits : List ℕ) (t : Option ℕ) → i < length digits → with_digit base n (get_or digits i 0) ≡ Some m → number_after base n (drop i digits) ≡ t → number_after base m (drop (i + 1) digits) ≡ t
goes_on base n m i digits t lt e so_far = ap (λ (o : Option ℕ). o >>= λ k. number_after base k (drop (i + 1) digits)) (sym e) ∙ after_first base n i digits t lt so_far

pub stops : (base n i : ℕ) (digits : List ℕ) (t : Option ℕ) → i < length digits → with_digit base n (get_or digits i 0) ≡ None → number_after base n (drop i digits) ≡ t → None ≡ t
stops base n i digits t lt e so_far = ap (λ (o : Option ℕ). o >>= λ k. number_after base k (drop (i + 1) digits)) (sym e) ∙ after_first base n i digits t lt so_far

pub ends : (base n i : ℕ) (digits : List ℕ) (t : Option ℕ) → length digits ≤ i → number_after base n (drop i digits) ≡ t → Some n ≡ t
unfolding number_after
ends base n i digits t le so_far = sym (ap (number_after base n) (drop_all i digits le)) ∙ so_far
