-- The asserted signals of the tables are those of the system that they were made for.
use Rattle.std.proofs.Common.{ℕ, ◌≡◌, ◌+◌, ◌==◌, Bool, true, false, cond, ◌&&◌, ◌||◌, List, [], ◌∷◌, drop, map, get_or, ◌∙◌, ap, sym, refl}
use Rattle.std.specs.Prelude.{Some, None, if◌then◌else◌, find, is_some, bit_or}
use Rattle.std.specs.List.{filter_map, enumerate_from, cons_option, list_any}
use Rattle.ffm_model.specs.declared.system.System.{System}
use Rattle.ffm_model.specs.State.{is_undelivered, no_flags}
use Rattle.ffm_model.specs.Signals.{union_of, signals_of, service_signals, source_signals, has_undelivered, doorbell_signal}
use Rattle.spm_tables.specs.declared.signals.OwnedSignal.{OwnedSignal}
use Rattle.spm_tables.specs.TablesView.{TablesView, Shape, MadeFor, spm_of, asserted, waits_for, held_message, service_signal, source_signal}

-- the asserted signals from a place on
abbrev pub from_place : (ℕ → Bool) → List OwnedSignal → ℕ → ℕ → List ℕ
from_place p xs owner i = filter_map (λ e. if (e.1.owner == owner) && p e.0 then Some e.1.signal else None) (enumerate_from i (drop i xs))

asserted-map : {X : Type 0} (f : X → OwnedSignal) (q r : ℕ → Bool) → ((i : ℕ) → q i ≡ r i) → (xs : List X) (n owner : ℕ)
    → filter_map (λ e. if (e.1.owner == owner) && q e.0 then Some e.1.signal else None) (enumerate_from n (map f xs))
    ≡ filter_map (λ e. if ((f e.1).owner == owner) && r e.0 then Some (f e.1).signal else None) (enumerate_from n xs)
asserted-map f q r same [] n owner = refl
asserted-map f q r same (x ∷ xs) n owner =
    let rest : filter_map (λ e. if (e.1.owner == owner) && q e.0 then Some e.1.signal else None) (enumerate_from (n + 1) (map f xs))
    ≡ filter_map (λ e. if ((f e.1).owner == owner) && r e.0 then Some (f e.1).signal else None) (enumerate_from (n + 1) xs) = asserted-map f q r same xs (n + 1) owner in
    ap (λ (ys : List ℕ). cons_option (if ((f x).owner == owner) && q n then Some (f x).signal else None) ys) rest
    ∙ ap (λ (b : Bool). cons_option (if ((f x).owner == owner) && b then Some (f x).signal else None)
    (filter_map (λ e. if ((f e.1).owner == owner) && r e.0 then Some (f e.1).signal else None) (enumerate_from (n + 1) xs))) (same n)

pub some-any : {X Y : Type 0} (f : X → Y) (p : Y → Bool) (xs : List X) → is_some (find (λ x. p (f x)) xs) ≡ list_any p (map f xs)
some-any f p [] = refl
some-any f p (x ∷ xs) =
    let rest : is_some (find (λ y. p (f y)) xs) ≡ list_any p (map f xs) = some-any f p xs in
    let go : (b : Bool) → p (f x) ≡ b → is_some (cond b (Some x) (find (λ y. p (f y)) xs)) ≡ list_any p (map f (x ∷ xs)) =
    elim [ true ↦ λ e. ap (λ (c : Bool). c || list_any p (map f xs)) (sym e) | false ↦ λ e. rest ∙ ap (λ (c : Bool). c || list_any p (map f xs)) (sym e) ] in
    go (p (f x)) refl

pub word-of : (d : TablesView) (s : System) (p : ℕ) → MadeFor d s
    → bit_or (union_of (asserted (λ v. is_some (find (waits_for v) d.messages.held)) d.services p))
    (bit_or (doorbell_signal (spm_of d) p) (union_of (asserted (λ i. (get_or d.flags i no_flags).asserted) d.sources p)))
    ≡ signals_of s (spm_of d) p
word-of d s p made =
    let services : asserted (λ v. is_some (find (waits_for v) d.messages.held)) d.services p ≡ service_signals s (spm_of d) p =
    ap (λ (xs : List OwnedSignal). asserted (λ v. is_some (find (waits_for v) d.messages.held)) xs p) (ap (λ (h : Shape). h.services) made)
    ∙ asserted-map service_signal (λ v. is_some (find (waits_for v) d.messages.held)) (has_undelivered (spm_of d)) (λ v. some-any held_message (is_undelivered v) d.messages.held) s.services 0 p in
    let sources : asserted (λ i. (get_or d.flags i no_flags).asserted) d.sources p ≡ source_signals s (spm_of d) p =
    ap (λ (xs : List OwnedSignal). asserted (λ i. (get_or d.flags i no_flags).asserted) xs p) (ap (λ (h : Shape). h.sources) made)
    ∙ asserted-map source_signal (λ i. (get_or d.flags i no_flags).asserted) (λ i. (get_or d.flags i no_flags).asserted) (λ i. refl) s.sources 0 p in
    ap (λ (xs : List ℕ). bit_or (union_of xs) (bit_or (doorbell_signal (spm_of d) p) (union_of (asserted (λ i. (get_or d.flags i no_flags).asserted) d.sources p)))) services
    ∙ ap (λ (xs : List ℕ). bit_or (union_of (service_signals s (spm_of d) p)) (bit_or (doorbell_signal (spm_of d) p) (union_of xs))) sources
