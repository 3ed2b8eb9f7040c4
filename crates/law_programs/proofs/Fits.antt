-- A partition's table and the machine's messages fit each other: each message of the table is one that the partition holds, and what was moved of its vectors is what the table says.
use Rattle.std.proofs.Common.{ℕ, ◌≡◌, ◌≤◌, ◌==◌, Bool, true, false, ◌&&◌, List, refl, ap, sym, ◌∙◌, subst}
use Rattle.std.specs.Prelude.{pos, Option, Some, None, get_or, int_le, nat_le, nat_lt}
use Rattle.std.specs.Option.{option_map, option_map_or}
use Rattle.std.proofs.lemmas.Bool.{and_parts}
use Rattle.ffm_model.specs.declared.system.System.{System}
use Rattle.ffm_model.specs.declared.machine.Handle.{Handle}
use Rattle.ffm_model.specs.declared.objects.Span.{Span}
use Rattle.ffm_model.specs.declared.objects.Vectors.{Vectors}
use Rattle.ffm_model.specs.declared.objects.PendingMessage.{PendingMessage}
use Rattle.ffm_model.specs.Memory.{no_span}
use Rattle.ffm_model.specs.State.{SpmState, handle_eq, message_held, vectors_put, with_vectors}
use Rattle.ffm_model.specs.ServiceCalls.{input_at, output_at, input_moved, output_moved}
use Rattle.ffm_model.specs.Held.{Holder, HeldMessage, HeldVector, VectorState, can_map_out, changed_at, held, holder_of, holds, is_fresh, is_mapped, is_mappable, is_or_was_mapped, is_output_free, touched, vector_at, window_size, with_input, with_output, with_state}
use Rattle.ffm_model.specs.Held.VectorState.{fresh, used, mapped, unmapped}
use Rattle.law_counting.proofs.Parts.{is_itself, same_or_not}
use Rattle.law_programs.proofs.Messages.{held-mine, put-at, put-held, put-still}
use Rattle.law_programs.proofs.Tables.{changed-other, changed-same, is_unmapped, is_unwritten, moved-len, moved-other, same_handle, state-either, state-other, state-size, touched-other, touched-size}

-- a message of the table and the machine's message
-- T says with which length a vector was unmapped
pub record Fits (p : Holder) (T : ℕ → ℕ → Type 0) (x : HeldMessage) (m : PendingMessage) : Type 0 where
  pub kind : x.kind ≡ m.kind
  pub input : (i : ℕ) → (vector_at x.input i).size ≡ (input_at m i).len
  pub output : (i : ℕ) → (vector_at x.output i).size ≡ (output_at m i).len
  pub unread : (i : ℕ) → is_fresh (vector_at x.input i).state ≡ true → (input_at m i).moved ≡ 0
  pub unwritten : (i : ℕ) → is_unwritten (vector_at x.output i).state ≡ true → (output_at m i).moved ≡ 0
  -- what is mapped was a request's, and fits a window
  pub windowed : (i : ℕ) → is_mapped (vector_at x.output i).state ≡ true → (int_le (pos 0) x.kind ≡ true) × (nat_le (vector_at x.output i).size (window_size p) ≡ true)
  -- what is or was mapped was a request's, and has bytes
  pub large : (i : ℕ) → is_or_was_mapped (vector_at x.output i).state ≡ true → (int_le (pos 0) x.kind ≡ true) × (nat_lt 0 (vector_at x.output i).size ≡ true)
  pub told : (i : ℕ) → is_unmapped (vector_at x.output i).state ≡ true → (len : ℕ) × T i len × ((output_at m i).moved ≡ len)
  pub given : (i : ℕ) → m.vectors.out_len ≤ i → (output_at m i).len ≡ 0

-- what is known of unmapped vectors may grow
pub told-more : (p : Holder) (T U : ℕ → ℕ → Type 0) (x : HeldMessage) (m : PendingMessage) → ((i len : ℕ) → T i len → U i len) → Fits p T x m → Fits p U x m
told-more p T U x m more fits = record {
  kind = fits.kind;
  input = fits.input;
  output = fits.output;
  unread = fits.unread;
  unwritten = fits.unwritten;
  windowed = fits.windowed;
  large = fits.large;
  told = λ i e. let old = fits.told i e in (old.0, more i old.0 old.1, old.2);
  given = fits.given;
}

pub record Match (s : System) (b : SpmState) (a : ℕ) (T : Handle → ℕ → ℕ → Type 0) (k : Handle) (x : HeldMessage) : Type 0 where
  pub message : PendingMessage
  pub found : message_held s b a k ≡ Some message
  pub fits : Fits (holder_of s a) (T k) x message

-- each message of the table is held
abbrev pub AreHeld : System → SpmState → ℕ → (Handle → ℕ → ℕ → Type 0) → List HeldMessage → Type 0
AreHeld s b a T t = (k : Handle) (x : HeldMessage) → held t k ≡ Some x → Match s b a T k x

-- ---- a change of one message

pub change-held : (T : Handle → ℕ → ℕ → Type 0) (s : System) (b new : SpmState) (a : ℕ) (h : Handle) (f : HeldMessage → HeldMessage) (t : List HeldMessage) → ((m : HeldMessage) → (f m).handle ≡ m.handle)
    → ((k : Handle) (m : PendingMessage) → handle_eq h k ≡ false → message_held s b a k ≡ Some m → message_held s new a k ≡ Some m)
    → ((x : HeldMessage) → held t h ≡ Some x → Match s b a T h x → Match s new a T h (f x)) → AreHeld s b a T t → AreHeld s new a T (changed_at h f t)
change-held T s b new a h f t keep others here all k y e =
    same_handle h k (Match s new a T k y)
    (λ same.
    let at : option_map f (held t h) ≡ Some y = sym (changed-same h f keep t) ∙ (ap (held (changed_at h f t)) same ∙ e) in
    let go : (o : Option HeldMessage) → held t h ≡ o → option_map f o ≡ Some y → Match s new a T h y =
    elim [ None ↦ λ g z. cc | Some x ↦ λ g z. let it : f x ≡ y = cc in subst (λ (w : HeldMessage). Match s new a T h w) it (here x g (all h x g)) ] in
    subst (λ (j : Handle). Match s new a T j y) same (go (held t h) refl at))
    (λ apart.
    let old = all k y (sym (changed-other h k f apart keep t) ∙ e) in
    record { message = old.message; found = others k old.message apart old.found; fits = old.fits })

-- of the table alone
pub table-held : (T : Handle → ℕ → ℕ → Type 0) (s : System) (b : SpmState) (a : ℕ) (h : Handle) (f : HeldMessage → HeldMessage) (t : List HeldMessage) → ((m : HeldMessage) → (f m).handle ≡ m.handle)
    → ((x : HeldMessage) (m : PendingMessage) → held t h ≡ Some x → Fits (holder_of s a) (T h) x m → Fits (holder_of s a) (T h) (f x) m) → AreHeld s b a T t → AreHeld s b a T (changed_at h f t)
table-held T s b a h f t keep here all =
    change-held T s b b a h f t keep (λ k m apart e. e) (λ x e old. record { message = old.message; found = old.found; fits = here x old.message e old.fits }) all

-- and of the machine's vectors
pub moved-held : (T : Handle → ℕ → ℕ → Type 0) (s : System) (b : SpmState) (a : ℕ) (h : Handle) (v : Vectors) (m : PendingMessage) (f : HeldMessage → HeldMessage) (t : List HeldMessage) → ((y : HeldMessage) → (f y).handle ≡ y.handle)
    → message_held s b a h ≡ Some m → ((x : HeldMessage) → held t h ≡ Some x → Fits (holder_of s a) (T h) x m → Fits (holder_of s a) (T h) (f x) (record m { vectors = v })) → AreHeld s b a T t
    → AreHeld s (with_vectors b h v) a T (changed_at h f t)
moved-held T s b a h v m f t keep there here all =
    change-held T s b (with_vectors b h v) a h f t keep (λ k n apart e. put-still s b a h k v n apart e)
    (λ x e old.
    let same : old.message ≡ m = let both : Some old.message ≡ Some m = sym old.found ∙ there in cc in
    record {
      message = record m { vectors = v };
      found = put-held s b a h h v ∙ (ap (option_map (vectors_put h v)) there ∙ ap (λ (y : PendingMessage). Some y) (put-at h v m (held-mine s b a h m there).1));
      fits = here x e (subst (λ (y : PendingMessage). Fits (holder_of s a) (T h) x y) same old.fits);
    }) all

-- ---- a vector that is used

-- what becomes of the input vectors where one is read, skipped or mapped
pub record InputUse (g : List HeldVector → List HeldVector) (index : ℕ) : Type 0 where
  pub size : (vs : List HeldVector) (i : ℕ) → (vector_at (g vs) i).size ≡ (vector_at vs i).size
  pub unread : (vs : List HeldVector) (i : ℕ) → is_fresh (vector_at (g vs) i).state ≡ true → (i ≡ index → ⊥) × (is_fresh (vector_at vs i).state ≡ true)

pub touched-input : (index : ℕ) → InputUse (touched index) index
touched-input index = record { size = λ vs i. touched-size vs index i; unread = λ vs i e. touched-other is_fresh vs index i refl (λ off. off) e }

pub mapped-input : (index : ℕ) → InputUse (with_state mapped index) index
mapped-input index = record { size = λ vs i. state-size vs mapped index i; unread = λ vs i e. state-other is_fresh vs mapped index i refl refl e }

pub input-fits : (T : ℕ → ℕ → Type 0) (p : Holder) (g : List HeldVector → List HeldVector) (index n : ℕ) (x : HeldMessage) (m : PendingMessage) → InputUse g index → Fits p T x m → Fits p T (record x { input = g x.input }) (record m { vectors = input_moved m index n })
input-fits T p g index n x m turn fits = record {
  kind = fits.kind;
  input = λ i. turn.size x.input i ∙ (fits.input i ∙ sym (moved-len m.vectors.input index n i));
  output = fits.output;
  unread = λ i e. let old = turn.unread x.input i e in ap (λ (v : Span). v.moved) (moved-other m.vectors.input _ index i old.0) ∙ fits.unread i old.1;
  unwritten = fits.unwritten;
  windowed = fits.windowed;
  large = fits.large;
  told = fits.told;
  given = fits.given;
}

-- and of these output vectors where one is written or unmapped
pub record OutputUse (g : List HeldVector → List HeldVector) (index : ℕ) (vs : List HeldVector) : Type 0 where
  pub size : (i : ℕ) → (vector_at (g vs) i).size ≡ (vector_at vs i).size
  pub unwritten : (i : ℕ) → is_unwritten (vector_at (g vs) i).state ≡ true → (i ≡ index → ⊥) × (is_unwritten (vector_at vs i).state ≡ true)
  pub still : (i : ℕ) → is_mapped (vector_at (g vs) i).state ≡ true → is_mapped (vector_at vs i).state ≡ true
  pub was : (i : ℕ) → is_or_was_mapped (vector_at (g vs) i).state ≡ true → is_or_was_mapped (vector_at vs i).state ≡ true
  -- another one that is unmapped was so before
  pub gone : (i : ℕ) → (i ≡ index → ⊥) → is_unmapped (vector_at (g vs) i).state ≡ true → is_unmapped (vector_at vs i).state ≡ true

used-by : (u : VectorState) → is_or_was_mapped u ≡ false → is_fresh u ≡ false → is_unwritten u ≡ false
used-by used e f = refl
used-by unmapped e f = refl
used-by _ e f = cc

unused-by : (u : VectorState) → is_or_was_mapped u ≡ false → is_fresh u ≡ false → is_mapped u ≡ false
unused-by mapped e f = cc
unused-by _ e f = refl

unmapped-was : (u : VectorState) → is_or_was_mapped u ≡ false → is_unmapped u ≡ false
unmapped-was unmapped e = cc
unmapped-was _ e = refl

pub touched-output : (index : ℕ) (vs : List HeldVector) → is_or_was_mapped (vector_at vs index).state ≡ false → OutputUse (touched index) index vs
touched-output index vs off = record {
  size = λ i. touched-size vs index i;
  unwritten = λ i e. touched-other is_unwritten vs index i refl (λ f. used-by (vector_at vs index).state off f) e;
  still = λ i e. (touched-other is_mapped vs index i refl (λ f. unused-by (vector_at vs index).state off f) e).1;
  was = λ i e. (touched-other is_or_was_mapped vs index i refl (λ f. off) e).1;
  gone = λ i apart e. (touched-other is_unmapped vs index i refl (λ f. unmapped-was (vector_at vs index).state off) e).1;
}

-- none is unmapped by it
pub touched-apart : (index : ℕ) (vs : List HeldVector) (i : ℕ) → is_or_was_mapped (vector_at vs index).state ≡ false → is_unmapped (vector_at (touched index vs) i).state ≡ true → i ≡ index → ⊥
touched-apart index vs i off e same = (touched-other is_unmapped vs index i refl (λ f. unmapped-was (vector_at vs index).state off) e).0 same

pub mapped-is : (u : VectorState) → is_mapped u ≡ true → is_or_was_mapped u ≡ true
mapped-is mapped e = refl
mapped-is _ e = cc

pub unmapped-output : (index : ℕ) (vs : List HeldVector) → is_mapped (vector_at vs index).state ≡ true → OutputUse (with_state unmapped index) index vs
unmapped-output index vs maps = record {
  size = λ i. state-size vs unmapped index i;
  unwritten = λ i e. state-other is_unwritten vs unmapped index i refl refl e;
  still = λ i e. (state-other is_mapped vs unmapped index i refl refl e).1;
  was = λ i e. state-either is_or_was_mapped vs unmapped index i (is_or_was_mapped (vector_at vs i).state ≡ true) refl e
      (λ same. ap (λ (j : ℕ). is_or_was_mapped (vector_at vs j).state) same ∙ mapped-is (vector_at vs index).state maps) (λ old. old);
  gone = λ i apart e. state-either is_unmapped vs unmapped index i (is_unmapped (vector_at vs i).state ≡ true) refl e (λ same. absurd (apart same)) (λ old. old);
}

pub output-fits : (T : ℕ → ℕ → Type 0) (p : Holder) (g : List HeldVector → List HeldVector) (index n : ℕ) (x : HeldMessage) (m : PendingMessage) → OutputUse g index x.output
    → ((i : ℕ) → i ≡ index → is_unmapped (vector_at (g x.output) i).state ≡ true → (len : ℕ) × T i len × ((get_or (output_moved m index n).output i no_span).moved ≡ len)) → Fits p T x m → Fits p T (record x { output = g x.output }) (record m { vectors = output_moved m index n })
output-fits T p g index n x m turn here fits = record {
  kind = fits.kind;
  input = fits.input;
  output = λ i. turn.size i ∙ (fits.output i ∙ sym (moved-len m.vectors.output index n i));
  unread = fits.unread;
  unwritten = λ i e. let old = turn.unwritten i e in ap (λ (v : Span). v.moved) (moved-other m.vectors.output _ index i old.0) ∙ fits.unwritten i old.1;
  windowed = λ i e. let old = fits.windowed i (turn.still i e) in (old.0, ap (λ (n : ℕ). nat_le n (window_size p)) (turn.size i) ∙ old.1);
  large = λ i e. let old = fits.large i (turn.was i e) in (old.0, ap (λ (n : ℕ). nat_lt 0 n) (turn.size i) ∙ old.1);
  told = λ i e. same_or_not i index ((len : ℕ) × T i len × ((get_or (output_moved m index n).output i no_span).moved ≡ len))
      (λ same. here i same e)
      (λ off.
      let apart : i ≡ index → ⊥ = λ z. let on : (i == index) ≡ true = ap (λ (j : ℕ). i == j) (sym z) ∙ is_itself i in cc in
      let old = fits.told i (turn.gone i apart e) in (old.0, old.1, ap (λ (v : Span). v.moved) (moved-other m.vectors.output _ index i apart) ∙ old.2));
  given = λ i past. moved-len m.vectors.output index n i ∙ fits.given i past;
}

-- ---- lines without a call

-- what a test of the held message says
pub holds-at : (t : List HeldMessage) (h : Handle) (index : ℕ) (fact : HeldMessage → Bool) (x : HeldMessage) → holds t h index fact ≡ true → held t h ≡ Some x → fact x ≡ true
holds-at t h index fact x e at = sym (ap (λ (o : Option HeldMessage). option_map_or fact o false) at) ∙ (and_parts (nat_lt index 4) (option_map_or fact (held t h) false) e).1

pub record IsMappable (p : Holder) (x : HeldMessage) (v : HeldVector) : Type 0 where
  pub request : int_le (pos 0) x.kind ≡ true
  pub large : nat_lt 0 v.size ≡ true
  pub fits : nat_le v.size (window_size p) ≡ true
  pub unused : is_fresh v.state ≡ true

pub mappable : (p : Holder) (x : HeldMessage) (v : HeldVector) → is_mappable p x v ≡ true → IsMappable p x v
mappable p x v e =
    let one = and_parts (int_le (pos 0) x.kind) (x.mm && (nat_lt 0 v.size && (nat_le v.size (window_size p) && is_fresh v.state))) e in
    let two = and_parts x.mm (nat_lt 0 v.size && (nat_le v.size (window_size p) && is_fresh v.state)) one.1 in
    let three = and_parts (nat_lt 0 v.size) (nat_le v.size (window_size p) && is_fresh v.state) two.1 in
    let four = and_parts (nat_le v.size (window_size p)) (is_fresh v.state) three.1 in
    record { request = one.0; large = three.0; fits = four.0; unused = four.1 }

pub mapped-unwritten : (u : VectorState) → is_mapped u ≡ true → is_unwritten u ≡ true
mapped-unwritten mapped e = refl
mapped-unwritten _ e = cc

fresh-unwritten : (u : VectorState) → is_fresh u ≡ true → is_unwritten u ≡ true
fresh-unwritten fresh e = refl
fresh-unwritten _ e = cc

map_out-fits : (T : ℕ → ℕ → Type 0) (p : Holder) (index : ℕ) (x : HeldMessage) (m : PendingMessage) → IsMappable p x (vector_at x.output index) → Fits p T x m → Fits p T (with_output mapped index x) m
map_out-fits T p index x m can fits = record {
  kind = fits.kind;
  input = fits.input;
  output = λ i. state-size x.output mapped index i ∙ fits.output i;
  unread = fits.unread;
  unwritten = λ i e. state-either is_unwritten x.output mapped index i ((output_at m i).moved ≡ 0) refl e
      (λ same. ap (λ (j : ℕ). (output_at m j).moved) same ∙ fits.unwritten index (fresh-unwritten (vector_at x.output index).state can.unused)) (λ old. fits.unwritten i old);
  windowed = λ i e. state-either is_mapped x.output mapped index i ((int_le (pos 0) x.kind ≡ true) × (nat_le (vector_at (with_state mapped index x.output) i).size (window_size p) ≡ true)) refl e
      (λ same. (can.request, ap (λ (n : ℕ). nat_le n (window_size p)) (state-size x.output mapped index i ∙ ap (λ (j : ℕ). (vector_at x.output j).size) same) ∙ can.fits))
      (λ was. let old = fits.windowed i was in (old.0, ap (λ (n : ℕ). nat_le n (window_size p)) (state-size x.output mapped index i) ∙ old.1));
  large = λ i e. state-either is_or_was_mapped x.output mapped index i ((int_le (pos 0) x.kind ≡ true) × (nat_lt 0 (vector_at (with_state mapped index x.output) i).size ≡ true)) refl e
      (λ same. (can.request, ap (λ (n : ℕ). nat_lt 0 n) (state-size x.output mapped index i ∙ ap (λ (j : ℕ). (vector_at x.output j).size) same) ∙ can.large))
      (λ was. let old = fits.large i was in (old.0, ap (λ (n : ℕ). nat_lt 0 n) (state-size x.output mapped index i) ∙ old.1));
  told = λ i e. fits.told i (state-other is_unmapped x.output mapped index i refl refl e).1;
  given = fits.given;
}

unmap_in-fits : (T : ℕ → ℕ → Type 0) (p : Holder) (index : ℕ) (x : HeldMessage) (m : PendingMessage) → Fits p T x m → Fits p T (with_input unmapped index x) m
unmap_in-fits T p index x m fits = record {
  kind = fits.kind;
  input = λ i. state-size x.input unmapped index i ∙ fits.input i;
  output = fits.output;
  unread = λ i e. fits.unread i (state-other is_fresh x.input unmapped index i refl refl e).1;
  unwritten = fits.unwritten;
  windowed = fits.windowed;
  large = fits.large;
  told = fits.told;
  given = fits.given;
}

pub map_out-held : (T : Handle → ℕ → ℕ → Type 0) (s : System) (b : SpmState) (a : ℕ) (h : Handle) (index : ℕ) (t : List HeldMessage) → can_map_out (holder_of s a) t h index ≡ true → AreHeld s b a T t → AreHeld s b a T (changed_at h (with_output mapped index) t)
map_out-held T s b a h index t can all =
    table-held T s b a h (with_output mapped index) t (λ m. refl)
    (λ x m at fits.
    let may = holds-at t h index (λ m. is_mappable (holder_of s a) m (vector_at m.output index) && is_output_free t index) x can at in
    map_out-fits (T h) (holder_of s a) index x m (mappable (holder_of s a) x (vector_at x.output index) (and_parts (is_mappable (holder_of s a) x (vector_at x.output index)) (is_output_free t index) may).0) fits) all

pub unmap_in-held : (T : Handle → ℕ → ℕ → Type 0) (s : System) (b : SpmState) (a : ℕ) (h : Handle) (index : ℕ) (t : List HeldMessage) → AreHeld s b a T t → AreHeld s b a T (changed_at h (with_input unmapped index) t)
unmap_in-held T s b a h index t all = table-held T s b a h (with_input unmapped index) t (λ m. refl) (λ x m at fits. unmap_in-fits (T h) (holder_of s a) index x m fits) all
