-- A reply, and the panic that it may owe, in the words of a reply that tells its client whoever that is.
use Rattle.std.proofs.Common.{ℕ, zero, suc, ◌≡◌, Bool, true, false, ◌&&◌, List, [], ◌∷◌, ap, sym, refl, arith}
use Rattle.std.specs.Prelude.{ℤ, pos, negsuc, int_lt, int_le, slice_set, if◌then◌else◌}
use Rattle.std.specs.Option.{option_map_or}
use Rattle.std.specs.Ordering.{int_eq}
use Rattle.ffm_model.specs.declared.constants.TheConstants.{PSA_IPC_CALL, PSA_IPC_CONNECT, PSA_ERROR_PROGRAMMER_ERROR}
use Rattle.ffm_model.specs.declared.system.System.{System}
use Rattle.ffm_model.specs.declared.machine.Handle.{Handle}
use Rattle.ffm_model.specs.declared.machine.Outcome.TheVariants.{Value}
use Rattle.ffm_model.specs.declared.objects.PendingMessage.{PendingMessage}
use Rattle.ffm_model.specs.declared.objects.ConnPhase.TheVariants.{Error, Idle}
use Rattle.ffm_model.specs.declared.objects.ActorPhase.{ActorPhase}
use Rattle.ffm_model.specs.declared.objects.ActorPhase.TheVariants.{Ready, Panicked}
use Rattle.ffm_model.specs.Actors.{kind_of, is_partition}
use Rattle.ffm_model.specs.State.{SpmState, with_phase, without_message}
use Rattle.ffm_model.specs.Panic.{panic_effect, clients_answered, callers_answered}
use Rattle.ffm_model.specs.ServiceCalls.{connect_answered, close_answered, with_request_phase, replied, owes_panic}
use Rattle.law_counting.proofs.Reply.{settled, not_negative}

pub set-twice : (xs : List ActorPhase) (i : ℕ) (x y : ActorPhase) → slice_set (slice_set xs i x) i y ≡ slice_set xs i y
set-twice [] i x y = refl
set-twice (z ∷ zs) zero x y = refl
set-twice (z ∷ zs) (suc i) x y = ap (λ (ws : List ActorPhase). z ∷ ws) (set-twice zs i x y)

-- a panic forgets what the phase of its partition was
panic-phase : (s : System) (b : SpmState) (a : ℕ) (p : ActorPhase) → panic_effect s b a ≡ panic_effect s (with_phase b a p) a
panic-phase s b a p =
    ap (λ (ps : List ActorPhase). record (panic_effect s b a) { phases = callers_answered s a b.messages (clients_answered s a b.connections ps) }) (sym (set-twice b.phases a p Panicked))

not_low : (k : ℤ) → int_lt k (pos 0) ≡ false → int_le (pos 0) k ≡ true
not_low (pos n) e = grind arith
not_low (negsuc n) e = cc

-- the choices of a reply: k a connection, l a disconnection, g a request, f with PROGRAMMER ERROR, p to a partition
same-answer : (k l g f p : Bool) (A C X Y Z : SpmState) → (l ≡ false → g ≡ true) → (g && (f && p)) ≡ false
    → (if k then A else (if l then C else (if f then (if p then X else Y) else Z))) ≡ (if k then A else (if l then C else (if f then Y else Z)))
same-answer false false g true true A C X Y Z high e = let it : g ≡ true = high refl in let no : (g && true) ≡ true = ap (λ b. b && true) it in cc
same-answer _ _ g _ _ A C X Y Z high e = refl

same-after : (F : SpmState → SpmState) (k l g f p : Bool) (A C X Y Z : SpmState) → (g ≡ true → (k ≡ false) × (l ≡ false)) → F X ≡ F Y → (g && (f && p)) ≡ true
    → F (if k then A else (if l then C else (if f then (if p then X else Y) else Z))) ≡ F (if k then A else (if l then C else (if f then Y else Z)))
same-after F false false true true true A C X Y Z high same e = same
same-after F true l true true true A C X Y Z high same e = let no : true ≡ false = (high refl).0 in cc
same-after F false true true true true A C X Y Z high same e = let no : true ≡ false = (high refl).1 in cc
same-after F k l _ _ _ A C X Y Z high same e = cc

request-kind : (k : ℤ) → int_le (pos 0) k ≡ true → (int_eq k PSA_IPC_CONNECT ≡ false) × (int_lt k PSA_IPC_CALL ≡ false)
request-kind (pos n) e = (refl, not_negative n)
request-kind (negsuc n) e = cc

-- without a panic
pub replied-settled : (s : System) (b : SpmState) (h : Handle) (status : ℤ) (m : PendingMessage) → owes_panic s m status ≡ false → replied s b h status m ≡ settled b h status m
replied-settled s b h status m e =
    let rest : SpmState = without_message b h in
    let failed : SpmState = with_request_phase rest m Error in
    let A : SpmState = option_map_or (λ n. connect_answered rest n m status) m.connection rest in
    let C : SpmState = option_map_or (λ n. close_answered rest n m) m.connection rest in
    same-answer (int_eq m.kind PSA_IPC_CONNECT) (int_lt m.kind PSA_IPC_CALL) (int_le PSA_IPC_CALL m.kind) (int_eq status PSA_ERROR_PROGRAMMER_ERROR) (is_partition (kind_of s m.client.0))
    A C failed (with_phase failed m.client.0 (Ready (Value PSA_ERROR_PROGRAMMER_ERROR)))
    (with_phase (with_request_phase rest m Idle) m.client.0 (Ready (Value status))) (not_low m.kind) e

-- with one, to what forgets the phase of the client
pub owed-same : (s : System) (b : SpmState) (h : Handle) (status : ℤ) (m : PendingMessage) (F : SpmState → SpmState) → ((x : SpmState) (p : ActorPhase) → F x ≡ F (with_phase x m.client.0 p)) → owes_panic s m status ≡ true
    → F (replied s b h status m) ≡ F (settled b h status m)
owed-same s b h status m F forgets e =
    let rest : SpmState = without_message b h in
    let failed : SpmState = with_request_phase rest m Error in
    let A : SpmState = option_map_or (λ n. connect_answered rest n m status) m.connection rest in
    let C : SpmState = option_map_or (λ n. close_answered rest n m) m.connection rest in
    same-after F (int_eq m.kind PSA_IPC_CONNECT) (int_lt m.kind PSA_IPC_CALL) (int_le PSA_IPC_CALL m.kind) (int_eq status PSA_ERROR_PROGRAMMER_ERROR) (is_partition (kind_of s m.client.0))
    A C failed (with_phase failed m.client.0 (Ready (Value PSA_ERROR_PROGRAMMER_ERROR)))
    (with_phase (with_request_phase rest m Idle) m.client.0 (Ready (Value status))) (request-kind m.kind) (forgets failed (Ready (Value PSA_ERROR_PROGRAMMER_ERROR))) e

-- and to the panic
pub owed-settled : (s : System) (b : SpmState) (h : Handle) (status : ℤ) (m : PendingMessage) → owes_panic s m status ≡ true
    → panic_effect s (replied s b h status m) m.client.0 ≡ panic_effect s (settled b h status m) m.client.0
owed-settled s b h status m = owed-same s b h status m (λ x. panic_effect s x m.client.0) (λ x p. panic-phase s x m.client.0 p)

-- a panic is owed to a request alone
pub owed-request : (s : System) (m : PendingMessage) (status : ℤ) (P : Type 0) → owes_panic s m status ≡ true → ((n : ℕ) → m.kind ≡ pos n → P) → P
owed-request s m status P e f =
    let go : (k : ℤ) (x : Bool) → m.kind ≡ k → (int_le (pos 0) k && x) ≡ true → P = elim [ pos n ↦ λ x k g. f n k | negsuc n ↦ λ x k g. cc ] in
    go m.kind _ refl e
