-- Each call of a client, and a panic, keeps the condition on the vectors of messages.
use Rattle.std.proofs.Common.{ℕ, ℤ, ◌≡◌, List, subst}
use Rattle.std.specs.Prelude.{Some}
use Rattle.ffm_model.specs.declared.machine.Handle.{Handle}
use Rattle.ffm_model.specs.declared.machine.Sid.{Sid}
use Rattle.ffm_model.specs.declared.objects.Vectors.{Vectors}
use Rattle.ffm_model.specs.declared.system.System.{System}
use Rattle.ffm_model.specs.ClientCalls.{Move, psa_call, psa_close, psa_connect}
use Rattle.ffm_model.specs.Panic.{panic_effect}
use Rattle.ffm_model.specs.State.{SpmState, State}
use Rattle.ffm_model.specs.Ranges.{ranges_of}
use Rattle.machine_rules.specs.Vectors.{AreWithin}
use Rattle.machine_rules.proofs.Fitting.{none_within}
use Rattle.law_calls.proofs.Within.{AllMeet, MovedMeets, calls, closes, connects, panics, within-kept}

pub connect-within : (ranges : List (ℕ × ℕ)) (s : System) (b : SpmState) (a : ℕ) (sid : Sid) (version : ℕ) (m : Move) → psa_connect s b a sid version ≡ Some m → AllMeet (AreWithin ranges) b → AllMeet (AreWithin ranges) m.spm
connect-within ranges s b a sid version m e all = subst (MovedMeets (AreWithin ranges)) e (connects (AreWithin ranges) s b a sid version (none_within ranges) all)

pub call-within : (s : System) (st : State) (a : ℕ) (h : Handle) (kind : ℤ) (in_vec in_len out_vec out_len : ℕ) (m : Move) → psa_call s st a h kind in_vec in_len out_vec out_len ≡ Some m
    → AllMeet (AreWithin (ranges_of s.regions)) st.spm → AllMeet (AreWithin (ranges_of s.regions)) m.spm
call-within s st a h kind in_vec in_len out_vec out_len m e all =
    let W : Vectors → Type 0 = AreWithin (ranges_of s.regions) in
    subst (MovedMeets W) e (calls W s st a h kind in_vec in_len out_vec out_len (λ v given. (within-kept s).read st.memory a in_vec in_len out_vec out_len v given) all)

pub close-within : (ranges : List (ℕ × ℕ)) (b : SpmState) (a : ℕ) (h : Handle) (m : Move) → psa_close b a h ≡ Some m → AllMeet (AreWithin ranges) b → AllMeet (AreWithin ranges) m.spm
close-within ranges b a h m e all = subst (MovedMeets (AreWithin ranges)) e (closes (AreWithin ranges) b a h (none_within ranges) all)

pub panic-within : (ranges : List (ℕ × ℕ)) (s : System) (b : SpmState) (p : ℕ) → AllMeet (AreWithin ranges) b → AllMeet (AreWithin ranges) (panic_effect s b p)
panic-within ranges s b p all = panics (AreWithin ranges) s b p (none_within ranges) all
