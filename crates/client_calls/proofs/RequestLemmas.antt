-- psa_call by a stateless handle, where it sends a request.
use Rattle.std.proofs.Common.{ℕ, ◌≡◌, true, false, refl}
use Rattle.std.specs.Prelude.{ℤ, pos, int_lt, Some}
use Rattle.ffm_model.specs.declared.machine.Outcome.TheVariants.{Blocked as Blocks}
use Rattle.ffm_model.specs.declared.objects.ActorPhase.TheVariants.{Blocked}
use Rattle.ffm_model.specs.declared.objects.Vectors.{Vectors}
use Rattle.ffm_model.specs.declared.system.System.{System}
use Rattle.ffm_model.specs.Actors.{permits, stateless_at}
use Rattle.ffm_model.specs.ClientCalls.{is_service_panicked, move, service_called}
use Rattle.ffm_model.specs.Memory.{vectors_of}
use Rattle.ffm_model.specs.State.{State, with_phase, with_request}
use Rattle.std.proofs.Common.{List, [], sym, subst}
use Rattle.std.specs.Prelude.{Option, Result, Ok, Err}
use Rattle.ffm_model.specs.declared.machine.Fault.{Fault}
use Rattle.ffm_model.specs.declared.machine.Handle.{Handle}
use Rattle.ffm_model.specs.declared.machine.Outcome.{Outcome}
use Rattle.ffm_model.specs.ClientCalls.{Move}
use Rattle.ffm_model.specs.State.{SpmState}
use Rattle.spm_tables.specs.Answers.{Answers}
use Rattle.spm_tables.specs.TablesView.{TablesView, spm_of}

pub request-sends : (s : System) (st : State) (a index i : ℕ) (kind : ℤ) (in_vec in_len out_vec out_len : ℕ) (v : Vectors) → stateless_at s index ≡ Some i → vectors_of s st.memory a in_vec in_len out_vec out_len ≡ Some v
    → permits s a i ≡ true → int_lt kind (pos 0) ≡ false → is_service_panicked s st.spm i ≡ false
    → service_called s st a index kind in_vec in_len out_vec out_len ≡ Some (move Blocks (with_phase (with_request st.spm a i kind v) a Blocked))
request-sends s st a index i kind in_vec in_len out_vec out_len v found given may request alive = rw (found, given, may, request, alive) refl

-- what each move that is due keeps, an answer keeps
pub answers-keep : (P : SpmState → Type 0) (due : List Handle → Option Move) (old new : TablesView) (r : Result Outcome Fault) → ((given : List Handle) → Answers (λ o. o) (due given) old r new) → P (spm_of old)
    → ((m : Move) → ((given : List Handle) → due given ≡ Some m) → P m.spm) → P (spm_of new)
answers-keep P due old new (Ok o) answers kept moved = moved (move o (spm_of new)) answers
answers-keep P due old new (Err fault) answers kept moved = subst (λ (d : TablesView). P (spm_of d)) (sym (answers []).1) kept
