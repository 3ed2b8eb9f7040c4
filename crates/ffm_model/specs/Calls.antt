-- All calls in one table: who has which, what each answers and leaves, and when it is a PROGRAMMER ERROR.
-- Source: `psa/client.h` is for partitions and non-secure clients, `psa/service.h` for partitions alone.
use Rattle.std.specs.Prelude.{ℕ, pos, Bool, true, false, if◌then◌else◌, Some, None, Option, is_none}
use Rattle.std.specs.Option.{option_map}
use Rattle.ffm_model.specs.declared.constants.TheConstants.{PSA_FRAMEWORK_VERSION, PSA_ERROR_PROGRAMMER_ERROR, PSA_ERROR_CONNECTION_REFUSED}
use Rattle.ffm_model.specs.declared.system.System.{System}
use Rattle.ffm_model.specs.declared.system.ActorKind.{ActorKind}
use Rattle.ffm_model.specs.declared.system.ActorKind.TheVariants.{Partition, Client, Device}
use Rattle.ffm_model.specs.declared.machine.Handle.{Handle}
use Rattle.ffm_model.specs.declared.machine.Call.{Call}
use Rattle.ffm_model.specs.declared.machine.Call.TheVariants as call
use Rattle.ffm_model.specs.declared.machine.Outcome.{Outcome}
use Rattle.ffm_model.specs.declared.machine.Outcome.TheVariants.{Value, Number, Done, Panicked}
use Rattle.ffm_model.specs.declared.objects.ActorPhase.TheVariants as phase
use Rattle.ffm_model.specs.Actors.{kind_of}
use Rattle.ffm_model.specs.State.{State, phase_of, with_phase}
use Rattle.ffm_model.specs.Panic.{panic_effect}
use Rattle.ffm_model.specs.ClientCalls.{Effect, effect, in_state, version_number, psa_connect, psa_call, psa_close, returned}
use Rattle.ffm_model.specs.ServiceCalls.{psa_wait, psa_get, psa_set_rhandle, psa_read, psa_skip, psa_write, psa_reply}
use Rattle.ffm_model.specs.SignalCalls.{psa_notify, psa_clear, psa_eoi, psa_irq_enable, psa_irq_disable, psa_reset_signal, raise, fire}
use Rattle.ffm_model.specs.Accesses.{load, store}

abbrev pub client_has : Call → Bool
client_has call.FrameworkVersion = true
client_has (call.Version sid) = true
client_has (call.Connect sid version) = true
client_has (call.Invoke h kind in_vec in_len out_vec out_len) = true
client_has (call.Close h) = true
client_has (call.Load address size) = true
client_has (call.Store address size value) = true
client_has (call.Stop spent) = true
client_has call.Resume = true
client_has _ = false

abbrev pub device_has : Call → Bool
device_has (call.Raise source) = true
device_has (call.Fire source result) = true
device_has (call.Stop spent) = true
device_has call.Resume = true
device_has _ = false

abbrev pub partition_has : Call → Bool
partition_has (call.Raise source) = false
partition_has (call.Fire source result) = false
partition_has _ = true

abbrev pub has_call : ActorKind → Call → Bool
has_call Partition c = partition_has c
has_call Client c = client_has c
has_call Device c = device_has c

-- the definition of each call; h is the handle that the event shows, where it gives one
abbrev pub call_case : System → State → ℕ → Call → Handle → Option Effect
call_case s st a call.FrameworkVersion h = Some (effect (Number PSA_FRAMEWORK_VERSION) st)
call_case s st a (call.Version sid) h = Some (effect (Number (version_number s a sid)) st)
call_case s st a (call.Connect sid version) h = option_map (in_state st) (psa_connect s st.spm a sid version)
call_case s st a (call.Invoke c kind in_vec in_len out_vec out_len) h = option_map (in_state st) (psa_call s st a c kind in_vec in_len out_vec out_len)
call_case s st a (call.Close c) h = option_map (in_state st) (psa_close st.spm a c)
call_case s st a (call.Wait mask timeout) h = option_map (in_state st) (psa_wait s st.spm a mask timeout)
call_case s st a (call.Get signal msg) h = psa_get s st a signal msg h
call_case s st a (call.SetRhandle m rhandle) h = option_map (in_state st) (psa_set_rhandle s st.spm a m rhandle)
call_case s st a (call.Read m index buffer len) h = psa_read s st a m index buffer len
call_case s st a (call.Skip m index len) h = option_map (in_state st) (psa_skip s st.spm a m index len)
call_case s st a (call.Write m index buffer len) h = psa_write s st a m index buffer len
call_case s st a (call.Reply m status) h = psa_reply s st a m status.0
call_case s st a (call.Notify partition) h = option_map (in_state st) (psa_notify s st.spm partition)
call_case s st a call.Clear h = option_map (in_state st) (psa_clear st.spm a)
call_case s st a (call.Eoi signal) h = option_map (in_state st) (psa_eoi s st.spm a signal)
call_case s st a (call.IrqEnable signal) h = option_map (in_state st) (psa_irq_enable s st.spm a signal)
call_case s st a (call.IrqDisable signal) h = option_map (in_state st) (psa_irq_disable s st.spm a signal)
call_case s st a (call.ResetSignal signal) h = option_map (in_state st) (psa_reset_signal s st.spm a signal)
call_case s st a call.Panic h = None
call_case s st a (call.Load address size) h = load s st a address size
call_case s st a (call.Store address size value) h = store s st a address size value
call_case s st a (call.Raise source) h = option_map (in_state st) (raise s st.spm source)
call_case s st a (call.Fire source result) h = option_map (in_state st) (fire s st.spm source result)
call_case s st a (call.Stop spent) h = Some (effect Done (record st { spm = with_phase st.spm a phase.Ended }))
call_case s st a call.Resume h = Some (returned s st a (phase_of st.spm a) h)

-- the same, where the kind of actor has the call
abbrev pub case_of : System → State → ℕ → Call → Handle → Option Effect
case_of s st a c h = if has_call (kind_of s a) c then call_case s st a c h else None

-- the handle to be shown doesn't bear on it
abbrev pub programmer_error : System → State → ℕ → Call → Bool
programmer_error s st a c = is_none (case_of s st a c (record { 0 = pos 0 }))

-- what a non-secure client is answered at a PROGRAMMER ERROR
abbrev pub refusal_of : Call → Outcome
refusal_of (call.Connect sid version) = Value PSA_ERROR_CONNECTION_REFUSED
refusal_of (call.Close h) = Done
refusal_of _ = Value PSA_ERROR_PROGRAMMER_ERROR

-- a PROGRAMMER ERROR panics a partition, and changes nothing for others
abbrev pub error_effect : ActorKind → System → State → ℕ → Call → Effect
error_effect Partition s st a c = effect Panicked (record st { spm = panic_effect s st.spm a })
error_effect Client s st a c = effect (refusal_of c) st
error_effect Device s st a c = effect (Value PSA_ERROR_PROGRAMMER_ERROR) st

abbrev pub effect_or_error : Option Effect → ActorKind → System → State → ℕ → Call → Effect
effect_or_error (Some e) k s st a c = e
effect_or_error None k s st a c = error_effect k s st a c

-- what an enabled actor's call answers and leaves
abbrev pub effect_of : System → State → ℕ → Call → Handle → Effect
effect_of s st a c h = effect_or_error (case_of s st a c h) (kind_of s a) s st a c
