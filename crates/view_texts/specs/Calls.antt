-- The names of the calls, each at its place.
-- Source: `psa/client.h` and `psa/service.h` of FF-M 1.0; load, store, raise, fire, stop and resume are this simulator's.
use Rattle.std.specs.Prelude.{ℕ, List, [], ◌∷◌, slice_get, codes}
use Rattle.std.specs.Option.{option_map_or}
use Rattle.ffm_model.specs.declared.machine.Call.{Call}
use Rattle.ffm_model.specs.declared.machine.Call.TheVariants as call
use Rattle.ffm_model.specs.TraceText.{Word}

-- the place of a call's name
abbrev pub place_of : Call → ℕ
place_of call.FrameworkVersion = 0
place_of (call.Version sid) = 1
place_of (call.Connect sid version) = 2
place_of (call.Invoke handle kind in_vec in_len out_vec out_len) = 3
place_of (call.Close handle) = 4
place_of (call.Wait mask timeout) = 5
place_of (call.Get signal msg) = 6
place_of (call.SetRhandle handle rhandle) = 7
place_of (call.Read handle index buffer len) = 8
place_of (call.Skip handle index len) = 9
place_of (call.Write handle index buffer len) = 10
place_of (call.Reply handle status) = 11
place_of (call.Notify partition) = 12
place_of call.Clear = 13
place_of (call.Eoi signal) = 14
place_of (call.IrqEnable signal) = 15
place_of (call.IrqDisable signal) = 16
place_of (call.ResetSignal signal) = 17
place_of call.Panic = 18
place_of (call.Load address size) = 19
place_of (call.Store address size value) = 20
place_of (call.Raise source) = 21
place_of (call.Fire source value) = 22
place_of (call.Stop spent) = 23
place_of call.Resume = 24

-- all names, each once
unfoldable pub call_names : List Word
call_names =
    codes "psa_framework_version" ∷ codes "psa_version" ∷ codes "psa_connect" ∷ codes "psa_call" ∷ codes "psa_close"
    ∷ codes "psa_wait" ∷ codes "psa_get" ∷ codes "psa_set_rhandle" ∷ codes "psa_read" ∷ codes "psa_skip" ∷ codes "psa_write"
    ∷ codes "psa_reply" ∷ codes "psa_notify" ∷ codes "psa_clear" ∷ codes "psa_eoi" ∷ codes "psa_irq_enable"
    ∷ codes "psa_irq_disable" ∷ codes "psa_reset_signal" ∷ codes "psa_panic" ∷ codes "load" ∷ codes "store" ∷ codes "raise"
    ∷ codes "fire" ∷ codes "stop" ∷ codes "resume" ∷ []

abbrev pub name_in : List Word → ℕ → Word
name_in names place = option_map_or (λ n. n) (slice_get names place) []

-- the name at a place
unfoldable pub name_at : ℕ → Word
name_at place = name_in call_names place

-- the name of a call
abbrev pub call_name : Call → Word
call_name c = name_at (place_of c)
