-- Which calls belong together.
-- Source: `psa/client.h` and `psa/service.h`; loads, stores, interrupts of the device and stops are this simulator's.
use Rattle.ffm_model.specs.declared.machine.Call.{Call}
use Rattle.ffm_model.specs.declared.machine.Call.TheVariants as call
use Rattle.ffm_model.specs.declared.groups.Group.{Group}
use Rattle.ffm_model.specs.declared.groups.Group.TheVariants.{Client, Service, Transfer, Signal, Memory, Actor}

abbrev pub group_of : Call → Group
group_of call.FrameworkVersion = Client
group_of (call.Version sid) = Client
group_of (call.Connect sid version) = Client
group_of (call.Invoke h kind in_vec in_len out_vec out_len) = Client
group_of (call.Close h) = Client
group_of (call.Wait mask timeout) = Service
group_of (call.Get signal msg) = Service
group_of (call.SetRhandle h rhandle) = Service
group_of (call.Reply h status) = Service
group_of (call.Read h index buffer len) = Transfer
group_of (call.Skip h index len) = Transfer
group_of (call.Write h index buffer len) = Transfer
group_of (call.Notify partition) = Signal
group_of call.Clear = Signal
group_of (call.Eoi signal) = Signal
group_of (call.IrqEnable signal) = Signal
group_of (call.IrqDisable signal) = Signal
group_of (call.ResetSignal signal) = Signal
group_of (call.Raise source) = Signal
group_of (call.Fire source result) = Signal
group_of (call.Load address size) = Memory
group_of (call.Store address size value) = Memory
group_of call.Panic = Actor
group_of (call.Stop spent) = Actor
group_of call.Resume = Actor
