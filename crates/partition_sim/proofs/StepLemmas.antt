-- A context, before and after its calls, by the point where its script goes on.
-- Source: this simulator's.
use Rattle.std.proofs.Common.{◌≡◌, List, true, false, ap, ap₂, sym, ◌∙◌, true≢false}
use Rattle.ffm_model.specs.declared.machine.Outcome.{Outcome}
use Rattle.ffm_model.specs.declared.script.Instruction.{Instruction}
use Rattle.ffm_model.specs.ScriptRuns.{Point, arrived, behind, call_at, noted, place_after, point}
use Rattle.partition_sim.specs.declared.context.Context.{Context}
use Rattle.partition_sim.specs.Clients.{AtCall, Reaches}

-- a context that stands at its call
pub still : (script : List Instruction) (p : Point) (c : Context) → AtCall script p c → Reaches script p c
still script p c a = record { begins = λ e. absurd (true≢false (sym a.is_ready ∙ e)); stands = λ e. a }

pub settled : (script : List Instruction) (p : Point) (old new : Context) → old.ready ≡ false → new.ready ≡ true
    → point new.registers new.place ≡ arrived script (point old.registers old.place)
    → new.call ≡ call_at script (point new.registers new.place) → new.after ≡ place_after script new.place → Reaches script p old → AtCall script p new
settled script p old new off on here call after r =
    let at : point new.registers new.place ≡ arrived script p = here ∙ ap (arrived script) (r.begins off) in
    record { is_ready = on; here = at; call_is = call ∙ ap (call_at script) at; after_is = after }

pub taken : (script : List Instruction) (p : Point) (o : Outcome) (old new : Context) → new.registers ≡ noted o old.registers → new.place ≡ old.after → new.ready ≡ false
    → AtCall script p old → Reaches script (behind script o (arrived script p)) new
taken script p o old new registers place off a = record {
  begins = λ e. ap₂ point registers (place ∙ a.after_is) ∙ ap (behind script o) a.here;
  stands = λ e. absurd (true≢false (sym e ∙ off));
}
