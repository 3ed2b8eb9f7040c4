-- A run is a legal trace of the programs' calls, and such a trace is a run.
use Rattle.std.proofs.Common.{Bool, List}
use Rattle.ffm_model.specs.declared.machine.Entry.{Entry}
use Rattle.ffm_model.specs.declared.machine.Verdict.{Verdict}
use Rattle.ffm_model.specs.declared.scenario.Scenario.{Scenario}
use Rattle.ffm_model.specs.declared.system.System.{System}
use Rattle.ffm_model.specs.Memory.{ByteMap}
use Rattle.actor_programs.specs.declared.program.Program.{Program}
use Rattle.law_calls.proofs.KeptPromises.{run_keeps}
use Rattle.law_texts.proofs.JudgedLemmas.{judged_plainly}
use Rattle.law_texts.specs.Plain.{IsLegal, JudgedPlainly}
use Rattle.scenario_runs.proofs.Programs.{programs_keep}
use Rattle.scenario_runs.specs.Runs.{RanBy}
use Rattle.law_texts.specs.Legal.{AreRunsWherePlayed, IsPlayed}

module _ (s : System) (m : ByteMap) (c : Scenario) (programs : List Program) (threads : Bool) (es : List Entry) (v : Verdict) where
  plainly : JudgedPlainly s m c.limit es v
  plainly = judged_plainly s m c.limit es v

  played : RanBy s m c programs threads es v → IsPlayed s m c programs threads es v
  played ran = record {
    legal = plainly.legal.1 (record { run = ran.is_run; within = ran.within; verdict = ran.verdict });
    programmed = ran.programmed;
    named = ran.named;
    scheduled = ran.scheduled;
  }

  ran_by : IsPlayed s m c programs threads es v → RanBy s m c programs threads es v
  ran_by p =
      let legal : IsLegal s m c.limit es v = plainly.legal.0 p.legal in
      record {
        is_run = legal.run;
        within = legal.within;
        kept = run_keeps s m es legal.run;
        verdict = legal.verdict;
        programmed = p.programmed;
        mapped = programs_keep s m programs es p.programmed;
        named = p.named;
        scheduled = p.scheduled;
      }

pub are_runs_where_played : (s : System) (m : ByteMap) (c : Scenario) (programs : List Program) (threads : Bool) → AreRunsWherePlayed s m c programs threads
are_runs_where_played s m c programs threads es v = (played s m c programs threads es v, ran_by s m c programs threads es v)
