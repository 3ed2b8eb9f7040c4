-- A scenario and its programs, and then work of them.
use Rattle.std.proofs.Common.{◌≡◌, List, Result, Ok, Err}
use Rattle.actor_programs.specs.declared.program.Program.{Program}
use Rattle.ffm_model.specs.declared.place.ReadError.{ReadError}
use Rattle.ffm_model.specs.declared.scenario.Scenario.{Scenario}
use Rattle.ffm_model.specs.Reading.{Contents, Reading, Reads, Stop, ◌>>=◌, asks_nothing, parts_error_of}
use Rattle.outside_io.specs.Files.{Asks, FilesSeen, NoValue, no_value_of}
use Rattle.outside_io.proofs.FilesSteps.{asks_pure, asks_stops, asks_then}
use Rattle.work_orders.specs.Work.{Work}

-- a scenario, its programs, what it is run as, and then work of them
abbrev pub work_with : (Contents → Reading Scenario) → (Scenario → Result (List Program) Stop) → (Scenario → Result Scenario Stop) → (Contents → List Program → Scenario → Reading Work) → Contents → Reading Work
work_with scenario programs single last of = scenario of >>= λ c. asks_nothing (programs c) >>= λ ps. asks_nothing (single c) >>= λ runs. last of ps runs

-- no scenario
pub no_scenario : (a b : FilesSeen) (e : NoValue) (scenario : Contents → Reading Scenario) (programs : Scenario → Result (List Program) Stop) (single : Scenario → Result Scenario Stop) (last : Contents → List Program → Scenario → Reading Work)
    → Asks {A = Scenario} a b (Err e) scenario → Asks {A = Work} a b (Err e) (work_with scenario programs single last)
no_scenario a b e scenario programs single last p = asks_stops a b e scenario (λ of c. asks_nothing (programs c) >>= λ ps. asks_nothing (single c) >>= λ runs. last of ps runs) p

-- no programs
pub no_programs : (a b : FilesSeen) (e : ReadError) (scenario : Contents → Reading Scenario) (programs : Scenario → Result (List Program) Stop) (single : Scenario → Result Scenario Stop) (last : Contents → List Program → Scenario → Reading Work) (c : Scenario)
    → Asks a b (Ok c) scenario → Reads (λ (ps : List Program). ps) (Err e) (programs c) → Asks {A = Work} a b (Err (no_value_of (parts_error_of e))) (work_with scenario programs single last)
no_programs a b e scenario programs single last c p q =
    asks_then a b b (Err (no_value_of (parts_error_of e))) scenario (λ of c. asks_nothing (programs c) >>= λ ps. asks_nothing (single c) >>= λ runs. last of ps runs) c p
    (asks_stops b b (no_value_of (parts_error_of e)) (λ of. asks_nothing (programs c)) (λ of ps. asks_nothing (single c) >>= λ runs. last of ps runs) (asks_pure b (λ (ps : List Program). ps) (Err e) (programs c) q))

-- what comes after the programs
pub after_programs : (a b d : FilesSeen) (r : Result Work NoValue) (scenario : Contents → Reading Scenario) (programs : Scenario → Result (List Program) Stop) (single : Scenario → Result Scenario Stop) (last : Contents → List Program → Scenario → Reading Work) (c : Scenario) (ps : List Program)
    → Asks a b (Ok c) scenario → programs c ≡ Ok ps → Asks b d r (λ of. asks_nothing (single c) >>= λ runs. last of ps runs) → Asks a d r (work_with scenario programs single last)
after_programs a b d r scenario programs single last c ps p q rest =
    asks_then a b d r scenario (λ of c. asks_nothing (programs c) >>= λ ps. asks_nothing (single c) >>= λ runs. last of ps runs) c p
    (asks_then b b d r (λ of. asks_nothing (programs c)) (λ of ps. asks_nothing (single c) >>= λ runs. last of ps runs) ps (asks_pure b (λ (ps : List Program). ps) (Ok ps) (programs c) q) rest)

-- there may be no such run
pub no_run : (a b : FilesSeen) (e : ReadError) (scenario : Contents → Reading Scenario) (programs : Scenario → Result (List Program) Stop) (single : Scenario → Result Scenario Stop) (last : Contents → List Program → Scenario → Reading Work) (c : Scenario) (ps : List Program)
    → Asks a b (Ok c) scenario → programs c ≡ Ok ps → Reads (λ (c : Scenario). c) (Err e) (single c) → Asks {A = Work} a b (Err (no_value_of (parts_error_of e))) (work_with scenario programs single last)
no_run a b e scenario programs single last c ps p q s =
    after_programs a b b (Err (no_value_of (parts_error_of e))) scenario programs single last c ps p q
    (asks_stops b b (no_value_of (parts_error_of e)) (λ of. asks_nothing (single c)) (λ of runs. last of ps runs) (asks_pure b (λ (c : Scenario). c) (Err e) (single c) s))

-- and then the last step decides
pub with_run : (a b d : FilesSeen) (r : Result Work NoValue) (scenario : Contents → Reading Scenario) (programs : Scenario → Result (List Program) Stop) (single : Scenario → Result Scenario Stop) (last : Contents → List Program → Scenario → Reading Work) (c : Scenario) (ps : List Program) (runs : Scenario)
    → Asks a b (Ok c) scenario → programs c ≡ Ok ps → single c ≡ Ok runs → Asks b d r (λ of. last of ps runs) → Asks a d r (work_with scenario programs single last)
with_run a b d r scenario programs single last c ps runs p q s rest =
    after_programs a b d r scenario programs single last c ps p q
    (asks_then b b d r (λ of. asks_nothing (single c)) (λ of runs. last of ps runs) runs (asks_pure b (λ (c : Scenario). c) (Ok runs) (single c) s) rest)
