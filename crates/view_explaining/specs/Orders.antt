-- Which files are read of which the first refusal is told, and what they give.
-- Source: this simulator's; the refusals are those of `ffm compile`, `ffm run` and `ffm replay`.
use Rattle.std.specs.Prelude.{ℕ, List, Option, None, Some, false, Result, Ok, Err}
use Rattle.std.specs.Option.{option_map}
use Rattle.command_words.specs.declared.words.Inspection.TheVariants.{Replay}
use Rattle.command_words.specs.Words.{Order, compile, judge, run}
use Rattle.ffm_model.specs.Reading.{Contents, Reading, Stop}
use Rattle.outside_io.specs.Files.{NoValue, stopped}
use Rattle.work_orders.specs.Work.{Work, work_of}
use Rattle.program_words.specs.declared.view.ExplainedNames.{ExplainedNames}

-- the files are those of `ffm compile`, `ffm run` or `ffm replay`
abbrev pub order_with : List ℕ → Option (List ℕ) → Option (List ℕ) → Order
order_with system None trace = compile system
order_with system (Some scenario) None = run false system scenario
order_with system (Some scenario) (Some trace) = judge Replay system scenario trace

abbrev pub order_explained : ExplainedNames → Order
order_explained names = order_with names.system.now (option_map (λ n. n.now) names.scenario) (option_map (λ n. n.now) names.trace)

-- which files are read, in which order, and what they give
abbrev pub files_explained : ExplainedNames → Contents → Reading Work
files_explained names of = work_of of (order_explained names)

-- what the files give, or why they stop
abbrev pub given : Result Work Stop → Result Work NoValue
given (Ok work) = Ok work
given (Err s) = Err (stopped s)
