use Rattle.law_examples.proofs.Worked.{programs_in_range, versions, wide_call_misfits, wide_call_run, wide_load_misfits, wide_load_run, zeros_are_bytes}
use Rattle.law_examples.proofs.scenarios.ranges_are_needed.Goals as goal

pub returns : goal.returns
returns c = record { versions = versions; programs = programs_in_range; bytes = zeros_are_bytes; wide_line = wide_call_run; wide_line_misfits = wide_call_misfits; wide_byte = wide_load_run; wide_byte_misfits = wide_load_misfits }
