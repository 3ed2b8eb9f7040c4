use Rattle.std.proofs.Common.{◌≡◌}
use Rattle.command_words.specs.declared.words.Inspection.TheVariants.{Replay}
use Rattle.view_commands.proofs.FilesDue.{files_read, refused_read}
use Rattle.view_commands.proofs.files.read_files.Goals as goal

pub returns-in-Ok-Judge-clause-read : goal.returns-in-Ok-Judge-clause-read
returns-in-Ok-Judge-clause-read g c =
    let e = rw c.in-Ok-Judge.field-0-is at c.in-Ok-Judge.ensures.inspection in
    let replay : c.in-Ok-Judge.work.inspection ≡ Replay = cc in
    files_read c.args.names _ _ c.in-Ok-Judge.work c.with_trace.result replay (rw c.in-Ok-Judge.field-0-is at c.in-Ok-Judge.ensures.asks) c.with_trace.ensures

pub returns-in-Err-Refused-clause-read : goal.returns-in-Err-Refused-clause-read
returns-in-Err-Refused-clause-read g c =
    refused_read c.args.names _ _ c.in-Err-Refused.refusal c.refused.result (rw c.in-Err-Refused.field-0-is at c.in-Err-Refused.ensures.asks) c.refused.ensures
