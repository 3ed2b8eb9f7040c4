use Rattle.ffm_top.specs.Report.{status_of, text_of}
use Rattle.ffm_top.proofs.Answering.{answered_no_memory, answered_part, answered_undone, answered_unread, answered_whole}
use Rattle.ffm_top.proofs.top.ffm_by.Goals as goal

pub returns-in-Ok-write_report : goal.returns-in-Ok-write_report
returns-in-Ok-write_report g c =
    let report = c.in-Ok-perform.report in
    rw c.status.ensures (answered_whole _ _ _ _ _ _ c.in-Ok.asked (text_of report) (status_of report) c.in-Ok.ensures.asks c.in-Ok.ensures.threads c.in-Ok-perform.ensures.due c.in-Ok-write_report.ensures)

pub returns-in-Ok-perform : goal.returns-in-Ok-perform
returns-in-Ok-perform g c =
    let report = c.in-Ok-perform.report in
    answered_part _ _ _ _ _ _ c.in-Ok.asked (text_of report) (status_of report) c.in-Ok.ensures.asks c.in-Ok.ensures.threads c.in-Ok-perform.ensures.due c.in-Err-write_report.ensures

pub returns-in-Ok : goal.returns-in-Ok
returns-in-Ok g c = answered_undone _ _ _ _ _ c.in-Ok.asked c.in-Ok.ensures.asks c.in-Err.ensures.usage

pub returns-in-Err-File : goal.returns-in-Err-File
returns-in-Err-File g c = answered_unread _ _ _ _ _ (rw c.in-Err-File.field-0-is at c.in-Err-File.ensures.asks)

pub returns : goal.returns
returns g c = answered_no_memory _ _ _ _ _ (rw c.in-Err-Memory.field-0-is at c.in-Err-Memory.ensures.asks)
