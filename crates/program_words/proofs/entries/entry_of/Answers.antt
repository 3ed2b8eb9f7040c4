use Rattle.std.proofs.Common.{◌≡◌, ◌++◌, ◌∙◌, subst, sym}
use Rattle.std.specs.Prelude.{Err, Ok}
use Rattle.std.specs.List.{AllByRecursion}
use Rattle.ffm_model.specs.Actors.{counts_of}
use Rattle.ffm_model.specs.TraceText.{EntryFits, trace_text}
use Rattle.program_words.proofs.EntryTexts.{Reads, end, line_read, no_line}
use Rattle.program_words.proofs.entries.entry_of.Goals as goal

pub returns-in-Ok : goal.returns-in-Ok
returns-in-Ok c =
    let text = c.args.line.now in
    let counts = counts_of c.args.system.now in
    let bytes : c.as_bytes.result.now ≡ text ++ end = c.as_bytes.ensures.value ∙ c.in_ok-text.ensures.ok in
    let same : c.counts.result ≡ counts = c.counts.ensures in
    let t = c.in-Ok.trace in
    let found = sym bytes ∙ subst (λ k. c.as_bytes.result.now ≡ trace_text k t.entries t.verdict) same c.in-Ok.ensures.found in
    let fits = subst (λ k. AllByRecursion (EntryFits k) t.entries) same c.in-Ok.ensures.fits in
    let reads : Reads counts text (Ok t) = λ es v fit few is.
    c.in-Ok.ensures.only es v (subst (λ k. AllByRecursion (EntryFits k) es) (sym same) fit) few (bytes ∙ subst (λ k. text ++ end ≡ trace_text k es v) (sym same) is) in
    line_read c.args.system.now text t c.only_entry.result found fits reads c.only_entry.ensures

pub returns-in-Err-Syntax : goal.returns-in-Err-Syntax
returns-in-Err-Syntax c =
    let text = c.args.line.now in
    let counts = counts_of c.args.system.now in
    let bytes : c.as_bytes.result.now ≡ text ++ end = c.as_bytes.ensures.value ∙ c.in_ok-text.ensures.ok in
    let same : c.counts.result ≡ counts = c.counts.ensures in
    let reads : Reads counts text (Err c.in-Err-Syntax.field-0) = λ es v fit few is.
    c.in-Err-Syntax.ensures.only es v (subst (λ k. AllByRecursion (EntryFits k) es) (sym same) fit) few (bytes ∙ subst (λ k. text ++ end ≡ trace_text k es v) (sym same) is) in
    no_line c.args.system.now text c.in-Err-Syntax.field-0-0 (rw c.in-Err-Syntax.field-0-is at reads)
