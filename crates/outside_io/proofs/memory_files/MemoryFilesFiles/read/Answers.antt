use Rattle.std.proofs.Common.{◌∙◌}
use Rattle.outside_io.proofs.MemoryReads.{failed_read}
use Rattle.outside_io.proofs.memory_files.MemoryFilesFiles.read.Goals as goal

pub returns-then-is_listed-clause-reads : goal.returns-then-is_listed-clause-reads
returns-then-is_listed-clause-reads c =
    failed_read _ _ _ _ _ _ _ _ c.fail.result c.args.limit c.args.name.now c.fail.ensures.keeps c.fail.ensures.kind (c.fail.ensures.reads ∙ c.in_ok-keep.ensures.kept) c.fail.ensures.later
    c.fail.ensures.failed c.fail.ensures.not_failed c.fail.ensures.named c.fail.ensures.unnamed

pub returns-in-None-clause-reads : goal.returns-in-None-clause-reads
returns-in-None-clause-reads c =
    failed_read _ _ _ _ _ _ _ _ c.fail-in-None.result c.args.limit c.args.name.now c.fail-in-None.ensures.keeps c.fail-in-None.ensures.kind (c.fail-in-None.ensures.reads ∙ c.in_ok-keep.ensures.kept) c.fail-in-None.ensures.later
    c.fail-in-None.ensures.failed c.fail-in-None.ensures.not_failed c.fail-in-None.ensures.named c.fail-in-None.ensures.unnamed
