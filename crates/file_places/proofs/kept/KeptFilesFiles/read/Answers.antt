use Rattle.std.proofs.Common.{Ok, subst, sym}
use Rattle.outside_io.specs.Files.{ReadsFile}
use Rattle.file_places.proofs.KeptLemmas.{one_kept}
use Rattle.file_places.proofs.kept.KeptFilesFiles.read.Goals as goal
use Rattle.file_places.specs.KeptSeen.{KeepsOne, kept_by, seen_through, told_beside}

pub returns-in-Ok : goal.returns-in-Ok
returns-in-Ok g c =
    let bytes = c.in_ok-bytes.bytes in
    let before = kept_by c.args.self.now in
    let after = kept_by c.keep.new.self in
    let keeps : KeepsOne before after c.args.name.now bytes.items = subst (KeepsOne before after c.args.name.now) c.deref.ensures.value c.in-Ok.ensures.kept in
    subst (λ files. ReadsFile (seen_through g.F.Files.seen c.args.self.now) (told_beside (g.F.Files.seen files) after) (Ok bytes) c.args.limit c.args.name.now)
    (sym c.in-Ok.ensures.files)
    (one_kept _ _ before after bytes c.args.limit c.args.name.now c.in_ok-bytes.ensures keeps)
