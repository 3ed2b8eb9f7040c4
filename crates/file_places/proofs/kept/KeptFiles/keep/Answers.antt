use Rattle.file_places.proofs.KeptLemmas.{kept_one}
use Rattle.file_places.proofs.kept.KeptFiles.keep.Goals as goal
use Rattle.file_places.specs.KeptSeen.{kept_by}

pub returns-clause-kept : goal.returns-clause-kept
returns-clause-kept g c =
    kept_one (kept_by c.args.self.now) c.push.new.self.items (record { name = c.in_ok-from_str.field-0; bytes = c.in_ok-from_slice.field-0 }) c.args.name.now c.args.bytes.now
    c.in_ok-from_str.ensures.ok c.in_ok-from_slice.ensures.items c.in_ok-push.ensures.items
