use Rattle.std.proofs.Common.{Err, Global}
use Rattle.ffm_model.specs.Systems.{manifest_place}
use Rattle.outside_io.specs.declared.files.FileError.TheVariants.{Failed}
use Rattle.outside_io.proofs.FilesSteps.{asks_file}
use Rattle.system_json.proofs.manifests.manifest_bytes.Goals as goal

pub returns-in-Err-Failed : goal.returns-in-Err-Failed
returns-in-Err-Failed g c = asks_file {A = Global} (manifest_place c.args.number) _ _ (Err Failed) 1048576 c.args.name.now (rw c.in-Err-Failed.field-0-is at c.in-Err-Failed.ensures)
