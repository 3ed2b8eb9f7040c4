use Rattle.std.proofs.Common.{[], ◌∙◌, sym}
use Rattle.std.specs.Str.{bytes_eq}
use Rattle.std.proofs.lemmas.List.Quantifiers.{position-Some}
use Rattle.ffm_model.specs.PartsItems.{RegionRecord}
use Rattle.region_map.proofs.DirectoryLemmas.{position_found, position_none, got}
use Rattle.region_map.proofs.directory.Directory.find.Goals as goal

pub returns-in-Some-get : goal.returns-in-Some-get
returns-in-Some-get c =
    let p = λ (r : RegionRecord). bytes_eq r.name c.args.name.now in
    let at = sym (c.in-Some-get.ensures.value ∙ c.args.self.now.first c.in-Some.places c.in-Some.is c.args.name.now) in
    let none : RegionRecord = record { name = []; base = 0; size = 0 } in
    let below = (position-Some p c.args.self.now.regions.now c.in-Some-get.place.now none at).0 in
    let lookup = c.get-in-Some-get.ensures.lookup in
    got _ _ _ below lookup.1 (lookup.2 below) ∙ position_found p _ _ at

pub returns-in-None : goal.returns-in-None
returns-in-None c =
    sym (position_none (λ r. bytes_eq r.name c.args.name.now) _ (sym (c.in-None.ensures.value ∙ c.args.self.now.first c.in-Some.places c.in-Some.is c.args.name.now)))
