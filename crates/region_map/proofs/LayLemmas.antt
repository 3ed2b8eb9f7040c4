-- Answers of a layout.
use Rattle.std.proofs.Common.{◌≡◌, List, [], ◌∷◌, ◌∙◌, ap, sym, refl, subst, Option, Some, None, option_map}
use Rattle.std.specs.Prelude.{Result, Ok, Err, IsErrAnd}
use Rattle.std.specs.List.{filter_map}
use Rattle.ffm_model.specs.declared.system.Region.{Region}
use Rattle.ffm_model.specs.ManifestItems.{MmioRecord}
use Rattle.ffm_model.specs.PartsItems.{PartsRecord, RegionRecord}
use Rattle.ffm_model.specs.Repeats.{first}
use Rattle.ffm_model.specs.Layout.{Located, mmio_items, mmio_of, mmio_placed, unknown_items, overlaps, too_large, TooLarge as Large, partition_ram, mmio_item, non_secure_ram, all_regions}
use Rattle.region_map.specs.Seen.{spot}
use Rattle.region_map.specs.declared.error.LayoutError.{LayoutError}
use Rattle.region_map.specs.declared.error.LayoutError.TheVariants.{Unknown, Overlap, TooLarge, Memory}
use Rattle.region_map.specs.Layouts.{LaysOut, large_error}
use Rattle.region_map.specs.Placements.{IsUnknown, unknown_in}

unknown_at : (p : PartsRecord) (items : List (Located MmioRecord)) → items ≡ unknown_items p → (e : LayoutError) → IsUnknown items e → LaysOut p (Err e)
unknown_at p items same (Unknown manifest item) h = ap (λ xs. option_map spot (first xs)) (sym same) ∙ h
unknown_at p items same (Overlap manifest item) h = absurd h
unknown_at p items same (TooLarge manifest item total) h = absurd h
unknown_at p items same Memory h = tt

-- the error is given on
pub unknown_lays : (p : PartsRecord) (items : List (Located MmioRecord)) (r : Result (List Region) LayoutError) (e : LayoutError)
    → items ≡ unknown_items p → IsUnknown items e → IsErrAnd r (λ f. f ≡ e) → LaysOut p r
unknown_lays p items (Ok regions) e same h given = absurd given
unknown_lays p items (Err f) e same h given = subst (λ (y : LayoutError). LaysOut p (Err y)) (sym given) (unknown_at p items same e h)

-- what the calls speak of is what the parts say
pub unknown_same : (p : PartsRecord) (regions : List RegionRecord) (items : List (Located MmioRecord)) → regions ≡ p.regions → items ≡ mmio_items p → unknown_in regions items ≡ unknown_items p
unknown_same p regions items e f = ap (λ rs. unknown_in rs items) e ∙ ap (unknown_in p.regions) f

pub placed_same : (p : PartsRecord) (regions : List RegionRecord) (items : List (Located MmioRecord)) → regions ≡ p.regions → items ≡ mmio_items p → filter_map (mmio_placed regions) items ≡ mmio_of p
placed_same p regions items e f = ap (λ rs. filter_map (mmio_placed rs) items) e ∙ ap (filter_map (mmio_placed p.regions)) f

pub none_first : {A B : Type 0} (f : A → B) (xs : List A) → None ≡ option_map f (first xs) → xs ≡ []
none_first f [] e = refl
none_first f (x ∷ xs) e = cc

large_at : (p : PartsRecord) → unknown_items p ≡ [] → overlaps p ≡ [] → (x : Large) → first (too_large p) ≡ Some x → LaysOut p (Err (large_error x))
large_at p known apart (partition_ram k) is = (known, apart, ap (option_map large_error) is)
large_at p known apart (mmio_item k i) is = (known, apart, ap (option_map large_error) is)
large_at p known apart non_secure_ram is = (known, apart, ap (option_map large_error) is)
large_at p known apart all_regions is = (known, apart, ap (option_map large_error) is)

large_of : (p : PartsRecord) (e : LayoutError) (o : Option Large) → unknown_items p ≡ [] → overlaps p ≡ [] → first (too_large p) ≡ o → Some e ≡ option_map large_error o → LaysOut p (Err e)
large_of p e None known apart is h = cc
large_of p e (Some x) known apart is h = let same : large_error x ≡ e = cc in subst (λ (y : LayoutError). LaysOut p (Err y)) same (large_at p known apart x is)

pub large_lays : (p : PartsRecord) (e : LayoutError) → unknown_items p ≡ [] → overlaps p ≡ [] → Some e ≡ option_map large_error (first (too_large p)) → LaysOut p (Err e)
large_lays p e known apart h = large_of p e (first (too_large p)) known apart refl h
