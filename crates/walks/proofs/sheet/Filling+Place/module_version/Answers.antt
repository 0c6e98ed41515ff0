-- What stands at the place is checked. Assumes nothing.
use Rattle.std.proofs.Common.{◌≡◌, ◌<◌, ℕ, List, length, get_or, Some, sym, refl, ap, ◌∙◌, arith}
use Rattle.std.specs.List.{slice_get}
use Rattle.std.proofs.lemmas.Option.{slice_get_read}
use Rattle.walks.specs.declared.place.Place.{Place}
use Rattle.walks.specs.Fillings.{items_of}
use Rattle.walks.proofs.Fillings.{checked_there}
use Rattle.walks.proofs.sheet.Filling+Place.module_version.Goals as goal

read_at : (ps : List Place) (i at : ℕ) (p : Place) → i < length ps → p ≡ get_or ps i p → at ≡ i → slice_get ps at ≡ Some p
read_at ps i at p h g e = ap (slice_get ps) e ∙ slice_get_read ps (length ps) i p refl h g

pub returns : goal.returns
returns c =
    let ps = c.as_slice.result.now in
    let p = c.in_ok-get.field-0.now in
    let found = c.in_ok-get.ensures.lookup in
    let there : slice_get ps c.args.at ≡ Some p = read_at ps _ c.args.at p found.3.0 found.1 (omega arith) in
    record {
      value = checked_there (items_of c.args.self.now) c.args.at p (ap (λ (qs : List Place). slice_get qs c.args.at) (sym c.as_slice.ensures.value) ∙ there) c.check.result c.check.ensures;
    }
