-- One way for each answer of the table, and one where no version is held. Assumes nothing.
use Rattle.std.proofs.Common.{◌≡◌, ltb, leb, List, length, Err, sym, refl, ap, ◌∙◌}
use Rattle.std.specs.Option.{option_map}
use Rattle.std.proofs.lemmas.Bool.{le-leb}
use Rattle.rules.specs.Orders.{Bytes}
use Rattle.rules.specs.Versions.{version_order}
use Rattle.rules.specs.Tables.{lookup}
use Rattle.rules.specs.Rows.{own}
use Rattle.ordered.specs.Held.{admitted}
use Rattle.ordered.specs.declared.table.NotInserted.TheVariants.{Present, Full}
use Rattle.versions.specs.Values.{plain_version_bytes}
use Rattle.modules.specs.Tables.{listing_bytes}
use Rattle.bottoms.specs.Items.{entered_held}
use Rattle.bottoms.proofs.Entering.{listing_fits, room_left, there_already, no_room}
use Rattle.bottoms.proofs.listed.list_held.Goals as goal

pub returns-in-Ok : goal.returns-in-Ok
returns-in-Ok c =
    let t = listing_bytes c.args.listing.now in
    let is = ap (λ o. entered_held (option_map plain_version_bytes o) t) (sym c.in-Some.is) in
    record {
      value = sym (room_left (plain_version_bytes c.in-Some.version) t c.in-Ok.ensures.value) ∙ ap (λ (ys : List Bytes). leb (length ys) 64) is;
      after = c.in-Ok.ensures.after refl ∙ is;
    }

pub returns-in-Err-Present : goal.returns-in-Err-Present
returns-in-Err-Present c =
    let t = listing_bytes c.args.listing.now in
    let v = plain_version_bytes c.in-Some.version in
    let e : Err Present ≡ admitted (lookup own version_order v t) (ltb (length t) 64) = cc c.in-Err-Present.ensures.value in
    let same = there_already v t e in
    let is = ap (λ o. entered_held (option_map plain_version_bytes o) t) (sym c.in-Some.is) in
    record {
      value = sym (ap (λ (ys : List Bytes). leb (length ys) 64) (sym same) ∙ le-leb _ _ (listing_fits c.args.listing.now)) ∙ ap (λ (ys : List Bytes). leb (length ys) 64) is;
      after = ap listing_bytes (c.in-Err-Present.ensures.refused refl) ∙ same ∙ is;
    }

pub returns-in-Err-Full : goal.returns-in-Err-Full
returns-in-Err-Full c =
    let t = listing_bytes c.args.listing.now in
    let v = plain_version_bytes c.in-Some.version in
    let e : Err Full ≡ admitted (lookup own version_order v t) (ltb (length t) 64) = cc c.in-Err-Full.ensures.value in
    let is = ap (λ o. entered_held (option_map plain_version_bytes o) t) (sym c.in-Some.is) in
    record { value = sym (no_room v t e) ∙ ap (λ (ys : List Bytes). leb (length ys) 64) is; after = ap listing_bytes (c.in-Err-Full.ensures.refused refl) }
