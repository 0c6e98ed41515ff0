-- What is listed is what the shelf means. Assumes nothing.
use Rattle.std.proofs.Common.{◌≡◌, List, length, sym, refl, ap, ◌∙◌}
use Rattle.std.specs.Option.{option_map}
use Rattle.rules.specs.Orders.{Bytes}
use Rattle.rules.specs.Questions.{told}
use Rattle.rules.specs.Slices.{blank_version}
use Rattle.names.specs.Paths.{path_bytes}
use Rattle.modules.specs.Tables.{listing_bytes}
use Rattle.ordered.specs.Held.{fitting}
use Rattle.fields.specs.Pairs.{pairs_in}
use Rattle.bottoms.specs.Items.{versions_in, version_table, listing_answer}
use Rattle.bottoms.proofs.Entering.{answers_listing}
use Rattle.shelf.specs.Laws.{shelf_formed}
use Rattle.shelf.specs.Records.{records, record_version, shelf_meaning}
use Rattle.shelf.proofs.Paired.{whole_versions_held}
use Rattle.shelf.proofs.questions.ShelfListingSource.versions.Goals as goal

pub returns : goal.returns
returns c =
    let n = length c.args.versions.now in
    let table : Bytes → List Bytes = λ p. version_table (versions_in record_version p (records (pairs_in c.args.self.now.bytes.now))) in
    let is : listing_answer (option_map listing_bytes c.list_versions.result) ≡ (shelf_meaning c.args.self.now.bytes.now).listing (path_bytes c.args.of.now)
    = ap listing_answer (c.list_versions.ensures.value ∙ ap (λ vs. fitting 64 (version_table vs)) (whole_versions_held _ (pairs_in c.args.self.now.bytes.now) (shelf_formed c.args.self.now.bytes.now c.args.self.now.ok)) ∙ ap (λ p. fitting 64 (table p)) c.as_bytes.ensures.value) ∙ sym (answers_listing (table (path_bytes c.args.of.now))) in
    record {
      same = refl;
      inside = refl;
      value = c.answer_listing.ensures.value ∙ ap (λ a. (told blank_version n a).answer) is;
      items = c.answer_listing.ensures.items ∙ ap (λ a. (told blank_version n a).slice) is;
    }
