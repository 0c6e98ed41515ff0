-- Two rows are equal where the orders of their texts say so. Assumes nothing.
use Rattle.std.proofs.Common.{Bool, true, ◌&&◌, ap, ◌∙◌}
use Rattle.std.specs.Ordering.{is_eq}
use Rattle.std.specs.Str.{bytes_eq}
use Rattle.rules.specs.Paths.{path_order}
use Rattle.rules.proofs.Order.{paths, versions, laws_of}
use Rattle.names.specs.Paths.{plain_path_bytes}
use Rattle.names.specs.FormedLemmas.{plain_tied}
use Rattle.versions.specs.Values.{plain_version_bytes}
use Rattle.walks.proofs.sheet.is_same.Goals as goal

pub returns : goal.returns
returns c =
    let r = c.args.row.now in
    let o = c.args.other.now in
    let versions_equal : Bool = bytes_eq (plain_version_bytes r.version) (plain_version_bytes o.version) && true in
    record {
      value = c.eq.ensures
          ∙ ap (λ (b : Bool). b && versions_equal) (plain_tied (laws_of paths) r.path o.path)
          ∙ ap (λ (b : Bool). is_eq (path_order (plain_path_bytes r.path) (plain_path_bytes o.path)) && b) (plain_tied (laws_of versions) r.version o.version);
    }
