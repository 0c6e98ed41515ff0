-- What is written, and blanks behind it. Assumes nothing.
use Rattle.std.proofs.Common.{rules, map, sym, ap, ◌∙◌, arith}
use Rattle.rules.specs.Slices.{blank, blank_place}
use Rattle.names.specs.Paths.{path_bytes}
use Rattle.modules.specs.Rows.{row_names, names_of}
use Rattle.walks.specs.Listed.{Listed, lent}
use Rattle.walks.specs.Places.{place_of}
use Rattle.walks.specs.Views.{seen_by}
use Rattle.walks.proofs.Listing.{blanked, both, laid_in, given, given_short}
use Rattle.walks.proofs.list.list.Goals as goal

pub returns-then-not-are_long-clause-after : goal.returns-then-not-are_long-clause-after
returns-then-not-are_long-clause-after g c =
    let sheet = c.args.sheet.now in
    let list = c.args.list.now in
    let w = seen_by (path_bytes c.args.main.now) (g.S.Source.meaning c.args.source.now) in
    both _ _ _ _ (blanked place_of blank_place c.blank.result c.blank.ensures.value sheet c.blank_from.new.items 0 (omega arith) c.blank_from.ensures.items)
    (blanked row_names blank c.blank-then-not-are_long.result c.blank-then-not-are_long.ensures list c.blank_from-then-not-are_long.new.items 0 (omega arith) c.blank_from-then-not-are_long.ensures.items)
    ∙ ap (λ (x : Listed). x.slices) (sym (given_short w (map names_of c.args.start.now) (lent sheet list) (sym c.if-not-are_long.ensures.value)))

pub returns-clause-after : goal.returns-clause-after
returns-clause-after g c =
    let n = lent c.args.sheet.now c.args.list.now in
    let w = seen_by (path_bytes c.args.main.now) (g.S.Source.meaning c.args.source.now) in
    let counts = c.walk_and_list-counts in
    both _ _ _ _ (laid_in place_of blank_place c.blank-2.result c.blank-2.ensures.value counts.new.sheet _ counts.ensures.sheet n.sheet c.blank_behind.new.self.items.now _ c.blank_behind.ensures.after (search rules) (search rules))
    (laid_in row_names blank c.blank-3.result c.blank-3.ensures counts.new.rows _ counts.ensures.rows n.list c.blank_behind-2.new.self.items.now _ c.blank_behind-2.ensures.after (search rules) (search rules))
    ∙ ap (λ (x : Listed). x.slices) (sym (given w (map names_of c.args.start.now) n (sym c.if-not-are_long.ensures.value)))
