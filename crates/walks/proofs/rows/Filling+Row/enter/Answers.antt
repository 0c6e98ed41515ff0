-- The row of the path is not higher, or is, or there is none. Assumes nothing.
use Rattle.std.proofs.Common.{◌<◌, List, map, length, get_or, ap, ◌∙◌, subst}
use Rattle.ordered.specs.Places.{sought}
use Rattle.names.specs.Paths.{plain_path_order}
use Rattle.modules.specs.Rows.{row_names, row_path}
use Rattle.modules.specs.declared.rows.Row.{Row}
use Rattle.walks.specs.Fillings.{items_of}
use Rattle.walks.proofs.Entering.{enter_lower, enter_higher, enter_new}
use Rattle.walks.proofs.rows.Filling+Row.enter.Goals as goal

pub returns-then-ge-clause-after : goal.returns-then-ge-clause-after
returns-then-ge-clause-after c =
    let rows = items_of c.args.self.now in
    let i = c.in-Ok.at in
    let y = c.index-as_slice-at.result in
    ap (map row_names) c.replace.ensures.after
    ∙ enter_higher rows c.args.row i (c.in-Ok.ensures.value ∙ ap (sought row_path plain_path_order c.args.row.path) c.as_slice.ensures.value) y (subst (λ (qs : List Row). i < length qs) c.as_slice.ensures.value c.in-Ok.ensures.items)
    (c.index-as_slice-at.is ∙ ap (λ (qs : List Row). get_or qs i y) c.as_slice-in-Ok.ensures.value) c.if-ge.ensures

pub returns-else-ge-clause-after : goal.returns-else-ge-clause-after
returns-else-ge-clause-after c =
    let rows = items_of c.args.self.now in
    let i = c.in-Ok.at in
    let y = c.index-as_slice-at.result in
    enter_lower rows c.args.row i (c.in-Ok.ensures.value ∙ ap (sought row_path plain_path_order c.args.row.path) c.as_slice.ensures.value) y (subst (λ (qs : List Row). i < length qs) c.as_slice.ensures.value c.in-Ok.ensures.items)
    (c.index-as_slice-at.is ∙ ap (λ (qs : List Row). get_or qs i y) c.as_slice-in-Ok.ensures.value) c.if-ge.ensures

pub returns-in-Err-clause-after : goal.returns-in-Err-clause-after
returns-in-Err-clause-after c =
    let rows = items_of c.args.self.now in
    let i = c.in-Err.at in
    ap (map row_names) c.insert.ensures.after ∙ enter_new rows c.args.row i (c.in-Err.ensures.value ∙ ap (sought row_path plain_path_order c.args.row.path) c.as_slice.ensures.value)
