-- The row is that high already, is set at its place, or is added. Assumes nothing.
use Rattle.std.proofs.Common.{rules, ◌≡◌, ℕ, ◌<◌, Bool, true, false, List, map, length, get_or, Ok, Err, refl, ap, ◌∙◌, subst}
use Rattle.std.specs.Ordering.{is_le}
use Rattle.names.specs.Paths.{plain_path_order}
use Rattle.ordered.specs.Places.{sought}
use Rattle.rules.specs.Versions.{version_order}
use Rattle.modules.specs.Rows.{row_names, row_path}
use Rattle.modules.specs.declared.rows.Row.{Row}
use Rattle.ordered.specs.Held.{held}
use Rattle.modules.proofs.Raises.{without_reason, path_there, told_upto, told_higher, set_higher, told_new}
use Rattle.modules.proofs.requirements.Requirements.raise.Goals as goal

-- the row that is read is the one at that place
read : (slice t : List Row) (row : Row) (i : ℕ) (d : Row) (b : Bool) → slice ≡ t → d ≡ get_or slice i d → b ≡ is_le (version_order (row_names row).version (row_names d).version)
    → b ≡ is_le (version_order (row_names row).version (row_names (get_or t i d)).version)
read slice t row i d b e q h = h ∙ ap (λ (y : Row). is_le (version_order (row_names row).version (row_names y).version)) (q ∙ ap (λ xs. get_or xs i d) e)

pub returns-then-is_upto : goal.returns-then-is_upto
returns-then-is_upto c =
    let t = held c.args.self.now.table in
    let row = c.args.row in
    let i = c.in-Ok.at in
    let d = c.index-rows-at.result in
    let s = c.as_slice-rows.ensures.value in
    let e : Ok i ≡ sought row_path plain_path_order row.path t = c.in-Ok.ensures.value ∙ ap (sought row_path plain_path_order row.path) s in
    let h : i < length t = subst (λ (xs : List Row). i < length xs) s c.in-Ok.ensures.items in
    record {
      value = told_upto t row i e h d (read c.as_slice-rows.result.now t row i d true s c.index-rows-at.is c.if-is_upto.ensures.value);
      after = λ q. cc;
      refused = λ q. refl;
    }

pub lift-requires : goal.lift-requires
lift-requires c =
    let t = held c.args.self.now.table in
    let row = c.args.row in
    let i = c.in-Ok.at in
    let s = c.as_slice-rows.ensures.value in
    let e : Ok i ≡ sought row_path plain_path_order row.path t = c.in-Ok.ensures.value ∙ ap (sought row_path plain_path_order row.path) s in
    let h : i < length t = subst (λ (xs : List Row). i < length xs) s c.in-Ok.ensures.items in
    (h, path_there t row i e h row)

pub returns-clause-value : goal.returns-clause-value
returns-clause-value c =
    let t = held c.args.self.now.table in
    let row = c.args.row in
    let i = c.in-Ok.at in
    let d = c.index-rows-at.result in
    let s = c.as_slice-rows.ensures.value in
    let e : Ok i ≡ sought row_path plain_path_order row.path t = c.in-Ok.ensures.value ∙ ap (sought row_path plain_path_order row.path) s in
    let h : i < length t = subst (λ (xs : List Row). i < length xs) s c.in-Ok.ensures.items in
    told_higher t row i e h d (read c.as_slice-rows.result.now t row i d false s c.index-rows-at.is c.if-is_upto.ensures.value)

pub returns-clause-after : goal.returns-clause-after
returns-clause-after c =
    let t = held c.args.self.now.table in
    let row = c.args.row in
    let i = c.in-Ok.at in
    let d = c.index-rows-at.result in
    let s = c.as_slice-rows.ensures.value in
    let e : Ok i ≡ sought row_path plain_path_order row.path t = c.in-Ok.ensures.value ∙ ap (sought row_path plain_path_order row.path) s in
    let h : i < length t = subst (λ (xs : List Row). i < length xs) s c.in-Ok.ensures.items in
    λ q. ap (map row_names) c.lift.ensures.after ∙ set_higher t row i e h d (read c.as_slice-rows.result.now t row i d false s c.index-rows-at.is c.if-is_upto.ensures.value)

pub returns-in_default-clause-value : goal.returns-in_default-clause-value
returns-in_default-clause-value c =
    let t = held c.args.self.now.table in
    let row = c.args.row in
    let i = c.in_default.field-0 in
    let e : Err i ≡ sought row_path plain_path_order row.path t = c.in_default.ensures.value ∙ ap (sought row_path plain_path_order row.path) c.as_slice-rows.ensures.value in
    let m : c.map_err.result ≡ without_reason c.add.result = search rules in
    m ∙ told_new t row i e c.add.result c.add.ensures.value
