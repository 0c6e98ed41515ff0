-- Each row is raised, or is not higher, or there is no room for it. Assumes nothing.
use Rattle.std.proofs.Common.{◌≡◌, ℕ, ◌<◌, List, map, length, get_or, sym, refl, ap, ◌∙◌}
use lib.ListN.{length-map, get_or-map}
use Rattle.ordered.proofs.Joining.{not_refused}
use Rattle.modules.specs.Rows.{row_names}
use Rattle.modules.specs.Tables.{requirement_names}
use Rattle.modules.specs.declared.requirements.raises.NotRaised.TheVariants.{NoRoom}
use Rattle.modules.specs.declared.rows.Row.{Row}
use Rattle.modules.proofs.Makes.{raised_on, raised_over, is_no_room}
use Rattle.modules.proofs.requirements.Requirements.of.Goals as goal

within : (rows : List Row) (i : ℕ) → i < length rows → i < length (map row_names rows)
within rows i h = simp length-map h

read : (rows : List Row) (i : ℕ) (x : Row) → x ≡ get_or rows i x → row_names x ≡ get_or (map row_names rows) i (row_names x)
read rows i x e = ap row_names e ∙ sym (get_or-map row_names rows i x)

pub returns-then-eq : goal.returns-then-eq
returns-then-eq c =
    let rows = c.args.rows.now in
    let i = c.loop-row.row-index in
    let x = c.row-item.result in
    let e = sym (is_no_room _ _ c.raise.result c.if-eq.ensures refl) ∙ c.raise.ensures.value in
    record { value = raised_over (map row_names rows) (requirement_names c.loop-row.all) i (row_names x) c.loop-row.invariant (within rows i c.loop-row-test.true) (read rows i x c.row-item.is) e }

pub loop-row-preserved : goal.loop-row-preserved
loop-row-preserved c =
    let rows = c.args.rows.now in
    let i = c.loop-row.row-index in
    let x = c.row-item.result in
    raised_on (map row_names rows) (requirement_names c.loop-row.all) i (row_names x) c.loop-row.invariant (within rows i c.loop-row-test.true) (read rows i x c.row-item.is)
    c.raise.result (requirement_names c.raise.new.self) c.raise.ensures.value c.raise.ensures.after (λ no. ap requirement_names (c.raise.ensures.refused no))
    (not_refused _ _ NoRoom c.raise.result c.if-eq.ensures refl)
