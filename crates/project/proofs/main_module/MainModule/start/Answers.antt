-- One row after another, left out or taken. Assumes nothing.
use Rattle.std.proofs.Common.{◌≡◌, ℕ, ◌<◌, ◌≤◌, List, map, length, get_or, sym, refl, ap, ◌∙◌, arith}
use lib.ListN.{length-map, get_or-map}
use Rattle.std.proofs.lemmas.List.{take_all}
use Rattle.rules.specs.Names.{is_module_version}
use Rattle.rules.specs.Sources.{included}
use Rattle.rules.specs.Texts.{every}
use Rattle.modules.specs.Rows.{row_names}
use Rattle.modules.specs.Tables.{exclusion_names}
use Rattle.modules.specs.declared.rows.Row.{Row}
use Rattle.project.proofs.Formed.{every_at}
use Rattle.project.proofs.Starting.{few_items, turn_taken, turn_left}
use Rattle.project.proofs.main_module.MainModule.start.Goals as goal
use Rattle.project.proofs.main_module.MainModule.start.Goals.{then-not-is_excluded, else-not-is_excluded}

within : (items : List Row) (i : ℕ) → i < length items → i < length (map row_names items)
within items i h = simp length-map h

read : (items : List Row) (i : ℕ) (x : Row) → x ≡ get_or items i x → row_names x ≡ get_or (map row_names items) i (row_names x)
read items i x e = ap row_names e ∙ sym (get_or-map row_names items i x)

pub loop-row-init : goal.loop-row-init
loop-row-init c = (omega arith, refl, refl)

pub offset_bounds-rows-count : goal.offset_bounds-rows-count
offset_bounds-rows-count c = omega (arith, few_items c.args.self.now.requirements c.as_slice-row-items.result.now c.as_slice-row-items.ensures)

pub bounds-rows-count : goal.bounds-rows-count
bounds-rows-count c = omega (arith, few_items c.args.self.now.requirements c.as_slice-row-items.result.now c.as_slice-row-items.ensures)

pub overflow_add-count : goal.overflow_add-count
overflow_add-count c = omega (arith, few_items c.args.self.now.requirements c.as_slice-row-items.result.now c.as_slice-row-items.ensures)

pub loop-row-preserved : goal.loop-row-preserved
loop-row-preserved c =
    let (low, long, so_far) = c.loop-row.invariant in
    let items = c.as_slice-row-items.result.now in
    let es = exclusion_names c.args.exclusions.now in
    let i = c.loop-row.row-index in
    let n = c.loop-row.count in
    let x = c.row-item.result in
    let u = map row_names items in
    let l = within items i c.loop-row-test.true in
    let r = read items i x c.row-item.is in
    let formed = ap is_module_version r ∙ every_at is_module_version u i (row_names x) (ap (every is_module_version) c.as_slice-row-items.ensures ∙ c.args.self.now.formed) l in
    let after = c.if-not-is_excluded.rows in
    let k = c.if-not-is_excluded.count in
    let room : n < 256 = omega (arith, few_items c.args.self.now.requirements items c.as_slice-row-items.ensures) in
    elim c.if-not-is_excluded.branch [
      | then-not-is_excluded w ↦
          turn_taken es u c.loop-row.rows n i (row_names x) low long so_far l r w.checked.result after k room (w.checked.ensures formed) (sym w.if-not-is_excluded.ensures.value) w.rows-is w.count-is
      | else-not-is_excluded w ↦ turn_left es u c.loop-row.rows n i (row_names x) low long so_far l r after k (sym w.if-not-is_excluded.ensures.value) w.rows-is w.count-is
    ]

pub invariant_of-result : goal.invariant_of-result
invariant_of-result c =
    let (low, long, so_far) = c.loop-row.invariant in
    let items = c.as_slice-row-items.result.now in
    (long, omega (arith, few_items c.args.self.now.requirements items c.as_slice-row-items.ensures))

pub returns : goal.returns
returns c =
    let (low, long, so_far) = c.loop-row.invariant in
    let items = c.as_slice-row-items.result.now in
    let es = exclusion_names c.args.exclusions.now in
    let all : length (map row_names items) ≤ c.loop-row.row-index = simp length-map c.loop-row-test.false in
    record { value = so_far ∙ ap (included es) (take_all c.loop-row.row-index (map row_names items) all ∙ c.as_slice-row-items.ensures) }
