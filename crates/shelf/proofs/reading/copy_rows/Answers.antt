-- One row more is copied, and in the end the rest is blank. Assumes nothing.
use Rattle.std.proofs.Common.{◌≡◌, true, ◌∷◌, length, sym, ap, ◌∙◌, subst, arith}
use Rattle.std.specs.List.{AllByRecursion}
use Rattle.std.proofs.lemmas.List.{length-set}
use Rattle.rules.specs.Names.{ModuleVersion, is_module_version}
use Rattle.modules.specs.Rows.{row_names}
use Rattle.fields.specs.Pairs.{pairs_in}
use Rattle.fields.specs.Views.{pair_cut_of}
use Rattle.shelf.specs.Records.{named, rows_at}
use Rattle.shelf.proofs.Paired.{rows_none, rows_more, row_size, still_room, one_copied, all_copied, blanks_behind}
use Rattle.shelf.proofs.reading.copy_rows.Goals as goal

pub row_of-requires : goal.row_of-requires
row_of-requires c =
    let p = pair_cut_of c.in-Some.pair in
    let formed : AllByRecursion (λ r. is_module_version r ≡ true) (named p.pair ∷ rows_at (pairs_in p.after))
    = subst (AllByRecursion (λ r. is_module_version r ≡ true)) (rows_more c.loop-pair.rest.now p c.in-Some.ensures.value) c.loop-pair.invariant.2 in
    formed.0

pub bounds-rows-count : goal.bounds-rows-count
bounds-rows-count c =
    let p = pair_cut_of c.in-Some.pair in
    still_room row_names c.loop-pair.count c.loop-pair.rows (rows_at (pairs_in c.args.bytes.now)) (rows_at (pairs_in c.loop-pair.rest.now)) c.loop-pair.invariant.0 c.loop-pair.invariant.1
    (named p.pair) (rows_at (pairs_in p.after)) (rows_more c.loop-pair.rest.now p c.in-Some.ensures.value) (omega (arith, c.requires.0, c.loop-pair.auto.rows))

pub loop-pair-smaller : goal.loop-pair-smaller
loop-pair-smaller c = omega (arith, row_size c.loop-pair.rest.now (pair_cut_of c.in-Some.pair) c.in-Some.ensures.value)

pub loop-pair-preserved : goal.loop-pair-preserved
loop-pair-preserved c =
    let p = pair_cut_of c.in-Some.pair in
    let out = c.loop-pair.rows in
    let n = c.loop-pair.count in
    let more = rows_more c.loop-pair.rest.now p c.in-Some.ensures.value in
    let room = still_room row_names n out (rows_at (pairs_in c.args.bytes.now)) (rows_at (pairs_in c.loop-pair.rest.now)) c.loop-pair.invariant.0 c.loop-pair.invariant.1
    (named p.pair) (rows_at (pairs_in p.after)) more (omega (arith, c.requires.0, c.loop-pair.auto.rows)) in
    let formed : AllByRecursion (λ r. is_module_version r ≡ true) (named p.pair ∷ rows_at (pairs_in p.after)) = subst (AllByRecursion (λ r. is_module_version r ≡ true)) more c.loop-pair.invariant.2 in (
      omega (arith, room, length-set out n c.row_of.result),
      one_copied row_names n out (rows_at (pairs_in c.args.bytes.now)) (rows_at (pairs_in c.loop-pair.rest.now)) c.loop-pair.invariant.0 c.loop-pair.invariant.1
          c.row_of.result (rows_at (pairs_in p.after)) (more ∙ ap (λ (x : ModuleVersion). x ∷ rows_at (pairs_in p.after)) (sym c.row_of.ensures.value)) room,
      formed.1,
    )

pub returns : goal.returns
returns c =
    let all = all_copied row_names c.loop-pair.count c.loop-pair.rows (rows_at (pairs_in c.args.bytes.now)) (rows_at (pairs_in c.loop-pair.rest.now)) c.loop-pair.invariant.0 c.loop-pair.invariant.1
    (rows_none c.loop-pair.rest.now c.in_default.ensures.value) in
    record {
      value = all.0;
      items = blanks_behind row_names (length c.args.rows.now) c.loop-pair.count c.loop-pair.rows c.blank_from.new.items c.blank.result (rows_at (pairs_in c.args.bytes.now))
          c.blank_from.ensures.items c.blank.ensures all.0 all.1 c.loop-pair.auto.rows;
    }
