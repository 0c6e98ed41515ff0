-- The list is given, or refused. Assumes nothing.
use Rattle.std.proofs.Common.{◌≡◌, ℕ, ◌-◌, ◌≤◌, true, List, map, length, take, drop, sym, ap, ◌∙◌, subst, arith}
use Rattle.std.specs.List.{AllByRecursion}
use Rattle.std.proofs.lemmas.List.{length-map}
use Rattle.std.proofs.lemmas.Result.{err_from_is_err_and}
use Rattle.rules.specs.Paths.{is_path}
use Rattle.rules.specs.Names.{ModuleVersion}
use Rattle.rules.specs.Projects.{View, main_row}
use Rattle.rules.specs.Rows.{AscendingRows}
use Rattle.rules.specs.Sources.{Meaning}
use Rattle.rules.specs.Slices.{Lent, Slices}
use Rattle.rules.specs.Calls.{counted}
use Rattle.rules.proofs.Slices.{long_sheet}
use Rattle.names.specs.Paths.{path_bytes}
use Rattle.versions.specs.Values.{version_bytes}
use Rattle.modules.specs.Rows.{row_names, names_of}
use Rattle.modules.specs.declared.rows.Row.{Row}
use Rattle.walks.specs.declared.place.Place.{Place}
use Rattle.walks.specs.Places.{place_of}
use Rattle.walks.specs.Views.{bare, seen_by}
use Rattle.walks.specs.Listed.{lent, lists_from}
use Rattle.walks.proofs.Starting.{formed_names}
use Rattle.walks.proofs.Listing.{list_short}
use Rattle.lowers.specs.Lowered.{Lowering, old_from, told_from}
use Rattle.lowers.proofs.Ending.{behind, behind_up, behind_off, behind_formed, given, beside, given_slices, given_told, refused_lower, rows_held, rows_fit, behind_held}
use Rattle.lowers.proofs.lower.lower.Goals as goal

-- the list slice holds the list
held : (w : View) (start : List ModuleVersion) (n : Lent) (places rows : ℕ) (sheet : List Place) (list : List Row) → counted places rows ≡ (lists_from w start n).reply
    → ◌≡◌ {A = Slices} (record { sheet = map place_of sheet; list = map row_names list }) (lists_from w start n).slices
    → (rows ≤ length list) × (map row_names (take (rows - 1) (drop 1 list)) ≡ behind w start) × (length (behind w start) ≤ 255)
held w start n places rows sheet list e q =
    let g = given w start n places rows e in
    let l = ap (λ (s : Slices). s.list) (q ∙ given_slices w start w.main w.main n rows g) in (
      omega (arith, g.2, rows_fit list (old_from w start) n.list l),
      behind_held list rows (main_row (bare w.main)) (behind w start) g.2 (rows_held list (old_from w start) n.list l),
      omega (arith, list_short w start g.1),
    )

pub slice_bounds-lower_rows-end : goal.slice_bounds-lower_rows-end
slice_bounds-lower_rows-end g c =
    let w = seen_by (path_bytes c.args.main.now) (g.S.Source.meaning c.args.source.now) in
    (held w (map names_of c.args.start.now) (lent c.args.sheet.now c.args.list.now) c.in_ok-counts.counts.places c.in_ok-counts.counts.rows c.list.new.sheet c.list.new.list
    c.in_ok-counts.ensures.value c.in_ok-counts.ensures.after).0

pub lower_rows-requires : goal.lower_rows-requires
lower_rows-requires g c =
    let main = path_bytes c.args.main.now in
    let w = seen_by main (g.S.Source.meaning c.args.source.now) in
    let start = map names_of c.args.start.now in
    let n = lent c.args.sheet.now c.args.list.now in
    let rows = c.in_ok-counts.counts.rows in
    let list = c.list.new.list in
    let v = c.in_ok-counts.ensures.value in
    let (fits, is, few) = held w start n c.in_ok-counts.counts.places rows c.list.new.sheet list v c.in_ok-counts.ensures.after in
    let law = g.S.Source.lawful c.args.source.now in
    let long : 256 ≤ length c.list.new.sheet = omega (arith, long_sheet n (given w start n c.in_ok-counts.counts.places rows v).0, c.list.auto.sheet) in
    let short : length (take (rows - 1) (drop 1 list)) ≤ 255 = omega (arith, few, ap length is, length-map (take (rows - 1) (drop 1 list)) row_names) in record {
      room = (long, short);
      formed = subst (λ (xs : List ModuleVersion). AllByRecursion (λ x. is_path x.path ≡ true) xs) (sym is) (behind_formed w start law (formed_names c.args.start.now));
      ascending = subst (λ (xs : List ModuleVersion). AscendingRows xs) (sym is) (behind_up w start);
      apart = subst (λ (xs : List ModuleVersion). AllByRecursion (λ x. x.path ≡ main → ⊥) xs) (sym is) (behind_off w start);
    }

pub returns : goal.returns
returns g c =
    let main = path_bytes c.args.main.now in
    let w = seen_by main (g.S.Source.meaning c.args.source.now) in
    let start = map names_of c.args.start.now in
    let p = path_bytes c.args.path.now in
    let v = version_bytes c.args.version.now in
    let n = lent c.args.sheet.now c.args.list.now in
    let rows = c.in_ok-counts.counts.rows in
    let sheet = c.list.new.sheet in
    let list = c.list.new.list in
    let e = c.in_ok-counts.ensures.value in
    let q = c.in_ok-counts.ensures.after in
    let same = c.in_ok-counts.ensures.same in
    let (fits, is, few) = held w start n c.in_ok-counts.counts.places rows sheet list e q in
    let xs = map row_names (take (rows - 1) (drop 1 list)) in
    let long : length (map place_of sheet) ≡ n.sheet = length-map sheet place_of ∙ c.list.auto.sheet in
    let told = c.lower_rows.ensures.value ∙ ap (λ (m : Meaning). told_from (seen_by main m) p v xs (map place_of sheet)) same in
    let whole = ap (beside (map row_names list)) told
    ∙ given_told w start p v n rows (given w start n c.in_ok-counts.counts.places rows e) xs is (map place_of sheet) long (map row_names list) q in
    record {
      same = c.lower_rows.ensures.same ∙ same;
      inside = c.lower_rows.ensures.inside ∙ c.in_ok-counts.ensures.inside;
      value = ap (λ (l : Lowering). l.reply) whole;
      kept = ap (λ (l : Lowering). l.kept) whole;
      formed = c.lower_rows.ensures.formed;
      after = ap (λ (l : Lowering). l.slices) whole;
    }

pub returns-in_err-counts : goal.returns-in_err-counts
returns-in_err-counts g c =
    let w = seen_by (path_bytes c.args.main.now) (g.S.Source.meaning c.args.source.now) in
    let n = lent c.args.sheet.now c.args.list.now in
    let e = sym (refused_lower w (map names_of c.args.start.now) (path_bytes c.args.path.now) (version_bytes c.args.version.now) n _ c.in_err-counts.ensures.value) in
    let p = err_from_is_err_and c.from_residual.result c.from_residual.ensures.1 in
    rw (p.1, p.2) (record {
      same = c.in_err-counts.ensures.same;
      inside = c.in_err-counts.ensures.inside;
      value = ap (λ (l : Lowering). l.reply) e;
      kept = ap (λ (l : Lowering). l.kept) e;
      formed = tt;
      after = c.in_err-counts.ensures.after ∙ ap (λ (l : Lowering). l.slices) e;
    })
