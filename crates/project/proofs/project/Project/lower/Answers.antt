-- The walks go over the exclude layer and change nothing inside of it; the kept rows become the rows, and what is left is what the rules say, so that
-- the promises hold of it. Assumes nothing.
use Rattle.std.proofs.Common.{◌≡◌, map, Ok, Err, sym, ap, ◌∙◌, subst}
use Rattle.std.proofs.lemmas.Result.{err_from_is_err_and}
use Rattle.rules.specs.Sources.{included, excluding}
use Rattle.rules.specs.Projects.{State}
use Rattle.rules.specs.Calls.{Outcome}
use Rattle.rules.proofs.Runs.{right_at}
use Rattle.names.specs.Paths.{Path, path_bytes}
use Rattle.versions.specs.Values.{version_bytes}
use Rattle.modules.specs.Rows.{names_of}
use Rattle.modules.specs.Tables.{requirement_names, exclusion_names}
use Rattle.modules.specs.declared.exclusions.Exclusions.{Exclusions}
use Rattle.walks.specs.Listed.{lent, slices_of}
use Rattle.walks.specs.Views.{seen_by}
use Rattle.lowers.specs.Lowered.{reply_of, kept_of, lowers_from}
use Rattle.project.specs.States.{main_state}
use Rattle.project.specs.Projects.{state_of}
use Rattle.project.specs.Promises.{RowsKept, LoweredWhen, LoweringShown}
use Rattle.project.proofs.Insides.{same_exclusions, same_below}
use Rattle.project.proofs.Lowering.{lower_is}
use Rattle.project.proofs.project.Project.lower.Goals as goal

pub take_rows-requires : goal.take_rows-requires
take_rows-requires g c = c.in_ok-lowered.ensures.formed

pub returns : goal.returns
returns g c =
    let q = c.args.self.now in
    let m = g.S.Source.meaning q.layer.below in
    let s = state_of q in
    let es = exclusion_names q.layer.exclusions in
    let p = path_bytes c.args.path.now in
    let v = version_bytes c.args.version.now in
    let n = lent c.args.sheet.now c.args.list.now in
    let start = map names_of c.as_slice.result.now in
    let e : start ≡ included es s.rows =
    ap (map names_of) c.as_slice.ensures.value ∙ c.start-start.ensures.value ∙ ap (λ (t : Exclusions). included (exclusion_names t) s.rows) c.table.ensures.value in
    let last = c.lower.new.source in
    let h = c.in_ok-lowered.ensures in
    let excluded = same_exclusions _ _ _ _ h.inside in
    let t : State = main_state c.take_rows.new.self (exclusion_names last.exclusions) in
    let path = c.path.ensures.value in
    let reply = h.value ∙ ap (λ (x : Path). (lowers_from (seen_by (path_bytes x) (excluding es m)) start p v n).reply) path in
    let kept = h.kept ∙ ap (λ (x : Path). (lowers_from (seen_by (path_bytes x) (excluding es m)) start p v n).kept) path in
    let slices = h.after ∙ ap (λ (x : Path). (lowers_from (seen_by (path_bytes x) (excluding es m)) start p v n).slices) path in
    let value = lower_is m s t p v n start (reply_of (Ok c.in_ok-lowered.lowered)) (kept_of (Ok c.in_ok-lowered.lowered)) (slices_of c.lower.new.sheet c.lower.new.list) e (λ i. record { main = path_bytes (c.take_rows.ensures.same i); rows = requirement_names (c.take_rows.ensures.after i); exclusions = excluded i }) reply kept slices in
    let right = right_at m (g.S.Source.lawful q.layer.below) s in
    record {
      value = value;
      same = same_below _ _ _ _ h.inside;
      kept = subst (λ (o : Outcome). RowsKept m s n p v o) (sym value) (right.lower_kept p v n);
      accepted = subst (λ (o : Outcome). LoweredWhen m s n p v o) (sym value) (right.lower_accepted p v n);
      shown = subst (λ (o : Outcome). LoweringShown m s n p v o) (sym value) (right.lower_shown p v n);
    }

pub returns-in_err-lowered : goal.returns-in_err-lowered
returns-in_err-lowered g c =
    let q = c.args.self.now in
    let m = g.S.Source.meaning q.layer.below in
    let s = state_of q in
    let es = exclusion_names q.layer.exclusions in
    let p = path_bytes c.args.path.now in
    let v = version_bytes c.args.version.now in
    let n = lent c.args.sheet.now c.args.list.now in
    let start = map names_of c.as_slice.result.now in
    let e : start ≡ included es s.rows =
    ap (map names_of) c.as_slice.ensures.value ∙ c.start-start.ensures.value ∙ ap (λ (t : Exclusions). included (exclusion_names t) s.rows) c.table.ensures.value in
    let last = c.lower.new.source in
    let h = c.in_err-lowered.ensures in
    let excluded = same_exclusions _ _ _ _ h.inside in
    let t : State = main_state q.main (exclusion_names last.exclusions) in
    let path = c.path.ensures.value in
    let reply = h.value ∙ ap (λ (x : Path). (lowers_from (seen_by (path_bytes x) (excluding es m)) start p v n).reply) path in
    let kept = h.kept ∙ ap (λ (x : Path). (lowers_from (seen_by (path_bytes x) (excluding es m)) start p v n).kept) path in
    let slices = h.after ∙ ap (λ (x : Path). (lowers_from (seen_by (path_bytes x) (excluding es m)) start p v n).slices) path in
    let value = lower_is m s t p v n start (reply_of (Err c.in_err-lowered.field-0.0)) (kept_of (Err c.in_err-lowered.field-0.0)) (slices_of c.lower.new.sheet c.lower.new.list) e (ap (main_state q.main) excluded) reply kept slices in
    let right = right_at m (g.S.Source.lawful q.layer.below) s in
    let err = err_from_is_err_and c.from_residual.result c.from_residual.ensures.1 in
    rw (err.1, err.2) (record {
      value = value;
      same = same_below _ _ _ _ h.inside;
      kept = subst (λ (o : Outcome). RowsKept m s n p v o) (sym value) (right.lower_kept p v n);
      accepted = subst (λ (o : Outcome). LoweredWhen m s n p v o) (sym value) (right.lower_accepted p v n);
      shown = subst (λ (o : Outcome). LoweringShown m s n p v o) (sym value) (right.lower_shown p v n);
    })
