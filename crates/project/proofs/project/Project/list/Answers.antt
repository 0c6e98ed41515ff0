-- The walk goes over the exclude layer and changes nothing inside of it; what it gives is what the rules say, and so the promises hold of it. Assumes nothing.
use Rattle.std.proofs.Common.{◌≡◌, map, sym, ap, ◌∙◌, subst}
use Rattle.rules.specs.Sources.{included, excluding}
use Rattle.rules.specs.Calls.{Outcome}
use Rattle.rules.proofs.Runs.{right_at}
use Rattle.names.specs.Paths.{Path, path_bytes}
use Rattle.modules.specs.Rows.{names_of}
use Rattle.modules.specs.Tables.{exclusion_names}
use Rattle.modules.specs.declared.exclusions.Exclusions.{Exclusions}
use Rattle.walks.specs.Listed.{lent, reply_of, slices_of, lists_from}
use Rattle.walks.specs.Views.{seen_by}
use Rattle.project.specs.States.{main_state}
use Rattle.project.specs.Projects.{state_of}
use Rattle.project.specs.Promises.{GivenLeast, RefusedDeserved, SheetShown}
use Rattle.project.proofs.Insides.{same_exclusions, same_below}
use Rattle.project.proofs.Lists.{list_is}
use Rattle.project.proofs.project.Project.list.Goals as goal

pub returns : goal.returns
returns g c =
    let p = c.args.self.now in
    let m = g.S.Source.meaning p.layer.below in
    let s = state_of p in
    let es = exclusion_names p.layer.exclusions in
    let n = lent c.args.sheet.now c.args.list.now in
    let start = map names_of c.as_slice.result.now in
    let e : start ≡ included es s.rows =
    ap (map names_of) c.as_slice.ensures.value ∙ c.start-start.ensures.value ∙ ap (λ (t : Exclusions). included (exclusion_names t) s.rows) c.table.ensures.value in
    let last = c.list.new.source in
    let inside = c.list.ensures.inside in
    let kept : main_state p.main (exclusion_names last.exclusions) ≡ s = ap (main_state p.main) (same_exclusions _ _ _ _ inside) in
    let path = c.path.ensures.value in
    let reply = c.list.ensures.value ∙ ap (λ (q : Path). (lists_from (seen_by (path_bytes q) (excluding es m)) start n).reply) path in
    let slices = c.list.ensures.after ∙ ap (λ (q : Path). (lists_from (seen_by (path_bytes q) (excluding es m)) start n).slices) path in
    let value = list_is m s (main_state p.main (exclusion_names last.exclusions)) n start (reply_of c.list.result) (slices_of c.list.new.sheet c.list.new.list) e kept reply slices in
    let right = right_at m (g.S.Source.lawful p.layer.below) s in
    record {
      value = value;
      same = same_below _ _ _ _ inside;
      least = subst (λ (o : Outcome). GivenLeast m s n o) (sym value) (right.list_least n);
      deserved = subst (λ (o : Outcome). RefusedDeserved m s n o) (sym value) (right.refusal_deserved n);
      shown = subst (λ (o : Outcome). SheetShown m s n o) (sym value) (right.list_shown n);
    }
