-- Nothing is to be lowered, or it is lowered under the ceilings of the rows. Assumes nothing.
use Rattle.std.proofs.Common.{◌≡◌, ℕ, ◌≤◌, Bool, cond, List, map, length, None, sym, ap, ◌∙◌, subst, arith}
use Rattle.std.specs.List.{AllByRecursion}
use Rattle.std.proofs.lemmas.List.{length-map}
use Rattle.rules.specs.Orders.{Bytes}
use Rattle.rules.specs.Names.{ModuleVersion}
use Rattle.rules.specs.Causes.{Refusal, nothing_to_change}
use Rattle.rules.specs.Lowers.{ceiling_of}
use Rattle.rules.specs.Calls.{refused, refusal_for}
use Rattle.names.specs.Paths.{path_bytes}
use Rattle.versions.specs.Values.{version_bytes}
use Rattle.modules.specs.Rows.{row_names}
use Rattle.walks.specs.Places.{place_of}
use Rattle.walks.specs.Views.{seen_by}
use Rattle.lowers.specs.Lowered.{LowerTold, told_under}
use Rattle.lowers.proofs.Looking.{over_all}
use Rattle.lowers.proofs.lower.lower_rows.Goals as goal

pub lower_ceilings-requires : goal.lower_ceilings-requires
lower_ceilings-requires g c =
    let main = path_bytes c.args.main.now in
    let long : 256 ≤ length c.args.sheet.now = omega arith in
    record {
      room = long;
      apart = subst (λ (cs : List ModuleVersion). AllByRecursion (λ x. x.path ≡ main → ⊥) cs) (sym c.of-ceilings.ensures.value)
          (over_all (path_bytes c.args.path.now) (version_bytes c.args.version.now) (λ (q : Bytes). q ≡ main → ⊥) (map row_names c.args.rows.now) c.requires.apart);
    }

pub returns-then-not-can_lower-clause-value : goal.returns-then-not-can_lower-clause-value
returns-then-not-can_lower-clause-value g c =
    let w = seen_by (path_bytes c.args.main.now) (g.S.Source.meaning c.args.source.now) in
    let before = map place_of c.args.sheet.now in
    let cs = map (ceiling_of (path_bytes c.args.path.now) (version_bytes c.args.version.now)) (map row_names c.args.rows.now) in
    let none : Refusal → LowerTold = λ r. record { reply = refused r; kept = None; sheet = before } in
    ap none c.from.ensures
    ∙ ap (λ (b : Bool). cond {A = LowerTold} b (told_under w (length before) cs) (none (refusal_for nothing_to_change))) c.if-not-can_lower.ensures.value

pub returns : goal.returns
returns g c =
    let w = seen_by (path_bytes c.args.main.now) (g.S.Source.meaning c.args.source.now) in
    let sheet = c.args.sheet.now in
    let before = map place_of sheet in
    let cs = map (ceiling_of (path_bytes c.args.path.now) (version_bytes c.args.version.now)) (map row_names c.args.rows.now) in
    let none : LowerTold = record { reply = refused (refusal_for nothing_to_change); kept = None; sheet = before } in
    record {
      same = c.lower_ceilings.ensures.same;
      inside = c.lower_ceilings.ensures.inside;
      value = c.lower_ceilings.ensures.value ∙ ap (told_under w (length sheet)) c.of-ceilings.ensures.value ∙ ap (λ (k : ℕ). told_under w k cs) (sym (length-map sheet place_of))
          ∙ ap (λ (b : Bool). cond {A = LowerTold} b (told_under w (length before) cs) none) c.if-not-can_lower.ensures.value;
      formed = c.lower_ceilings.ensures.formed;
    }
