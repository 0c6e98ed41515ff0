-- What is read is well formed and in bounds, and is taken over. Assumes nothing.
use Rattle.std.proofs.Common.{length, take, replicate, ap, ◌∙◌, subst, arith}
use lib.ListN.{length-map}
use Rattle.rules.specs.Names.{is_module_version}
use Rattle.rules.specs.Texts.{every}
use Rattle.rules.specs.Manifests.{Reading, reading}
use Rattle.rules.specs.Calls.{accepts}
use Rattle.names.specs.Paths.{path_bytes}
use Rattle.modules.specs.Rows.{row_names}
use Rattle.manifest.specs.Holds.{names_read, Left}
use Rattle.manifest.specs.Outcomes.{counted, require_rows, exclude_rows}
use Rattle.project.proofs.Reading.{every_member, map_take, asked_is, taken_over}
use Rattle.project.proofs.loading.read_project.Goals as goal

pub of-main-requires : goal.of-main-requires
of-main-requires c =
    let n = c.in_ok-manifest.manifest.required in
    let after = c.read.new.required in
    let ok = c.in_ok-manifest.ensures.formed in
    let same = map_take n after in
    (omega (arith, ok.require_rows, ap length same, length-map (take n after) row_names), ap (every is_module_version) same ∙ every_member is_module_version (names_read n after) ok.requires)

pub returns : goal.returns
returns c =
    let b = c.blank-required.result in
    let d = c.blank-excluded.result in
    let text = c.args.text.now in
    let m = c.in_ok-manifest.manifest in
    let h = c.in_ok-manifest.ensures in
    let is = asked_is b d text in
    record {
      value = λ s.
          (λ i. accepts (record { main = path_bytes (c.of-main.ensures.path i); rows = c.of-main.ensures.value i; exclusions = c.exclusions_of-exclusions.ensures.value i }))
          ∙ taken_over s (reading 256 text) (path_bytes m.main) m.required m.excluded (replicate 256 b) c.read.new.required (replicate 32 d) c.read.new.excluded
          (h.value ∙ ap counted is)
          (subst (λ (r : Reading). Left (replicate 256 b) c.read.new.required (require_rows r)) is h.items.0)
          (subst (λ (r : Reading). Left (replicate 32 d) c.read.new.excluded (exclude_rows r)) is h.items.1);
    }
