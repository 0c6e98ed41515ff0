-- No path is read, no version, or both are. Assumes nothing.
use Rattle.std.proofs.Common.{Some, ap, ◌∙◌}
use Rattle.std.specs.Option.{option_map}
use Rattle.modules.specs.Rows.{names_of}
use Rattle.names.specs.Texts.{text_bytes}
use Rattle.tree.specs.Layouts.{formed}
use Rattle.tree.proofs.Laid.{laid_read, no_path_read, no_version_read, layout_right}
use Rattle.tree.proofs.layout.manifest_of.Goals as goal

pub returns-in_err-path : goal.returns-in_err-path
returns-in_err-path c = record { value = ap (option_map names_of) c.from_residual.ensures ∙ no_path_read c.args.folder.now c.args.file.now c.in_err-path.ensures.value; names = layout_right }

pub returns-in_err-version : goal.returns-in_err-version
returns-in_err-version c =
    record {
      value = ap (option_map names_of) c.from_residual-in_err-version.ensures
          ∙ no_version_read c.args.folder.now c.args.file.now (Some (text_bytes c.in_ok-path.path)) c.in_ok-path.ensures.value c.in_err-version.ensures.value;
      names = layout_right;
    }

pub returns : goal.returns
returns c =
    record {
      value = c.check.ensures ∙ ap (λ p. formed (Some p) (Some c.as_bytes-2.result.now)) c.as_bytes.ensures ∙ ap (λ v. formed (Some (text_bytes c.in_ok-path.path)) (Some v)) c.as_bytes-2.ensures
          ∙ laid_read c.args.folder.now c.args.file.now (Some (text_bytes c.in_ok-path.path)) (Some (text_bytes c.in_ok-version.version)) c.in_ok-path.ensures.value c.in_ok-version.ensures.value;
      names = layout_right;
    }
