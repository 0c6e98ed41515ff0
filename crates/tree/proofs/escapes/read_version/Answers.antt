-- No text, a version, and a text that is none. Assumes nothing.
use Rattle.std.proofs.Common.{Some, sym, ap, ◌∙◌}
use Rattle.std.specs.Option.{option_map}
use Rattle.versions.specs.Values.{plain_version_bytes}
use Rattle.tree.specs.Filenames.{bound, formed_version}
use Rattle.tree.proofs.Spelled.{version_read}
use Rattle.tree.proofs.escapes.read_version.Goals as goal

pub returns-in_err-text : goal.returns-in_err-text
returns-in_err-text c =
    record { value = ap (option_map plain_version_bytes) c.from_residual.ensures ∙ ap (bound formed_version) c.in_err-text.ensures.value ∙ sym (version_read c.args.bytes.now) }

pub returns-in_err-version : goal.returns-in_err-version
returns-in_err-version c =
    record {
      value = ap (option_map plain_version_bytes) c.from_residual-in_err-version.ensures ∙ c.in_err-version.ensures ∙ ap formed_version c.as_bytes.ensures
          ∙ ap (bound formed_version) c.in_ok-text.ensures.value ∙ sym (version_read c.args.bytes.now);
    }

pub returns : goal.returns
returns c =
    record {
      value = ap (λ v. Some (plain_version_bytes v)) c.plain.ensures ∙ c.in_ok-version.ensures ∙ ap formed_version c.as_bytes.ensures
          ∙ ap (bound formed_version) c.in_ok-text.ensures.value ∙ sym (version_read c.args.bytes.now);
    }
