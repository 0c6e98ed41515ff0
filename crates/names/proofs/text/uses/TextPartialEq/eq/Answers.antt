-- The same bytes are the same text. Assumes nothing.
use Rattle.std.proofs.Common.{sym, ap, ◌∙◌}
use Rattle.std.proofs.lemmas.Slice.Eq.{slice_eq-Decides}
use Rattle.std.proofs.lemmas.Bool.Decides.{Decides-eqb}
use Rattle.names.specs.Texts.{text_bytes}
use Rattle.names.specs.Canon.{same_text}
use Rattle.names.proofs.text.uses.TextPartialEq.eq.Goals as goal

pub returns-clause-same : goal.returns-clause-same
returns-clause-same c =
    let d = slice_eq-Decides Decides-eqb _ _ _ c.eq.ensures in (
      λ t. same_text c.args.self.now c.args.other.now (sym c.as_bytes.ensures ∙ d.0 t ∙ c.as_bytes-2.ensures),
      λ e. d.1 (c.as_bytes.ensures ∙ ap text_bytes e ∙ sym c.as_bytes-2.ensures),
    )
