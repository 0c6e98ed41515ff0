-- What is stripped is the front. Assumes nothing.
use Rattle.std.proofs.Common.{◌≡◌, ℕ, ◌+◌, List, ◌++◌, length, drop, Some, None, Option, sym, ap, ◌∙◌, Bor, MatchOption}
use Rattle.std.specs.Str.Pattern.{FindsTextPrefix}
use Rattle.std.specs.Option.{option_map}
use Rattle.rules.specs.Orders.{Bytes}
use Rattle.tree.specs.Filenames.{behind}
use Rattle.tree.proofs.Spelled.{behind_told}
use Rattle.commands.specs.Arguments.{Named}
use Rattle.commands.specs.declared.arguments.Form.{Form}
use Rattle.commands.proofs.arguments.named.Goals as goal

abbrev in_form : Form → Bytes → Named
in_form f p = record { form = f; place = p }

-- as `strip_prefix` tells it of text
text_behind : (s p : Bytes) (r : Option (Bor (List ℕ)))
    → MatchOption r (FindsTextPrefix p s None) (λ x. (n : ℕ) × FindsTextPrefix p s (Some n) × (x.now ≡ drop n s) × (length x.now + n ≡ length s))
    → option_map (λ x. x.now) r ≡ behind p s
text_behind s p None h = behind_told s p None h
text_behind s p (Some x) h = behind_told s p (Some x) (h.1.1 ∙ ap (λ t. p ++ t) (sym h.2))

pub returns-in_err-place : goal.returns-in_err-place
returns-in_err-place c =
    rw c.from_residual.ensures (record { value = ap (option_map (in_form c.args.form)) (text_behind c.args.word.now c.args.text.now None c.in_err-place.ensures.cases) })

pub returns : goal.returns
returns c = record { value = ap (option_map (in_form c.args.form)) (text_behind c.args.word.now c.args.text.now (Some c.in_ok-place.place) c.in_ok-place.ensures.cases) }
