-- A body as it is read, told as a source's answer. Assumes nothing.
use Rattle.std.proofs.Common.{◌≡◌, ℕ, Bool, true, false, cond, ◌&&◌, leb, List, length, Ok, Err, Result, refl, ap, ◌∙◌}
use Rattle.rules.specs.Orders.{Bytes}
use Rattle.rules.specs.Causes as R
use Rattle.rules.specs.Names.{ModuleVersion}
use Rattle.rules.specs.Manifests as M
use Rattle.rules.specs.Questions.{too_short, given_in, told}
use Rattle.rules.specs.Slices.{blank, filled}
use Rattle.rules.specs.Sources.{Answer, found, fault, found_in, narrowed}
use Rattle.manifest.specs.Outcomes.{Counts, counted, require_rows}
use Rattle.tree.specs.Files.{reading_answer, body_answer}

abbrev pub counts_answer : Result Counts R.Refusal → Answer ℕ
counts_answer (Ok c) = found c.required
counts_answer (Err f) = fault (record { cause = f.cause; place = f.place; depth = f.depth })

-- a source's manifest read into n rows, with room for every exclude row
abbrev pub asked_in : ℕ → Bytes → M.Reading
asked_in n text = cond (leb 64 n && true) (M.reading 64 text) (M.unread R.slice_too_short 0)

asked_is : (n : ℕ) (text : Bytes) → reading_answer (asked_in n text) ≡ given_in n (body_answer text)
asked_is n text = go (leb 64 n)
  where
    go : (b : Bool) → reading_answer (cond (b && true) (M.reading 64 text) (M.unread R.slice_too_short 0)) ≡ cond b (body_answer text) (fault too_short)
    go true = refl
    go false = refl

counts_told : (r : M.Reading) → counts_answer (counted r) ≡ narrowed length (reading_answer r)
counts_told (M.manifest m) = refl
counts_told (M.unread c n) = refl

rows_told : (r : M.Reading) → require_rows r ≡ found_in (reading_answer r)
rows_told (M.manifest m) = refl
rows_told (M.unread c n) = refl

module _ (n : ℕ) (text : Bytes) where
  pub body_counted : (r : Result Counts R.Refusal) → r ≡ counted (asked_in n text) → counts_answer r ≡ (told blank n (body_answer text)).answer
  body_counted r e = ap counts_answer e ∙ counts_told (asked_in n text) ∙ ap (narrowed length) (asked_is n text)

  pub body_laid : (rows : List ModuleVersion) → rows ≡ filled blank n (require_rows (asked_in n text)) → rows ≡ (told blank n (body_answer text)).slice
  body_laid rows e = e ∙ ap (filled blank n) (rows_told (asked_in n text) ∙ ap found_in (asked_is n text))
