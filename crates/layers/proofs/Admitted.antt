-- What a table of exclusions answers to one more, by its cause. Assumes nothing.
use Rattle.std.proofs.Common.{◌≡◌, ℕ, Bool, cond, ltb, leb, List, length, is_some, Some, None, Ok, Err, Option, Result, sym, ap, ◌∙◌, ⊎_elim}
use Rattle.std.specs.Result.{MatchResult, IsErrAnd}
use Rattle.std.proofs.lemmas.Bool.{cases_lt, lt-ltb, le-ltb, le-leb, lt-leb}
use Rattle.rules.specs.Names.{ModuleVersion, module_order, has}
use Rattle.rules.specs.Rows.{own, AscendingExclusions}
use Rattle.rules.specs.Tables.{lookup}
use Rattle.ordered.specs.Held.{admitted}
use Rattle.ordered.specs.declared.table.NotInserted.{NotInserted}
use Rattle.causes.specs.declared.cause.Cause.{Cause}
use Rattle.causes.specs.declared.cause.Cause.TheVariants.{TableFull, NothingToChange}
use Rattle.layers.specs.Excluded.{refusal_cause, exclusion_told}
use Rattle.layers.proofs.Lookups.{lookup_has}

abbrev pub by_cause : Result (Unit {0}) NotInserted → Result (Unit {0}) Cause
by_cause (Ok u) = Ok u
by_cause (Err refused) = Err (refusal_cause refused)

-- each refusal by its cause
pub mapped_by : (r : Result (Unit {0}) NotInserted) (m : Result (Unit {0}) Cause) (post : NotInserted → Cause → Type 0) → ((e : NotInserted) (d : Cause) → post e d → d ≡ refusal_cause e)
    → MatchResult r (λ x. m ≡ Ok x) (λ e. IsErrAnd m (post e)) → m ≡ by_cause r
mapped_by (Ok u) m post tells h = h
mapped_by (Err e) (Ok u) post tells h = absurd h
mapped_by (Err e) (Err d) post tells h = ap Err (tells e d h)

abbrev in_room : Bool → Result (Unit {0}) Cause
in_room full = cond full (Err TableFull) (Ok tt)

by_room : (n : ℕ) → by_cause (admitted {A = ModuleVersion} None (ltb n 32)) ≡ in_room (leb 32 n)
by_room n =
    ⊎_elim
    (λ h. ap (λ b. by_cause (admitted {A = ModuleVersion} None b)) (lt-ltb n 32 h) ∙ ap in_room (sym (lt-leb 32 n h)))
    (λ h. ap (λ b. by_cause (admitted {A = ModuleVersion} None b)) (le-ltb n 32 h) ∙ ap in_room (sym (le-leb 32 n h)))
    (cases_lt n 32)

pub exclusion_answered : (x : ModuleVersion) (es : List ModuleVersion) → AscendingExclusions es → by_cause (admitted (lookup own module_order x es) (ltb (length es) 32)) ≡ exclusion_told es x
exclusion_answered x es up = go (lookup own module_order x es) (lookup_has x es up)
  where
    go : (o : Option ModuleVersion) → is_some o ≡ has es x → by_cause (admitted o (ltb (length es) 32)) ≡ exclusion_told es x
    go None e = by_room (length es) ∙ ap (λ b. cond b (Err NothingToChange) (in_room (leb 32 (length es)))) e
    go (Some y) e = ap (λ b. cond b (Err NothingToChange) (in_room (leb 32 (length es)))) e
