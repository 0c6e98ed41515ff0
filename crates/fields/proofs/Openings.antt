-- Opening, one piece after the other. Assumes nothing.
use Rattle.std.proofs.Common.{◌≡◌, ℕ, ◌+◌, ◌-◌, ◌<◌, ◌≤◌, Bool, true, false, cond, length, Some, None, Ok, Err, Result, sym, refl, ap, ◌∙◌, subst, arith}
use Rattle.std.proofs.lemmas.List.{nil_from_length}
use Rattle.std.proofs.lemmas.Bool.{cond-true, cond-false, le-leb, lt-leb}
use Rattle.std.specs.Result.{MatchResult, IsErrAnd}
use Rattle.rules.specs.Orders.{Bytes}
use Rattle.rules.specs.Causes.{Cause, too_long, damaged_buffer}
use Rattle.causes.specs.declared.cause.Cause.{Cause as ToldBy}
use Rattle.causes.specs.declared.refusal.Refusal.{Refusal}
use Rattle.causes.specs.Told.{cause_of, refusal_of, of_place}
use Rattle.fields.specs.Views.{next_of}
use Rattle.fields.specs.Fields.{Cut, field_of, pieces}
use Rattle.fields.specs.Openings.{Opening, refused_at, opened_on, opened_from, opened}
use Rattle.fields.proofs.Pieces.{field_size, pieces_whole, pieces_torn, pieces_none}

module _ {W : Type 0} (follow : W → ℕ → Bytes → Result W Cause) (may_end : W → Bool) where
  -- what is left of n bytes
  abbrev pub left : W → ℕ → Bytes → Opening
  left w n rest = opened_from follow may_end w (n - length rest) (pieces rest)

  module _ (w : W) (n : ℕ) (rest : Bytes) where
    pub at_torn : 0 < length rest → None ≡ field_of rest → left w n rest ≡ refused_at (n - length rest) damaged_buffer
    at_torn h e = ap (opened_from follow may_end w (n - length rest)) (pieces_torn rest h e)

    to_end : length rest ≡ 0 → left w n rest ≡ cond (may_end w) (Ok tt) (refused_at n damaged_buffer)
    to_end e =
        let none = nil_from_length rest e in
        let place : n - length rest ≡ n = omega arith in
        ap (λ (b : Bytes). opened_from follow may_end w (n - length rest) (pieces b)) none
        ∙ ap (opened_from follow may_end w (n - length rest)) pieces_none
        ∙ ap (λ k. cond (may_end w) (Ok tt) (refused_at k damaged_buffer)) place

    pub ends_well : length rest ≡ 0 → may_end w ≡ true → left w n rest ≡ Ok tt
    ends_well e h = to_end e ∙ cond-true _ _ _ h

    pub ends_early : length rest ≡ 0 → may_end w ≡ false → left w n rest ≡ refused_at n damaged_buffer
    ends_early e h = to_end e ∙ cond-false _ _ _ h

    module _ (f : Cut) (e : Some f ≡ field_of rest) where
      abbrev stepped : Result W Cause → Opening
      stepped = opened_on follow may_end (λ v. opened_from follow may_end v (n - length rest + 3 + length f.body) (pieces f.after)) (n - length rest)

      to_step : left w n rest ≡ stepped (follow w f.tag f.body)
      to_step = ap (opened_from follow may_end w (n - length rest)) (pieces_whole rest f e)

      pub refused : (c : Cause) → Err c ≡ follow w f.tag f.body → left w n rest ≡ refused_at (n - length rest) c
      refused c h = to_step ∙ ap stepped (sym h)

      pub one_more : (v : W) → length rest ≤ n → Ok v ≡ follow w f.tag f.body → left w n rest ≡ left v n f.after
      one_more v l h =
          let s = field_size rest f e in
          let place : n - length rest + 3 + length f.body ≡ n - length f.after = omega arith in
          to_step ∙ ap stepped (sym h) ∙ ap (λ at. opened_from follow may_end v at (pieces f.after)) place

  module _ (start : W) (bs : Bytes) where
    pub opened_within : length bs ≤ 65536 → opened follow may_end start bs ≡ left start (length bs) bs
    unfolding opened
    opened_within h =
        let place : 0 ≡ length bs - length bs = omega arith in
        cond-true _ _ _ (le-leb _ _ h) ∙ ap (λ at. opened_from follow may_end start at (pieces bs)) place

    pub opened_long : 65536 < length bs → opened follow may_end start bs ≡ refused_at 0 too_long
    unfolding opened
    opened_long h = cond-false _ _ _ (lt-leb _ _ h)

-- what a cause becomes at a place
module _ {W : Type 0} (place : ℕ) (r : Result W ToldBy) (m : Result W Refusal) (post : ToldBy → Refusal → Type 0)
    (tells : (c : ToldBy) (d : Refusal) → post c d → refusal_of d ≡ of_place (cause_of c) place)
    (cases : MatchResult r (λ w. m ≡ Ok w) (λ c. IsErrAnd m (post c))) where
  pub went_on : (w : W) → m ≡ Ok w → Ok w ≡ next_of r
  went_on w e = go r cases
    where
      go : (q : Result W ToldBy) → MatchResult q (λ v. m ≡ Ok v) (λ c. IsErrAnd m (post c)) → Ok w ≡ next_of q
      go (Ok v) h = let f = sym e ∙ h in let same : w ≡ v = cc in ap Ok same
      go (Err c) h = absurd (subst (λ z. IsErrAnd z (post c)) e h)

  pub stopped : (d : Refusal) → m ≡ Err d → (c : Cause) × (Err c ≡ next_of r) × (refusal_of d ≡ of_place c place)
  stopped d e = go r cases
    where
      go : (q : Result W ToldBy) → MatchResult q (λ v. m ≡ Ok v) (λ c. IsErrAnd m (post c)) → (c : Cause) × (Err c ≡ next_of q) × (refusal_of d ≡ of_place c place)
      go (Ok v) h = let z : ◌≡◌ {A = ℕ} 0 1 = cc in absurd (omega arith)
      go (Err c) h = (cause_of c, refl, tells c d (subst (λ z. IsErrAnd z (post c)) e h))
