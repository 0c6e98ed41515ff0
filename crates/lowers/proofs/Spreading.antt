-- The passes over the edges. Assumes nothing.
use Rattle.std.proofs.Common.{◌≡◌, ℕ, zero, suc, ◌+◌, ◌<◌, ◌≤◌, Bool, true, false, cond, not, ◌&&◌, List, [], ◌∷◌, length, get_or, take, set, sym, refl, ap, ◌∙◌, subst, inl, inr, ⊎_elim, true≢false, arith}
use Rattle.std.proofs.lemmas.List.{get_or-set_same, get_or-set_other, take_more, take_all}
use Rattle.std.proofs.lemmas.Bool.{and_parts, cases_eq, not-true}
use Rattle.rules.specs.Names.{◌∈◌}
use Rattle.rules.proofs.Members.{member_either}
use Rattle.lowers.specs.declared.learned.Edge.{Edge}
use Rattle.lowers.specs.Spreads.{unmarked, mark_at, LeadsToMark, here, along, Spread, SpreadOnce}

-- one place less is unmarked
unmarked_set : (bs : List Bool) (i : ℕ) → i < length bs → get_or bs i false ≡ false → suc (unmarked (set bs i true)) ≡ unmarked bs
unmarked_set [] i h e = absurd (omega arith)
unmarked_set (b ∷ bs) zero h e = go b e
  where
    go : (t : Bool) → t ≡ false → suc (unmarked bs) ≡ cond t (unmarked bs) (suc (unmarked bs))
    go true q = absurd (true≢false q)
    go false q = refl
unmarked_set (b ∷ bs) (suc i) h e = go b (unmarked_set bs i (omega arith) e)
  where
    go : (t : Bool) → suc (unmarked (set bs i true)) ≡ unmarked bs → suc (cond t (unmarked (set bs i true)) (suc (unmarked (set bs i true)))) ≡ cond t (unmarked bs) (suc (unmarked bs))
    go true q = q
    go false q = ap suc q

-- what is read is a member
pub read_member : (es : List Edge) (i : ℕ) (e : Edge) → i < length es → e ≡ get_or es i e → e ∈ es
read_member [] i e h q = absurd (omega arith)
read_member (d ∷ ds) zero e h q = inl q
read_member (d ∷ ds) (suc i) e h q = inr (read_member ds i e (omega arith) q)

module _ (es : List Edge) where
  pub spread_none : (m : List Bool) → Spread es m m
  spread_none m = record { stays = λ i t. t; leads = λ i t. here t }

  module _ (m n : List Bool) (more : Spread es m n) (o : List Bool) where
    module _ (e : Edge) (on : e ∈ es) (to : mark_at n e.to ≡ true) (fits : e.from < length n) (is : o ≡ set n e.from true) where
      -- one place more is marked
      marks_same : mark_at o e.from ≡ true
      marks_same = ap (λ bs. get_or bs e.from false) is ∙ get_or-set_same n e.from true false fits

      marks_other : (i : ℕ) → (i ≡ e.from → ⊥) → mark_at o i ≡ mark_at n i
      marks_other i d = ap (λ bs. get_or bs i false) is ∙ get_or-set_other n e.from i true false d

      pub spread_one : Spread es m o
      spread_one = record {
        stays = λ i t. ⊎_elim (λ q. subst (λ j. mark_at o j ≡ true) (sym q) marks_same) (λ d. marks_other i d ∙ more.stays i t) (cases_eq i e.from);
        leads = λ i t. ⊎_elim (λ q. subst (λ j. LeadsToMark es m j) (sym q) (along on (more.leads e.to to))) (λ d. more.leads i (sym (marks_other i d) ∙ t)) (cases_eq i e.from);
      }

    leads_back : {i : ℕ} → LeadsToMark es n i → LeadsToMark es m i
    leads_back (here {i} t) = more.leads i t
    leads_back (along {e} h rest) = along h (leads_back rest)

    pub spread_more : Spread es n o → Spread es m o
    spread_more q = record { stays = λ i t. q.stays i (more.stays i t); leads = λ i t. leads_back (q.leads i t) }

  -- ---- a pass, as far as it has come

  module _ (m : List Bool) where
    -- of the first i edges none leads to a mark without one
    abbrev ClosedUpto : List Bool → ℕ → Type 0
    ClosedUpto n i = (e : Edge) → e ∈ take i es → mark_at n e.to ≡ true → mark_at n e.from ≡ true

    pub record Passing (i : ℕ) (more : Bool) (n : List Bool) : Type 0 where
      pub spread : Spread es m n
      pub fewer : unmarked n + cond more 1 0 ≤ unmarked m
      pub still : more ≡ false → ClosedUpto n i

    pub passing_none : Passing 0 false m
    passing_none = record { spread = spread_none m; fewer = omega arith; still = λ t e h. absurd h }

    -- the edge at i
    module _ (i : ℕ) (more : Bool) (n : List Bool) (p : Passing i more n) (lt : i < length es) (e : Edge) (read : e ≡ get_or es i e) (o : List Bool) where
      pub passing_marks : e.from < length n → true ≡ (mark_at n e.to && not (mark_at n e.from)) → o ≡ set n e.from true → Passing (i + 1) true o
      passing_marks fits t is =
          let (to, from) = and_parts (mark_at n e.to) (not (mark_at n e.from)) (sym t) in
          record {
            spread = spread_one m n p.spread o e (read_member es i e lt read) to fits is;
            fewer = omega (arith, p.fewer, unmarked_set n e.from fits (not-true (mark_at n e.from) from), ap unmarked is);
            still = λ q. absurd (true≢false q);
          }

      pub passing_on : false ≡ (mark_at n e.to && not (mark_at n e.from)) → o ≡ n → Passing (i + 1) more o
      passing_on t is = subst (λ (bs : List Bool). Passing (i + 1) more bs) (sym is) (record {
        spread = p.spread;
        fewer = p.fewer;
        still = λ q d h u.
            ⊎_elim (λ j. p.still q d j u)
            (⊎_elim (λ same. from_to (mark_at n d.to) (mark_at n d.from) (t ∙ ap (λ (c : Edge). mark_at n c.to && not (mark_at n c.from)) (sym (same ∙ sym read))) u) (λ z. absurd z))
            (member_either (take i es) (get_or es i e ∷ []) d (subst (λ ds. d ∈ ds) (take_more es i e lt) h));
      })
        where
          from_to : (a b : Bool) → false ≡ (a && not b) → a ≡ true → b ≡ true
          from_to true true q r = refl
          from_to true false q r = absurd (true≢false (sym q))
          from_to false b q r = absurd (true≢false (sym r))

    pub passed : (i : ℕ) (more : Bool) (n : List Bool) → Passing i more n → length es ≤ i → SpreadOnce es m more n
    passed i more n p all = record {
      spread = p.spread;
      fewer = p.fewer;
      still = λ t e h. p.still t e (subst (λ ds. e ∈ ds) (sym (take_all i es all)) h);
    }
