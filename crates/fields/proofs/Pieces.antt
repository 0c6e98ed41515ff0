-- The pieces and pairs of bytes, one by one. Assumes nothing.
use Rattle.std.proofs.Common.{◌≡◌, ℕ, zero, suc, ◌+◌, ◌-◌, ◌*◌, ◌<◌, ◌≤◌, true, false, leb, ◌⊎◌, List, [], ◌∷◌, length, take, drop, Some, None, Option, sym, refl, ap, ◌∙◌, inl, inr, ⊎_elim, arith}
use Rattle.std.proofs.lemmas.List.{length-take-le, length-drop}
use Rattle.std.proofs.lemmas.Bool.{cond-true, cond-false, cases_Bool, leb-true}
use Rattle.rules.specs.Orders.{Bytes}
use Rattle.fields.specs.Fields.{Cut, field_of, Piece, whole, torn, cut_on, cuts, pieces}
use Rattle.fields.specs.Pairs.{pairs, pairs_in, PairCut, with_second, with_first, pair_of}

-- a field takes three bytes more than its own
pub field_size : (bs : Bytes) (f : Cut) → Some f ≡ field_of bs → length bs ≡ 3 + length f.body + length f.after
field_size [] f e = let z : ◌≡◌ {A = ℕ} 0 1 = cc in absurd (omega arith)
field_size (t ∷ []) f e = let z : ◌≡◌ {A = ℕ} 0 1 = cc in absurd (omega arith)
field_size (t ∷ h ∷ []) f e = let z : ◌≡◌ {A = ℕ} 0 1 = cc in absurd (omega arith)
field_size (t ∷ h ∷ l ∷ rest) f e =
    let it : Cut = record { tag = t; body = take (h * 256 + l) rest; after = drop (h * 256 + l) rest } in
    ⊎_elim
    (λ (fits : leb (h * 256 + l) (length rest) ≡ true).
    let le = leb-true (h * 256 + l) (length rest) fits in
    let x = cond-true (leb (h * 256 + l) (length rest)) (Some it) None fits in
    let is : f ≡ it = cc in
    let a : length f.body ≡ h * 256 + l = ap (λ (p : Cut). length p.body) is ∙ length-take-le (h * 256 + l) rest le in
    let b : length f.after ≡ length rest - (h * 256 + l) = ap (λ (p : Cut). length p.after) is ∙ length-drop (h * 256 + l) rest in
    omega arith)
    (λ (over : leb (h * 256 + l) (length rest) ≡ false).
    let x = cond-false (leb (h * 256 + l) (length rest)) (Some it) None over in
    let z : ◌≡◌ {A = ℕ} 0 1 = cc in absurd (omega arith))
    (cases_Bool (leb (h * 256 + l) (length rest)))

cut_same : (o : Option Cut) (g h : Bytes → List Piece) → ((f : Cut) → Some f ≡ o → g f.after ≡ h f.after) → cut_on g o ≡ cut_on h o
cut_same None g h e = refl
cut_same (Some f) g h e = ap (λ ps. whole f.tag f.body ∷ ps) (e f refl)

cuts_same : (k j : ℕ) (bs : Bytes) → length bs ≤ k → length bs ≤ j → cuts k bs ≡ cuts j bs
unfolding cuts
cuts_same zero zero bs a b = refl
cuts_same zero (suc j) [] a b = refl
cuts_same zero (suc j) (x ∷ bs) a b = absurd (omega arith)
cuts_same (suc k) zero [] a b = refl
cuts_same (suc k) zero (x ∷ bs) a b = absurd (omega arith)
cuts_same (suc k) (suc j) [] a b = refl
cuts_same (suc k) (suc j) (x ∷ bs) a b =
    cut_same (field_of (x ∷ bs)) (cuts k) (cuts j)
    (λ f e. let s = field_size (x ∷ bs) f e in cuts_same k j f.after (omega arith) (omega arith))

pub pieces_whole : (bs : Bytes) (f : Cut) → Some f ≡ field_of bs → pieces bs ≡ whole f.tag f.body ∷ pieces f.after
unfolding pieces cuts
pieces_whole [] f e = let z : ◌≡◌ {A = ℕ} 0 1 = cc in absurd (omega arith)
pieces_whole (x ∷ bs) f e =
    let s = field_size (x ∷ bs) f e in
    ap (cut_on (cuts (length bs))) (sym e)
    ∙ ap (λ ps. whole f.tag f.body ∷ ps) (cuts_same (length bs) (length f.after) f.after (omega arith) (omega arith))

pub pieces_torn : (bs : Bytes) → 0 < length bs → None ≡ field_of bs → pieces bs ≡ torn ∷ []
unfolding pieces cuts
pieces_torn [] h e = absurd (omega arith)
pieces_torn (x ∷ bs) h e = ap (cut_on (cuts (length bs))) (sym e)

pub pieces_none : pieces [] ≡ []
unfolding pieces cuts
pieces_none = refl

-- where no field stands
no_field : (bs : Bytes) → None ≡ field_of bs → (pieces bs ≡ []) ⊎ (pieces bs ≡ torn ∷ [])
no_field [] e = inl pieces_none
no_field (b ∷ bs) e = inr (pieces_torn (b ∷ bs) (omega arith) e)

bare : {X : Type 0} (F : List Piece → X) (x : X) (bs : Bytes) → None ≡ field_of bs → F [] ≡ x → F (torn ∷ []) ≡ x → F (pieces bs) ≡ x
bare F x bs e a b = ⊎_elim (λ (h : pieces bs ≡ []). ap F h ∙ a) (λ (h : pieces bs ≡ torn ∷ []). ap F h ∙ b) (no_field bs e)

-- the first pair and those behind it
pub pairs_some : (bs : Bytes) (p : PairCut) → Some p ≡ pair_of bs → pairs_in bs ≡ p.pair ∷ pairs_in p.after
unfolding pairs_in
pairs_some bs p e = one (field_of bs) refl e
  where
    two : (f : Cut) → Some f ≡ field_of bs → (o : Option Cut) → o ≡ field_of f.after → Some p ≡ with_second f o → pairs (pieces bs) ≡ p.pair ∷ pairs (pieces p.after)
    two f h None k d = let z : ◌≡◌ {A = ℕ} 0 1 = cc in absurd (omega arith)
    two f h (Some g) k d =
        let it : PairCut = record { pair = record { tag = f.tag; first = f.body; second = g.body }; after = g.after } in
        let is : p ≡ it = cc in
        ap pairs (pieces_whole bs f h ∙ ap (λ ps. whole f.tag f.body ∷ ps) (pieces_whole f.after g k)) ∙ ap (λ (q : PairCut). q.pair ∷ pairs (pieces q.after)) (sym is)

    one : (o : Option Cut) → o ≡ field_of bs → Some p ≡ with_first o → pairs (pieces bs) ≡ p.pair ∷ pairs (pieces p.after)
    one None h d = let z : ◌≡◌ {A = ℕ} 0 1 = cc in absurd (omega arith)
    one (Some f) h d = two f h (field_of f.after) refl d

pub pairs_none : (bs : Bytes) → None ≡ pair_of bs → pairs_in bs ≡ []
unfolding pairs_in
pairs_none bs e = one (field_of bs) refl e
  where
    two : (f : Cut) → Some f ≡ field_of bs → (o : Option Cut) → o ≡ field_of f.after → None ≡ with_second f o → pairs (pieces bs) ≡ []
    two f h None k d = ap pairs (pieces_whole bs f h) ∙ bare (λ ps. pairs (whole f.tag f.body ∷ ps)) [] f.after k refl refl
    two f h (Some g) k d = let z : ◌≡◌ {A = ℕ} 0 1 = cc in absurd (omega arith)

    one : (o : Option Cut) → o ≡ field_of bs → None ≡ with_first o → pairs (pieces bs) ≡ []
    one None h d = bare pairs [] bs h refl refl
    one (Some f) h d = two f h (field_of f.after) refl d

pub pair_size : (bs : Bytes) (p : PairCut) → Some p ≡ pair_of bs → length p.after < length bs
pair_size bs p e = one (field_of bs) refl e
  where
    two : (f : Cut) → Some f ≡ field_of bs → (o : Option Cut) → o ≡ field_of f.after → Some p ≡ with_second f o → length p.after < length bs
    two f h None k d = let z : ◌≡◌ {A = ℕ} 0 1 = cc in absurd (omega arith)
    two f h (Some g) k d =
        let it : PairCut = record { pair = record { tag = f.tag; first = f.body; second = g.body }; after = g.after } in
        let is : p ≡ it = cc in
        let same : length p.after ≡ length g.after = ap (λ (q : PairCut). length q.after) is in
        omega (arith, field_size bs f h, field_size f.after g k)

    one : (o : Option Cut) → o ≡ field_of bs → Some p ≡ with_first o → length p.after < length bs
    one None h d = let z : ◌≡◌ {A = ℕ} 0 1 = cc in absurd (omega arith)
    one (Some f) h d = two f h (field_of f.after) refl d
