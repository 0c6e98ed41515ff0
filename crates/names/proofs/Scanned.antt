-- A text that passes byte by byte is one whose elements are well formed. Assumes nothing.
use Rattle.std.proofs.Common.{◌≡◌, ℕ, Bool, true, false, not, ◌&&◌, eqb, List, [], ◌∷◌, refl, ap, ◌∙◌}
use Rattle.std.proofs.lemmas.Bool.{eqb-true}
use Rattle.rules.specs.Orders.{Bytes}
use Rattle.rules.specs.Texts.{dot, slash, every, begun, pieces}
use Rattle.rules.specs.Paths.{element_byte, last_byte, is_element}
use Rattle.names.specs.Scans.{scan}

-- the rest of an element that p is the last byte of so far
abbrev goes_on : ℕ → Bytes → Bool
goes_on p q = every element_byte q && not (eqb (last_byte p q) dot)

abbrev goes_on_first : ℕ → List Bytes → Bool
goes_on_first p [] = goes_on p [] && true
goes_on_first p (q ∷ qs) = goes_on p q && every is_element qs

-- the two ways that a text goes on: in an element, and where one begins
record Both (bs : Bytes) : Type 0 where
  inside : (p : ℕ) → eqb p slash ≡ false → scan p bs ≡ goes_on_first p (pieces slash bs)
  begins : scan slash bs ≡ every is_element (pieces slash bs)

regroup_inside : (a x y z : Bool) → ((a && true) && ((x && y) && z)) ≡ (((a && x) && y) && z)
regroup_inside true x y z = refl
regroup_inside false x y z = refl

regroup_begins : (a d x y z : Bool) → ((a && d) && ((x && y) && z)) ≡ (((a && x) && (d && y)) && z)
regroup_begins true true x y z = refl
regroup_begins true false true y z = refl
regroup_begins true false false y z = refl
regroup_begins false d x y z = refl

and_true : (t : Bool) → t ≡ (t && true)
and_true true = refl
and_true false = refl

-- behind a byte that is no slash the first piece is longer by it
inside_more : (b p : ℕ) (ps : List Bytes) → ((element_byte b && true) && goes_on_first b ps) ≡ goes_on_first p (begun b ps)
inside_more b p [] = regroup_inside (element_byte b) true (not (eqb b dot)) true
inside_more b p (q ∷ qs) = regroup_inside (element_byte b) (every element_byte q) (not (eqb (last_byte b q) dot)) (every is_element qs)

begins_more : (b : ℕ) (ps : List Bytes) → ((element_byte b && not (eqb b dot)) && goes_on_first b ps) ≡ every is_element (begun b ps)
begins_more b [] = regroup_begins (element_byte b) (not (eqb b dot)) true (not (eqb b dot)) true
begins_more b (q ∷ qs) = regroup_begins (element_byte b) (not (eqb b dot)) (every element_byte q) (not (eqb (last_byte b q) dot)) (every is_element qs)

both : (bs : Bytes) → Both bs
both [] = record { inside = λ p e. rw e (and_true (not (eqb p dot))); begins = refl }
both (b ∷ bs) = go (both bs) (eqb b slash) refl
  where
    go : Both bs → (t : Bool) → eqb b slash ≡ t → Both (b ∷ bs)
    go below true e =
        let h = ap (λ c. scan c bs) (eqb-true b slash e) ∙ below.begins in
        record { inside = λ p np. rw (e, np, h); begins = rw e }
    go below false e =
        record { inside = λ p np. rw (e, np, below.inside b e) (inside_more b p (pieces slash bs)); begins = rw (e, below.inside b e) (begins_more b (pieces slash bs)) }

pub scanned : (bs : Bytes) → scan slash bs ≡ every is_element (pieces slash bs)
scanned bs = (both bs).begins
