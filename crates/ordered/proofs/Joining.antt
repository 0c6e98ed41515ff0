-- One item after another entered into a table of at most n items. Assumes nothing.
use Rattle.std.proofs.Common.{◌≡◌, ℕ, suc, ◌+◌, ◌<◌, ◌≤◌, Bool, true, false, ltb, List, [], ◌∷◌, ◌++◌, length, get_or, take, drop, Some, None, Ok, Err, Option, Result, is_ok, ◌≢◌, Ordering, Less, Equal, Greater, sym, refl, ap, ◌∙◌, arith, take-append-drop}
use Rattle.std.specs.Bool.{then_some}
use Rattle.std.specs.Result.{result_eq}
use Rattle.std.proofs.lemmas.List.{take_more, take_all}
use Rattle.std.proofs.lemmas.Bool.{ltb-false, le-leb, lt-leb}
use Rattle.rules.specs.Tables.{keep, lookup, lookup_by, entered, entered_by, joined}
use Rattle.rules.proofs.Tables.{entered_all_push, entered_all_append, entered_all_least}
use Rattle.ordered.specs.declared.table.NotInserted.{NotInserted}
use Rattle.ordered.specs.declared.table.NotInserted.TheVariants.{Present, Full}
use Rattle.ordered.specs.Held.{admitted, fitting}

-- an answer compared with a refusal, and with that there is no room
pub not_refused : {E : Type 0} (same_unit : Unit {0} → Unit {0} → Bool) (same : E → E → Bool) (x : E) (r : Result (Unit {0}) E) → false ≡ result_eq same_unit same r (Err x) → same x x ≡ true → r ≢ Err x
not_refused same_unit same x r e alike q = let z : false ≡ true = e ∙ ap (λ p. result_eq same_unit same p (Err x)) q ∙ alike in cc

pub is_full : (same_unit : Unit {0} → Unit {0} → Bool) (same : NotInserted → NotInserted → Bool) (r : Result (Unit {0}) NotInserted) → true ≡ result_eq same_unit same r (Err Full) → same Present Full ≡ false
    → r ≡ Err Full
is_full same_unit same (Ok u) e apart = cc
is_full same_unit same (Err Present) e apart = let z : true ≡ false = e ∙ apart in cc
is_full same_unit same (Err Full) e apart = refl

module _ {A K : Type 0} (key : A → K) (order : K → K → Ordering) where
  -- where an item of the key is there, nothing changes
  pub entered_present : (x y : A) (t : List A) → lookup key order (key x) t ≡ Some y → entered key order keep x t ≡ t
  entered_present x y [] e = cc
  entered_present x y (z ∷ zs) e = go (order (key x) (key z)) (entered_present x y zs) e
    where
      go : (o : Ordering) → (lookup key order (key x) zs ≡ Some y → entered key order keep x zs ≡ zs) → lookup_by key order o z (lookup key order (key x) zs) ≡ Some y
          → entered_by key order o keep x z zs (entered key order keep x zs) ≡ z ∷ zs
      go Less below f = cc
      go Equal below f = refl
      go Greater below f = ap (λ ws. z ∷ ws) (below f)

  -- where none is, the table is one longer
  pub entered_absent : (x : A) (t : List A) → lookup key order (key x) t ≡ None → length (entered key order keep x t) ≡ suc (length t)
  entered_absent x [] e = refl
  entered_absent x (z ∷ zs) e = go (order (key x) (key z)) (entered_absent x zs) e
    where
      go : (o : Ordering) → (lookup key order (key x) zs ≡ None → length (entered key order keep x zs) ≡ suc (length zs)) → lookup_by key order o z (lookup key order (key x) zs) ≡ None
          → length (entered_by key order o keep x z zs (entered key order keep x zs)) ≡ suc (suc (length zs))
      go Less below f = refl
      go Equal below f = absurd (let z : ◌≡◌ {A = ℕ} 0 1 = cc in omega arith)
      go Greater below f = ap suc (below f)

  present_same : (x : A) (t : List A) (room : Bool) → Err Present ≡ admitted (lookup key order (key x) t) room → t ≡ entered key order keep x t
  present_same x t room e = go (lookup key order (key x) t) room refl e
    where
      go : (o : Option A) (b : Bool) → lookup key order (key x) t ≡ o → Err Present ≡ admitted o b → t ≡ entered key order keep x t
      go (Some y) b l f = sym (entered_present x y t l)
      go None true l f = absurd (let z : ◌≡◌ {A = ℕ} 0 1 = cc in omega arith)
      go None false l f = absurd (let z : ◌≡◌ {A = ℕ} 0 1 = cc in omega arith)

  full_longer : (x : A) (t : List A) (n : ℕ) → Err Full ≡ admitted (lookup key order (key x) t) (ltb (length t) n) → n < length (entered key order keep x t)
  full_longer x t n e = go (lookup key order (key x) t) (ltb (length t) n) refl refl e
    where
      go : (o : Option A) (b : Bool) → lookup key order (key x) t ≡ o → ltb (length t) n ≡ b → Err Full ≡ admitted o b → n < length (entered key order keep x t)
      go (Some y) b l p f = absurd (let z : ◌≡◌ {A = ℕ} 0 1 = cc in omega arith)
      go None true l p f = absurd (let z : ◌≡◌ {A = ℕ} 0 1 = cc in omega arith)
      go None false l p f = omega (arith, entered_absent x t l, ltb-false (length t) n p)

  -- the items u of the second table are gone through to i, h is what is joined so far, and x is the item at i
  module _ (t u h : List A) (i : ℕ) (so_far : h ≡ joined key order t (take i u)) where
    module _ (x : A) (in_list : i < length u) (read : x ≡ get_or u i x) where
      more : entered key order keep x h ≡ joined key order t (take (i + 1) u)
      more =
          ap (entered key order keep x) so_far
          ∙ sym (entered_all_push key order keep t (take i u) x)
          ∙ ap (joined key order t) (ap (λ y. take i u ++ y ∷ []) read ∙ sym (take_more u i x in_list))

      pub joined_more : (zs : List A) → zs ≡ entered key order keep x h → zs ≡ joined key order t (take (i + 1) u)
      joined_more zs e = e ∙ more

      pub joined_same : (zs : List A) (room : Bool) → zs ≡ h → Err Present ≡ admitted (lookup key order (key x) h) room → zs ≡ joined key order t (take (i + 1) u)
      joined_same zs room e p = e ∙ present_same x h room p ∙ more

      -- by what the insertion answered, if it was not that there is no room
      pub joined_on : (r : Result (Unit {0}) NotInserted) (zs : List A) (room : Bool) → r ≡ admitted (lookup key order (key x) h) room → (is_ok r ≡ true → zs ≡ entered key order keep x h)
          → (is_ok r ≡ false → zs ≡ h) → r ≢ Err Full → zs ≡ joined key order t (take (i + 1) u)
      joined_on (Ok u) zs room e after refused ne = joined_more zs (after refl)
      joined_on (Err Present) zs room e after refused ne = joined_same zs room (refused refl) e
      joined_on (Err Full) zs room e after refused ne = absurd (ne refl)

      pub joined_over : (n : ℕ) → Err Full ≡ admitted (lookup key order (key x) h) (ltb (length h) n) → None ≡ fitting n (joined key order t u)
      joined_over n e =
          ap (λ b. then_some b (joined key order t u)) (sym (lt-leb (length (joined key order t u)) n (omega (arith, full_longer x h n e, ap length whole, entered_all_least key order keep (entered key order keep x h) (drop (i + 1) u)))))
        where
          whole : joined key order t u ≡ joined key order (entered key order keep x h) (drop (i + 1) u)
          whole =
              ap (joined key order t) (sym (take-append-drop (i + 1) u))
              ∙ entered_all_append key order keep t (take (i + 1) u) (drop (i + 1) u)
              ∙ ap (λ v. joined key order v (drop (i + 1) u)) (sym more)

    pub joined_all : length u ≤ i → h ≡ joined key order t u
    joined_all far = so_far ∙ ap (joined key order t) (take_all i u far)

-- a list that is short enough fits
pub fits : {A : Type 0} (n : ℕ) (xs ys : List A) → length xs ≤ n → xs ≡ ys → Some xs ≡ fitting n ys
fits n xs ys h e = ap (λ b. then_some b xs) (sym (le-leb (length xs) n h)) ∙ ap (fitting n) e
