-- How what is left of two versions stands, piece by piece. Assumes nothing.
use Rattle.std.proofs.Common.{◌≡◌, ◌-◌, Bool, true, ◌&&◌, eqb, leb, List, [], ◌∷◌, map, length, take, drop, Ordering, Less, Equal, Greater, sym, refl, ap, ◌∙◌, ap₂}
use Rattle.std.specs.Ordering.{ordering_then}
use Rattle.std.proofs.lemmas.List.{take_rest}
use Rattle.std.proofs.lemmas.Bool.{false≢true, and_parts, and_from, or_left}
use Rattle.rules.specs.Orders.{Bytes, number_order, lexical}
use Rattle.rules.specs.Texts.{dot, every, pieces}
use Rattle.rules.specs.Versions.{is_number, is_word, is_identifier, before_dash, behind_dash, is_release, is_version, value, identifier, parts_behind, parts, identifier_order, identifiers_order, precedence, version_order}
use Rattle.rules.proofs.Order.{then_equal}
use Rattle.rules.proofs.Precedence.{every_head, pieces_some, precede}
use Rattle.versions.specs.declared.pieces.Part.{Part}
use Rattle.versions.specs.declared.pieces.Part.TheVariants.{Numbers, Identifiers}
use Rattle.versions.specs.declared.pieces.End.{End}
use Rattle.versions.specs.declared.pieces.End.TheVariants.{Dash, Last, Dot}
use Rattle.versions.specs.contracts.pieces.EndOrd.TheImpl.{ghosts}
use Rattle.versions.specs.Cuts.{EndsSo, Begins}
use Rattle.versions.proofs.Spelling.{as_number}
use Rattle.versions.proofs.Steps.{numbers_behind, identifiers_behind, more_behind, numbers_first, identifiers_first, more_first}

-- what is left of two versions stands so
abbrev pub order_left : Part → Bytes → Bytes → Ordering
order_left Numbers a b = precedence (parts_behind a) (parts_behind b)
order_left Identifiers a b = lexical identifier_order (map identifier (pieces dot a)) (map identifier (pieces dot b))

-- all that is left are numbers and identifiers
abbrev pub sound : Part → Bytes → Bool
sound Numbers bs = every is_number (pieces dot (before_dash bs)) && every is_identifier (behind_dash bs)
sound Identifiers bs = every is_identifier (pieces dot bs)

abbrev pub part_behind : Part → End → Part
part_behind part Dash = Identifiers
part_behind part Last = part
part_behind part Dot = part

abbrev end_order : End → End → Ordering
end_order Dash Dash = Equal
end_order Dash Last = Less
end_order Dash Dot = Less
end_order Last Dash = Greater
end_order Last Last = Equal
end_order Last Dot = Less
end_order Dot Dash = Greater
end_order Dot Last = Greater
end_order Dot Dot = Equal

-- behind pieces that end alike
abbrev pub order_behind : Part → End → Bytes → Bytes → Ordering
order_behind part Dash r s = order_left Identifiers r s
order_behind part Last r s = Equal
order_behind part Dot r s = order_left part r s

then_on : (o p q : Ordering) → ordering_then (ordering_then o p) q ≡ ordering_then o (ordering_then p q)
then_on Less p q = refl
then_on Equal p q = refl
then_on Greater p q = refl

-- ---- what follows is sound

module _ (text p : Bytes) (e : End) (rest : Bytes) where
  sound_numbers : Begins Numbers text p e rest → sound Numbers text ≡ true → (is_number p ≡ true) × (every is_number (numbers_behind e rest) ≡ true) × (every is_identifier (identifiers_behind e rest) ≡ true)
  sound_numbers h t =
      let (ns, is) = and_parts (every is_number (pieces dot (before_dash text))) (every is_identifier (behind_dash text)) t in
      let (n, more) = every_head is_number p (numbers_behind e rest) (ap (every is_number) (sym (numbers_first text p e rest h)) ∙ ns) in
      (n, more, ap (every is_identifier) (sym (identifiers_first text p e rest h)) ∙ is)

  sound_more : Begins Identifiers text p e rest → sound Identifiers text ≡ true → (is_identifier p ≡ true) × (every is_identifier (more_behind e rest) ≡ true)
  sound_more h t = every_head is_identifier p (more_behind e rest) (ap (every is_identifier) (sym (more_first text p e rest h)) ∙ t)

pub sound_piece : (part : Part) (text p : Bytes) (e : End) (rest : Bytes) → Begins part text p e rest → sound part text ≡ true → is_identifier p ≡ true
sound_piece Numbers text p e rest h t = or_left (is_number p) (is_word p) (sound_numbers text p e rest h t).0
sound_piece Identifiers text p e rest h t = (sound_more text p e rest h t).0

pub sound_behind : (part : Part) (text p : Bytes) (e : End) (rest : Bytes) → Begins part text p e rest → sound part text ≡ true → (e ≡ Last → ⊥) → sound (part_behind part e) rest ≡ true
sound_behind Numbers text p e rest h t goes_on = go e goes_on (sound_numbers text p e rest h t)
  where
    go : (f : End) → (f ≡ Last → ⊥) → (is_number p ≡ true) × (every is_number (numbers_behind f rest) ≡ true) × (every is_identifier (identifiers_behind f rest) ≡ true)
        → sound (part_behind Numbers f) rest ≡ true
    go Dash on (n, ns, is) = is
    go Last on (n, ns, is) = absurd (on refl)
    go Dot on (n, ns, is) = and_from (every is_number (pieces dot (before_dash rest))) (every is_identifier (behind_dash rest)) ns is
sound_behind Identifiers text p e rest h t goes_on = go e goes_on h.so (sound_more text p e rest h t).1
  where
    go : (f : End) → (f ≡ Last → ⊥) → EndsSo Identifiers f rest → every is_identifier (more_behind f rest) ≡ true → sound (part_behind Identifiers f) rest ≡ true
    go Dash on so is = absurd so
    go Last on so is = absurd (on refl)
    go Dot on so is = is

-- ---- the order of what follows

-- against no pieces
module _ {A : Type 0} (f : Bytes → A) (by : A → A → Ordering) (bs : Bytes) where
  none_below : lexical by [] (map f (pieces dot bs)) ≡ Less
  unfolding lexical
  none_below = go (pieces_some bs)
    where
      go : (x : Bytes) × (xs : List Bytes) × (pieces dot bs ≡ x ∷ xs) → lexical by [] (map f (pieces dot bs)) ≡ Less
      go (x, xs, e) = ap (λ ps. lexical by [] (map f ps)) e

  none_above : lexical by (map f (pieces dot bs)) [] ≡ Greater
  unfolding lexical
  none_above = go (pieces_some bs)
    where
      go : (x : Bytes) × (xs : List Bytes) × (pieces dot bs ≡ x ∷ xs) → lexical by (map f (pieces dot bs)) [] ≡ Greater
      go (x, xs, e) = ap (λ ps. lexical by (map f ps) []) e

some_below : (bs : Bytes) → identifiers_order (map identifier (pieces dot bs)) [] ≡ Less
some_below bs = go (pieces_some bs)
  where
    go : (x : Bytes) × (xs : List Bytes) × (pieces dot bs ≡ x ∷ xs) → identifiers_order (map identifier (pieces dot bs)) [] ≡ Less
    go (x, xs, e) = ap (λ ps. identifiers_order (map identifier ps) []) e

some_above : (bs : Bytes) → identifiers_order [] (map identifier (pieces dot bs)) ≡ Greater
some_above bs = go (pieces_some bs)
  where
    go : (x : Bytes) × (xs : List Bytes) × (pieces dot bs ≡ x ∷ xs) → identifiers_order [] (map identifier (pieces dot bs)) ≡ Greater
    go (x, xs, e) = ap (λ ps. identifiers_order [] (map identifier ps)) e

both_some : (a b : Bytes) → identifiers_order (map identifier (pieces dot a)) (map identifier (pieces dot b)) ≡ order_left Identifiers a b
both_some a b = go (pieces_some a) (pieces_some b)
  where
    go : (x : Bytes) × (xs : List Bytes) × (pieces dot a ≡ x ∷ xs) → (y : Bytes) × (ys : List Bytes) × (pieces dot b ≡ y ∷ ys)
        → identifiers_order (map identifier (pieces dot a)) (map identifier (pieces dot b)) ≡ lexical identifier_order (map identifier (pieces dot a)) (map identifier (pieces dot b))
    go (x, xs, e) (y, ys, g) =
        ap₂ (λ ps qs. identifiers_order (map identifier ps) (map identifier qs)) e g
        ∙ sym (ap₂ (λ ps qs. lexical identifier_order (map identifier ps) (map identifier qs)) e g)

-- numbers and identifiers behind a number
order_numbers : List Bytes → List Bytes → List Bytes → List Bytes → Ordering
order_numbers ms is ns js = ordering_then (lexical number_order (map (value 0) ms) (map (value 0) ns)) (identifiers_order (map identifier is) (map identifier js))

behind_numbers : (e f : End) (r s : Bytes)
    → order_numbers (numbers_behind e r) (identifiers_behind e r) (numbers_behind f s) (identifiers_behind f s) ≡ ordering_then (end_order e f) (order_behind Numbers e r s)
unfolding order_numbers lexical
behind_numbers Dash Dash r s = both_some r s
behind_numbers Dash Last r s = some_below r
behind_numbers Dash Dot r s = ap (λ o. ordering_then o (identifiers_order (map identifier (pieces dot r)) (map identifier (behind_dash s)))) (none_below (value 0) number_order (before_dash s))
behind_numbers Last Dash r s = some_above s
behind_numbers Last Last r s = refl
behind_numbers Last Dot r s = ap (λ o. ordering_then o (identifiers_order [] (map identifier (behind_dash s)))) (none_below (value 0) number_order (before_dash s))
behind_numbers Dot Dash r s = ap (λ o. ordering_then o (identifiers_order (map identifier (behind_dash r)) (map identifier (pieces dot s)))) (none_above (value 0) number_order (before_dash r))
behind_numbers Dot Last r s = ap (λ o. ordering_then o (identifiers_order (map identifier (behind_dash r)) [])) (none_above (value 0) number_order (before_dash r))
behind_numbers Dot Dot r s = refl

behind_identifiers : (e f : End) (r s : Bytes) → EndsSo Identifiers e r → EndsSo Identifiers f s
    → lexical identifier_order (map identifier (more_behind e r)) (map identifier (more_behind f s)) ≡ ordering_then (end_order e f) (order_behind Identifiers e r s)
unfolding lexical
behind_identifiers Dash f r s x y = absurd x
behind_identifiers Last Dash r s x y = absurd y
behind_identifiers Last Last r s x y = refl
behind_identifiers Last Dot r s x y = none_below identifier identifier_order s
behind_identifiers Dot Dash r s x y = absurd y
behind_identifiers Dot Last r s x y = none_above identifier identifier_order r
behind_identifiers Dot Dot r s x y = refl

-- ---- one piece on

-- The first pieces decide, then what ends them, then what is left.
order_first : (part : Part) (a p : Bytes) (e : End) (r b q : Bytes) (f : End) (s : Bytes)
    → Begins part a p e r → Begins part b q f s → sound part a ≡ true → sound part b ≡ true
    → order_left part a b ≡ ordering_then (ordering_then (identifier_order (identifier p) (identifier q)) (end_order e f)) (order_behind part e r s)
unfolding order_numbers lexical
order_first Numbers a p e r b q f s g h t u =
    (λ i. order_numbers (numbers_first a p e r g i) (identifiers_first a p e r g i) (numbers_first b q f s h i) (identifiers_first b q f s h i))
    ∙ then_on (number_order (value 0 p) (value 0 q)) (lexical number_order (map (value 0) (numbers_behind e r)) (map (value 0) (numbers_behind f s)))
    (identifiers_order (map identifier (identifiers_behind e r)) (map identifier (identifiers_behind f s)))
    ∙ ap₂ ordering_then (sym (ap₂ identifier_order (as_number p (sound_numbers a p e r g t).0) (as_number q (sound_numbers b q f s h u).0))) (behind_numbers e f r s)
    ∙ sym (then_on (identifier_order (identifier p) (identifier q)) (end_order e f) (order_behind Numbers e r s))
order_first Identifiers a p e r b q f s g h t u =
    ap₂ (λ ps qs. lexical identifier_order (map identifier ps) (map identifier qs)) (more_first a p e r g) (more_first b q f s h)
    ∙ ap (ordering_then (identifier_order (identifier p) (identifier q))) (behind_identifiers e f r s g.so h.so)
    ∙ sym (then_on (identifier_order (identifier p) (identifier q)) (end_order e f) (order_behind Identifiers e r s))

-- what `cmp` answers of two ends
cmp_ends : (e f : End) (r : Ordering) → (r ≡ ghosts.cmp e f) → r ≡ end_order e f
cmp_ends Dash Dash r h = h
cmp_ends Dash Last r h = h
cmp_ends Dash Dot r h = h
cmp_ends Last Dash r h = h
cmp_ends Last Last r h = h
cmp_ends Last Dot r h = h
cmp_ends Dot Dash r h = h
cmp_ends Dot Last r h = h
cmp_ends Dot Dot r h = h

end_same : (e f : End) → end_order e f ≡ Equal → e ≡ f
end_same Dash Dash h = refl
end_same Dash Last h = cc
end_same Dash Dot h = cc
end_same Last Dash h = cc
end_same Last Last h = refl
end_same Last Dot h = cc
end_same Dot Dash h = cc
end_same Dot Last h = cc
end_same Dot Dot h = refl

-- One turn over both texts: i says how their first pieces stand, j what ends those, k both, and w how the whole versions stand.
module _ {part : Part} {a p : Bytes} {e : End} {r b q : Bytes} {f : End} {s : Bytes} {i k w : Ordering} (j : Ordering)
    (g : Begins part a p e r) (h : Begins part b q f s)
    (inv : (sound part a ≡ true) × (sound part b ≡ true) × (order_left part a b ≡ w))
    (by_piece : is_identifier p ≡ true → is_identifier q ≡ true → i ≡ identifier_order (identifier p) (identifier q)) (by_end : j ≡ ghosts.cmp e f) (by_both : k ≡ ordering_then i j) where
  told : k ≡ ordering_then (identifier_order (identifier p) (identifier q)) (end_order e f)
  told =
      by_both ∙ ap₂ ordering_then (by_piece (sound_piece part a p e r g inv.0) (sound_piece part b q f s h inv.1)) (cmp_ends e f j by_end)

  whole : ordering_then k (order_behind part e r s) ≡ w
  whole = ap (λ o. ordering_then o (order_behind part e r s)) told ∙ sym (order_first part a p e r b q f s g h inv.0 inv.1) ∙ inv.2

  pub turn_decides : (k ≡ Equal → ⊥) → k ≡ w
  turn_decides n = go k n ∙ whole
    where
      go : (o : Ordering) → (o ≡ Equal → ⊥) → o ≡ ordering_then o (order_behind part e r s)
      go Less m = refl
      go Equal m = absurd (m refl)
      go Greater m = refl

  left : k ≡ Equal → order_behind part e r s ≡ w
  left eq = ap (λ o. ordering_then o (order_behind part e r s)) (sym eq) ∙ whole

  pub turn_ends : k ≡ Equal → e ≡ Last → Equal ≡ w
  turn_ends eq over = ap (λ d. order_behind part d r s) (sym over) ∙ left eq

  pub turn_again : k ≡ Equal → (e ≡ Last → ⊥) → (next : Part) → next ≡ part_behind part e
      → (sound next r ≡ true) × (sound next s ≡ true) × (order_left next r s ≡ w)
  turn_again eq on next n =
      (ap (λ x. sound x r) n ∙ sound_behind part a p e r g inv.0 on, ap (λ x. sound x s) (n ∙ ap (part_behind part) same) ∙ sound_behind part b q f s h inv.1 (λ over. on (same ∙ over)), ap (λ x. order_left x r s) n ∙ go e on ∙ left eq)
    where
      same : e ≡ f
      same = end_same e f (then_equal (identifier_order (identifier p) (identifier q)) (end_order e f) (sym told ∙ eq)).1

      go : (d : End) → (d ≡ Last → ⊥) → order_left (part_behind part d) r s ≡ order_behind part d r s
      go Dash m = refl
      go Last m = absurd (m refl)
      go Dot m = refl

-- the first turn begins behind the v

abbrev unmarked : Bytes → Bytes
unmarked a = take (length a - 1) (drop 1 a)

pub sound_version : (a : Bytes) → is_version a ≡ true → sound Numbers (unmarked a) ≡ true
sound_version [] t = absurd (false≢true t)
sound_version (c ∷ bs) t =
    let (v, more) = and_parts (eqb c 118) (leb (length (c ∷ bs)) 40 && is_release bs) t in
    let (short, release) = and_parts (leb (length (c ∷ bs)) 40) (is_release bs) more in
    let (core, is) = and_parts (eqb (length (pieces dot (before_dash bs))) 3 && every is_number (pieces dot (before_dash bs))) (every is_identifier (behind_dash bs)) release in
    let (three, ns) = and_parts (eqb (length (pieces dot (before_dash bs))) 3) (every is_number (pieces dot (before_dash bs))) core in
    ap (sound Numbers) (take_rest (c ∷ bs) 1) ∙ and_from (every is_number (pieces dot (before_dash bs))) (every is_identifier (behind_dash bs)) ns is

parts_unmarked : (a : Bytes) → is_version a ≡ true → parts_behind (unmarked a) ≡ parts a
parts_unmarked [] t = absurd (false≢true t)
parts_unmarked (c ∷ bs) t = ap parts_behind (take_rest (c ∷ bs) 1)

pub order_versions : (a b : Bytes) → is_version a ≡ true → is_version b ≡ true → order_left Numbers (unmarked a) (unmarked b) ≡ version_order a b
order_versions a b t u = ap₂ precedence (parts_unmarked a t) (parts_unmarked b u) ∙ sym (precede a b t u)
