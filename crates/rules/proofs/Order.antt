-- Total orders: what makes one, that the orders on paths and versions are such, and what follows. Assumes nothing.
use Rattle.std.proofs.Common.{◌≡◌, ℕ, Bool, true, false, ◌⊎◌, List, [], ◌∷◌, Some, None, Option, Ordering, Less, Equal, Greater, sym, refl, ap, ◌∙◌, subst, ap₂, inl, inr, true≢false, arith}
use Rattle.std.proofs.lemmas.Bool.Decides.{nat_tests}
use Rattle.std.specs.Ordering.{is_lt, is_eq, is_le, ordering_then, ordering_reverse}
use Rattle.rules.specs.Orders.{Bytes, Laws, Total, number_order, lexical, dictionary, keyed, none_first}
use Rattle.rules.specs.Paths.{path_order}
use Rattle.rules.specs.Versions.{Identifier, numeric, word, Parts, identifier_order, identifiers_order, precedence, is_version, parted, version_order}
use Rattle.rules.specs.Names.{ModuleVersion, module_order}

numbers : Total number_order
numbers = record {
  same = λ x. grind (arith, nat_tests);
  apart = λ x y e. grind (arith, nat_tests);
  back = λ x y. grind (arith, nat_tests);
  on = λ x y z p q. grind (arith, nat_tests);
}

pub then_equal : (o p : Ordering) → ordering_then o p ≡ Equal → (o ≡ Equal) × (p ≡ Equal)
then_equal Less p e = (e, cc)
then_equal Equal p e = (refl, e)
then_equal Greater p e = (e, cc)

then_less : (o p : Ordering) → ordering_then o p ≡ Less → (o ≡ Less) ⊎ ((o ≡ Equal) × (p ≡ Less))
then_less Less p e = inl refl
then_less Equal p e = inr (refl, e)
then_less Greater p e = inl e

pub then_back : (o p : Ordering) → ordering_reverse (ordering_then o p) ≡ ordering_then (ordering_reverse o) (ordering_reverse p)
then_back Less p = refl
then_back Equal p = refl
then_back Greater p = refl

-- by one order, and where that says equal by another
module _ {A B : Type 0} (key : A → B) (by : B → B → Ordering) (rest : A → A → Ordering) (u : Total by) where
  -- one step of `on`
  pub then_on : (a b c : A) → (rest a b ≡ Less → rest b c ≡ Less → rest a c ≡ Less)
      → keyed key by rest a b ≡ Less → keyed key by rest b c ≡ Less → keyed key by rest a c ≡ Less
  then_on a b c tails p q = go (then_less (by (key a) (key b)) (rest a b) p) (then_less (by (key b) (key c)) (rest b c) q)
    where
      at_once : by (key a) (key c) ≡ Less → keyed key by rest a c ≡ Less
      at_once e = ap (λ o. ordering_then o (rest a c)) e

      go : (by (key a) (key b) ≡ Less) ⊎ ((by (key a) (key b) ≡ Equal) × (rest a b ≡ Less)) → (by (key b) (key c) ≡ Less) ⊎ ((by (key b) (key c) ≡ Equal) × (rest b c ≡ Less))
          → keyed key by rest a c ≡ Less
      go (inl h) (inl k) = at_once (u.on (key a) (key b) (key c) h k)
      go (inl h) (inr (k, t)) = at_once (subst (λ w. by (key a) w ≡ Less) (u.apart (key b) (key c) k) h)
      go (inr (h, t)) (inl k) = at_once (subst (λ w. by w (key c) ≡ Less) (sym (u.apart (key a) (key b) h)) k)
      go (inr (h, s)) (inr (k, t)) = ap₂ ordering_then (ap (λ w. by w (key c)) (u.apart (key a) (key b) h) ∙ k) (tails s t)

  keyed_total : Total rest → Total (keyed key by rest)
  keyed_total t = record {
    same = λ a. ap₂ ordering_then (u.same (key a)) (t.same a);
    apart = λ a b e. t.apart a b (then_equal (by (key a) (key b)) (rest a b) e).1;
    back = λ a b. ap₂ ordering_then (u.back (key a) (key b)) (t.back a b) ∙ sym (then_back (by (key a) (key b)) (rest a b));
    on = λ a b c. then_on a b c (t.on a b c);
  }

-- lists

module _ {A : Type 0} (by : A → A → Ordering) (t : Total by) where
  lexical_same : (a : List A) → lexical by a a ≡ Equal
  unfolding lexical
  lexical_same [] = refl
  lexical_same (x ∷ xs) = ap₂ ordering_then (t.same x) (lexical_same xs)

  lexical_apart : (a b : List A) → lexical by a b ≡ Equal → a ≡ b
  unfolding lexical
  lexical_apart [] [] e = refl
  lexical_apart [] (y ∷ ys) e = cc
  lexical_apart (x ∷ xs) [] e = cc
  lexical_apart (x ∷ xs) (y ∷ ys) e =
      let h = then_equal (by x y) (lexical by xs ys) e in
      ap₂ (λ z zs. z ∷ zs) (t.apart x y h.0) (lexical_apart xs ys h.1)

  lexical_back : (a b : List A) → lexical by b a ≡ ordering_reverse (lexical by a b)
  unfolding lexical
  lexical_back [] [] = refl
  lexical_back [] (y ∷ ys) = refl
  lexical_back (x ∷ xs) [] = refl
  lexical_back (x ∷ xs) (y ∷ ys) = ap₂ ordering_then (t.back x y) (lexical_back xs ys) ∙ sym (then_back (by x y) (lexical by xs ys))

  -- a pair of heads and tails is ordered by the head, and then by the tail
  lexical_on : (a b c : List A) → lexical by a b ≡ Less → lexical by b c ≡ Less → lexical by a c ≡ Less
  unfolding lexical
  lexical_on [] [] c p q = q
  lexical_on [] (y ∷ ys) [] p q = cc
  lexical_on [] (y ∷ ys) (z ∷ zs) p q = refl
  lexical_on (x ∷ xs) [] c p q = cc
  lexical_on (x ∷ xs) (y ∷ ys) [] p q = cc
  lexical_on (x ∷ xs) (y ∷ ys) (z ∷ zs) p q =
      then_on {A = A × List A} (λ w. w.0) by (λ v w. lexical by v.1 w.1) t (x, xs) (y, ys) (z, zs) (lexical_on xs ys zs) p q

  lexical_total : Total (lexical by)
  lexical_total = record { same = lexical_same; apart = lexical_apart; back = lexical_back; on = lexical_on }

  none_first_total : Total (none_first by)
  none_first_total = record { same = same; apart = apart; back = back; on = on }
    where
      same : (a : Option A) → none_first by a a ≡ Equal
      same None = refl
      same (Some a) = t.same a

      apart : (a b : Option A) → none_first by a b ≡ Equal → a ≡ b
      apart None None e = refl
      apart None (Some b) e = cc
      apart (Some a) None e = cc
      apart (Some a) (Some b) e = ap Some (t.apart a b e)

      back : (a b : Option A) → none_first by b a ≡ ordering_reverse (none_first by a b)
      back None None = refl
      back None (Some b) = refl
      back (Some a) None = refl
      back (Some a) (Some b) = t.back a b

      on : (a b c : Option A) → none_first by a b ≡ Less → none_first by b c ≡ Less → none_first by a c ≡ Less
      on None None c p q = q
      on None (Some b) None p q = cc
      on None (Some b) (Some c) p q = refl
      on (Some a) None c p q = cc
      on (Some a) (Some b) None p q = cc
      on (Some a) (Some b) (Some c) p q = t.on a b c p q

pub words : Total dictionary
words = lexical_total number_order numbers

-- versions

identifiers : Total identifier_order
identifiers = record { same = same; apart = apart; back = back; on = on }
  where
    same : (a : Identifier) → identifier_order a a ≡ Equal
    same (numeric a) = numbers.same a
    same (word v) = words.same v

    apart : (a b : Identifier) → identifier_order a b ≡ Equal → a ≡ b
    apart (numeric a) (numeric b) e = ap numeric (numbers.apart a b e)
    apart (numeric a) (word w) e = cc
    apart (word v) (numeric b) e = cc
    apart (word v) (word w) e = ap word (words.apart v w e)

    back : (a b : Identifier) → identifier_order b a ≡ ordering_reverse (identifier_order a b)
    back (numeric a) (numeric b) = numbers.back a b
    back (numeric a) (word w) = refl
    back (word v) (numeric b) = refl
    back (word v) (word w) = words.back v w

    on : (a b c : Identifier) → identifier_order a b ≡ Less → identifier_order b c ≡ Less → identifier_order a c ≡ Less
    on (numeric a) (numeric b) (numeric c) p q = numbers.on a b c p q
    on (numeric a) (numeric b) (word w) p q = refl
    on (numeric a) (word v) (numeric c) p q = cc
    on (numeric a) (word v) (word w) p q = refl
    on (word u) (numeric b) c p q = cc
    on (word u) (word v) (numeric c) p q = cc
    on (word u) (word v) (word w) p q = words.on u v w p q

releases : Total identifiers_order
releases = record { same = same; apart = apart; back = back; on = on }
  where
    lists : Total (lexical identifier_order)
    lists = lexical_total identifier_order identifiers

    same : (a : List Identifier) → identifiers_order a a ≡ Equal
    same [] = refl
    same (x ∷ xs) = lists.same (x ∷ xs)

    apart : (a b : List Identifier) → identifiers_order a b ≡ Equal → a ≡ b
    apart [] [] e = refl
    apart [] (y ∷ ys) e = cc
    apart (x ∷ xs) [] e = cc
    apart (x ∷ xs) (y ∷ ys) e = lists.apart (x ∷ xs) (y ∷ ys) e

    back : (a b : List Identifier) → identifiers_order b a ≡ ordering_reverse (identifiers_order a b)
    back [] [] = refl
    back [] (y ∷ ys) = refl
    back (x ∷ xs) [] = refl
    back (x ∷ xs) (y ∷ ys) = lists.back (x ∷ xs) (y ∷ ys)

    on : (a b c : List Identifier) → identifiers_order a b ≡ Less → identifiers_order b c ≡ Less → identifiers_order a c ≡ Less
    on [] [] c p q = q
    on [] (y ∷ ys) c p q = cc
    on (x ∷ xs) [] [] p q = refl
    on (x ∷ xs) [] (z ∷ zs) p q = cc
    on (x ∷ xs) (y ∷ ys) [] p q = refl
    on (x ∷ xs) (y ∷ ys) (z ∷ zs) p q = lists.on (x ∷ xs) (y ∷ ys) (z ∷ zs) p q

pub precedences : Total precedence
precedences = record {
  same = λ a. ap₂ ordering_then (words.same a.numbers) (releases.same a.identifiers);
  apart = λ a b e.
      let h = then_equal (lexical number_order a.numbers b.numbers) (identifiers_order a.identifiers b.identifiers) e in
      parts_same a b (words.apart a.numbers b.numbers h.0) (releases.apart a.identifiers b.identifiers h.1);
  back = λ a b.
      ap₂ ordering_then (words.back a.numbers b.numbers) (releases.back a.identifiers b.identifiers)
      ∙ sym (then_back (lexical number_order a.numbers b.numbers) (identifiers_order a.identifiers b.identifiers));
  on = λ a b c. then_on (λ x. x.numbers) (lexical number_order) (λ x y. identifiers_order x.identifiers y.identifiers) words a b c (releases.on a.identifiers b.identifiers c.identifiers);
}
  where
    parts_same : (a b : Parts) → a.numbers ≡ b.numbers → a.identifiers ≡ b.identifiers → a ≡ b
    parts_same a b p q i = record { numbers = p i; identifiers = q i }

pub paths : Total path_order
unfolding path_order
paths = words

pub versions : Total version_order
unfolding version_order
versions = keyed_total parted (none_first precedence) dictionary (none_first_total precedence precedences) words

pub module_versions : Total module_order
module_versions = record {
  same = λ x. ap₂ ordering_then (paths.same x.path) (versions.same x.version);
  apart = λ x y e.
      let h = then_equal (path_order x.path y.path) (version_order x.version y.version) e in
      both x y (paths.apart x.path y.path h.0) (versions.apart x.version y.version h.1);
  back = λ x y.
      ap₂ ordering_then (paths.back x.path y.path) (versions.back x.version y.version)
      ∙ sym (then_back (path_order x.path y.path) (version_order x.version y.version));
  on = λ x y z. then_on (λ w. w.path) path_order (λ v w. version_order v.version w.version) paths x y z (versions.on x.version y.version z.version);
}
  where
    both : (x y : ModuleVersion) → x.path ≡ y.path → x.version ≡ y.version → x ≡ y
    both x y p q i = record { path = p i; version = q i }

pub no_version_below : (a b : Bytes) → is_version a ≡ false → is_version b ≡ true → version_order a b ≡ Less
unfolding version_order parted
no_version_below a b f t = rw (f, t)

-- the three ways that two stand to one another
pub data Ways {A : Type 0} (order : A → A → Ordering) (a b : A) : Type 0 where
  before : order a b ≡ Less → Ways order a b
  equal : a ≡ b → Ways order a b
  after : order b a ≡ Less → Ways order a b

-- what follows of any total order, given as `paths` or `versions`

module _ {A : Type 0} {order : A → A → Ordering} (t : Total order) where
  pub order_equal : (a b : A) → order a b ≡ Equal → a ≡ b
  order_equal = t.apart

  pub order_back : (a b : A) → order b a ≡ ordering_reverse (order a b)
  order_back = t.back

  pub before_trans : (a b c : A) → order a b ≡ Less → order b c ≡ Less → order a c ≡ Less
  before_trans = t.on

  pub before_not_equal : (a b : A) → order a b ≡ Less → a ≡ b → ⊥
  before_not_equal a b h e =
      let z : Less ≡ Equal = sym h ∙ ap (order a) (sym e) ∙ t.same a in
      let n : ◌≡◌ {A = ℕ} 0 1 = cc in
      omega arith

  pub ways : (a b : A) → Ways order a b
  ways a b = go (order a b) refl
    where
      go : (o : Ordering) → order a b ≡ o → Ways order a b
      go Less e = before e
      go Equal e = equal (t.apart a b e)
      go Greater e = after (t.back a b ∙ ap ordering_reverse e)

  pub upto_refl : (a : A) → is_le (order a a) ≡ true
  upto_refl a = ap is_le (t.same a)

  pub upto_before : (a b : A) → order a b ≡ Less → is_le (order a b) ≡ true
  upto_before a b h = ap is_le h

  pub upto_equal : (a b : A) → a ≡ b → is_le (order a b) ≡ true
  upto_equal a b e = ap (λ c. is_le (order a c)) (sym e) ∙ upto_refl a

  pub upto_not_after : (a b : A) → is_le (order a b) ≡ true → order b a ≡ Less → ⊥
  upto_not_after a b u h =
      let z : true ≡ false = sym u ∙ ap is_le (t.back b a ∙ ap ordering_reverse h) in
      let n : ◌≡◌ {A = ℕ} 0 1 = cc in
      omega arith

  pub upto_antisym : (a b : A) → is_le (order a b) ≡ true → is_le (order b a) ≡ true → a ≡ b
  upto_antisym a b u v = go (ways a b)
    where
      go : Ways order a b → a ≡ b
      go (before h) = absurd (upto_not_after b a v h)
      go (equal e) = e
      go (after h) = absurd (upto_not_after a b u h)

  pub upto_trans : (a b c : A) → is_le (order a b) ≡ true → is_le (order b c) ≡ true → is_le (order a c) ≡ true
  upto_trans a b c u v = go (ways a b) (ways b c)
    where
      go : Ways order a b → Ways order b c → is_le (order a c) ≡ true
      go (before h) (before k) = upto_before a c (t.on a b c h k)
      go (before h) (equal e) = rw (← e) u
      go (before h) (after k) = absurd (upto_not_after b c v k)
      go (equal e) w = rw e v
      go (after h) w = absurd (upto_not_after a b u h)

  -- the tests

  pub equal_from_test : (a b : A) → is_eq (order a b) ≡ true → a ≡ b
  equal_from_test a b r = go (ways a b)
    where
      go : Ways order a b → a ≡ b
      go (before h) = absurd (true≢false (sym r ∙ ap is_eq h))
      go (equal e) = e
      go (after h) = absurd (true≢false (sym r ∙ ap is_eq (t.back b a ∙ ap ordering_reverse h)))

  pub test_from_equal : (a b : A) → a ≡ b → is_eq (order a b) ≡ true
  test_from_equal a b e = ap (λ c. is_eq (order a c)) (sym e) ∙ ap is_eq (t.same a)

  pub apart_from_test : (a b : A) → is_eq (order a b) ≡ false → a ≡ b → ⊥
  apart_from_test a b r e = true≢false (sym (test_from_equal a b e) ∙ r)

  pub not_equal_test : (a b : A) → (a ≡ b → ⊥) → is_eq (order a b) ≡ false
  not_equal_test a b n = go (is_eq (order a b)) refl
    where
      go : (r : Bool) → is_eq (order a b) ≡ r → is_eq (order a b) ≡ false
      go true e = absurd (n (equal_from_test a b e))
      go false e = e

  -- the higher of two
  pub upto_from_not_less : (a b : A) → is_lt (order a b) ≡ false → is_le (order b a) ≡ true
  upto_from_not_less a b r = go (ways a b)
    where
      go : Ways order a b → is_le (order b a) ≡ true
      go (before h) = absurd (true≢false (sym (ap is_lt h) ∙ r))
      go (equal e) = upto_equal b a (sym e)
      go (after h) = upto_before b a h

  pub before_from_less : (a b : A) → is_lt (order a b) ≡ true → order a b ≡ Less
  before_from_less a b r = go (ways a b)
    where
      go : Ways order a b → order a b ≡ Less
      go (before h) = h
      go (equal e) = absurd (true≢false (sym r ∙ ap is_lt (ap (order a) (sym e) ∙ t.same a)))
      go (after h) = absurd (true≢false (sym r ∙ ap is_lt (t.back b a ∙ ap ordering_reverse h)))

  pub laws_of : Laws order
  laws_of = record {
    total = λ a b. one_way a b (ways a b);
    antisymmetric = upto_antisym;
    transitive = upto_trans;
    mirrored = t.back;
  }
    where
      one_way : (a b : A) → Ways order a b → (is_le (order a b) ≡ true) ⊎ (is_le (order b a) ≡ true)
      one_way a b (before h) = inl (upto_before a b h)
      one_way a b (equal e) = inl (upto_equal a b e)
      one_way a b (after h) = inr (upto_before b a h)

-- an order that obeys the laws is total
pub total_of : {A : Type 0} {order : A → A → Ordering} → Laws order → Total order
total_of {A} {order} l = record { same = same; apart = apart; back = l.mirrored; on = on }
  where
    itself : (o : Ordering) → o ≡ ordering_reverse o → o ≡ Equal
    itself Less e = cc
    itself Equal e = refl
    itself Greater e = cc

    same : (a : A) → order a a ≡ Equal
    same a = itself (order a a) (l.mirrored a a)

    apart : (a b : A) → order a b ≡ Equal → a ≡ b
    apart a b e = l.antisymmetric a b (ap is_le e) (ap is_le (l.mirrored a b ∙ ap ordering_reverse e))

    on : (a b c : A) → order a b ≡ Less → order b c ≡ Less → order a c ≡ Less
    on a b c p q = go (order a c) refl (l.transitive a b c (ap is_le p) (ap is_le q))
      where
        go : (o : Ordering) → order a c ≡ o → is_le (order a c) ≡ true → order a c ≡ Less
        go Less e h = e
        go Equal e h =
            let ac : a ≡ c = apart a c e in
            let z : Less ≡ Greater = sym q ∙ ap (order b) (sym ac) ∙ l.mirrored a b ∙ ap ordering_reverse p in
            let n : ◌≡◌ {A = ℕ} 0 1 = cc in
            absurd (omega arith)
        go Greater e h = absurd (true≢false (sym h ∙ ap is_le e))
