-- Versions stand by their precedence: the parts of a version tell its text. Assumes nothing.
use Rattle.std.proofs.Common.{◌≡◌, ℕ, suc, ◌+◌, ◌-◌, ◌*◌, ◌<◌, ◌≤◌, Bool, true, false, cond, not, ◌&&◌, eqb, leb, ◌⊎◌, List, [], ◌∷◌, ◌++◌, map, length, Ordering, Less, Equal, Greater, sym, refl, ap, ◌∙◌, ap₂, inl, inr, ⊎_elim, true≢false, arith}
use Rattle.std.specs.Ordering.{ordering_then}
use Rattle.std.proofs.lemmas.Bool.{and_parts, or_cases, not-true, leb-true, eqb-true, eqb-false, cases_order}
use Rattle.rules.specs.Orders.{Bytes, dictionary}
use Rattle.rules.specs.Texts.{dash, dot, digit, every, begun, pieces}
use Rattle.rules.specs.Versions.{is_number, identifier_byte, is_word, is_identifier, value, numeric, word, identifier, before_dash, behind_dash, is_release, is_version, parts_behind, parts, parted, precedence, version_order}
use Rattle.rules.specs.Names.{OrdersRight}
use Rattle.rules.proofs.Order.{words, precedences, paths, versions, module_versions, laws_of, no_version_below}

-- numbers

pub digit_bounds : (b : ℕ) → digit b ≡ true → (48 ≤ b) × (b ≤ 57)
digit_bounds b t = let (l, h) = and_parts (leb 48 b) (leb b 57) t in (leb-true 48 b l, leb-true b 57 h)

pub every_head : {A : Type 0} (test : A → Bool) (x : A) (xs : List A) → every test (x ∷ xs) ≡ true → (test x ≡ true) × (every test xs ≡ true)
every_head test x xs t = and_parts (test x) (every test xs) t

-- of as many digits, the more in front the more
pub value_less : (n k : ℕ) (ds es : Bytes) → every digit ds ≡ true → every digit es ≡ true → length ds ≡ length es → n < k → value n ds < value k es
value_less n k [] [] t u l h = h
value_less n k [] (e ∷ es) t u l h = absurd (omega arith)
value_less n k (d ∷ ds) [] t u l h = absurd (omega arith)
value_less n k (d ∷ ds) (e ∷ es) t u l h =
    let (td, ts) = every_head digit d ds t in
    let (ue, us) = every_head digit e es u in
    value_less (n * 10 + (d - 48)) (k * 10 + (e - 48)) ds es ts us (omega arith) (omega (arith, digit_bounds d td, digit_bounds e ue))

value_same : (n k : ℕ) (ds es : Bytes) → every digit ds ≡ true → every digit es ≡ true → length ds ≡ length es → value n ds ≡ value k es → (n ≡ k) × (ds ≡ es)
value_same n k [] [] t u l e = (e, refl)
value_same n k [] (f ∷ es) t u l e = absurd (omega arith)
value_same n k (d ∷ ds) [] t u l e = absurd (omega arith)
value_same n k (d ∷ ds) (f ∷ es) t u l e =
    let (td, ts) = every_head digit d ds t in
    let (uf, us) = every_head digit f es u in
    let (same, rest) = value_same (n * 10 + (d - 48)) (k * 10 + (f - 48)) ds es ts us (omega arith) e in
    let bd = digit_bounds d td in
    let bf = digit_bounds f uf in
    let nk : n ≡ k = omega arith in
    let df : d ≡ f = omega arith in
    (nk, ap₂ (λ x xs. x ∷ xs) df rest)

-- more digits behind something are more
value_longer : (k : ℕ) (ds es : Bytes) → every digit ds ≡ true → every digit es ≡ true → length ds ≤ length es → 0 < k → value 0 ds < value k es
value_longer k ds [] t u l h = value_less 0 k ds [] t u (omega arith) h
value_longer k ds (e ∷ es) t u l h =
    go (λ short. value_longer (k * 10 + (e - 48)) ds es t (every_head digit e es u).1 short (omega arith)) (cases_order (length ds) (suc (length es)))
  where
    go : (length ds ≤ length es → value 0 ds < value (k * 10 + (e - 48)) es) → (length ds ≡ suc (length es)) ⊎ ((length ds < suc (length es)) ⊎ (suc (length es) < length ds)) → value 0 ds < value k (e ∷ es)
    go below (inl q) = value_less 0 k ds (e ∷ es) t u q h
    go below (inr (inl q)) = below (omega arith)
    go below (inr (inr q)) = absurd (omega arith)

pub number_digits : (bs : Bytes) → is_number bs ≡ true → every digit bs ≡ true
number_digits [] t = absurd (true≢false (sym t))
number_digits (b ∷ []) t = rw t
number_digits (b ∷ c ∷ bs) t = (and_parts (not (eqb b 48)) (every digit (b ∷ c ∷ bs)) t).1

pub shorter_less : (ds es : Bytes) → is_number ds ≡ true → is_number es ≡ true → length ds < length es → value 0 ds < value 0 es
shorter_less ds [] t u l = absurd (omega arith)
shorter_less [] (e ∷ []) t u l = absurd (true≢false (sym t))
shorter_less (d ∷ ds) (e ∷ []) t u l = absurd (omega arith)
shorter_less ds (e ∷ f ∷ es) t u l =
    let (z, all) = and_parts (not (eqb e 48)) (every digit (e ∷ f ∷ es)) u in
    let other = eqb-false e 48 (not-true (eqb e 48) z) in
    let (te, rest) = every_head digit e (f ∷ es) all in
    let b = digit_bounds e te in
    value_longer (0 * 10 + (e - 48)) ds (f ∷ es) (number_digits ds t) rest (omega arith) (omega arith)

numbers_same : (ds es : Bytes) → is_number ds ≡ true → is_number es ≡ true → value 0 ds ≡ value 0 es → ds ≡ es
numbers_same ds es t u e = go (cases_order (length ds) (length es))
  where
    go : (length ds ≡ length es) ⊎ ((length ds < length es) ⊎ (length es < length ds)) → ds ≡ es
    go (inl l) = (value_same 0 0 ds es (number_digits ds t) (number_digits es u) l e).1
    go (inr (inl l)) = let h = shorter_less ds es t u l in absurd (omega arith)
    go (inr (inr l)) = let h = shorter_less es ds u t l in absurd (omega arith)

-- identifiers

pub identifier_number : (p : Bytes) → is_identifier p ≡ true → every digit p ≡ true → is_number p ≡ true
identifier_number p t d = ⊎_elim (λ h. h) (λ h. absurd (no_word p h d)) (or_cases (is_number p) (is_word p) t)
  where
    no_word : (p : Bytes) → is_word p ≡ true → every digit p ≡ true → ⊥
    no_word [] h e = true≢false (sym h)
    no_word (b ∷ bs) h e = true≢false (sym e ∙ not-true (every digit (b ∷ bs)) (and_parts (not (every digit (b ∷ bs))) (every identifier_byte (b ∷ bs)) h).0)

identifiers_same : (p q : Bytes) → is_identifier p ≡ true → is_identifier q ≡ true → identifier p ≡ identifier q → p ≡ q
identifiers_same p q t u e = go (every digit p) refl (every digit q) refl e
  where
    go : (a : Bool) → every digit p ≡ a → (b : Bool) → every digit q ≡ b → cond a (numeric (value 0 p)) (word p) ≡ cond b (numeric (value 0 q)) (word q) → p ≡ q
    go true d true f r = let n : value 0 p ≡ value 0 q = cc in numbers_same p q (identifier_number p t d) (identifier_number q u f) n
    go true d false f r = let z : ◌≡◌ {A = ℕ} 0 1 = cc in absurd (omega arith)
    go false d true f r = let z : ◌≡◌ {A = ℕ} 0 1 = cc in absurd (omega arith)
    go false d false f r = cc

map_same : {B : Type 0} (f : Bytes → B) (test : Bytes → Bool) → ((x y : Bytes) → test x ≡ true → test y ≡ true → f x ≡ f y → x ≡ y)
    → (xs ys : List Bytes) → every test xs ≡ true → every test ys ≡ true → map f xs ≡ map f ys → xs ≡ ys
map_same f test same [] [] t u e = refl
map_same f test same [] (y ∷ ys) t u e = let z : ◌≡◌ {A = ℕ} 0 1 = cc in absurd (omega arith)
map_same f test same (x ∷ xs) [] t u e = let z : ◌≡◌ {A = ℕ} 0 1 = cc in absurd (omega arith)
map_same f test same (x ∷ xs) (y ∷ ys) t u e =
    let (tx, ts) = every_head test x xs t in
    let (uy, us) = every_head test y ys u in
    let h : f x ≡ f y = cc in
    let r : map f xs ≡ map f ys = cc in
    ap₂ (λ z zs. z ∷ zs) (same x y tx uy h) (map_same f test same xs ys ts us r)

-- a text from its pieces

dotted_on : Bytes → List Bytes → Bytes
dotted_on p [] = p
dotted_on p (q ∷ ps) = p ++ dot ∷ dotted_on q ps

dotted : List Bytes → Bytes
dotted [] = []
dotted (p ∷ ps) = dotted_on p ps

dotted_begun : (b : ℕ) (ps : List Bytes) → dotted (begun b ps) ≡ b ∷ dotted ps
unfolding dotted dotted_on
dotted_begun b [] = refl
dotted_begun b (p ∷ []) = refl
dotted_begun b (p ∷ q ∷ ps) = refl

-- there is always one
pub pieces_some : (bs : Bytes) → (p : Bytes) × (ps : List Bytes) × (pieces dot bs ≡ p ∷ ps)
pieces_some [] = ([], [], refl)
pieces_some (b ∷ bs) = go (eqb b dot) (pieces dot bs)
  where
    go : (t : Bool) (ps : List Bytes) → (q : Bytes) × (qs : List Bytes) × (cond t ([] ∷ ps) (begun b ps) ≡ q ∷ qs)
    go true ps = ([], ps, refl)
    go false [] = (b ∷ [], [], refl)
    go false (p ∷ ps) = (b ∷ p, ps, refl)

dotted_pieces : (bs : Bytes) → dotted (pieces dot bs) ≡ bs
unfolding dotted dotted_on
dotted_pieces [] = refl
dotted_pieces (b ∷ bs) = go (dotted_pieces bs) (pieces_some bs) (eqb b dot) refl
  where
    go : dotted (pieces dot bs) ≡ bs → (p : Bytes) × (ps : List Bytes) × (pieces dot bs ≡ p ∷ ps) → (t : Bool) → eqb b dot ≡ t → dotted (cond t ([] ∷ pieces dot bs) (begun b (pieces dot bs))) ≡ b ∷ bs
    go below (p, ps, e) true t =
        ap (λ qs. dotted ([] ∷ qs)) e ∙ ap₂ (λ c cs. c ∷ cs) (sym (eqb-true b dot t)) (ap dotted (sym e) ∙ below)
    go below some false t = dotted_begun b (pieces dot bs) ∙ ap (λ cs. b ∷ cs) below

dashed : List Bytes → Bytes
dashed [] = []
dashed (p ∷ ps) = dash ∷ dotted (p ∷ ps)

dashed_behind : (bs : Bytes) → before_dash bs ++ dashed (behind_dash bs) ≡ bs
unfolding dashed
dashed_behind [] = refl
dashed_behind (b ∷ bs) = go (dashed_behind bs) (pieces_some bs) (eqb b dash) refl
  where
    go : before_dash bs ++ dashed (behind_dash bs) ≡ bs → (p : Bytes) × (ps : List Bytes) × (pieces dot bs ≡ p ∷ ps) → (t : Bool) → eqb b dash ≡ t
        → cond t [] (b ∷ before_dash bs) ++ dashed (cond t (pieces dot bs) (behind_dash bs)) ≡ b ∷ bs
    go below (p, ps, e) true t = ap dashed e ∙ ap₂ (λ c cs. c ∷ cs) (sym (eqb-true b dash t)) (ap dotted (sym e) ∙ dotted_pieces bs)
    go below some false t = ap (λ cs. b ∷ cs) below

-- versions of the same parts are the same

behind_same : (a b : Bytes) → is_release a ≡ true → is_release b ≡ true → parts_behind a ≡ parts_behind b → a ≡ b
behind_same a b t u e =
    let (core, tail) = and_parts (eqb (length (pieces dot (before_dash a))) 3 && every is_number (pieces dot (before_dash a))) (every is_identifier (behind_dash a)) t in
    let (core2, tail2) = and_parts (eqb (length (pieces dot (before_dash b))) 3 && every is_number (pieces dot (before_dash b))) (every is_identifier (behind_dash b)) u in
    let n = (and_parts (eqb (length (pieces dot (before_dash a))) 3) (every is_number (pieces dot (before_dash a))) core).1 in
    let k = (and_parts (eqb (length (pieces dot (before_dash b))) 3) (every is_number (pieces dot (before_dash b))) core2).1 in
    let fronts = map_same (value 0) is_number numbers_same (pieces dot (before_dash a)) (pieces dot (before_dash b)) n k (ap (λ p. p.numbers) e) in
    let tails = map_same identifier is_identifier identifiers_same (behind_dash a) (behind_dash b) tail tail2 (ap (λ p. p.identifiers) e) in
    sym (dashed_behind a)
    ∙ ap₂ (λ f g. f ++ dashed g) (sym (dotted_pieces (before_dash a)) ∙ ap dotted fronts ∙ dotted_pieces (before_dash b)) tails
    ∙ dashed_behind b

pub versions_same : (a b : Bytes) → is_version a ≡ true → is_version b ≡ true → parts a ≡ parts b → a ≡ b
versions_same [] b t u e = absurd (true≢false (sym t))
versions_same (c ∷ cs) [] t u e = absurd (true≢false (sym u))
versions_same (c ∷ cs) (d ∷ ds) t u e =
    let (v, r) = and_parts (eqb c 118) (leb (length (c ∷ cs)) 40 && is_release cs) t in
    let (w, q) = and_parts (eqb d 118) (leb (length (d ∷ ds)) 40 && is_release ds) u in
    let x = (and_parts (leb (length (c ∷ cs)) 40) (is_release cs) r).1 in
    let y = (and_parts (leb (length (d ∷ ds)) 40) (is_release ds) q).1 in
    ap₂ (λ z zs. z ∷ zs) (eqb-true c 118 v ∙ sym (eqb-true d 118 w)) (behind_same cs ds x y e)

pub precede : (a b : Bytes) → is_version a ≡ true → is_version b ≡ true → version_order a b ≡ precedence (parts a) (parts b)
unfolding version_order parted
precede a b t u = rw (t, u) (go (precedence (parts a) (parts b)) refl)
  where
    go : (o : Ordering) → precedence (parts a) (parts b) ≡ o → ordering_then o (dictionary a b) ≡ o
    go Less e = refl
    go Equal e = ap (dictionary a) (sym (versions_same a b t u (precedences.apart (parts a) (parts b) e))) ∙ words.same a
    go Greater e = refl

pub orders_right : OrdersRight
orders_right = record {
  paths = laws_of paths;
  versions = laws_of versions;
  module_versions = laws_of module_versions;
  precede = precede;
  below = no_version_below;
}
