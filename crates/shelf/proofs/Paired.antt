-- Reading a shelf, one pair after the other. Assumes nothing.
use Rattle.std.proofs.Common.{◌≡◌, ℕ, zero, suc, ◌+◌, ◌-◌, ◌<◌, ◌≤◌, Bool, true, false, cond, ◌&&◌, eqb, leb, List, [], ◌∷◌, ◌++◌, map, length, take, set, replicate, Some, None, Option, sym, refl, ap, ◌∙◌, ap₂, arith}
use Rattle.std.specs.Option.{option_map, option_and_then}
use Rattle.std.specs.List.{AllByRecursion}
use Rattle.std.specs.Bool.{then_some}
use Rattle.std.specs.Str.{bytes_eq}
use Rattle.std.proofs.lemmas.List.{append_assoc, append-nil, length-append, length-map, length-take-le, map-append, map-set, take-map, take_more_set}
use Rattle.std.proofs.lemmas.Bool.{cond-true, leb-true, le-leb, and_parts, and_from, true≢false}
use Rattle.rules.specs.Orders.{Bytes}
use Rattle.rules.specs.Texts.{slash, every, pieces as cut_at}
use Rattle.rules.specs.Paths.{is_element, is_path}
use Rattle.rules.specs.Versions.{is_release, is_version}
use Rattle.rules.specs.Names.{ModuleVersion, is_module_version, at}
use Rattle.rules.specs.Slices.{blank, filled}
use Rattle.fields.specs.Pairs.{Pair, pairs_in, PairCut, pair_of}
use Rattle.fields.proofs.Pieces.{pairs_some, pairs_none, pair_size}
use Rattle.rules.specs.Sources.{found, fault, missing_here}
use Rattle.bottoms.specs.Seeking.{Seen, first_from}
use Rattle.bottoms.specs.Items.{first_of, answered, with_version, versions_in}
use Rattle.shelf.specs.Grammar.{tag_M, tag_R}
use Rattle.shelf.specs.Laws.{is_formed}
use Rattle.shelf.specs.Records.{Record, named, rows_at, records, are_names, is_record_of, record_answer, record_version, heads, head_version, held_version, row_cut, record_rows}

-- ---- records

module _ (x : ModuleVersion) (q : Pair) (qs : List Pair) where
  abbrev records_by : Bool → List Record
  records_by b = cond b (record { names = named q; rows = rows_at qs } ∷ records qs) (records qs)

  abbrev first_by : Bool → Option (List ModuleVersion)
  first_by b = option_map record_rows (first_of is_record_of x (records_by b))

  one_record : first_by (eqb q.tag tag_M) ≡ cond (heads x q) (Some (rows_at qs)) (option_map record_rows (first_of is_record_of x (records qs)))
  one_record = go (eqb q.tag tag_M)
    where
      by_names : (n : Bool) → option_map record_rows (cond n (Some (record { names = named q; rows = rows_at qs })) (first_of is_record_of x (records qs)))
          ≡ cond n (Some (rows_at qs)) (option_map record_rows (first_of is_record_of x (records qs)))
      by_names true = refl
      by_names false = refl

      go : (b : Bool) → first_by b ≡ cond (b && are_names x (named q)) (Some (rows_at qs)) (option_map record_rows (first_of is_record_of x (records qs)))
      go true = by_names (are_names x (named q))
      go false = refl

-- the record of the first pair that heads one of the module version is its first record
pub record_sought : (x : ModuleVersion) (qs : List Pair) → option_map (λ (s : Seen). rows_at s.after) (first_from (heads x) qs) ≡ option_map record_rows (first_of is_record_of x (records qs))
record_sought x [] = refl
record_sought x (q ∷ qs) = by_head (heads x q) (record_sought x qs) ∙ sym (one_record x q qs)
  where
    by_head : (b : Bool) → option_map (λ (s : Seen). rows_at s.after) (first_from (heads x) qs) ≡ option_map record_rows (first_of is_record_of x (records qs))
        → option_map (λ (s : Seen). rows_at s.after) (cond b (Some (record { pair = q; after = qs })) (first_from (heads x) qs))
        ≡ cond b (Some (rows_at qs)) (option_map record_rows (first_of is_record_of x (records qs)))
    by_head true e = refl
    by_head false e = e

-- ---- versions

one_version : (p : Bytes) (q : Pair) (qs : List Pair)
    → versions_in record_version p (records (q ∷ qs)) ≡ with_version (head_version p q) (versions_in record_version p (records qs))
one_version p q qs = go (eqb q.tag tag_M)
  where
    go : (b : Bool) → versions_in record_version p (cond b (record { names = named q; rows = rows_at qs } ∷ records qs) (records qs))
        ≡ with_version (then_some (b && bytes_eq q.first p) q.second) (versions_in record_version p (records qs))
    go true = refl
    go false = refl

-- the versions that pairs tell are those of the records
pub versions_held : (p : Bytes) (qs : List Pair) → versions_in head_version p qs ≡ versions_in record_version p (records qs)
versions_held p [] = refl
versions_held p (q ∷ qs) = ap (with_version (head_version p q)) (versions_held p qs) ∙ sym (one_version p q qs)

-- ---- rows

module _ (bs : Bytes) where
  pub rows_none : None ≡ row_cut (pair_of bs) → rows_at (pairs_in bs) ≡ []
  rows_none e = go (pair_of bs) refl e
    where
      by_tag : (p : PairCut) (b : Bool) → None ≡ cond b (Some p) None → cond b (named p.pair ∷ rows_at (pairs_in p.after)) [] ≡ []
      by_tag p true f = let z : ◌≡◌ {A = ℕ} 0 1 = cc in absurd (omega arith)
      by_tag p false f = refl

      go : (o : Option PairCut) → o ≡ pair_of bs → None ≡ row_cut o → rows_at (pairs_in bs) ≡ []
      go None h f = ap rows_at (pairs_none bs h)
      go (Some p) h f = ap rows_at (pairs_some bs p h) ∙ by_tag p (eqb p.pair.tag tag_R) f

  module _ (p : PairCut) (e : Some p ≡ row_cut (pair_of bs)) where
    row_is : (Some p ≡ pair_of bs) × (eqb p.pair.tag tag_R ≡ true)
    row_is = go (pair_of bs) e
      where
        by_tag : (q : PairCut) (b : Bool) → eqb q.pair.tag tag_R ≡ b → Some p ≡ cond b (Some q) None → (Some p ≡ Some q) × (eqb p.pair.tag tag_R ≡ true)
        by_tag q true t f = let s : p ≡ q = cc in (f, ap (λ (c : PairCut). eqb c.pair.tag tag_R) s ∙ t)
        by_tag q false t f = let z : ◌≡◌ {A = ℕ} 0 1 = cc in absurd (omega arith)

        go : (o : Option PairCut) → Some p ≡ row_cut o → (Some p ≡ o) × (eqb p.pair.tag tag_R ≡ true)
        go None f = let z : ◌≡◌ {A = ℕ} 0 1 = cc in absurd (omega arith)
        go (Some q) f = by_tag q (eqb q.pair.tag tag_R) refl f

    pub rows_more : rows_at (pairs_in bs) ≡ named p.pair ∷ rows_at (pairs_in p.after)
    rows_more = let is = row_is in ap rows_at (pairs_some bs p is.0) ∙ cond-true _ _ _ is.1

    pub row_size : length p.after < length bs
    row_size = let is = row_is in pair_size bs p is.0

-- ---- rows copied one by one

module _ {A : Type 0} (f : A → ModuleVersion) (n : ℕ) (out : List A) (rs left : List ModuleVersion) (fits : n ≤ length out) (so_far : take n (map f out) ++ left ≡ rs) where
  read : length (take n (map f out)) ≡ n
  read = length-take-le n (map f out) (omega (arith, length-map out f))

  pub still_room : (r : ModuleVersion) (rest : List ModuleVersion) → left ≡ r ∷ rest → length rs ≤ length out → n < length out
  still_room r rest e h = omega (arith, ap length so_far, length-append (take n (map f out)) left, ap length e, read)

  pub one_copied : (x : A) (rest : List ModuleVersion) → left ≡ f x ∷ rest → n < length out → take (n + 1) (map f (set out n x)) ++ rest ≡ rs
  one_copied x rest e h =
      ap (λ ys. take (n + 1) ys ++ rest) (map-set f out n x)
      ∙ ap (λ ys. ys ++ rest) (take_more_set (map f out) n (f x) (omega (arith, length-map out f)))
      ∙ append_assoc (take n (map f out)) (f x ∷ []) rest ∙ ap (λ ys. take n (map f out) ++ ys) (sym e) ∙ so_far

  pub all_copied : left ≡ [] → (n ≡ length rs) × (take n (map f out) ≡ rs)
  all_copied e =
      let whole : take n (map f out) ≡ rs = sym (append-nil (take n (map f out))) ∙ ap (λ ys. take n (map f out) ++ ys) (sym e) ∙ so_far in
      (sym read ∙ ap length whole, whole)

map_replicate : {A B : Type 0} (f : A → B) (n : ℕ) (b : A) → map f (replicate n b) ≡ replicate n (f b)
map_replicate f zero b = refl
map_replicate f (suc n) b = ap (λ ys. f b ∷ ys) (map_replicate f n b)

-- and then blanks behind them
pub blanks_behind : {A : Type 0} (f : A → ModuleVersion) (n k : ℕ) (out done : List A) (b : A) (rs : List ModuleVersion)
    → done ≡ take k out ++ replicate (length out - k) b → f b ≡ blank → k ≡ length rs → take k (map f out) ≡ rs → length out ≡ n → map f done ≡ filled blank n rs
blanks_behind f n k out done b rs e none size front long =
    ap (map f) e ∙ map-append f (take k out) (replicate (length out - k) b)
    ∙ ap₂ ◌++◌ (sym (take-map f k out) ∙ front) (map_replicate f (length out - k) b ∙ ap₂ replicate (ap₂ ◌-◌ long size) none)

-- ---- the answer

pub record_found : (o : Option Record) (rs : List ModuleVersion) → Some rs ≡ option_map record_rows o → answered record_answer o ≡ found rs
record_found None rs e = let z : ◌≡◌ {A = ℕ} 0 1 = cc in absurd (omega arith)
record_found (Some r) rs e = let s : rs ≡ r.rows = cc in ap found (sym s)

pub record_missing : (o : Option Record) → None ≡ option_map record_rows o → answered record_answer o ≡ fault missing_here
record_missing None e = refl
record_missing (Some r) e = let z : ◌≡◌ {A = ℕ} 0 1 = cc in absurd (omega arith)

-- ---- a row of names that are well formed

pub names_short : (p v : Bytes) → is_module_version (at p v) ≡ true → (leb (length p) 48 && leb (length v) 48) ≡ true
names_short p v e = let (path, version) = and_parts (is_path p) (is_version v) e in and_from _ _ (and_parts (leb (length p) 48) (every is_element (cut_at slash p)) path).0 (by_version v version)
  where
    by_version : (w : Bytes) → is_version w ≡ true → leb (length w) 48 ≡ true
    by_version [] h = refl
    by_version (b ∷ bs) h =
        let (first, others) = and_parts (eqb b 118) (leb (length (b ∷ bs)) 40 && is_release bs) h in
        le-leb _ _ (omega (arith, leb-true (length (b ∷ bs)) 40 (and_parts (leb (length (b ∷ bs)) 40) (is_release bs) others).0))

pub row_is_some : {A : Type 0} (b : Bool) (x y : A) → Some x ≡ then_some b y → x ≡ y
row_is_some true x y e = cc
row_is_some false x y e = let z : ◌≡◌ {A = ℕ} 0 1 = cc in absurd (omega arith)

pub row_is_none : {A : Type 0} (b : Bool) (y : A) → None ≡ then_some b y → b ≡ true → ⊥
row_is_none true y e h = let z : ◌≡◌ {A = ℕ} 0 1 = cc in omega arith
row_is_none false y e h = true≢false (sym h)

-- ---- versions of pairs that are well formed

-- such a pair holds the version that it tells
pub held_whole : (p : Bytes) (q : Pair) → is_formed q ≡ true → held_version p q ≡ head_version p q
held_whole p q e = go (eqb q.tag tag_M && bytes_eq q.first p)
  where
    go : (b : Bool) → option_and_then (λ (v : Bytes). then_some (leb (length v) 48) v) (then_some b q.second) ≡ then_some b q.second
    go true = ap (λ s. then_some s q.second) (and_parts (leb (length q.first) 48) (leb (length q.second) 48) (names_short q.first q.second e)).1
    go false = refl

-- and so do all of them
pub all_whole : (p : Bytes) (qs : List Pair) → AllByRecursion (λ q. is_formed q ≡ true) qs → versions_in held_version p qs ≡ versions_in head_version p qs
all_whole p [] f = refl
all_whole p (q ∷ qs) (f, fs) = ap₂ with_version (held_whole p q f) (all_whole p qs fs)

-- which are the versions of the records
pub whole_versions_held : (p : Bytes) (qs : List Pair) → AllByRecursion (λ q. is_formed q ≡ true) qs → versions_in held_version p qs ≡ versions_in record_version p (records qs)
whole_versions_held p qs f = all_whole p qs f ∙ versions_held p qs
