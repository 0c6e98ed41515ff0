-- What holds of a buffer that is accepted as a shelf: its records are well formed, each has at most 64 rows, and so what it means is lawful.
-- Assumes nothing.
use Rattle.std.specs.Prelude.{◌≡◌, ℕ, ◌+◌, ◌-◌, ◌<◌, ◌≤◌, Bool, true, false, cond, ◌⊎◌, List, [], ◌∷◌, length, is_ok, Some, Ok, Err, Result, ◌==◌, ◌≢◌, nat_le, refl}
use Rattle.std.proofs.Common.{sym, ap, subst, ◌∙◌, inl, inr, ⊎_elim, arith}
use Rattle.std.specs.Bool.{then_some}
use Rattle.std.specs.List.{AllByRecursion}
use Rattle.std.specs.Str.{bytes_eq}
use Rattle.std.proofs.lemmas.Slice.Eq.{bytes_eq-Decides}
use Rattle.std.proofs.lemmas.Bool.{eqb-true, eqb-false, eq-eqb, ne_eqb, and_parts, and_from}
use Rattle.rules.specs.Orders.{Bytes}
use Rattle.rules.specs.Paths.{is_path}
use Rattle.rules.specs.Versions.{is_version}
use Rattle.rules.specs.Causes.{Cause, too_long, bad_path, bad_version, row_too_many, damaged_buffer}
use Rattle.rules.specs.Names.{ModuleVersion, is_module_version, ◌∈◌}
use Rattle.rules.specs.Sources.{Lawful}
use Rattle.fields.specs.Fields.{Piece, whole, torn, pieces}
use Rattle.fields.specs.Pairs.{Pair, pairs, pairs_in}
use Rattle.fields.specs.Openings.{Opening, refused_at, opened_on, opened_from, opened}
use Rattle.bottoms.specs.Lawful.{lawful}
use Rattle.shelf.specs.declared.order.Expected.{Expected}
use Rattle.shelf.specs.declared.order.Expected.TheVariants.{Module, Version, Row, RowVersion}
use Rattle.shelf.specs.Grammar.{tag_M, tag_R, path_then, version_then, row_then, follow, may_end, opening, is_shelf}
use Rattle.shelf.specs.Records.{Record, named, rows_at, records, is_record_of, record_answer, record_version, shelf_meaning}

-- what may come next is there
abbrev Fine : Expected → ℕ → List Piece → Type 0
Fine w place ps = is_ok (opened_from follow may_end w place ps) ≡ true

step : (next : Expected → Opening) (place : ℕ) (r : Result Expected Cause) → is_ok (opened_on follow may_end next place r) ≡ true
    → (v : Expected) × (r ≡ Ok v) × (is_ok (next v) ≡ true)
step next place (Ok v) e = (v, refl, e)
step next place (Err c) e = let z : ◌≡◌ {A = ℕ} 0 1 = cc in absurd (omega arith)

-- a test that was passed
passed : (b : Bool) (r : Result Expected Cause) (c : Cause) (v : Expected) → cond b r (Err c) ≡ Ok v → (b ≡ true) × (r ≡ Ok v)
passed true r c v e = (refl, e)
passed false r c v e = let z : ◌≡◌ {A = ℕ} 0 1 = cc in absurd (omega arith)

path_was : (b : Bytes) (w v : Expected) → path_then b w ≡ Ok v → (is_path b ≡ true) × (v ≡ w)
path_was b w v e = let p = passed (is_path b) (Ok w) bad_path v e in let q = p.1 in (p.0, cc)

version_was : (b : Bytes) (w v : Expected) → version_then b w ≡ Ok v → (is_version b ≡ true) × (v ≡ w)
version_was b w v e = let p = passed (is_version b) (Ok w) bad_version v e in let q = p.1 in (p.0, cc)

row_was : (left : ℕ) (b : Bytes) (v : Expected) → row_then left b ≡ Ok v → (0 < left) × (is_path b ≡ true) × (v ≡ RowVersion (left - 1))
row_was left b v e = go (left == 0) refl e
  where
    go : (z : Bool) → (left == 0) ≡ z → cond z (Err row_too_many) (path_then b (RowVersion (left - 1))) ≡ Ok v → (0 < left) × (is_path b ≡ true) × (v ≡ RowVersion (left - 1))
    go true t f = let z : ◌≡◌ {A = ℕ} 0 1 = cc in absurd (omega arith)
    go false t f =
        let p = path_was b (RowVersion (left - 1)) v f in
        let n : left ≡ 0 → ⊥ = eqb-false left 0 t in
        (omega arith, p.0, p.1)

-- a row follows
abbrev GoesOn : ℕ → ℕ → Bytes → Expected → Type 0
GoesOn left t b v = (t ≡ tag_R) × (0 < left) × (is_path b ≡ true) × (v ≡ RowVersion (left - 1))

at_module : (t : ℕ) (b : Bytes) (v : Expected) → follow Module t b ≡ Ok v → (t ≡ tag_M) × (is_path b ≡ true) × (v ≡ Version)
at_module t b v e =
    let p = passed (t == tag_M) (path_then b Version) damaged_buffer v e in
    let q = path_was b Version v p.1 in
    (eqb-true t tag_M p.0, q.0, q.1)

at_row : (left t : ℕ) (b : Bytes) (v : Expected) → follow (Row left) t b ≡ Ok v → ((t ≡ tag_M) × (is_path b ≡ true) × (v ≡ Version)) ⊎ GoesOn left t b v
at_row left t b v e = go (t == tag_M) refl e
  where
    go : (z : Bool) → (t == tag_M) ≡ z → cond z (path_then b Version) (cond (t == tag_R) (row_then left b) (Err damaged_buffer)) ≡ Ok v
        → ((t ≡ tag_M) × (is_path b ≡ true) × (v ≡ Version)) ⊎ GoesOn left t b v
    go true h f = let q = path_was b Version v f in inl (eqb-true t tag_M h, q.0, q.1)
    go false h f =
        let p = passed (t == tag_R) (row_then left b) damaged_buffer v f in
        let q = row_was left b v p.1 in
        inr (eqb-true t tag_R p.0, q.0, q.1, q.2)

at_version : (t : ℕ) (b : Bytes) (v : Expected) → follow Version t b ≡ Ok v → (is_version b ≡ true) × (v ≡ Row 64)
at_version t b v e = version_was b (Row 64) v (passed (t == 86) (version_then b (Row 64)) damaged_buffer v e).1

at_row_version : (left t : ℕ) (b : Bytes) (v : Expected) → follow (RowVersion left) t b ≡ Ok v → (is_version b ≡ true) × (v ≡ Row left)
at_row_version left t b v e = version_was b (Row left) v (passed (t == 87) (version_then b (Row left)) damaged_buffer v e).1

abbrev pub is_formed : Pair → Bool
is_formed q = is_module_version (named q)

-- pairs in which each M is followed by at most 64 R, where so many may come first
abbrev Good : ℕ → List Pair → Type 0
Good left [] = Unit {0}
Good left (q ∷ qs) = (is_formed q ≡ true) × (((q.tag ≡ tag_M) × Good 64 qs) ⊎ ((q.tag ≡ tag_R) × (0 < left) × Good (left - 1) qs))

good_at : (left place : ℕ) (ps : List Piece) → Fine (Row left) place ps → Good left (pairs ps)
good_at left place [] h = tt
good_at left place (torn ∷ ps) h = tt
good_at left place (whole t a ∷ []) h = tt
good_at left place (whole t a ∷ torn ∷ ps) h = tt
good_at left place (whole t a ∷ whole u b ∷ ps) h =
    let (v, e, k) = step (λ x. opened_from follow may_end x (place + 3 + length a) (whole u b ∷ ps)) place (follow (Row left) t a) h in
    let (w, f, j) = step (λ x. opened_from follow may_end x (place + 3 + length a + 3 + length b) ps) (place + 3 + length a) (follow v u b) k in
    ⊎_elim
    (λ (m : (t ≡ tag_M) × (is_path a ≡ true) × (v ≡ Version)).
    let n = at_version u b w (ap (λ x. follow x u b) (sym m.2) ∙ f) in
    (and_from (is_path a) (is_version b) m.1 n.0, inl (m.0, good_at 64 (place + 3 + length a + 3 + length b) ps (subst (λ x. Fine x (place + 3 + length a + 3 + length b) ps) n.1 j))))
    (λ (m : GoesOn left t a v).
    let n = at_row_version (left - 1) u b w (ap (λ x. follow x u b) (sym m.3) ∙ f) in
    (and_from (is_path a) (is_version b) m.2 n.0, inr (m.0, m.1, good_at (left - 1) (place + 3 + length a + 3 + length b) ps (subst (λ x. Fine x (place + 3 + length a + 3 + length b) ps) n.1 j))))
    (at_row left t a v e)

good_first : (place : ℕ) (ps : List Piece) → Fine Module place ps → Good 0 (pairs ps)
good_first place [] h = tt
good_first place (torn ∷ ps) h = tt
good_first place (whole t a ∷ []) h = tt
good_first place (whole t a ∷ torn ∷ ps) h = tt
good_first place (whole t a ∷ whole u b ∷ ps) h =
    let (v, e, k) = step (λ x. opened_from follow may_end x (place + 3 + length a) (whole u b ∷ ps)) place (follow Module t a) h in
    let (w, f, j) = step (λ x. opened_from follow may_end x (place + 3 + length a + 3 + length b) ps) (place + 3 + length a) (follow v u b) k in
    let m = at_module t a v e in
    let n = at_version u b w (ap (λ x. follow x u b) (sym m.2) ∙ f) in
    (and_from (is_path a) (is_version b) m.1 n.0, inl (m.0, good_at 64 (place + 3 + length a + 3 + length b) ps (subst (λ x. Fine x (place + 3 + length a + 3 + length b) ps) n.1 j)))

within : (b : Bool) (x : Opening) → is_ok (cond b x (refused_at 0 too_long)) ≡ true → is_ok x ≡ true
within true x e = e
within false x e = let z : ◌≡◌ {A = ℕ} 0 1 = cc in absurd (omega arith)

shelf_good : (bs : Bytes) → is_shelf bs ≡ true → Good 0 (pairs_in bs)
unfolding opening opened pairs_in
shelf_good bs e = good_first 0 (pieces bs) (within (nat_le (length bs) 65536) (opened_from follow may_end Module 0 (pieces bs)) e)

-- ---- the rows and the records

not_both : (t : ℕ) → t ≡ tag_M → t ≢ tag_R
not_both t e f = omega arith

abbrev rows_by : Bool → Pair → List Pair → List ModuleVersion
rows_by b q qs = cond b (named q ∷ rows_at qs) []

few_at : (left : ℕ) (qs : List Pair) → Good left qs → length (rows_at qs) ≤ left
few_at left [] g = omega arith
few_at left (q ∷ qs) (f, inl (m, g)) = omega (arith, ap (λ b. length (rows_by b q qs)) (ne_eqb q.tag tag_R (λ e. not_both q.tag m e)))
few_at left (q ∷ qs) (f, inr (r, some, g)) = omega (arith, few_at (left - 1) qs g, ap (λ b. length (rows_by b q qs)) (eq-eqb q.tag tag_R r))

rows_formed_at : (left : ℕ) (qs : List Pair) → Good left qs → AllByRecursion (λ r. is_module_version r ≡ true) (rows_at qs)
rows_formed_at left [] g = tt
rows_formed_at left (q ∷ qs) (f, inl (m, g)) = subst (λ b. AllByRecursion (λ r. is_module_version r ≡ true) (rows_by b q qs)) (sym (ne_eqb q.tag tag_R (λ e. not_both q.tag m e))) tt
rows_formed_at left (q ∷ qs) (f, inr (r, some, g)) = subst (λ b. AllByRecursion (λ r. is_module_version r ≡ true) (rows_by b q qs)) (sym (eq-eqb q.tag tag_R r)) (f, rows_formed_at (left - 1) qs g)

-- a record in order
pub record Sound (r : Record) : Type 0 where
  pub formed : is_module_version r.names ≡ true
  pub few : length r.rows ≤ 64
  pub rows_formed : AllByRecursion (λ x. is_module_version x ≡ true) r.rows

abbrev records_by : Bool → Pair → List Pair → List Record
records_by b q qs = cond b (record { names = named q; rows = rows_at qs } ∷ records qs) (records qs)

records_sound : (left : ℕ) (qs : List Pair) → Good left qs → (r : Record) → r ∈ records qs → Sound r
records_sound left [] g r h = absurd h
records_sound left (q ∷ qs) (f, inl (m, g)) r h =
    let here : (r ≡ record { names = named q; rows = rows_at qs }) ⊎ (r ∈ records qs) = subst (λ b. r ∈ records_by b q qs) (eq-eqb q.tag tag_M m) h in
    ⊎_elim
    (λ (e : r ≡ record { names = named q; rows = rows_at qs }).
    subst Sound (sym e) (record { formed = f; few = few_at 64 qs g; rows_formed = rows_formed_at 64 qs g }))
    (λ (k : r ∈ records qs). records_sound 64 qs g r k)
    here
records_sound left (q ∷ qs) (f, inr (t, some, g)) r h =
    records_sound (left - 1) qs g r (subst (λ b. r ∈ records_by b q qs) (ne_eqb q.tag tag_M (λ e. not_both q.tag e t)) h)

held_is : (b : Bool) (w v : Bytes) → then_some b w ≡ Some v → w ≡ v
held_is true w v e = cc
held_is false w v e = let z : ◌≡◌ {A = ℕ} 0 1 = cc in absurd (omega arith)

good_formed : (left : ℕ) (qs : List Pair) → Good left qs → AllByRecursion (λ q. is_formed q ≡ true) qs
good_formed left [] g = tt
good_formed left (q ∷ qs) (f, inl (m, g)) = (f, good_formed 64 qs g)
good_formed left (q ∷ qs) (f, inr (r, some, g)) = (f, good_formed (left - 1) qs g)

module _ (bs : Bytes) (ok : is_shelf bs ≡ true) where
  sound : (r : Record) → r ∈ records (pairs_in bs) → Sound r
  sound = records_sound 0 (pairs_in bs) (shelf_good bs ok)

  -- THE SHELF: what a shelf means is lawful
  pub shelf_lawful : Lawful (shelf_meaning bs)
  shelf_lawful = lawful is_record_of record_answer record_version (records (pairs_in bs)) (record {
    few_rows = λ r h rs e. let s : r.rows ≡ rs = cc in subst (λ xs. length xs ≤ 64) s (sound r h).few;
    rows_formed = λ r h rs e. let s : r.rows ≡ rs = cc in subst (AllByRecursion (λ x. is_module_version x ≡ true)) s (sound r h).rows_formed;
    depth = λ r h f e. let z : ◌≡◌ {A = ℕ} 0 1 = cc in absurd (omega arith);
    formed = λ p r h v e. subst (λ w. is_version w ≡ true) (held_is (bytes_eq r.names.path p) r.names.version v e) (and_parts (is_path r.names.path) (is_version r.names.version) (sound r h).formed).1;
    holds = λ p v r h e.
        let (path, version) = and_parts (bytes_eq r.names.path p) (bytes_eq r.names.version v) e in
        ap (λ b. then_some b r.names.version) path ∙ ap Some ((bytes_eq-Decides r.names.version v).0 version);
  })

  -- its pairs are well formed
  pub shelf_formed : AllByRecursion (λ q. is_formed q ≡ true) (pairs_in bs)
  shelf_formed = good_formed 0 (pairs_in bs) (shelf_good bs ok)
