-- What a text is read to is well formed and within the bounds, and every such manifest is read back from its plain text. Assumes nothing.
use Rattle.std.proofs.Common.{◌≡◌, ℕ, ◌+◌, ◌<◌, ◌≤◌, Bool, true, false, cond, ltb, leb, List, [], ◌∷◌, ◌++◌, length, is_some, Some, None, Ok, Err, codes, Option, Result, sym, refl, ap, ◌∙◌, subst, ap₂, inl, inr, ⊎_elim, add-zero, arith}
use Rattle.std.proofs.lemmas.List.{append_assoc, append-nil, length_push}
use Rattle.std.proofs.lemmas.Bool.{cond-true, and_from, and_parts, lt-ltb, ltb-true, le-leb, leb-true}
use Rattle.rules.specs.Orders.{Bytes}
use Rattle.rules.specs.Texts.{every}
use Rattle.rules.specs.Paths.{is_path}
use Rattle.rules.specs.Versions.{is_version}
use Rattle.rules.specs.Names.{ModuleVersion, at, is_module_version, ◌∈◌}
use Rattle.rules.specs.Causes.{Cause, too_long, bad_byte, bad_path, bad_version, module_line, row_too_many}
use Rattle.rules.specs.Lines.{lines, code, Word, text, words}
use Rattle.rules.specs.Manifests.{Manifest, Reading, manifest, unread, Verb, Directive, passed, names, go_version, requires_row, excludes_row, opens, closes, directive}
use Rattle.rules.specs.Manifests.{Progress, unbegun, with_block, with_main, with_required, with_excluded, named, added, obeyed, shaped, good_byte, line_read}
use Rattle.rules.specs.Manifests.{ended_main, ended_block, at_end, read_on, lines_read, reading, WellFormed, plain_line, row_lines, written, ReadingsRight}
use Rattle.rules.proofs.Members.{member_either}
use Rattle.rules.proofs.Plainly.{nonempty, not_feed, Plain, path_plain, version_plain, Line, one_word, word_more, line_obeyed, line_cut}

-- what is read so far
record Sound (most : ℕ) (p : Progress) : Type 0 where
  main : (m : Bytes) → p.main ≡ Some m → is_path m ≡ true
  requires : (x : ModuleVersion) → x ∈ p.requires → is_module_version x ≡ true
  excludes : (x : ModuleVersion) → x ∈ p.excludes → is_module_version x ≡ true
  require_rows : length p.requires ≤ most
  exclude_rows : length p.excludes ≤ 32

ok_is : {A B : Type 0} (x y : A) → ◌≡◌ {A = Result A B} (Ok x) (Ok y) → x ≡ y
ok_is x y e = cc

-- a row that is added is well formed, and there was room for it
record Added (most : ℕ) (rows : List ModuleVersion) (m v : Bytes) : Type 0 where
  path : is_path m ≡ true
  version : is_version v ≡ true
  room : length rows < most

was_added : (most : ℕ) (rows : List ModuleVersion) (next : ModuleVersion → Progress) (m v : Bytes) (q : Progress) → added most rows next m v ≡ Ok q
    → Added most rows m v × (next (at m v) ≡ q)
was_added most rows next m v q = go (is_path m) refl (is_version v) refl (ltb (length rows) most) refl
  where
    go : (a : Bool) → is_path m ≡ a → (b : Bool) → is_version v ≡ b → (c : Bool) → ltb (length rows) most ≡ c
        → ◌≡◌ {A = Result Progress Cause} (cond a (cond b (cond c (Ok (next (at m v))) (Err row_too_many)) (Err bad_version)) (Err bad_path)) (Ok q)
        → Added most rows m v × (next (at m v) ≡ q)
    go true ea true eb true ec e = (record { path = ea; version = eb; room = ltb-true _ _ ec }, ok_is _ _ e)
    go true ea true eb false ec e = let z : ◌≡◌ {A = ℕ} 0 1 = cc in absurd (omega arith)
    go true ea false eb c ec e = let z : ◌≡◌ {A = ℕ} 0 1 = cc in absurd (omega arith)
    go false ea b eb c ec e = let z : ◌≡◌ {A = ℕ} 0 1 = cc in absurd (omega arith)

formed_more : (rows : List ModuleVersion) (m v : Bytes) → ((x : ModuleVersion) → x ∈ rows → is_module_version x ≡ true) → is_path m ≡ true → is_version v ≡ true
    → (x : ModuleVersion) → x ∈ (rows ++ at m v ∷ []) → is_module_version x ≡ true
formed_more rows m v all p w x h =
    ⊎_elim (all x) (⊎_elim (λ e. ap is_module_version e ∙ and_from _ _ p w) (λ n. absurd n)) (member_either rows (at m v ∷ []) x h)

was_named : (p : Progress) (m : Bytes) (q : Progress) → named p m ≡ Ok q → (is_path m ≡ true) × (with_main p m ≡ q)
was_named p m q = go (is_path m) refl (is_some p.main)
  where
    go : (a : Bool) → is_path m ≡ a → (b : Bool) → ◌≡◌ {A = Result Progress Cause} (cond a (cond b (Err module_line) (Ok (with_main p m))) (Err bad_path)) (Ok q)
        → (is_path m ≡ true) × (with_main p m ≡ q)
    go true ea true e = let z : ◌≡◌ {A = ℕ} 0 1 = cc in absurd (omega arith)
    go true ea false e = (ea, ok_is _ _ e)
    go false ea b e = let z : ◌≡◌ {A = ℕ} 0 1 = cc in absurd (omega arith)

module _ (most : ℕ) (p : Progress) (s : Sound most p) where
  moved : (q : Progress) → p ≡ q → Sound most q
  moved q e = subst (Sound most) e s

  blocked : (b : Option Verb) → Sound most (with_block p b)
  blocked b = record { main = s.main; requires = s.requires; excludes = s.excludes; require_rows = s.require_rows; exclude_rows = s.exclude_rows }

  obeyed_sound : (d : Directive) (q : Progress) → obeyed most p d ≡ Ok q → Sound most q
  obeyed_sound passed q e = moved q (ok_is _ _ e)
  obeyed_sound (names m) q e =
      let w = was_named p m q e in
      subst (Sound most) w.1 (record {
        main = λ n f. let same : m ≡ n = cc in sym (ap is_path same) ∙ w.0;
        requires = s.requires;
        excludes = s.excludes;
        require_rows = s.require_rows;
        exclude_rows = s.exclude_rows;
      })
  obeyed_sound (go_version w) q e = moved q (ok_is _ _ e)
  obeyed_sound (requires_row m v) q e =
      let w = was_added most p.requires (with_required p) m v q e in
      subst (Sound most) w.1 (record {
        main = s.main;
        requires = formed_more p.requires m v s.requires w.0.path w.0.version;
        excludes = s.excludes;
        require_rows = omega (arith, length_push p.requires (at m v), w.0.room);
        exclude_rows = s.exclude_rows;
      })
  obeyed_sound (excludes_row m v) q e =
      let w = was_added 32 p.excludes (with_excluded p) m v q e in
      subst (Sound most) w.1 (record {
        main = s.main;
        requires = s.requires;
        excludes = formed_more p.excludes m v s.excludes w.0.path w.0.version;
        require_rows = s.require_rows;
        exclude_rows = omega (arith, length_push p.excludes (at m v), w.0.room);
      })
  obeyed_sound (opens v) q e = subst (Sound most) (ok_is _ _ e) (blocked (Some v))
  obeyed_sound closes q e = subst (Sound most) (ok_is _ _ e) (blocked None)

  line_sound : (l : Bytes) (q : Progress) → line_read most p l ≡ Ok q → Sound most q
  line_sound l q = go (every good_byte (code l)) (directive p.block (words (code l)))
    where
      go : (t : Bool) (d : Option Directive) → ◌≡◌ {A = Result Progress Cause} (cond t (shaped most p d) (Err bad_byte)) (Ok q) → Sound most q
      go true (Some d) e = obeyed_sound d q e
      go true None e = let z : ◌≡◌ {A = ℕ} 0 1 = cc in absurd (omega arith)
      go false d e = let z : ◌≡◌ {A = ℕ} 0 1 = cc in absurd (omega arith)

manifest_is : (m n : Manifest) → manifest m ≡ manifest n → m ≡ n
manifest_is m n e = cc

end_formed : (most : ℕ) (p : Progress) → Sound most p → (m : Manifest) → at_end p ≡ manifest m → WellFormed most m
end_formed most p s m = outside p.block
  where
    ends : (o : Option Bytes) → p.main ≡ o → ended_main p o ≡ manifest m → WellFormed most m
    ends None f e = let z : ◌≡◌ {A = ℕ} 0 1 = cc in absurd (omega arith)
    ends (Some n) f e =
        subst (WellFormed most) (manifest_is _ _ e) (record {
          main = s.main n f;
          requires = s.requires;
          excludes = s.excludes;
          require_rows = s.require_rows;
          exclude_rows = s.exclude_rows;
        })

    outside : (b : Option Verb) → ended_block p b ≡ manifest m → WellFormed most m
    outside (Some v) e = let z : ◌≡◌ {A = ℕ} 0 1 = cc in absurd (omega arith)
    outside None e = ends p.main refl e

lines_formed : (most n : ℕ) (p : Progress) → Sound most p → (ls : List Bytes) (m : Manifest) → lines_read most n p ls ≡ manifest m → WellFormed most m
lines_formed most n p s [] m e = end_formed most p s m e
lines_formed most n p s (l ∷ ls) m e = go (λ q t. lines_formed most (n + 1) q t ls m) (line_read most p l) refl e
  where
    go : ((q : Progress) → Sound most q → lines_read most (n + 1) q ls ≡ manifest m → WellFormed most m) → (r : Result Progress Cause) → line_read most p l ≡ r
        → read_on (λ q. lines_read most (n + 1) q ls) (n + 1) r ≡ manifest m → WellFormed most m
    go below (Ok q) f k = below q (line_sound most p s l q f) k
    go below (Err c) f k = let z : ◌≡◌ {A = ℕ} 0 1 = cc in absurd (omega arith)

unbegun_sound : (most : ℕ) → Sound most unbegun
unbegun_sound most = record {
  main = λ m e. let z : ◌≡◌ {A = ℕ} 0 1 = cc in absurd (omega arith);
  requires = λ x h. absurd h;
  excludes = λ x h. absurd h;
  require_rows = omega arith;
  exclude_rows = omega arith;
}

pub well_formed : (most : ℕ) (bs : Bytes) (m : Manifest) → reading most bs ≡ manifest m → WellFormed most m × (length bs ≤ 32768)
well_formed most bs m = go (leb (length bs) 32768) refl
  where
    go : (t : Bool) → leb (length bs) 32768 ≡ t → ◌≡◌ {A = Reading} (cond t (lines_read most 0 unbegun (lines bs)) (unread too_long 0)) (manifest m)
        → WellFormed most m × (length bs ≤ 32768)
    go true t e = (lines_formed most 0 unbegun (unbegun_sound most) (lines bs) m e, leb-true _ _ t)
    go false t e = let z : ◌≡◌ {A = ℕ} 0 1 = cc in absurd (omega arith)

-- ---- a manifest that is written plainly is read back

module_plain : Plain (codes "module")
unfolding nonempty not_feed
module_plain = record { some = refl; calm = refl; word = refl; good = refl; line = refl }

require_plain : Plain (codes "require")
unfolding nonempty not_feed
require_plain = record { some = refl; calm = refl; word = refl; good = refl; line = refl }

exclude_plain : Plain (codes "exclude")
unfolding nonempty not_feed
exclude_plain = record { some = refl; calm = refl; word = refl; good = refl; line = refl }

-- the first line of a text that begins with a plain line
plain_first : (verb rest more : Bytes) (ws : List Word) → Line (verb ++ 32 ∷ rest) ws → lines (plain_line verb rest ++ more) ≡ (verb ++ 32 ∷ rest) ∷ lines more
plain_first verb rest more ws k =
    let whole : plain_line verb rest ++ more ≡ (verb ++ 32 ∷ rest) ++ 10 ∷ more = simp append_assoc in
    ap lines whole ∙ line_cut (verb ++ 32 ∷ rest) more k.line

row_line : (verb : Bytes) → Plain verb → (x : ModuleVersion) → is_module_version x ≡ true
    → Line (verb ++ 32 ∷ (x.path ++ 32 ∷ x.version)) (text verb ∷ text x.path ∷ text x.version ∷ [])
row_line verb p x e =
    let h = and_parts (is_path x.path) (is_version x.version) e in
    word_more verb _ _ p (word_more x.path _ _ (path_plain x.path h.0) (one_word x.version (version_plain x.version h.1)))

is_added : (most : ℕ) (rows : List ModuleVersion) (next : ModuleVersion → Progress) (x : ModuleVersion) → is_module_version x ≡ true → length rows < most
    → added most rows next x.path x.version ≡ Ok (next x)
is_added most rows next x e room =
    let h = and_parts (is_path x.path) (is_version x.version) e in
    cond-true _ _ _ h.0 ∙ cond-true _ _ _ h.1 ∙ cond-true _ _ _ (lt-ltb _ _ room)

module _ (most : ℕ) (m : Bytes) where
  -- the module line is read, and these rows
  abbrev so_far : List ModuleVersion → List ModuleVersion → Progress
  so_far rs es = record { block = None; main = Some m; requires = rs; excludes = es }

  require_read : (rs es : List ModuleVersion) (x : ModuleVersion) → is_module_version x ≡ true → length rs < most
      → line_read most (so_far rs es) (codes "require" ++ 32 ∷ (x.path ++ 32 ∷ x.version)) ≡ Ok (so_far (rs ++ x ∷ []) es)
  require_read rs es x e room = line_obeyed most (so_far rs es) _ _ (row_line (codes "require") require_plain x e) ∙ is_added most rs (with_required (so_far rs es)) x e room

  exclude_read : (rs es : List ModuleVersion) (x : ModuleVersion) → is_module_version x ≡ true → length es < 32
      → line_read most (so_far rs es) (codes "exclude" ++ 32 ∷ (x.path ++ 32 ∷ x.version)) ≡ Ok (so_far rs (es ++ x ∷ []))
  exclude_read rs es x e room = line_obeyed most (so_far rs es) _ _ (row_line (codes "exclude") exclude_plain x e) ∙ is_added 32 es (with_excluded (so_far rs es)) x e room

  requires_read : (n : ℕ) (rs es xs : List ModuleVersion) (more : Bytes) → ((x : ModuleVersion) → x ∈ xs → is_module_version x ≡ true) → length rs + length xs ≤ most
      → lines_read most n (so_far rs es) (lines (row_lines (codes "require") xs ++ more)) ≡ lines_read most (n + length xs) (so_far (rs ++ xs) es) (lines more)
  requires_read n rs es [] more all room =
      ap (λ k. lines_read most k (so_far rs es) (lines more)) (sym (add-zero n)) ∙ ap (λ l. lines_read most (n + 0) (so_far l es) (lines more)) (sym (append-nil rs))
  requires_read n rs es (x ∷ xs) more all room =
      let e = all x (inl refl) in
      let rest = row_lines (codes "require") xs ++ more in
      ap (lines_read most n (so_far rs es)) (ap lines (append_assoc (plain_line (codes "require") (x.path ++ 32 ∷ x.version)) _ more) ∙ plain_first (codes "require") _ rest _ (row_line (codes "require") require_plain x e))
      ∙ ap (read_on (λ q. lines_read most (n + 1) q (lines rest)) (n + 1)) (require_read rs es x e (omega arith))
      ∙ requires_read (n + 1) (rs ++ x ∷ []) es xs more (λ y h. all y (inr h)) (omega (arith, length_push rs x))
      ∙ ap₂ (λ k l. lines_read most k (so_far l es) (lines more)) (let s : (n + 1) + length xs ≡ n + length (x ∷ xs) = omega arith in s) (append_assoc rs (x ∷ []) xs)

  excludes_read : (n : ℕ) (rs es xs : List ModuleVersion) (more : Bytes) → ((x : ModuleVersion) → x ∈ xs → is_module_version x ≡ true) → length es + length xs ≤ 32
      → lines_read most n (so_far rs es) (lines (row_lines (codes "exclude") xs ++ more)) ≡ lines_read most (n + length xs) (so_far rs (es ++ xs)) (lines more)
  excludes_read n rs es [] more all room =
      ap (λ k. lines_read most k (so_far rs es) (lines more)) (sym (add-zero n)) ∙ ap (λ l. lines_read most (n + 0) (so_far rs l) (lines more)) (sym (append-nil es))
  excludes_read n rs es (x ∷ xs) more all room =
      let e = all x (inl refl) in
      let rest = row_lines (codes "exclude") xs ++ more in
      ap (lines_read most n (so_far rs es)) (ap lines (append_assoc (plain_line (codes "exclude") (x.path ++ 32 ∷ x.version)) _ more) ∙ plain_first (codes "exclude") _ rest _ (row_line (codes "exclude") exclude_plain x e))
      ∙ ap (read_on (λ q. lines_read most (n + 1) q (lines rest)) (n + 1)) (exclude_read rs es x e (omega arith))
      ∙ excludes_read (n + 1) rs (es ++ x ∷ []) xs more (λ y h. all y (inr h)) (omega (arith, length_push es x))
      ∙ ap₂ (λ k l. lines_read most k (so_far rs l) (lines more)) (let s : (n + 1) + length xs ≡ n + length (x ∷ xs) = omega arith in s) (append_assoc es (x ∷ []) xs)

  module_read : is_path m ≡ true → line_read most unbegun (codes "module" ++ 32 ∷ m) ≡ Ok (so_far [] [])
  module_read e =
      line_obeyed most unbegun _ _ (word_more (codes "module") m _ module_plain (one_word m (path_plain m e))) ∙ cond-true _ _ _ e

pub read_back : (most : ℕ) (m : Manifest) → WellFormed most m → length (written m) ≤ 32768 → reading most (written m) ≡ manifest m
read_back most m w short =
    let rest = row_lines (codes "require") m.requires ++ row_lines (codes "exclude") m.excludes in
    let more = row_lines (codes "exclude") m.excludes in
    let k = word_more (codes "module") m.main _ module_plain (one_word m.main (path_plain m.main w.main)) in
    cond-true _ _ _ (le-leb _ _ short)
    ∙ ap (lines_read most 0 unbegun) (plain_first (codes "module") m.main rest _ k)
    ∙ ap (read_on (λ q. lines_read most 1 q (lines rest)) 1) (module_read most m.main w.main)
    ∙ requires_read most m.main 1 [] [] m.requires more w.requires (omega (arith, w.require_rows))
    ∙ ap (λ l. lines_read most (1 + length m.requires) (so_far most m.main m.requires []) (lines l)) (sym (append-nil more))
    ∙ excludes_read most m.main (1 + length m.requires) m.requires [] m.excludes [] w.excludes (omega (arith, w.exclude_rows))

pub readings_right : ReadingsRight
readings_right = record { well_formed = well_formed; read_back = read_back }
