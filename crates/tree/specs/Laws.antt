-- What a tree means is lawful: a manifest has few rows, all well formed, and the name of a module version holds its version. Assumes nothing.
use Rattle.std.specs.Prelude.{◌≡◌, ℕ, ◌+◌, ◌-◌, ◌<◌, ◌≤◌, Bool, true, false, cond, not, ◌&&◌, List, [], ◌∷◌, ◌++◌, length, is_some, Some, None, Ok, Err, Option, Result, ◌==◌, nat_le, nat_lt, refl}
use Rattle.std.proofs.Common.{sym, ap, subst, ◌∙◌, ⊎_elim, arith}
use Rattle.std.specs.Option.{option_map}
use Rattle.std.specs.Bool.{then_some}
use Rattle.std.specs.List.{AllByRecursion}
use Rattle.std.specs.Str.{bytes_eq}
use Rattle.std.proofs.lemmas.Slice.Eq.{bytes_eq-Decides}
use Rattle.std.proofs.lemmas.List.{length-append}
use Rattle.std.proofs.lemmas.Bool.{cond-true, cond-false, eqb-true, eq-eqb, leb-true, le-leb, ltb-true, and_parts, and_from, or_cases, not-true, true≢false}
use Rattle.rules.specs.Orders.{Bytes}
use Rattle.rules.specs.Texts.{dot, dash, slash, digit, every, begun, pieces}
use Rattle.rules.specs.Paths.{element_byte, last_byte, is_element, is_path}
use Rattle.rules.specs.Versions.{is_number, identifier_byte, is_word, is_identifier, before_dash, behind_dash, is_release, is_version}
use Rattle.rules.specs.Names.{ModuleVersion, is_module_version, at}
use Rattle.rules.specs.Causes.{Cause, bad_path, bad_version, module_line, row_too_many, bad_byte, too_long, Fault}
use Rattle.rules.specs.Lines.{lines, code, words}
use Rattle.rules.specs.Manifests as M
use Rattle.rules.specs.Sources.{Lawful, found, fault}
use Rattle.rules.proofs.Precedence.{every_head, number_digits}
use Rattle.fields.specs.Pairs.{pairs_in}
use Rattle.bottoms.specs.Lawful.{lawful}
use Rattle.tree.specs.Escapes.{mark, is_upper, is_lower, escaped, unescaped}
use Rattle.tree.specs.Filenames.{between, dot_mod, file_name, behind, before, bound, formed_version, version_written, version_held}
use Rattle.tree.specs.Files.{is_file_of, reading_answer, body_answer, file_answer, file_version, tree_meaning}

-- ---- the rows of a manifest

abbrev Formed : List ModuleVersion → Type 0
Formed rs = AllByRecursion (λ r. is_module_version r ≡ true) rs

-- at most so many, all well formed
abbrev Sound : ℕ → List ModuleVersion → Type 0
Sound most rs = (length rs ≤ most) × Formed rs

formed_push : (rs : List ModuleVersion) (r : ModuleVersion) → Formed rs → is_module_version r ≡ true → Formed (rs ++ r ∷ [])
formed_push [] r f e = (e, tt)
formed_push (x ∷ rs) r f e = (f.0, formed_push rs r f.1 e)

named_rows : (p q : M.Progress) (m : Bytes) → M.named p m ≡ Ok q → p.requires ≡ q.requires
named_rows p q m e = go (is_path m) (is_some p.main) e
  where
    go : (a b : Bool) → cond a (cond b (Err module_line) (Ok (M.with_main p m))) (Err bad_path) ≡ Ok q → p.requires ≡ q.requires
    go true true f = let z : ◌≡◌ {A = ℕ} 0 1 = cc in absurd (omega arith)
    go true false f = let s : M.with_main p m ≡ q = cc in ap (λ (x : M.Progress). x.requires) s
    go false b f = let z : ◌≡◌ {A = ℕ} 0 1 = cc in absurd (omega arith)

-- a row that was added
added_was : (most : ℕ) (rows : List ModuleVersion) (next : ModuleVersion → M.Progress) (m v : Bytes) (q : M.Progress) → M.added most rows next m v ≡ Ok q
    → (is_module_version (at m v) ≡ true) × (length rows < most) × (next (at m v) ≡ q)
added_was most rows next m v q e = go (is_path m) (is_version v) (nat_lt (length rows) most) refl refl refl e
  where
    go : (a b c : Bool) → is_path m ≡ a → is_version v ≡ b → nat_lt (length rows) most ≡ c
        → cond a (cond b (cond c (Ok (next (at m v))) (Err row_too_many)) (Err bad_version)) (Err bad_path) ≡ Ok q
        → (is_module_version (at m v) ≡ true) × (length rows < most) × (next (at m v) ≡ q)
    go true true true x y z f = (and_from (is_path m) (is_version v) x y, ltb-true (length rows) most z, (let s : next (at m v) ≡ q = cc in s))
    go true true false x y z f = let o : ◌≡◌ {A = ℕ} 0 1 = cc in absurd (omega arith)
    go true false c x y z f = let o : ◌≡◌ {A = ℕ} 0 1 = cc in absurd (omega arith)
    go false b c x y z f = let o : ◌≡◌ {A = ℕ} 0 1 = cc in absurd (omega arith)

kept_sound : (most : ℕ) (p q : M.Progress) → p.requires ≡ q.requires → Sound most p.requires → Sound most q.requires
kept_sound most p q e s = subst (Sound most) e s

same_sound : (most : ℕ) (p q : M.Progress) → p ≡ q → Sound most p.requires → Sound most q.requires
same_sound most p q e s = kept_sound most p q (ap (λ (x : M.Progress). x.requires) e) s

ok_same : (p q : M.Progress) → ◌≡◌ {A = Result M.Progress Cause} (Ok p) (Ok q) → p ≡ q
ok_same p q e = cc

obeyed_sound : (most : ℕ) (p q : M.Progress) (d : M.Directive) → M.obeyed most p d ≡ Ok q → Sound most p.requires → Sound most q.requires
obeyed_sound most p q M.passed e s = same_sound most p q (ok_same p q e) s
obeyed_sound most p q (M.names m) e s = kept_sound most p q (named_rows p q m e) s
obeyed_sound most p q (M.go_version w) e s = same_sound most p q (ok_same p q e) s
obeyed_sound most p q (M.requires_row m v) e s =
    let (formed, room, is) = added_was most p.requires (M.with_required p) m v q e in
    same_sound most (M.with_required p (at m v)) q is
    (omega (arith, s.0, room, length-append p.requires (at m v ∷ [])), formed_push p.requires (at m v) s.1 formed)
obeyed_sound most p q (M.excludes_row m v) e s =
    let (formed, room, is) = added_was 32 p.excludes (M.with_excluded p) m v q e in
    same_sound most (M.with_excluded p (at m v)) q is s
obeyed_sound most p q (M.opens verb) e s = same_sound most (M.with_block p (Some verb)) q (ok_same _ q e) s
obeyed_sound most p q M.closes e s = same_sound most (M.with_block p None) q (ok_same _ q e) s

shaped_sound : (most : ℕ) (p q : M.Progress) (o : Option M.Directive) → M.shaped most p o ≡ Ok q → Sound most p.requires → Sound most q.requires
shaped_sound most p q None e s = let z : ◌≡◌ {A = ℕ} 0 1 = cc in absurd (omega arith)
shaped_sound most p q (Some d) e s = obeyed_sound most p q d e s

line_sound : (most : ℕ) (p q : M.Progress) (l : Bytes) → M.line_read most p l ≡ Ok q → Sound most p.requires → Sound most q.requires
line_sound most p q l e s = go (every M.good_byte (code l)) e
  where
    go : (b : Bool) → cond b (M.shaped most p (M.directive p.block (words (code l)))) (Err bad_byte) ≡ Ok q → Sound most q.requires
    go true f = shaped_sound most p q (M.directive p.block (words (code l))) f s
    go false f = let z : ◌≡◌ {A = ℕ} 0 1 = cc in absurd (omega arith)

end_sound : (most : ℕ) (p : M.Progress) (m : M.Manifest) → M.at_end p ≡ M.manifest m → Sound most p.requires → Sound most m.requires
end_sound most p m e s = by_block p.block e
  where
    by_main : (o : Option Bytes) → M.ended_main p o ≡ M.manifest m → Sound most m.requires
    by_main None f = let z : ◌≡◌ {A = ℕ} 0 1 = cc in absurd (omega arith)
    by_main (Some x) f = let it : M.Manifest = record { main = x; requires = p.requires; excludes = p.excludes } in let is : it ≡ m = cc in subst (λ (y : M.Manifest). Sound most y.requires) is s

    by_block : (o : Option M.Verb) → M.ended_block p o ≡ M.manifest m → Sound most m.requires
    by_block None f = by_main p.main f
    by_block (Some v) f = let z : ◌≡◌ {A = ℕ} 0 1 = cc in absurd (omega arith)

lines_sound : (most n : ℕ) (p : M.Progress) (ls : List Bytes) (m : M.Manifest) → M.lines_read most n p ls ≡ M.manifest m → Sound most p.requires → Sound most m.requires
lines_sound most n p [] m e s = end_sound most p m e s
lines_sound most n p (l ∷ ls) m e s = go (λ q. lines_sound most (n + 1) q ls m) (M.line_read most p l) refl e
  where
    go : ((q : M.Progress) → M.lines_read most (n + 1) q ls ≡ M.manifest m → Sound most q.requires → Sound most m.requires) → (r : Result M.Progress Cause) → M.line_read most p l ≡ r
        → M.read_on (λ q. M.lines_read most (n + 1) q ls) (n + 1) r ≡ M.manifest m → Sound most m.requires
    go below (Ok q) is f = below q f (line_sound most p q l is s)
    go below (Err c) is f = let z : ◌≡◌ {A = ℕ} 0 1 = cc in absurd (omega arith)

pub reading_sound : (most : ℕ) (text : Bytes) (m : M.Manifest) → M.reading most text ≡ M.manifest m → Sound most m.requires
reading_sound most text m e = go (nat_le (length text) 32768) e
  where
    go : (b : Bool) → cond b (M.lines_read most 0 M.unbegun (lines text)) (M.unread too_long 0) ≡ M.manifest m → Sound most m.requires
    go true f = lines_sound most 0 M.unbegun (lines text) m f (omega arith, tt)
    go false f = let z : ◌≡◌ {A = ℕ} 0 1 = cc in absurd (omega arith)

answer_sound : (text : Bytes) (rs : List ModuleVersion) → body_answer text ≡ found rs → Sound 64 rs
answer_sound text rs e = go (M.reading 64 text) refl e
  where
    go : (r : M.Reading) → M.reading 64 text ≡ r → reading_answer r ≡ found rs → Sound 64 rs
    go (M.manifest m) is f = let s : m.requires ≡ rs = cc in subst (Sound 64) s (reading_sound 64 text m is)
    go (M.unread c n) is f = let z : ◌≡◌ {A = ℕ} 0 1 = cc in absurd (omega arith)

-- ---- the bytes of a version

abbrev AllPlain : Bytes → Type 0
AllPlain bs = every (λ b. not (b == mark)) bs ≡ true

-- a test that the mark fails
no_mark : (test : ℕ → Bool) → test mark ≡ false → (b : ℕ) → test b ≡ true → not (b == mark) ≡ true
no_mark test fails b e = go (b == mark) refl
  where
    go : (x : Bool) → (b == mark) ≡ x → not x ≡ true
    go true h = absurd (true≢false (sym e ∙ ap test (eqb-true b mark h) ∙ fails))
    go false h = refl

every_plain : (test : ℕ → Bool) → test mark ≡ false → (bs : Bytes) → every test bs ≡ true → AllPlain bs
every_plain test fails [] e = refl
every_plain test fails (b ∷ bs) e = let (here, later) = every_head test b bs e in and_from _ _ (no_mark test fails b here) (every_plain test fails bs later)

number_plain : (p : Bytes) → is_number p ≡ true → AllPlain p
number_plain p e = every_plain digit refl p (number_digits p e)

word_plain : (p : Bytes) → is_word p ≡ true → AllPlain p
word_plain [] e = let z : ◌≡◌ {A = ℕ} 0 1 = cc in absurd (omega arith)
word_plain (b ∷ bs) e = every_plain identifier_byte refl (b ∷ bs) (and_parts (not (every digit (b ∷ bs))) (every identifier_byte (b ∷ bs)) e).1

identifier_plain : (p : Bytes) → is_identifier p ≡ true → AllPlain p
identifier_plain p e = ⊎_elim (number_plain p) (word_plain p) (or_cases (is_number p) (is_word p) e)

each : (test : Bytes → Bool) → ((p : Bytes) → test p ≡ true → AllPlain p) → (ps : List Bytes) → every test ps ≡ true → every (every (λ b. not (b == mark))) ps ≡ true
each test f [] e = refl
each test f (p ∷ ps) e = let (here, later) = every_head test p ps e in and_from _ _ (f p here) (each test f ps later)

pieces_plain : (sep : ℕ) → not (sep == mark) ≡ true → (bs : Bytes) → every (every (λ b. not (b == mark))) (pieces sep bs) ≡ true → AllPlain bs
pieces_plain sep other [] e = refl
pieces_plain sep other (b ∷ bs) e = go (b == sep) refl (pieces sep bs) (pieces_plain sep other bs) e
  where
    go : (x : Bool) → (b == sep) ≡ x → (ps : List Bytes) → (every (every (λ b. not (b == mark))) ps ≡ true → AllPlain bs)
        → every (every (λ b. not (b == mark))) (cond x ([] ∷ ps) (begun b ps)) ≡ true → every (λ b. not (b == mark)) (b ∷ bs) ≡ true
    go true h ps below f = and_from _ _ (ap (λ c. not (c == mark)) (eqb-true b sep h) ∙ other) (below f)
    go false h [] below f = let (here, later) = every_head (λ c. not (c == mark)) b [] (every_head (every (λ c. not (c == mark))) (b ∷ []) [] f).0 in and_from _ _ here (below refl)
    go false h (p ∷ ps) below f =
        let (first, others) = every_head (every (λ c. not (c == mark))) (b ∷ p) ps f in
        let (here, rest) = every_head (λ c. not (c == mark)) b p first in
        and_from _ _ here (below (and_from _ _ rest others))

release_plain : (bs : Bytes) → AllPlain (before_dash bs) → every (every (λ b. not (b == mark))) (behind_dash bs) ≡ true → AllPlain bs
release_plain [] e f = refl
release_plain (b ∷ bs) e f = go (b == dash) refl (release_plain bs) e f
  where
    go : (x : Bool) → (b == dash) ≡ x → (AllPlain (before_dash bs) → every (every (λ b. not (b == mark))) (behind_dash bs) ≡ true → AllPlain bs)
        → AllPlain (cond x [] (b ∷ before_dash bs)) → every (every (λ b. not (b == mark))) (cond x (pieces dot bs) (behind_dash bs)) ≡ true → every (λ b. not (b == mark)) (b ∷ bs) ≡ true
    go true h below k j = and_from _ _ (ap (λ c. not (c == mark)) (eqb-true b dash h)) (pieces_plain dot refl bs j)
    go false h below k j = let (here, rest) = every_head (λ c. not (c == mark)) b (before_dash bs) k in and_from _ _ here (below rest j)

version_plain : (v : Bytes) → is_version v ≡ true → AllPlain v
version_plain [] e = let z : ◌≡◌ {A = ℕ} 0 1 = cc in absurd (omega arith)
version_plain (b ∷ bs) e =
    let (v, more) = and_parts (b == 118) (nat_le (length (b ∷ bs)) 40 && is_release bs) e in
    let (long, release) = and_parts (nat_le (length (b ∷ bs)) 40) (is_release bs) more in
    let (front, words) = and_parts (length (pieces dot (before_dash bs)) == 3 && every is_number (pieces dot (before_dash bs))) (every is_identifier (behind_dash bs)) release in
    let (three, numbers) = and_parts (length (pieces dot (before_dash bs)) == 3) (every is_number (pieces dot (before_dash bs))) front in
    and_from _ _ (ap (λ c. not (c == mark)) (eqb-true b 118 v))
    (release_plain bs (pieces_plain dot refl (before_dash bs) (each is_number number_plain (pieces dot (before_dash bs)) numbers)) (each is_identifier identifier_plain (behind_dash bs) words))

element_plain : (p : Bytes) → is_element p ≡ true → AllPlain p
element_plain [] e = let z : ◌≡◌ {A = ℕ} 0 1 = cc in absurd (omega arith)
element_plain (b ∷ bs) e = every_plain element_byte refl (b ∷ bs) (and_parts (every element_byte (b ∷ bs)) (not (b == dot) && not (last_byte b bs == dot)) e).0

path_plain : (p : Bytes) → is_path p ≡ true → AllPlain p
path_plain p e = pieces_plain slash refl p (each is_element element_plain (pieces slash p) (and_parts (nat_le (length p) 48) (every is_element (pieces slash p)) e).1)

-- ---- a text that is written is read again

letter_more : (b : ℕ) (bs : Bytes) → (b == mark) ≡ false → is_upper b ≡ false → unescaped (b ∷ bs) ≡ option_map (λ t. b ∷ t) (unescaped bs)
letter_more b [] e f = cond-false _ _ _ e ∙ cond-false _ _ _ f
letter_more b (c ∷ bs) e f = cond-false _ _ _ e ∙ cond-false _ _ _ f

read_again : (v : Bytes) → AllPlain v → unescaped (escaped v) ≡ Some v
read_again [] e = refl
read_again (b ∷ bs) e =
    let (here, later) = every_head (λ c. not (c == mark)) b bs e in
    go (is_upper b) refl (not-true (b == mark) here) (read_again bs later)
  where
    go : (x : Bool) → is_upper b ≡ x → (b == mark) ≡ false → unescaped (escaped bs) ≡ Some bs → unescaped (cond x (mark ∷ (b + 32) ∷ []) (b ∷ []) ++ escaped bs) ≡ Some (b ∷ bs)
    go true h n below =
        let (low, high) = and_parts (nat_le 65 b) (nat_le b 90) h in
        let is : is_lower (b + 32) ≡ true = and_from _ _ (le-leb 97 (b + 32) (omega (arith, leb-true 65 b low))) (le-leb (b + 32) 122 (omega (arith, leb-true b 90 high))) in
        let back : b + 32 - 32 ≡ b = omega arith in
        cond-true _ _ _ is ∙ ap (option_map (λ t. (b + 32 - 32) ∷ t)) below ∙ ap (λ c. Some (c ∷ bs)) back
    go false h n below = letter_more b (escaped bs) n h ∙ ap (option_map (λ t. b ∷ t)) below

pub path_again : (p : Bytes) → is_path p ≡ true → unescaped (escaped p) ≡ Some p
path_again p e = read_again p (path_plain p e)

pub version_again : (v : Bytes) → is_version v ≡ true → unescaped (escaped v) ≡ Some v
version_again v e = read_again v (version_plain v e)

-- ---- the name of a module version holds its version

pub behind_text : (a rest : Bytes) → behind a (a ++ rest) ≡ Some rest
behind_text [] rest = refl
behind_text (b ∷ a) rest = cond-true _ _ _ (eq-eqb b b refl) ∙ behind_text a rest

pub before_text : (front ending : Bytes) → before ending (front ++ ending) ≡ Some front
before_text [] [] = refl
before_text [] (e ∷ es) = cond-true _ _ _ ((bytes_eq-Decides (e ∷ es) (e ∷ es)).1 refl)
before_text (b ∷ bs) ending = go (bytes_eq (b ∷ (bs ++ ending)) ending) refl (before_text bs ending)
  where
    go : (x : Bool) → bytes_eq (b ∷ (bs ++ ending)) ending ≡ x → before ending (bs ++ ending) ≡ Some bs
        → cond x (Some []) (option_map (λ f. b ∷ f) (before ending (bs ++ ending))) ≡ Some (b ∷ bs)
    go true h below = let s : b ∷ (bs ++ ending) ≡ ending = (bytes_eq-Decides _ _).0 h in absurd (omega (arith, ap length s, length-append bs ending))
    go false h below = ap (option_map (λ f. b ∷ f)) below

pub name_holds : (ending p v : Bytes) → is_version v ≡ true → version_held ending p (file_name ending (at p v)) ≡ Some v
name_holds ending p v e =
    ap (λ o. bound version_written (bound (before ending) (bound (behind between) o))) (behind_text (escaped p) (between ++ (escaped v ++ ending)))
    ∙ ap (λ o. bound version_written (bound (before ending) o)) (behind_text between (escaped v ++ ending))
    ∙ ap (bound version_written) (before_text (escaped v) ending)
    ∙ ap (bound formed_version) (version_again v e)
    ∙ ap (λ b. then_some b v) e

pub held_formed : (ending p name v : Bytes) → version_held ending p name ≡ Some v → is_version v ≡ true
held_formed ending p name v e = by_text (bound (before ending) (bound (behind between) (behind (escaped p) name))) e
  where
    by_test : (w : Bytes) (b : Bool) → is_version w ≡ b → then_some b w ≡ Some v → is_version v ≡ true
    by_test w true h f = let s : w ≡ v = cc in ap is_version (sym s) ∙ h
    by_test w false h f = let z : ◌≡◌ {A = ℕ} 0 1 = cc in absurd (omega arith)

    by_version : (o : Option Bytes) → bound formed_version o ≡ Some v → is_version v ≡ true
    by_version None f = let z : ◌≡◌ {A = ℕ} 0 1 = cc in absurd (omega arith)
    by_version (Some w) f = by_test w (is_version w) refl f

    by_text : (o : Option Bytes) → bound version_written o ≡ Some v → is_version v ≡ true
    by_text None f = let z : ◌≡◌ {A = ℕ} 0 1 = cc in absurd (omega arith)
    by_text (Some t) f = by_version (unescaped t) f

-- THE TREE: what a tree means is lawful
pub tree_lawful : (bs : Bytes) → Lawful (tree_meaning bs)
tree_lawful bs = lawful is_file_of file_answer file_version (pairs_in bs) (record {
  few_rows = λ q h rs e. (answer_sound q.second rs e).0;
  rows_formed = λ q h rs e. (answer_sound q.second rs e).1;
  depth = λ q h f e. answer_depth (M.reading 64 q.second) f e;
  formed = λ p q h v e. held_formed dot_mod p q.first v e;
  holds = λ p v q h e.
      let (formed, same) = and_parts (is_module_version (at p v)) (bytes_eq q.first (file_name dot_mod (at p v))) e in
      ap (version_held dot_mod p) ((bytes_eq-Decides q.first (file_name dot_mod (at p v))).0 same) ∙ name_holds dot_mod p v (and_parts (is_path p) (is_version v) formed).1;
})
  where
    answer_depth : (r : M.Reading) (f : Fault) → reading_answer r ≡ fault f → f.depth ≤ 255
    answer_depth (M.manifest m) f e = let z : ◌≡◌ {A = ℕ} 0 1 = cc in absurd (omega arith)
    answer_depth (M.unread c n) f e = let it : Fault = record { cause = c; place = n; depth = 0 } in let s : it ≡ f = cc in omega (arith, ap (λ (g : Fault). g.depth) s)
