-- A manifest written plainly: the bytes of its lines, and their words. Assumes nothing.
use Rattle.std.proofs.Common.{◌≡◌, ℕ, ◌≤◌, Bool, true, false, cond, not, ◌&&◌, ◌||◌, eqb, leb, List, [], ◌∷◌, ◌++◌, length, Err, sym, refl, ap, ◌∙◌, ap₂, ⊎_elim, arith}
use Rattle.std.proofs.lemmas.Bool.{cond-true, cond-false, not-true, and_from, and_parts, and_left, and_right, or_cases, or_parts, or_left, or_right, eqb-true}
use Rattle.std.proofs.lemmas.Bool.Decides.{nat_tests}
use Rattle.rules.specs.Orders.{Bytes}
use Rattle.rules.specs.Texts.{dash, dot, slash, digit, every, begun, pieces}
use Rattle.rules.specs.Paths.{element_byte, is_element, is_path}
use Rattle.rules.specs.Versions.{is_number, identifier_byte, is_word, is_identifier, before_dash, behind_dash, is_version}
use Rattle.rules.specs.Lines.{lines, code, gap, word_byte, Word, text, goes_on, lengthened, words}
use Rattle.rules.specs.Causes.{bad_byte}
use Rattle.rules.specs.Manifests.{Progress, good_byte, directive, shaped, line_read}

-- ---- bytes

-- a byte of a name
abbrev name_byte : ℕ → Bool
name_byte b = element_byte b || eqb b slash

abbrev not_slash : ℕ → Bool
not_slash b = not (eqb b slash)

-- where the bytes of names lie
record Placed (b : ℕ) : Type 0 where
  low : 45 ≤ b
  high : b ≤ 126
  not_back_quote : b ≡ 96 → ⊥

placed : (b : ℕ) → name_byte b ≡ true → Placed b
placed b e = record { low = grind (arith, nat_tests); high = grind (arith, nat_tests); not_back_quote = λ q. let z : ◌≡◌ {A = ℕ} 0 1 = grind (arith, nat_tests) in omega arith }

placed_word : (b : ℕ) → Placed b → word_byte b ≡ true
placed_word b p = let l = p.low in grind (arith, nat_tests)

placed_good : (b : ℕ) → Placed b → good_byte b ≡ true
placed_good b p = let l = p.low in let h = p.high in let n = p.not_back_quote in grind (arith, nat_tests)

placed_in_line : (b : ℕ) → Placed b → eqb b 10 ≡ false
placed_in_line b p = let l = p.low in grind (arith, nat_tests)

-- ---- the bytes of paths and versions

every_on : {A : Type 0} (p q : A → Bool) → ((b : A) → p b ≡ true → q b ≡ true) → (bs : List A) → every p bs ≡ true → every q bs ≡ true
every_on p q on [] e = refl
every_on p q on (b ∷ bs) e = let h = and_parts (p b) (every p bs) e in and_from _ _ (on b h.0) (every_on p q on bs h.1)

every_append : {A : Type 0} (p : A → Bool) (xs ys : List A) → every p xs ≡ true → every p ys ≡ true → every p (xs ++ ys) ≡ true
every_append p [] ys e f = f
every_append p (x ∷ xs) ys e f = let h = and_parts (p x) (every p xs) e in and_from _ _ h.0 (every_append p xs ys h.1 f)

begun_parts : (p : ℕ → Bool) (b : ℕ) (ps : List Bytes) → every (every p) (begun b ps) ≡ true → (p b ≡ true) × (every (every p) ps ≡ true)
begun_parts p b [] e = ((and_parts (p b) true (and_parts (p b && true) true e).0).0, refl)
begun_parts p b (q ∷ qs) e =
    let h = and_parts (p b && every p q) (every (every p) qs) e in
    let k = and_parts (p b) (every p q) h.0 in
    (k.0, and_from _ _ k.1 h.1)

-- what holds of the bytes of all pieces holds of all bytes but the separators
every_pieces : (p : ℕ → Bool) (s : ℕ) (bs : Bytes) → every (every p) (pieces s bs) ≡ true → every (λ b. p b || eqb b s) bs ≡ true
every_pieces p s [] e = refl
every_pieces p s (b ∷ bs) e = go (every_pieces p s bs) (eqb b s) refl e
  where
    go : (every (every p) (pieces s bs) ≡ true → every (λ c. p c || eqb c s) bs ≡ true) → (t : Bool) → eqb b s ≡ t
        → every (every p) (cond t ([] ∷ pieces s bs) (begun b (pieces s bs))) ≡ true → every (λ c. p c || eqb c s) (b ∷ bs) ≡ true
    go below true f h = and_from _ _ (or_right (p b) (eqb b s) f) (below h)
    go below false f h = let k = begun_parts p b (pieces s bs) h in and_from _ _ (or_left (p b) (eqb b s) k.0) (below k.1)

element_bytes : (q : Bytes) → is_element q ≡ true → every element_byte q ≡ true
element_bytes [] e = refl
element_bytes (b ∷ bs) e = (and_parts (every element_byte (b ∷ bs)) _ e).0

path_elements : (m : Bytes) → is_path m ≡ true → every is_element (pieces slash m) ≡ true
path_elements m e = (and_parts (leb (length m) 48) _ e).1

path_bytes : (m : Bytes) → is_path m ≡ true → every name_byte m ≡ true
path_bytes m e = every_pieces element_byte slash m (every_on is_element (every element_byte) element_bytes (pieces slash m) (path_elements m e))

number_digits : (q : Bytes) → is_number q ≡ true → every digit q ≡ true
number_digits [] e = refl
number_digits (b ∷ []) e = and_from _ _ e refl
number_digits (b ∷ c ∷ bs) e = (and_parts (not (eqb b 48)) _ e).1

identifier_bytes : (q : Bytes) → is_identifier q ≡ true → every identifier_byte q ≡ true
identifier_bytes q e = ⊎_elim (λ h. every_on digit identifier_byte (λ b f. or_left _ _ f) q (number_digits q h)) (word_bytes q) (or_cases (is_number q) (is_word q) e)
  where
    word_bytes : (w : Bytes) → is_word w ≡ true → every identifier_byte w ≡ true
    word_bytes [] f = refl
    word_bytes (b ∷ bs) f = (and_parts (not (every digit (b ∷ bs))) _ f).1

-- what holds before the dash, of it, and behind it
released : (p : ℕ → Bool) → p dash ≡ true → (bs : Bytes) → every p (before_dash bs) ≡ true → every (every identifier_byte) (behind_dash bs) ≡ true
    → ((b : ℕ) → (identifier_byte b || eqb b dot) ≡ true → p b ≡ true) → every p bs ≡ true
released p d [] e f on = refl
released p d (b ∷ bs) e f on = go (λ g h. released p d bs g h on) (eqb b dash) refl e f
  where
    go : (every p (before_dash bs) ≡ true → every (every identifier_byte) (behind_dash bs) ≡ true → every p bs ≡ true) → (t : Bool) → eqb b dash ≡ t
        → every p (cond t [] (b ∷ before_dash bs)) ≡ true → every (every identifier_byte) (cond t (pieces dot bs) (behind_dash bs)) ≡ true → every p (b ∷ bs) ≡ true
    go below true g h k = and_from _ _ (ap p (eqb-true b dash g) ∙ d) (every_on _ p on bs (every_pieces identifier_byte dot bs k))
    go below false g h k = let w = and_parts (p b) (every p (before_dash bs)) h in and_from _ _ w.0 (below w.1 k)

version_bytes : (v : Bytes) → is_version v ≡ true → every element_byte v ≡ true
version_bytes [] e = refl
version_bytes (b ∷ bs) e =
    let first = and_parts (eqb b 118) _ e in
    let rest = and_parts (leb (length (b ∷ bs)) 40) _ first.1 in
    let parts = and_parts (eqb (length (pieces dot (before_dash bs))) 3 && every is_number (pieces dot (before_dash bs))) (every is_identifier (behind_dash bs)) rest.1 in
    let numbers = (and_parts (eqb (length (pieces dot (before_dash bs))) 3) (every is_number (pieces dot (before_dash bs))) parts.0).1 in
    let digits : every (λ c. digit c || eqb c dot) (before_dash bs) ≡ true = every_pieces digit dot (before_dash bs) (every_on is_number (every digit) number_digits (pieces dot (before_dash bs)) numbers) in
    and_from _ _ (ap element_byte (eqb-true b 118 first.0))
    (released element_byte refl bs (every_on _ element_byte (λ c f. grind (arith, nat_tests)) (before_dash bs) digits)
    (every_on is_identifier (every identifier_byte) identifier_bytes (behind_dash bs) parts.1)
    (λ c f. grind (arith, nat_tests)))

-- ---- no comment begins in a plain line

-- no two slashes follow one another
abbrev pub calm : Bytes → Bool
calm [] = true
calm (b ∷ []) = true
calm (b ∷ c ∷ bs) = not (eqb b slash && eqb c slash) && calm (c ∷ bs)

calm_code : (bs : Bytes) → calm bs ≡ true → code bs ≡ bs
calm_code [] e = refl
calm_code (b ∷ []) e = refl
calm_code (b ∷ c ∷ bs) e =
    let h = and_parts (not (eqb b slash && eqb c slash)) (calm (c ∷ bs)) e in
    cond-false _ _ _ (not-true _ h.0) ∙ ap (λ t. b ∷ t) (calm_code (c ∷ bs) h.1)

-- two texts with a space between
calm_join : (xs ys : Bytes) → calm xs ≡ true → calm ys ≡ true → calm (xs ++ 32 ∷ ys) ≡ true
calm_join [] [] e f = refl
calm_join [] (y ∷ ys) e f = f
calm_join (x ∷ []) ys e f = and_from _ _ (ap not (and_right (eqb x slash) false refl)) (calm_join [] ys refl f)
calm_join (x ∷ c ∷ xs) ys e f =
    let h = and_parts (not (eqb x slash && eqb c slash)) (calm (c ∷ xs)) e in
    and_from _ _ h.0 (calm_join (c ∷ xs) ys h.1 f)

calm_no_slash : (bs : Bytes) → every not_slash bs ≡ true → calm bs ≡ true
calm_no_slash [] e = refl
calm_no_slash (b ∷ []) e = refl
calm_no_slash (b ∷ c ∷ bs) e =
    let h = and_parts (not_slash b) (every not_slash (c ∷ bs)) e in
    and_from _ _ (ap not (and_left (eqb b slash) (eqb c slash) (not-true _ h.0))) (calm_no_slash (c ∷ bs) h.1)

unfoldable pub nonempty : Bytes → Bool
nonempty [] = false
nonempty (b ∷ bs) = true

-- each piece but the first is not empty
abbrev later : List Bytes → Bool
later [] = true
later (p ∷ ps) = every nonempty ps

later_begun : (b : ℕ) (ps : List Bytes) → later (begun b ps) ≡ later ps
later_begun b [] = refl
later_begun b (p ∷ ps) = refl

later_all : (ps : List Bytes) → every nonempty ps ≡ true → later ps ≡ true
later_all [] e = refl
later_all (p ∷ ps) e = (and_parts (nonempty p) (every nonempty ps) e).1

-- a text of which no piece is empty does not begin with a slash
no_slash_first : (c : ℕ) (bs : Bytes) → every nonempty (pieces slash (c ∷ bs)) ≡ true → eqb c slash ≡ false
unfolding nonempty
no_slash_first c bs = go (eqb c slash)
  where
    go : (t : Bool) → every nonempty (cond t ([] ∷ pieces slash bs) (begun c (pieces slash bs))) ≡ true → t ≡ false
    go true e = sym e
    go false e = refl

calm_pieces : (bs : Bytes) → later (pieces slash bs) ≡ true → calm bs ≡ true
calm_pieces [] e = refl
calm_pieces (b ∷ []) e = refl
calm_pieces (b ∷ c ∷ bs) e = go (calm_pieces (c ∷ bs)) (eqb b slash) refl e
  where
    go : (later (pieces slash (c ∷ bs)) ≡ true → calm (c ∷ bs) ≡ true) → (t : Bool) → eqb b slash ≡ t
        → later (cond t ([] ∷ pieces slash (c ∷ bs)) (begun b (pieces slash (c ∷ bs)))) ≡ true → calm (b ∷ c ∷ bs) ≡ true
    go below true f h =
        and_from _ _ (ap not (and_right (eqb b slash) (eqb c slash) (no_slash_first c bs h))) (below (later_all (pieces slash (c ∷ bs)) h))
    go below false f h =
        and_from _ _ (ap not (and_left (eqb b slash) (eqb c slash) f)) (below (sym (later_begun b (pieces slash (c ∷ bs))) ∙ h))

element_nonempty : (q : Bytes) → is_element q ≡ true → nonempty q ≡ true
unfolding nonempty
element_nonempty [] e = e
element_nonempty (b ∷ bs) e = refl

calm_path : (m : Bytes) → is_path m ≡ true → calm m ≡ true
calm_path m e = calm_pieces m (later_all (pieces slash m) (every_on is_element nonempty element_nonempty (pieces slash m) (path_elements m e)))

calm_version : (v : Bytes) → is_version v ≡ true → calm v ≡ true
calm_version v e = calm_no_slash v (every_on element_byte not_slash (λ b f. grind (arith, nat_tests)) v (version_bytes v e))

-- ---- lines and words

unfoldable pub not_feed : ℕ → Bool
not_feed b = not (eqb b 10)

-- a line ends at its line feed
pub line_cut : (l bs : Bytes) → every not_feed l ≡ true → lines (l ++ 10 ∷ bs) ≡ l ∷ lines bs
unfolding not_feed
line_cut [] bs e = refl
line_cut (b ∷ l) bs e =
    let h = and_parts (not_feed b) (every not_feed l) e in
    cond-false _ _ _ (not-true _ h.0) ∙ ap (begun b) (line_cut l bs h.1)

at_word_byte : (b : ℕ) (bs : Bytes) → word_byte b ≡ true → words (b ∷ bs) ≡ lengthened b (goes_on bs) (words bs)
at_word_byte b bs e =
    let parts = or_parts (gap b) (eqb b 40 || eqb b 41) (not-true _ e) in
    let marks = or_parts (eqb b 40) (eqb b 41) parts.1 in
    cond-false _ _ _ parts.0 ∙ cond-false _ _ _ marks.0 ∙ cond-false _ _ _ marks.1

-- a word ends at its space, or at the end
word_cut : (b : ℕ) (w bs : Bytes) → every word_byte (b ∷ w) ≡ true → words (b ∷ (w ++ 32 ∷ bs)) ≡ text (b ∷ w) ∷ words bs
word_cut b [] bs e = at_word_byte b (32 ∷ bs) (and_parts (word_byte b) true e).0
word_cut b (c ∷ w) bs e =
    let h = and_parts (word_byte b) (every word_byte (c ∷ w)) e in
    at_word_byte b (c ∷ (w ++ 32 ∷ bs)) h.0 ∙ ap₂ (lengthened b) (and_parts (word_byte c) (every word_byte w) h.1).0 (word_cut c w bs h.1)

last_word : (b : ℕ) (w : Bytes) → every word_byte (b ∷ w) ≡ true → words (b ∷ w) ≡ text (b ∷ w) ∷ []
last_word b [] e = at_word_byte b [] (and_parts (word_byte b) true e).0
last_word b (c ∷ w) e =
    let h = and_parts (word_byte b) (every word_byte (c ∷ w)) e in
    at_word_byte b (c ∷ w) h.0 ∙ ap₂ (lengthened b) (and_parts (word_byte c) (every word_byte w) h.1).0 (last_word c w h.1)

-- ---- what is read back

-- a text that is a word of a plain line
pub record Plain (w : Bytes) : Type 0 where
  pub some : nonempty w ≡ true
  pub calm : calm w ≡ true
  pub word : every word_byte w ≡ true
  pub good : every good_byte w ≡ true
  pub line : every not_feed w ≡ true

named_plain : (w : Bytes) → nonempty w ≡ true → calm w ≡ true → every name_byte w ≡ true → Plain w
unfolding not_feed
named_plain w s c e = record {
  some = s;
  calm = c;
  word = every_on name_byte word_byte (λ b f. placed_word b (placed b f)) w e;
  good = every_on name_byte good_byte (λ b f. placed_good b (placed b f)) w e;
  line = every_on name_byte not_feed (λ b f. ap not (placed_in_line b (placed b f))) w e;
}

pub path_plain : (m : Bytes) → is_path m ≡ true → Plain m
unfolding nonempty
path_plain m e = named_plain m (some m e) (calm_path m e) (path_bytes m e)
  where
    some : (w : Bytes) → is_path w ≡ true → nonempty w ≡ true
    some [] f = f
    some (b ∷ bs) f = refl

pub version_plain : (v : Bytes) → is_version v ≡ true → Plain v
unfolding nonempty
version_plain v e = named_plain v (some v e) (calm_version v e) (every_on element_byte name_byte (λ b f. or_left _ _ f) v (version_bytes v e))
  where
    some : (w : Bytes) → is_version w ≡ true → nonempty w ≡ true
    some [] f = f
    some (b ∷ bs) f = refl

words_join : (w bs : Bytes) → Plain w → words (w ++ 32 ∷ bs) ≡ text w ∷ words bs
unfolding nonempty
words_join [] bs p = let z : ◌≡◌ {A = ℕ} 0 1 = cc in absurd (omega arith)
words_join (b ∷ w) bs p = word_cut b w bs p.word

words_last : (w : Bytes) → Plain w → words w ≡ text w ∷ []
unfolding nonempty
words_last [] p = let z : ◌≡◌ {A = ℕ} 0 1 = cc in absurd (omega arith)
words_last (b ∷ w) p = last_word b w p.word

-- a line of plain words with single spaces
pub record Line (l : Bytes) (ws : List Word) : Type 0 where
  pub calm : calm l ≡ true
  pub good : every good_byte l ≡ true
  pub line : every not_feed l ≡ true
  pub words : words l ≡ ws

pub one_word : (w : Bytes) → Plain w → Line w (text w ∷ [])
one_word w p = record { calm = p.calm; good = p.good; line = p.line; words = words_last w p }

pub word_more : (w l : Bytes) (ws : List Word) → Plain w → Line l ws → Line (w ++ 32 ∷ l) (text w ∷ ws)
unfolding not_feed
word_more w l ws p k = record {
  calm = calm_join w l p.calm k.calm;
  good = every_append good_byte w (32 ∷ l) p.good k.good;
  line = every_append not_feed w (32 ∷ l) p.line k.line;
  words = words_join w l p ∙ ap (λ t. text w ∷ t) k.words;
}

pub line_obeyed : (most : ℕ) (p : Progress) (l : Bytes) (ws : List Word) → Line l ws → line_read most p l ≡ shaped most p (directive p.block ws)
line_obeyed most p l ws k =
    ap (λ c. cond (every good_byte c) (shaped most p (directive p.block (words c))) (Err bad_byte)) (calm_code l k.calm)
    ∙ cond-true _ _ _ k.good ∙ ap (λ t. shaped most p (directive p.block t)) k.words
