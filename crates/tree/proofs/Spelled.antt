-- Texts as they are written in file names, read from the front. Assumes nothing.
use Rattle.std.proofs.Common.{◌≡◌, ℕ, suc, ◌+◌, ◌-◌, ◌<◌, ◌≤◌, Bool, true, false, cond, ◌&&◌, eqb, leb, List, [], ◌∷◌, ◌++◌, length, get_or, take, drop, Some, None, Option, sym, refl, ap, ◌∙◌, arith, Bor, MatchOption}
use Rattle.std.specs.Option.{option_map}
use Rattle.std.specs.Bool.{then_some}
use Rattle.std.specs.Str.{bytes_eq}
use Rattle.std.proofs.lemmas.Slice.Eq.{bytes_eq-Decides}
use Rattle.std.proofs.lemmas.List.{append_assoc, append-nil, length-append, take_rest}
use Rattle.std.proofs.lemmas.Bool.{eqb-true, eq-eqb, leb-true, le-leb, and_parts, and_from, true≢false}
use Rattle.rules.specs.Orders.{Bytes}
use Rattle.rules.specs.Versions.{is_release, is_version}
use Rattle.rules.specs.Names.{ModuleVersion, at}
use Rattle.tree.specs.Escapes.{mark, is_upper, is_lower, written, escaped, LetterCut, behind_mark, letter_of, unescaped}
use Rattle.tree.specs.Filenames.{between, file_name, behind, before, bound, version_behind, formed_version, version_written, version_held}
use Rattle.tree.specs.Layouts.{held, text_written}
use Rattle.tree.specs.Examples.{NamesRight}
use Rattle.tree.specs.Laws.{behind_text, before_text, name_holds, held_formed}

-- ---- what stands behind a text and before one

behind_was : (a s rest : Bytes) → behind a s ≡ Some rest → s ≡ a ++ rest
behind_was [] s rest e = let h : s ≡ rest = cc in h
behind_was (x ∷ a) [] rest e = let z : ◌≡◌ {A = ℕ} 0 1 = cc in absurd (omega arith)
behind_was (x ∷ a) (y ∷ s) rest e = go (behind_was a s rest) (eqb x y) refl e
  where
    go : (behind a s ≡ Some rest → s ≡ a ++ rest) → (b : Bool) → eqb x y ≡ b → cond b (behind a s) None ≡ Some rest → y ∷ s ≡ x ∷ (a ++ rest)
    go below true h f = let t = below f in let q : y ≡ x = sym (eqb-true x y h) in cc
    go below false h f = let z : ◌≡◌ {A = ℕ} 0 1 = cc in absurd (omega arith)

pub before_was : (ending s front : Bytes) → before ending s ≡ Some front → s ≡ front ++ ending
before_was ending [] front e = go (bytes_eq [] ending) refl e
  where
    go : (b : Bool) → bytes_eq [] ending ≡ b → then_some b [] ≡ Some front → [] ≡ front ++ ending
    go true h f = let t : [] ≡ front = cc in (bytes_eq-Decides [] ending).0 h ∙ ap (λ x. x ++ ending) t
    go false h f = let z : ◌≡◌ {A = ℕ} 0 1 = cc in absurd (omega arith)
before_was ending (y ∷ s) front e = go (before_was ending s) (bytes_eq (y ∷ s) ending) refl e
  where
    later : (o : Option Bytes) → before ending s ≡ o → ((f : Bytes) → before ending s ≡ Some f → s ≡ f ++ ending) → option_map (λ f. y ∷ f) o ≡ Some front → y ∷ s ≡ front ++ ending
    later None h below f = let z : ◌≡◌ {A = ℕ} 0 1 = cc in absurd (omega arith)
    later (Some t) h below f = let u : y ∷ t ≡ front = cc in ap (λ x. y ∷ x) (below t h) ∙ ap (λ x. x ++ ending) u

    go : ((f : Bytes) → before ending s ≡ Some f → s ≡ f ++ ending) → (b : Bool) → bytes_eq (y ∷ s) ending ≡ b → cond b (Some []) (option_map (λ f. y ∷ f) (before ending s)) ≡ Some front → y ∷ s ≡ front ++ ending
    go below true h f = let t : [] ≡ front = cc in (bytes_eq-Decides (y ∷ s) ending).0 h ∙ ap (λ x. x ++ ending) t
    go below false h f = later (before ending s) refl below f

-- as `strip_prefix` and `strip_suffix` tell it
pub behind_told : (s p : Bytes) (r : Option (Bor (List ℕ))) → MatchOption r ((rest : List ℕ) → s ≡ p ++ rest → ⊥) (λ x. s ≡ p ++ x.now) → option_map (λ x. x.now) r ≡ behind p s
behind_told s p None h = sym (go (behind p s) refl)
  where
    go : (o : Option Bytes) → behind p s ≡ o → o ≡ None
    go None e = refl
    go (Some t) e = absurd (h t (behind_was p s t e))
behind_told s p (Some x) h = sym (ap (behind p) h ∙ behind_text p x.now)

pub before_told : (s p : Bytes) (r : Option (Bor (List ℕ))) → MatchOption r ((front : List ℕ) → s ≡ front ++ p → ⊥) (λ x. s ≡ x.now ++ p) → option_map (λ x. x.now) r ≡ before p s
before_told s p None h = sym (go (before p s) refl)
  where
    go : (o : Option Bytes) → before p s ≡ o → o ≡ None
    go None e = refl
    go (Some t) e = absurd (h t (before_was p s t e))
before_told s p (Some x) h = sym (ap (before p) h ∙ before_text x.now p)

-- a text in two parts
behind_append : (a b s : Bytes) → behind (a ++ b) s ≡ bound (behind b) (behind a s)
behind_append [] b s = refl
behind_append (x ∷ a) b [] = refl
behind_append (x ∷ a) b (y ∷ s) = go (eqb x y) (behind_append a b s)
  where
    go : (t : Bool) → behind (a ++ b) s ≡ bound (behind b) (behind a s) → cond t (behind (a ++ b) s) None ≡ bound (behind b) (cond t (behind a s) None)
    go true below = below
    go false below = refl

pub byte_stripped : (b : ℕ) (bs text rest after : Bytes) → text ≡ b ∷ bs → Some after ≡ behind (written b) rest → behind (escaped text) rest ≡ behind (escaped bs) after
byte_stripped b bs text rest after is e = ap (λ t. behind (escaped t) rest) is ∙ behind_append (written b) (escaped bs) rest ∙ ap (bound (behind (escaped bs))) (sym e)

pub byte_missed : (b : ℕ) (bs text rest : Bytes) → text ≡ b ∷ bs → None ≡ behind (written b) rest → behind (escaped text) rest ≡ None
byte_missed b bs text rest is e = ap (λ t. behind (escaped t) rest) is ∙ behind_append (written b) (escaped bs) rest ∙ ap (bound (behind (escaped bs))) (sym e)

-- ---- a name, part by part

part_same : (a s t rest : Bytes) → behind a s ≡ Some rest → bytes_eq s (a ++ t) ≡ bytes_eq rest t
part_same [] s t rest e = let h : s ≡ rest = cc in ap (λ x. bytes_eq x t) h
part_same (x ∷ a) [] t rest e = let z : ◌≡◌ {A = ℕ} 0 1 = cc in absurd (omega arith)
part_same (x ∷ a) (y ∷ s) t rest e = go (part_same a s t rest) (eqb x y) refl e
  where
    go : (behind a s ≡ Some rest → bytes_eq s (a ++ t) ≡ bytes_eq rest t) → (b : Bool) → eqb x y ≡ b → cond b (behind a s) None ≡ Some rest → (eqb y x && bytes_eq s (a ++ t)) ≡ bytes_eq rest t
    go below true h f = ap (λ b. b && bytes_eq s (a ++ t)) (ap (λ n. eqb n x) (sym (eqb-true x y h)) ∙ same_number x) ∙ below f
      where
        same_number : (n : ℕ) → eqb n n ≡ true
        same_number n = eq-eqb n n refl
    go below false h f = let z : ◌≡◌ {A = ℕ} 0 1 = cc in absurd (omega arith)

part_other : (a s t : Bytes) → behind a s ≡ None → bytes_eq s (a ++ t) ≡ false
part_other a s t e = go (bytes_eq s (a ++ t)) refl
  where
    go : (b : Bool) → bytes_eq s (a ++ t) ≡ b → b ≡ false
    go false h = refl
    go true h =
        let is = (bytes_eq-Decides s (a ++ t)).0 h in
        let there : behind a s ≡ Some t = ap (behind a) is ∙ behind_text a t in
        let z : ◌≡◌ {A = ℕ} 0 1 = cc in absurd (omega arith)

module _ (ending name : Bytes) (x : ModuleVersion) where
  abbrev named : Bool
  named = bytes_eq name (file_name ending x)

  abbrev path_behind : Option Bytes
  path_behind = bound (behind between) (behind (escaped x.path) name)

  -- behind the path
  pub behind_path_same : (rest : Bytes) → Some rest ≡ path_behind → named ≡ bytes_eq rest (escaped x.version ++ ending)
  behind_path_same rest e = go (behind (escaped x.path) name) refl e
    where
      go : (o : Option Bytes) → behind (escaped x.path) name ≡ o → Some rest ≡ bound (behind between) o → named ≡ bytes_eq rest (escaped x.version ++ ending)
      go None h f = let z : ◌≡◌ {A = ℕ} 0 1 = cc in absurd (omega arith)
      go (Some t) h f = part_same (escaped x.path) name (between ++ (escaped x.version ++ ending)) t h ∙ part_same between t (escaped x.version ++ ending) rest (sym f)

  pub behind_path_other : None ≡ path_behind → named ≡ false
  behind_path_other e = go (behind (escaped x.path) name) refl e
    where
      go : (o : Option Bytes) → behind (escaped x.path) name ≡ o → None ≡ bound (behind between) o → named ≡ false
      go None h f = part_other (escaped x.path) name (between ++ (escaped x.version ++ ending)) h
      go (Some t) h f = part_same (escaped x.path) name (between ++ (escaped x.version ++ ending)) t h ∙ part_other between t (escaped x.version ++ ending) (sym f)

  pub version_same : (rest last : Bytes) → Some rest ≡ path_behind → Some last ≡ behind (escaped x.version) rest → named ≡ bytes_eq last ending
  version_same rest last e f = behind_path_same rest e ∙ part_same (escaped x.version) rest ending last (sym f)

  pub version_other : (rest : Bytes) → Some rest ≡ path_behind → None ≡ behind (escaped x.version) rest → named ≡ false
  version_other rest e f = behind_path_same rest e ∙ part_other (escaped x.version) rest ending (sym f)

  -- what stands behind both is the ending, or something else
  pub named_by : (r : Bool) (P : Bor (List ℕ) → Type 0) → ((s : Bor (List ℕ)) → P s → r ≡ bytes_eq s.now ending)
      → (o : Option (Bor (List ℕ))) → option_map (λ s. s.now) o ≡ version_behind name x → MatchOption o (r ≡ false) P → r ≡ named
  named_by r P tells None e h = h ∙ sym (go path_behind refl e)
    where
      go : (q : Option Bytes) → path_behind ≡ q → None ≡ bound (behind (escaped x.version)) q → named ≡ false
      go None p f = behind_path_other (sym p)
      go (Some rest) p f = version_other rest (sym p) f
  named_by r P tells (Some s) e h = tells s h ∙ sym (go path_behind refl e)
    where
      go : (q : Option Bytes) → path_behind ≡ q → Some s.now ≡ bound (behind (escaped x.version)) q → named ≡ bytes_eq s.now ending
      go None p f = let z : ◌≡◌ {A = ℕ} 0 1 = cc in absurd (omega arith)
      go (Some rest) p f = version_same rest s.now (sym p) f

-- ---- letters

abbrev letter : ℕ → Bytes → LetterCut
letter b bs = record { byte = b; after = bs }

-- as the checker reads `[byte, after @ ..]`
pub letter_is : (bs r : Bytes) → 1 ≤ length bs → r ≡ take (length bs - 1) (drop 1 bs)
    → letter_of bs ≡ cond (eqb (get_or bs 0 0) mark) (behind_mark r) (cond (is_upper (get_or bs 0 0)) None (Some (letter (get_or bs 0 0) r)))
letter_is [] r h e = absurd (omega arith)
letter_is (b ∷ bs) r h e =
    let is : bs ≡ r = sym (e ∙ take_rest (b ∷ bs) 1) in
    ap (λ t. cond (eqb b mark) (behind_mark t) (cond (is_upper b) None (Some (letter b t)))) is

pub marked_is : (bs r : Bytes) → 1 ≤ length bs → r ≡ take (length bs - 1) (drop 1 bs) → behind_mark bs ≡ cond (is_lower (get_or bs 0 0)) (Some (letter (get_or bs 0 0 - 32) r)) None
marked_is [] r h e = absurd (omega arith)
marked_is (b ∷ bs) r h e =
    let is : bs ≡ r = sym (e ∙ take_rest (b ∷ bs) 1) in
    ap (λ t. cond (is_lower b) (Some (letter (b - 32) t)) None) is

letter_was : (b : ℕ) (bs : Bytes) (l : LetterCut) → Some l ≡ letter_of (b ∷ bs) → (unescaped (b ∷ bs) ≡ option_map (λ t. l.byte ∷ t) (unescaped l.after)) × (length l.after < length (b ∷ bs))
letter_was b [] l e = go (eqb b mark) (is_upper b) e
  where
    go : (x y : Bool) → Some l ≡ cond x None (cond y None (Some (letter b []))) → (cond x None (cond y None (Some (b ∷ []))) ≡ option_map (λ t. l.byte ∷ t) (unescaped l.after)) × (length l.after < 1)
    go true y f = let z : ◌≡◌ {A = ℕ} 0 1 = cc in absurd (omega arith)
    go false true f = let z : ◌≡◌ {A = ℕ} 0 1 = cc in absurd (omega arith)
    go false false f =
        let it : LetterCut = letter b [] in
        let s : l ≡ it = cc in
        (ap (λ (k : LetterCut). option_map (λ t. k.byte ∷ t) (unescaped k.after)) (sym s), omega (arith, ap (λ (k : LetterCut). length k.after) s))
letter_was b (c ∷ bs) l e = go (eqb b mark) (is_upper b) (is_lower c) e
  where
    from : (it : LetterCut) → l ≡ it → (o : Option Bytes) → o ≡ option_map (λ t. it.byte ∷ t) (unescaped it.after) → length it.after < suc (suc (length bs))
        → (o ≡ option_map (λ t. l.byte ∷ t) (unescaped l.after)) × (length l.after < suc (suc (length bs)))
    from it s o is less = (is ∙ ap (λ (k : LetterCut). option_map (λ t. k.byte ∷ t) (unescaped k.after)) (sym s), omega (arith, less, ap (λ (k : LetterCut). length k.after) s))

    go : (x y z : Bool) → Some l ≡ cond x (cond z (Some (letter (c - 32) bs)) None) (cond y None (Some (letter b (c ∷ bs))))
        → (cond x (cond z (option_map (λ t. (c - 32) ∷ t) (unescaped bs)) None) (cond y None (option_map (λ t. b ∷ t) (unescaped (c ∷ bs)))) ≡ option_map (λ t. l.byte ∷ t) (unescaped l.after)) × (length l.after < suc (suc (length bs)))
    go true y true f = let s : l ≡ letter (c - 32) bs = cc in from (letter (c - 32) bs) s _ refl (omega arith)
    go true y false f = let o : ◌≡◌ {A = ℕ} 0 1 = cc in absurd (omega arith)
    go false true z f = let o : ◌≡◌ {A = ℕ} 0 1 = cc in absurd (omega arith)
    go false false z f = let s : l ≡ letter b (c ∷ bs) = cc in from (letter b (c ∷ bs)) s _ refl (omega arith)

pub letter_first : (bs : Bytes) (l : LetterCut) → Some l ≡ letter_of bs → unescaped bs ≡ option_map (λ t. l.byte ∷ t) (unescaped l.after)
letter_first [] l e = let z : ◌≡◌ {A = ℕ} 0 1 = cc in absurd (omega arith)
letter_first (b ∷ bs) l e = (letter_was b bs l e).0

pub letter_size : (bs : Bytes) (l : LetterCut) → Some l ≡ letter_of bs → length l.after < length bs
letter_size [] l e = let z : ◌≡◌ {A = ℕ} 0 1 = cc in absurd (omega arith)
letter_size (b ∷ bs) l e = (letter_was b bs l e).1

-- ---- a text read letter by letter

mapped_id : (o : Option Bytes) → o ≡ option_map (λ t. t) o
mapped_id None = refl
mapped_id (Some t) = refl

pub nothing_read : (bs out : Bytes) → out ≡ [] → unescaped bs ≡ option_map (λ t. out ++ t) (unescaped bs)
nothing_read bs out e = mapped_id (unescaped bs) ∙ ap (λ (xs : Bytes). option_map (λ t. xs ++ t) (unescaped bs)) (sym e)

module _ (bs out rest : Bytes) (so_far : unescaped bs ≡ option_map (λ t. out ++ t) (unescaped rest)) where
  module _ (l : LetterCut) (e : Some l ≡ letter_of rest) where
    pub one_read : (more : Bytes) → more ≡ out ++ l.byte ∷ [] → unescaped bs ≡ option_map (λ t. more ++ t) (unescaped l.after)
    one_read more is = so_far ∙ ap (option_map (λ t. out ++ t)) (letter_first rest l e) ∙ go (unescaped l.after)
      where
        go : (o : Option Bytes) → option_map (λ t. out ++ t) (option_map (λ t. l.byte ∷ t) o) ≡ option_map (λ t. more ++ t) o
        go None = refl
        go (Some t) = ap Some (sym (ap (λ x. x ++ t) is ∙ append_assoc out (l.byte ∷ []) t))

    -- more than 48 bytes are not held
    pub too_long_read : length out ≡ 48 → None ≡ text_written bs
    too_long_read h = sym (ap (bound held) (so_far ∙ ap (option_map (λ t. out ++ t)) (letter_first rest l e)) ∙ go (unescaped l.after))
      where
        long : (v : Bytes) → 48 < length v → (b : Bool) → leb (length v) 48 ≡ b → then_some b v ≡ None
        long v k false s = refl
        long v k true s = absurd (omega (arith, leb-true (length v) 48 s))

        go : (o : Option Bytes) → bound held (option_map (λ t. out ++ t) (option_map (λ t. l.byte ∷ t) o)) ≡ None
        go None = refl
        go (Some t) = long (out ++ (l.byte ∷ t)) (omega (arith, length-append out (l.byte ∷ t), h)) (leb (length (out ++ (l.byte ∷ t))) 48) refl

  pub all_read : rest ≡ [] → text_written bs ≡ held out
  all_read e = ap (bound held) (so_far ∙ ap (λ t. option_map (λ t. out ++ t) (unescaped t)) e ∙ ap Some (append-nil out))

-- a version can be held
pub version_short : (t : Bytes) → is_version t ≡ true → length t ≤ 48
version_short [] e = omega arith
version_short (b ∷ t) e =
    let (v, others) = and_parts (eqb b 118) (leb (length (b ∷ t)) 40 && is_release t) e in
    omega (arith, leb-true (length (b ∷ t)) 40 (and_parts (leb (length (b ∷ t)) 40) (is_release t) others).0)

pub version_read : (bs : Bytes) → version_written bs ≡ bound formed_version (text_written bs)
version_read bs = go (unescaped bs)
  where
    short : (t : Bytes) (y : Bool) → leb (length t) 48 ≡ y → (x : Bool) → is_version t ≡ x → then_some x t ≡ bound formed_version (then_some y t)
    short t true k x h = sym (ap (λ b. then_some b t) h)
    short t false k false h = refl
    short t false k true h = absurd (true≢false (sym (le-leb (length t) 48 (version_short t h)) ∙ k))

    go : (o : Option Bytes) → bound formed_version o ≡ bound formed_version (bound held o)
    go None = refl
    go (Some t) = short t (leb (length t) 48) refl (is_version t) refl

-- ---- what a name holds

lower_upper : (c : ℕ) → is_lower c ≡ true → (is_upper (c - 32) ≡ true) × (c - 32 + 32 ≡ c)
lower_upper c e =
    let (low, high) = and_parts (leb 97 c) (leb c 122) e in
    let l = leb-true 97 c low in
    let h = leb-true c 122 high in
    (and_from (leb 65 (c - 32)) (leb (c - 32) 90) (le-leb 65 (c - 32) (omega arith)) (le-leb (c - 32) 90 (omega arith)), omega arith)

abbrev spelt : Bool → ℕ → Bytes → Bytes
spelt upper b bs = cond upper (mark ∷ (b + 32) ∷ []) (b ∷ []) ++ bs

pub unescaped_was : (t v : Bytes) → unescaped t ≡ Some v → t ≡ escaped v
unescaped_was [] v e = let s : [] ≡ v = cc in ap escaped s
unescaped_was (b ∷ []) v e = go (eqb b mark) (is_upper b) refl e
  where
    go : (x y : Bool) → is_upper b ≡ y → cond x None (cond y None (Some (b ∷ []))) ≡ Some v → b ∷ [] ≡ escaped v
    go true y u f = let z : ◌≡◌ {A = ℕ} 0 1 = cc in absurd (omega arith)
    go false true u f = let z : ◌≡◌ {A = ℕ} 0 1 = cc in absurd (omega arith)
    go false false u f = let s : b ∷ [] ≡ v = cc in sym (ap (λ z. spelt z b []) u) ∙ ap escaped s
unescaped_was (b ∷ c ∷ bs) v e = go (unescaped_was bs) (unescaped_was (c ∷ bs)) (eqb b mark) (is_upper b) (is_lower c) refl refl refl e
  where
    marked : ((w : Bytes) → unescaped bs ≡ Some w → bs ≡ escaped w) → eqb b mark ≡ true → is_lower c ≡ true → (o : Option Bytes) → unescaped bs ≡ o → option_map (λ t. (c - 32) ∷ t) o ≡ Some v → b ∷ c ∷ bs ≡ escaped v
    marked below m low None h f = let z : ◌≡◌ {A = ℕ} 0 1 = cc in absurd (omega arith)
    marked below m low (Some w) h f =
        let s : (c - 32) ∷ w ≡ v = cc in
        let (upper, back) = lower_upper c low in
        ap (λ x. x ∷ c ∷ bs) (eqb-true b mark m) ∙ ap (λ x. mark ∷ x ∷ bs) (sym back) ∙ ap (λ x. mark ∷ (c - 32 + 32) ∷ x) (below w h)
        ∙ sym (ap (λ z. spelt z (c - 32) (escaped w)) upper) ∙ ap escaped s

    plain : ((w : Bytes) → unescaped (c ∷ bs) ≡ Some w → c ∷ bs ≡ escaped w) → is_upper b ≡ false → (o : Option Bytes) → unescaped (c ∷ bs) ≡ o → option_map (λ t. b ∷ t) o ≡ Some v → b ∷ c ∷ bs ≡ escaped v
    plain below u None h f = let z : ◌≡◌ {A = ℕ} 0 1 = cc in absurd (omega arith)
    plain below u (Some w) h f = let s : b ∷ w ≡ v = cc in ap (λ x. b ∷ x) (below w h) ∙ sym (ap (λ z. spelt z b (escaped w)) u) ∙ ap escaped s

    go : ((w : Bytes) → unescaped bs ≡ Some w → bs ≡ escaped w) → ((w : Bytes) → unescaped (c ∷ bs) ≡ Some w → c ∷ bs ≡ escaped w) → (x y z : Bool) → eqb b mark ≡ x → is_upper b ≡ y → is_lower c ≡ z
        → cond x (cond z (option_map (λ t. (c - 32) ∷ t) (unescaped bs)) None) (cond y None (option_map (λ t. b ∷ t) (unescaped (c ∷ bs)))) ≡ Some v → b ∷ c ∷ bs ≡ escaped v
    go behind on true y true m u low f = marked behind m low (unescaped bs) refl f
    go behind on true y false m u low f = let o : ◌≡◌ {A = ℕ} 0 1 = cc in absurd (omega arith)
    go behind on false true z m u low f = let o : ◌≡◌ {A = ℕ} 0 1 = cc in absurd (omega arith)
    go behind on false false z m u low f = plain on u (unescaped (c ∷ bs)) refl f

-- what a chain of steps found
pub bound_was : {A B : Type 0} (f : A → Option B) (o : Option A) (y : B) → bound f o ≡ Some y → (x : A) × (o ≡ Some x) × (f x ≡ Some y)
bound_was f None y e = let z : ◌≡◌ {A = ℕ} 0 1 = cc in absurd (omega arith)
bound_was f (Some x) y e = (x, refl, e)

test_was : (w v : Bytes) (b : Bool) → then_some b w ≡ Some v → w ≡ v
test_was w v true e = cc
test_was w v false e = let z : ◌≡◌ {A = ℕ} 0 1 = cc in absurd (omega arith)

held_was : (ending p name v : Bytes) → version_held ending p name ≡ Some v → name ≡ file_name ending (at p v)
held_was ending p name v e =
    let (text, e1, f1) = bound_was version_written (bound (before ending) (bound (behind between) (behind (escaped p) name))) v e in
    let (rest, e2, f2) = bound_was (before ending) (bound (behind between) (behind (escaped p) name)) text e1 in
    let (more, e3, f3) = bound_was (behind between) (behind (escaped p) name) rest e2 in
    let (w, e4, f4) = bound_was formed_version (unescaped text) v f1 in
    behind_was (escaped p) name more e3
    ∙ ap (λ x. escaped p ++ x) (behind_was between more rest f3
    ∙ ap (λ x. between ++ x) (before_was ending rest text f2 ∙ ap (λ x. x ++ ending) (unescaped_was text w e4 ∙ ap escaped (test_was w v (is_version w) f4))))

pub names_right : NamesRight
names_right ending p name v = (
  λ e. (held_formed ending p name v e, held_was ending p name v e),
  λ (formed, is). ap (version_held ending p) is ∙ name_holds ending p v formed,
)
