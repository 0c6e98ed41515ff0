-- The turns of a walk, as the code takes them. Assumes nothing.
use Rattle.std.proofs.Common.{◌≡◌, ℕ, zero, suc, ◌+◌, ◌-◌, ◌<◌, ◌≤◌, Bool, true, false, not, List, [], ◌∷◌, length, get_or, Option, IsSome, Some, None, Ok, Err, Result, sym, refl, ap, ◌∙◌, subst, ⊎_elim, arith, MatchResult}
use Rattle.std.specs.List.{slice_get, AllByRecursion}
use Rattle.std.specs.Bool.{then_some}
use Rattle.std.specs.Option.{option_map, option_and_then}
use Rattle.std.proofs.lemmas.List.{take_all}
use Rattle.std.proofs.lemmas.Option.{slice_get-get_or, slice_get-map}
use Rattle.std.specs.Result.{IsErrAnd}
use Rattle.std.proofs.lemmas.Result.{err_from_is_err_and}
use Rattle.rules.proofs.Each.{each_filtered}
use Rattle.rules.specs.Names.{ModuleVersion, is_module_version, same_path}
use Rattle.rules.specs.Causes.{Fault}
use Rattle.rules.specs.Sources.{Answer, found, fault, Lawful, narrowed}
use Rattle.rules.specs.Slices.{blank_place}
use Rattle.rules.specs.Projects.{View, off_main, remaining}
use Rattle.rules.specs.Calls.{refusal_at}
use Rattle.rules.specs.Walks as R
use Rattle.rules.specs.Walks.{written, ended, done, stopped, no_room, if_room, answered, questioned, walk, Walked, module_versions}
use Rattle.rules.proofs.Walks.{placed, written_keeps, nth_pushed}
use Rattle.rules.proofs.Members.{all_member}
use Rattle.rules.proofs.Turns.{written_longer, walk_done, walk_stops, walk_fills, walk_goes}
use Rattle.causes.specs.Told.{refusal_of}
use Rattle.causes.specs.declared.refusal.Refusal.{Refusal}
use Rattle.walks.specs.Sheets.{EndsAs}
use Rattle.walks.specs.Views.{Formed, module_version_at}
use Rattle.modules.specs.Rows.{names_of}
use Rattle.modules.specs.declared.rows.ModuleVersion as V
use Rattle.walks.proofs.Telling.{ok_ended, err_ended, ends_by, ends_done}

-- what was answered, by the same answer with another error
module _ {T E D : Type 0} (Post : E → D → Type 0) where
  pub was_ok : (r : Result T E) (q : Result T D) → MatchResult r (λ x. q ≡ Ok x) (λ e. IsErrAnd q (Post e)) → (x : T) → q ≡ Ok x → r ≡ Ok x
  was_ok (Ok y) q m x e = let same : y ≡ x = cc in ap Ok same
  was_ok (Err y) q m x e = let (d, is, post) = err_from_is_err_and q m in let z : ◌≡◌ {A = ℕ} 0 1 = cc in absurd (omega arith)

  pub was_err : (r : Result T E) (q : Result T D) → MatchResult r (λ x. q ≡ Ok x) (λ e. IsErrAnd q (Post e)) → (d : D) → q ≡ Err d → (y : E) × (r ≡ Err y) × Post y d
  was_err (Ok y) q m d e = let z : ◌≡◌ {A = ℕ} 0 1 = cc in absurd (omega arith)
  was_err (Err y) q m d e = let (k, is, post) = err_from_is_err_and q m in let same : k ≡ d = cc in (y, refl, subst (Post y) same post)

-- well formed rows keep a sheet well formed
pub formed_written : (from : ℕ) (xs : List ModuleVersion) (sheet : List R.Place) → AllByRecursion (λ x. is_module_version x ≡ true) xs → Formed sheet → Formed (written from xs sheet)
formed_written from xs sheet all f =
    written_keeps Formed from xs
    (λ s x h new g i r l e. ⊎_elim (λ k. g i r l k) (λ k. subst (λ (p : R.Place). is_module_version p.row ≡ true) k.1 (all_member (λ y. is_module_version y ≡ true) xs all x h)) (nth_pushed s (placed x from) i r e))
    sheet f

-- what is answered is well formed
abbrev pub AsksFormed : (ModuleVersion → Answer (List ModuleVersion)) → Type 0
AsksFormed ask = (x : ModuleVersion) (ys : List ModuleVersion) → ask x ≡ found ys → AllByRecursion (λ y. is_module_version y ≡ true) ys

-- the row that is told stands at a place
pub place_of_row : (sheet : List R.Place) (i : ℕ) (x : ModuleVersion) → slice_get (module_versions sheet) i ≡ Some x → (r : R.Place) × (slice_get sheet i ≡ Some r) × (r.row ≡ x)
place_of_row [] i x e = let z : ◌≡◌ {A = ℕ} 0 1 = cc in absurd (omega arith)
place_of_row (r ∷ rs) zero x e = (r, refl, cc)
place_of_row (r ∷ rs) (suc i) x e = place_of_row rs i x e

-- a place of a well formed sheet has a module version
pub formed_there : (sheet : List R.Place) (i : ℕ) → 1 ≤ i → i < length sheet → Formed sheet → (o : Option V.ModuleVersion) → option_map names_of o ≡ module_version_at sheet i → IsSome o
formed_there sheet i one within f o e =
    let r = get_or sheet i blank_place in
    let there : slice_get sheet i ≡ Some r = slice_get-get_or sheet i blank_place within in
    let row : slice_get (module_versions sheet) i ≡ Some r.row = slice_get-map (λ p. p.row) sheet i ∙ ap (option_map (λ p. p.row)) there in
    go o (e ∙ ap (option_and_then (λ x. then_some (is_module_version x) x)) row ∙ ap (λ b. then_some b r.row) (f i r one there))
  where
    go : (p : Option V.ModuleVersion) {x : ModuleVersion} → option_map names_of p ≡ Some x → IsSome p
    go (Some m) e = refl
    go None e = let z : ◌≡◌ {A = ℕ} 0 1 = cc in absurd (omega arith)

-- the module version that is given stands at the place
pub given_there : (sheet : List R.Place) (i : ℕ) (o : Option V.ModuleVersion) (m : V.ModuleVersion) → option_map names_of o ≡ module_version_at sheet i → o ≡ Some m → slice_get (module_versions sheet) i ≡ Some (names_of m)
given_there sheet i o m e is = go (slice_get (module_versions sheet) i) (sym e ∙ ap (option_map names_of) is)
  where
    made : (b : Bool) (x y : ModuleVersion) → then_some b x ≡ Some y → Some x ≡ Some y
    made true x y e = e
    made false x y e = let z : ◌≡◌ {A = ℕ} 0 1 = cc in absurd (omega arith)

    go : (p : Option ModuleVersion) → option_and_then (λ x. then_some (is_module_version x) x) p ≡ Some (names_of m) → p ≡ Some (names_of m)
    go (Some x) k = made (is_module_version x) x (names_of m) k
    go None k = k

-- a place is questioned by the row that is told
pub asked_of : (ask : ModuleVersion → Answer (List ModuleVersion)) (next : List R.Place → Walked) (i : ℕ) (sheet : List R.Place) (x : ModuleVersion) → slice_get (module_versions sheet) i ≡ Some x
    → questioned ask next i sheet (slice_get sheet i) ≡ answered next i sheet (ask x)
asked_of ask next i sheet x e =
    let (r, there, row) = place_of_row sheet i x e in
    ap (questioned ask next i sheet) there ∙ ap (λ y. answered next i sheet (ask y)) row

-- whatever is asked
module _ (ask : ModuleVersion → Answer (List ModuleVersion)) (i : ℕ) (sheet : List R.Place) (in_sheet : i < length sheet) where
  abbrev pub there : R.Place
  there = get_or sheet i blank_place

  pub reads : slice_get sheet i ≡ Some there
  reads = slice_get-get_or sheet i blank_place in_sheet

  asked : questioned ask (ended done) i sheet (slice_get sheet i) ≡ answered (ended done) i sheet (ask there.row)
  asked = ap (questioned ask (ended done) i sheet) reads

  module _ (room : i < 256) where
    one_less : 256 - i ≡ suc (255 - i)
    one_less = omega arith

    -- what holds after a turn that goes on
    abbrev GoesFurther : List R.Place → Type 0
    GoesFurther left = (length sheet ≤ length left) × Formed left × (walk ask (256 - (i + 1)) (i + 1) left ≡ walk ask (256 - i) i sheet)

    pub goes_further : (left : List R.Place) → AsksFormed ask → Formed sheet → EndsAs {A = Unit {0}} (questioned ask (ended done) i sheet (slice_get sheet i)) (Ok tt) left → GoesFurther left
    goes_further left formed f t = go (ask there.row) refl (subst (λ u. EndsAs {A = Unit {0}} u (Ok tt) left) asked t)
      where
        go : (a : Answer (List ModuleVersion)) → ask there.row ≡ a → EndsAs {A = Unit {0}} (answered (ended done) i sheet a) (Ok tt) left → GoesFurther left
        go (fault g) e k = let q = k.refused in let z : ◌≡◌ {A = ℕ} 0 1 = cc in absurd (omega arith)
        go (found ys) e k =
            let (l, q) = ok_ended (written i ys sheet) left tt k in
            let less : 256 - (i + 1) ≡ 255 - i = omega arith in
            let next : i + 1 ≡ suc i = omega arith in (
              omega (arith, ap length q, written_longer i ys sheet),
              subst Formed (sym q) (formed_written i ys sheet (formed there.row ys e) f),
              ap (walk ask (256 - (i + 1)) (i + 1)) q
                  ∙ ap (λ m. walk ask m (i + 1) (written i ys sheet)) less
                  ∙ ap (λ m. walk ask (255 - i) m (written i ys sheet)) next
                  ∙ sym (walk_goes ask (255 - i) i sheet there reads ys e l)
                  ∙ ap (λ m. walk ask m i sheet) (sym one_less),
            )

    pub stops_there : (left : List R.Place) (s : Refusal) → EndsAs {A = Unit {0}} (questioned ask (ended done) i sheet (slice_get sheet i)) (Err s) left → EndsAs {A = Unit {0}} (walk ask (256 - i) i sheet) (Err s) left
    stops_there left s t = ends_by _ (walk ask (suc (255 - i)) i sheet) (Err s) left (ap (λ m. walk ask m i sheet) one_less) (go (ask there.row) refl (subst (λ u. EndsAs {A = Unit {0}} u (Err s) left) asked t))
      where
        go : (a : Answer (List ModuleVersion)) → ask there.row ≡ a → EndsAs {A = Unit {0}} (answered (ended done) i sheet a) (Err s) left → EndsAs {A = Unit {0}} (walk ask (suc (255 - i)) i sheet) (Err s) left
        go (fault g) e k = ends_by _ (ended (stopped i g) sheet) (Err s) left (walk_stops ask (255 - i) i sheet there reads g e) k
        go (found ys) e k =
            let (l, q) = err_ended (written i ys sheet) left s k in
            ends_by _ (ended no_room (written i ys sheet)) (Err s) left (walk_fills ask (255 - i) i sheet there reads ys e l) q

module _ (w : View) where
  -- what remains required is well formed
  pub required_formed : Lawful w.layer → AsksFormed (remaining w)
  required_formed law x ys e = go (w.layer.requirements x) refl e
    where
      go : (a : Answer (List ModuleVersion)) → w.layer.requirements x ≡ a → narrowed (off_main w.main) a ≡ found ys → AllByRecursion (λ y. is_module_version y ≡ true) ys
      go (fault f) p q = let z : ◌≡◌ {A = ℕ} 0 1 = cc in absurd (omega arith)
      go (found zs) p q =
          let k : off_main w.main zs ≡ ys = cc in
          subst (AllByRecursion (λ y. is_module_version y ≡ true)) k (each_filtered (λ y. is_module_version y ≡ true) (λ y. not (same_path y w.main)) zs (law.rows_formed x zs p))

-- every place is questioned
pub walks_out : (ask : ModuleVersion → Answer (List ModuleVersion)) (i : ℕ) (sheet : List R.Place) → length sheet ≤ i → length sheet ≤ 256 → EndsAs {A = Unit {0}} (walk ask (256 - i) i sheet) (Ok tt) sheet
walks_out ask i sheet h l = ends_by _ (ended done sheet) (Ok tt) sheet (walk_done ask (256 - i) i sheet h) (ends_done sheet sheet tt l refl)

-- a fault of a place
pub ends_fault : {A : Type 0} (i : ℕ) (f : Fault) (s : Refusal) (sheet : List R.Place) → length sheet ≤ 256 → refusal_of s ≡ refusal_at i f → EndsAs {A = A} (ended (stopped i f) sheet) (Err s) sheet
ends_fault i f s sheet l q = record { refused = ap Some q; items = sym (take_all 256 sheet l) }
