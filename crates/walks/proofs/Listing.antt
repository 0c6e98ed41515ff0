-- What a list replies and leaves, by how its walk ended; and that it is the list of the rules. Assumes nothing.
use Rattle.std.proofs.Common.{◌≡◌, ℕ, zero, suc, ◌-◌, ◌≤◌, Bool, true, false, cond, not, List, [], ◌∷◌, ◌++◌, map, length, take, replicate, Some, Ok, Err, sym, refl, ap, ◌∙◌, subst, inl, inr, arith}
use lib.ListN.{length-replicate}
use Rattle.std.proofs.lemmas.List.{map-append, length-append, length-map, length-take-le, take_all}
use Rattle.rules.specs.Paths.{path_order}
use Rattle.rules.specs.Names.{ModuleVersion, same_path, ◌∈◌, Distinct}
use Rattle.rules.specs.Sources.{Meaning}
use Rattle.rules.specs.Projects.{State, View, view, main_row, off_main, remaining}
use Rattle.rules.specs.Walks as R
use Rattle.rules.specs.Walks.{module_versions, End, done, stopped, no_room, Walked, list_walk, first_sheet}
use Rattle.rules.specs.Rows.{path_of, table}
use Rattle.rules.specs.Lists.{list_of}
use Rattle.rules.specs.Slices.{Lent, Slices, filled, holding, long_enough}
use Rattle.rules.specs.Causes.{slice_too_short}
use Rattle.rules.specs.Calls.{Outcome, counted, refused, refusal_for, replied, if_done, lists}
use Rattle.rules.proofs.Order.{paths}
use Rattle.rules.proofs.Members.{kept_was, distinct_length}
use Rattle.rules.proofs.Tables.{ascending_distinct}
use Rattle.rules.proofs.Rows.{table_was, table_ascending}
use Rattle.rules.proofs.Walks.{begun_of, begun_grows, begun_room}
use Rattle.rules.proofs.Reached.{off_main_apart}
use Rattle.rules.proofs.Sheets.{length_module_versions}
use Rattle.causes.specs.Told.{refusal_of}
use Rattle.causes.specs.declared.refusal.Refusal.{Refusal}
use Rattle.walks.specs.declared.filling.Filling.{Filling}
use Rattle.walks.specs.Fillings.{items_of}
use Rattle.walks.specs.Sheets.{EndsAs, refused_by}
use Rattle.walks.specs.Views.{bare, walk_from}
use Rattle.walks.proofs.Fillings.{items_long}
use Rattle.walks.proofs.Telling.{ended_done}
use Rattle.walks.specs.Listed.{Listed, listed, lists_from, WalkRight, ListRight}

-- the walk and the list of the rules

pub walk_right : WalkRight
unfolding walk_from list_walk
walk_right m s = refl

-- what is said of slices that are too short
abbrev short : Lent → State → Outcome
short n s = record { reply = refused (refusal_for slice_too_short); state = s; slices = holding n [] [] }

-- the two conditionals
list_cond : (m : Meaning) (s : State) (n : Lent) (b : Bool)
    → ◌≡◌ {A = Listed} (cond b (listed (view m s) n (list_walk m s)) (record { reply = refused (refusal_for slice_too_short); slices = holding n [] [] }))
    (record { reply = (cond b (lists m s n) (short n s)).reply; slices = (cond b (lists m s n) (short n s)).slices })
list_cond m s n true = refl
list_cond m s n false = refl

pub list_right : ListRight
list_right m s n =
    ap (λ v. cond (long_enough n) (listed (view m s) n v) (record { reply = refused (refusal_for slice_too_short); slices = holding n [] [] })) (walk_right m s)
    ∙ list_cond m s n (long_enough n)

-- what is left in a slice, told by f
map_replicate : {A B : Type 0} (f : A → B) (n : ℕ) (b : A) → map f (replicate n b) ≡ replicate n (f b)
map_replicate f zero b = refl
map_replicate f (suc n) b = ap (λ ys. f b ∷ ys) (map_replicate f n b)

pub blanked : {A B : Type 0} (f : A → B) (none : B) (b : A) → f b ≡ none → (items after : List A) (n : ℕ) → n ≤ length items → after ≡ take n items ++ replicate (length items - n) b
    → map f after ≡ filled none (length items) (map f (take n items))
blanked f none b e items after n h w =
    ap (map f) w ∙ map-append f (take n items) (replicate (length items - n) b)
    ∙ ap (λ ys. map f (take n items) ++ ys) (map_replicate f (length items - n) b ∙ ap (replicate (length items - n)) e ∙ ap (λ k. replicate (length items - k) none) (sym (length-map (take n items) f ∙ length-take-le n items h)))

-- items with blanks behind them, told by f
pub laid : {A B : Type 0} (f : A → B) (none : B) (b : A) → f b ≡ none → (n : ℕ) (items after : List A) (told : List B) → map f items ≡ told → after ≡ filled b n items → map f after ≡ filled none n told
laid f none b e n items after told t w =
    ap (map f) w ∙ map-append f items (replicate (n - length items) b)
    ∙ ap (λ ys. map f items ++ ys) (map_replicate f (n - length items) b ∙ ap (replicate (n - length items)) e ∙ ap (λ k. replicate (n - k) none) (sym (length-map items f)))
    ∙ ap (filled none n) t

-- a lent slice that ends as a filling with blanks behind its items
pub laid_in : {A B : Type 0} (f : A → B) (none : B) (b : A) → f b ≡ none → (s : Filling A) (told : List B) → map f (items_of s) ≡ told → (n : ℕ) (after x : List A) → after ≡ filled b (length s.items.now) (items_of s) → length x ≡ n → x ≡ after
    → map f x ≡ filled none n told
laid_in f none b e s told t n after x w l q =
    let (most, long) = s.room in
    let k : length s.items.now ≡ n = omega (arith, l, ap length (q ∙ w), length-append (items_of s) (replicate (length s.items.now - length (items_of s)) b), length-replicate (length s.items.now - length (items_of s)) b, items_long s) in
    laid f none b e n (items_of s) x told t (q ∙ w ∙ ap (λ m. filled b m (items_of s)) k)

-- how a walk ended, from what the code says
not_done : (s : Refusal) (e : End) (places rows : ℕ) (list : List ModuleVersion) → Some (refusal_of s) ≡ refused_by e
    → (refused (refusal_of s) ≡ replied e places rows) × ([] ≡ if_done e list [])
not_done s done places rows list q = let z : ◌≡◌ {A = ℕ} 0 1 = cc in absurd (omega arith)
not_done s (stopped k f) places rows list q = (cc, refl)
not_done s no_room places rows list q = (cc, refl)

module _ (w : View) (start : List ModuleVersion) where
  abbrev whole : Walked
  whole = walk_from w start

  abbrev main : ModuleVersion
  main = main_row (bare w.main)

  main_there : main ∈ module_versions whole.sheet
  unfolding walk_from
  main_there = begun_grows (remaining w) (off_main w.main start) (first_sheet (bare w.main)) (begun_of (remaining w) (off_main w.main start) (first_sheet (bare w.main))) main (inl refl)

  sheet_short : whole.end ≡ done → length whole.sheet ≤ 256
  unfolding walk_from
  sheet_short ok = begun_room (remaining w) (off_main w.main start) (first_sheet (bare w.main)) (begun_of (remaining w) (off_main w.main start) (first_sheet (bare w.main))) (λ e. let z : ◌≡◌ {A = ℕ} 0 1 = cc in omega arith)

  -- each row of the list is on the sheet, and none twice
  pub list_short : whole.end ≡ done → length (list_of (bare w.main) whole.sheet) ≤ 256
  list_short ok = omega (arith, distinct_length (main ∷ rows) (module_versions whole.sheet) apart on, length_module_versions whole.sheet, sheet_short ok)
    where
      rows : List ModuleVersion
      rows = table (off_main w.main (module_versions whole.sheet))

      sheet_row : (x : ModuleVersion) → x ∈ rows → (x ∈ module_versions whole.sheet) × (not (same_path x w.main) ≡ true)
      sheet_row x h = kept_was (λ y. not (same_path y w.main)) (module_versions whole.sheet) x (table_was (off_main w.main (module_versions whole.sheet)) x h)

      apart : Distinct (main ∷ rows)
      apart = (λ h. off_main_apart w.main main (sheet_row main h).1 refl, ascending_distinct path_of path_order paths rows (table_ascending (off_main w.main (module_versions whole.sheet))))

      on : (x : ModuleVersion) → x ∈ (main ∷ rows) → x ∈ module_versions whole.sheet
      on x (inl e) = rw e main_there
      on x (inr h) = (sheet_row x h).0

  -- every place was questioned
  module _ (left : List R.Place) (t : EndsAs {A = Unit {0}} whole (Ok tt) left) where
    ok : whole.end ≡ done
    ok = ended_done whole.end t.refused

    sheet_is : left ≡ whole.sheet
    sheet_is = t.items ∙ take_all 256 whole.sheet (sheet_short ok)

    pub room : length (list_of (bare w.main) left) ≤ 256
    room = subst (λ s. length (list_of (bare w.main) s) ≤ 256) (sym sheet_is) (list_short ok)

    pub done_reply : (places rows : ℕ) → places ≡ length left → rows ≡ length (list_of (bare w.main) left)
        → counted places rows ≡ replied whole.end (length whole.sheet) (length (list_of (bare w.main) whole.sheet))
    done_reply places rows p e =
        ap (λ k. counted k rows) (p ∙ ap length sheet_is)
        ∙ ap (counted (length whole.sheet)) (e ∙ ap (λ s. length (list_of (bare w.main) s)) sheet_is)
        ∙ ap (λ e. replied e (length whole.sheet) (length (list_of (bare w.main) whole.sheet))) (sym ok)

    pub done_list : (list : List ModuleVersion) → list ≡ list_of (bare w.main) left → list ≡ if_done whole.end (list_of (bare w.main) whole.sheet) []
    done_list list e = e ∙ ap (list_of (bare w.main)) sheet_is ∙ ap (λ e. if_done e (list_of (bare w.main) whole.sheet) []) (sym ok)

  -- it stopped
  module _ (s : Refusal) (left : List R.Place) (t : EndsAs {A = Unit {0}} whole (Err s) left) where
    pub stopped_reply : refused (refusal_of s) ≡ replied whole.end (length whole.sheet) (length (list_of (bare w.main) whole.sheet))
    stopped_reply = (not_done s whole.end _ _ [] t.refused).0

    pub stopped_list : [] ≡ if_done whole.end (list_of (bare w.main) whole.sheet) []
    stopped_list = (not_done s whole.end 0 0 (list_of (bare w.main) whole.sheet) t.refused).1

  pub given : (n : Lent) → long_enough n ≡ true → lists_from w start n ≡ listed w n whole
  given n long = ap (λ b. cond b (listed w n whole) (record { reply = refused (refusal_for slice_too_short); slices = holding n [] [] })) long

  pub given_short : (n : Lent) → long_enough n ≡ false → lists_from w start n ≡ record { reply = refused (refusal_for slice_too_short); slices = holding n [] [] }
  given_short n few = ap (λ b. cond b (listed w n whole) (record { reply = refused (refusal_for slice_too_short); slices = holding n [] [] })) few

-- both slices
pub both : (s t : List R.Place) (l k : List ModuleVersion) → s ≡ t → l ≡ k → ◌≡◌ {A = Slices} (record { sheet = s; list = l }) (record { sheet = t; list = k })
both s t l k p q i = record { sheet = p i; list = q i }
