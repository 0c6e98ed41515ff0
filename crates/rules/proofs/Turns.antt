-- The turns of the walk as equations, for a loop whose invariant is that the walk from here on is the whole walk. Assumes nothing.
use Rattle.std.proofs.Common.{◌≡◌, ℕ, zero, suc, ◌<◌, ◌≤◌, false, cond, List, [], ◌∷◌, ◌++◌, length, take, Some, sym, refl, ap, ◌∙◌, arith, length-append}
use Rattle.std.specs.List.{slice_get}
use Rattle.std.proofs.lemmas.List.{append_assoc, append-nil, take-append-le, take_all}
use Rattle.std.proofs.lemmas.Option.{slice_get_past}
use Rattle.std.proofs.lemmas.Bool.{lt-ltb, le-ltb}
use Rattle.rules.specs.Names.{ModuleVersion, has}
use Rattle.rules.specs.Causes.{Fault}
use Rattle.rules.specs.Sources.{Answer, found, fault, Meaning}
use Rattle.rules.specs.Orders.{Bytes}
use Rattle.rules.specs.Lowers.{offer, offer_written, offers_written}
use Rattle.rules.specs.Projects.{State, main_requirements, view, remaining}
use Rattle.rules.specs.Walks.{Place, module_versions, noted, written, done, stopped, no_room, Walked, ended, answered, questioned, walk, first_sheet, list_walk}
use Rattle.rules.proofs.Walks.{written_keeps, placed}

-- the inner loop: one more row of an answer
pub written_push : (from : ℕ) (xs : List ModuleVersion) (x : ModuleVersion) (sheet : List Place) → written from (xs ++ x ∷ []) sheet ≡ noted from x (written from xs sheet)
written_push from [] x sheet = refl
written_push from (y ∷ ys) x sheet = written_push from ys x (noted from y sheet)

pub written_append : (from : ℕ) (xs ys : List ModuleVersion) (sheet : List Place) → written from (xs ++ ys) sheet ≡ written from ys (written from xs sheet)
written_append from [] ys sheet = refl
written_append from (x ∷ xs) ys sheet = written_append from xs ys (noted from x sheet)

-- a sheet never shrinks: once a 257th place is needed, it stays needed, whatever of the answer is left to write
pub written_longer : (from : ℕ) (xs : List ModuleVersion) (sheet : List Place) → length sheet ≤ length (written from xs sheet)
written_longer from xs sheet =
    written_keeps (λ s. length sheet ≤ length s) from xs (λ s x h new l. omega (arith, length-append s (placed x from ∷ []))) sheet (omega arith)

-- what stands on a sheet stays in front
written_front : (from : ℕ) (xs : List ModuleVersion) (sheet : List Place) → (more : List Place) × (written from xs sheet ≡ sheet ++ more)
written_front from xs sheet =
    written_keeps (λ s. (more : List Place) × (s ≡ sheet ++ more)) from xs
    (λ s x h new (more, e). (more ++ placed x from ∷ [], ap (λ t. t ++ placed x from ∷ []) e ∙ append_assoc sheet more (placed x from ∷ [])))
    sheet ([], sym (append-nil sheet))

-- The inner loop at a sheet that is full: a further row that is new needs a 257th place, and of all that would be written just what is
-- there is on the sheet, whatever of the answer is left.
pub written_over : (from : ℕ) (ys : List ModuleVersion) (x : ModuleVersion) (rest : List ModuleVersion) (sheet : List Place)
    → length (written from ys sheet) ≡ 256 → has (module_versions (written from ys sheet)) x ≡ false
    → (256 < length (written from (ys ++ x ∷ rest) sheet)) × (take 256 (written from (ys ++ x ∷ rest) sheet) ≡ written from ys sheet)
written_over from ys x rest sheet long new = (
  omega (arith, ap length whole, length-append there (placed x from ∷ more)),
  ap (take 256) whole ∙ take-append-le 256 there (placed x from ∷ more) (omega arith) ∙ take_all 256 there (omega arith),
)
  where
    there : List Place
    there = written from ys sheet

    more : List Place
    more = (written_front from rest (there ++ placed x from ∷ [])).0

    whole : written from (ys ++ x ∷ rest) sheet ≡ there ++ (placed x from ∷ more)
    whole =
        written_append from ys (x ∷ rest) sheet
        ∙ ap (λ b. written from rest (cond b there (there ++ placed x from ∷ []))) new
        ∙ (written_front from rest (there ++ placed x from ∷ [])).1
        ∙ append_assoc there (placed x from ∷ []) more

module _ (ask : ModuleVersion → Answer (List ModuleVersion)) where
  pub walk_done : (left place : ℕ) (sheet : List Place) → length sheet ≤ place → walk ask left place sheet ≡ ended done sheet
  unfolding walk
  walk_done zero place sheet h = refl
  walk_done (suc left) place sheet h = ap (questioned ask (walk ask left (suc place)) place sheet) (slice_get_past sheet place h)

  module _ (left place : ℕ) (sheet : List Place) (r : Place) (reads : slice_get sheet place ≡ Some r) where
    pub walk_stops : (f : Fault) → ask r.row ≡ fault f → walk ask (suc left) place sheet ≡ ended (stopped place f) sheet
    unfolding walk
    walk_stops f a = ap (questioned ask (walk ask left (suc place)) place sheet) reads ∙ ap (answered (walk ask left (suc place)) place sheet) a

    pub walk_fills : (xs : List ModuleVersion) → ask r.row ≡ found xs → 256 < length (written place xs sheet)
        → walk ask (suc left) place sheet ≡ ended no_room (written place xs sheet)
    unfolding walk
    walk_fills xs a h =
        ap (questioned ask (walk ask left (suc place)) place sheet) reads ∙ ap (answered (walk ask left (suc place)) place sheet) a
        ∙ ap (λ b. cond b (ended no_room (written place xs sheet)) (walk ask left (suc place) (written place xs sheet))) (lt-ltb 256 (length (written place xs sheet)) h)

    pub walk_goes : (xs : List ModuleVersion) → ask r.row ≡ found xs → length (written place xs sheet) ≤ 256
        → walk ask (suc left) place sheet ≡ walk ask left (suc place) (written place xs sheet)
    unfolding walk
    walk_goes xs a h =
        ap (questioned ask (walk ask left (suc place)) place sheet) reads ∙ ap (answered (walk ask left (suc place)) place sheet) a
        ∙ ap (λ b. cond b (ended no_room (written place xs sheet)) (walk ask left (suc place) (written place xs sheet))) (le-ltb 256 (length (written place xs sheet)) h)

-- how a list's walk begins: with the rows of the main module

module _ (m : Meaning) (s : State) where
  abbrev first : List Place
  first = written 0 (main_requirements s) (first_sheet s)

  pub list_fills : 256 < length first → list_walk m s ≡ ended no_room first
  unfolding list_walk
  list_fills h = ap (λ b. cond b (ended no_room first) (walk (remaining (view m s)) 255 1 first)) (lt-ltb 256 (length first) h)

  pub list_goes : length first ≤ 256 → list_walk m s ≡ walk (remaining (view m s)) 255 1 first
  unfolding list_walk
  list_goes h = ap (λ b. cond b (ended no_room first) (walk (remaining (view m s)) 255 1 first)) (le-ltb 256 (length first) h)

-- the turns of lower's offers

module _ (n : Meaning) (next : List Place → Walked) (c : ModuleVersion) (cs : List ModuleVersion) (sheet : List Place) where
  pub offers_stop : (f : Fault) → n.listing c.path ≡ fault f → offers_written n next (c ∷ cs) sheet ≡ ended (stopped 0 f) sheet
  offers_stop f a = ap (offer_written (offers_written n next cs) c sheet) a

  pub offers_fill : (vs : List Bytes) → n.listing c.path ≡ found vs → 256 < length (written 0 (offer c vs) sheet)
      → offers_written n next (c ∷ cs) sheet ≡ ended no_room (written 0 (offer c vs) sheet)
  offers_fill vs a h =
      ap (offer_written (offers_written n next cs) c sheet) a
      ∙ ap (λ b. cond b (ended no_room (written 0 (offer c vs) sheet)) (offers_written n next cs (written 0 (offer c vs) sheet))) (lt-ltb 256 (length (written 0 (offer c vs) sheet)) h)

  pub offers_go : (vs : List Bytes) → n.listing c.path ≡ found vs → length (written 0 (offer c vs) sheet) ≤ 256
      → offers_written n next (c ∷ cs) sheet ≡ offers_written n next cs (written 0 (offer c vs) sheet)
  offers_go vs a h =
      ap (offer_written (offers_written n next cs) c sheet) a
      ∙ ap (λ b. cond b (ended no_room (written 0 (offer c vs) sheet)) (offers_written n next cs (written 0 (offer c vs) sheet))) (le-ltb 256 (length (written 0 (offer c vs) sheet)) h)
