-- Lower: the highest versions that can stand together under ceilings. It takes a path and a version, and starts from the list: its paths but
-- the main one are the old paths. The ceiling of an old path is its version on the list, and of the path taken the version taken; other paths
-- have none. Each old path offers the versions that the exclude layer lists at or under its ceiling. A row is allowed if no chain of remaining
-- requirements from it, itself included, meets a row above its ceiling or one whose manifest is missing. The kept row of an old path is its
-- highest offered row that is allowed; the kept rows become the requirement rows.
-- What that is worth: a set of module versions is sound if each is available, that is, the exclude layer finds its list, and above no ceiling,
-- and if it holds all that remains required by its members. The kept rows lie in a sound set, no sound set has an old path above its kept row,
-- and a list taken right after shows exactly the kept rows on the old paths.
-- Lower has a walk of its own, which begins with the offers, path by path and the highest first, and goes no further from a row above its
-- ceiling. It stops if a listing is a fault, if something that it meets has a fault other than a missing manifest, or if with the main row
-- it meets more than 256. Assumes nothing.
use Rattle.std.specs.Prelude.{◌≡◌, ℕ, zero, suc, ◌<◌, ◌≤◌, Bool, true, false, cond, not, ◌&&◌, ◌||◌, ◌⊎◌, ◌↔◌, List, [], ◌∷◌, ◌++◌, map, length, Some, filter}
use Rattle.std.specs.List.{slice_get}
use Rattle.std.specs.Ordering.{is_lt, is_le, is_eq}
use Rattle.rules.specs.Orders.{Bytes}
use Rattle.rules.specs.Paths.{path_order}
use Rattle.rules.specs.Versions.{version_order}
use Rattle.rules.specs.Names.{ModuleVersion, same_path, Before, Below, Upto, Stands, ◌∈◌, Distinct, at}
use Rattle.rules.specs.Rows.{AscendingRows, table}
use Rattle.rules.specs.Causes.{Fault, is_missing}
use Rattle.rules.specs.Sources.{Answer, found, fault, Meaning, Lawful, found_in}
use Rattle.rules.specs.Projects.{State, with_rows, main_row, View, view, remaining, Requires}
use Rattle.rules.specs.Walks.{Place, written, done, stopped, Walked, ended, if_room, walk, first_sheet, list_walk}
use Rattle.rules.specs.Sheets.{SheetRight}
use Rattle.rules.specs.Lists.{list_of}

-- a list without its main row
abbrev pub after_main : List ModuleVersion → List ModuleVersion
after_main [] = []
after_main (x ∷ xs) = xs

abbrev pub some : (ModuleVersion → Bool) → List ModuleVersion → Bool
some test [] = false
some test (x ∷ xs) = test x || some test xs

-- a list can be lowered at a path to a version: the path stands there, after the main row, above the version
abbrev pub can_lower : Bytes → Bytes → List ModuleVersion → Bool
can_lower p v l = some (λ x. same_path x p && is_lt (version_order v x.version)) (after_main l)

-- the same in words
abbrev pub StandsAbove : Bytes → Bytes → List ModuleVersion → Type 0
StandsAbove p v l = (x : ModuleVersion) × (x ∈ after_main l) × (x.path ≡ p) × Below v x.version

-- the ceiling, as a row, that lowering p to v puts over a row of the list
abbrev pub ceiling_of : Bytes → Bytes → ModuleVersion → ModuleVersion
ceiling_of p v x = cond (same_path x p) (at x.path v) x

-- the ceilings: one for each old path
abbrev pub ceilings : Bytes → Bytes → List ModuleVersion → List ModuleVersion
ceilings p v l = map (ceiling_of p v) (after_main l)

-- x is on an old path, one that has a ceiling
abbrev pub OnOldPath : List ModuleVersion → ModuleVersion → Type 0
OnOldPath cs x = (c : ModuleVersion) × (c ∈ cs) × (c.path ≡ x.path)

-- x is above its ceiling; where its path has none, it is not
abbrev pub Above : List ModuleVersion → ModuleVersion → Type 0
Above cs x = (c : ModuleVersion) × (c ∈ cs) × (c.path ≡ x.path) × Below c.version x.version

-- the same as a test
abbrev pub is_above : List ModuleVersion → ModuleVersion → Bool
is_above [] x = false
is_above (c ∷ cs) x = (is_eq (path_order c.path x.path) && is_lt (version_order c.version x.version)) || is_above cs x

-- the offer of a path: of its versions, ascending, those at or under the ceiling, the highest first
abbrev pub offer : ModuleVersion → List Bytes → List ModuleVersion
offer c [] = []
offer c (v ∷ vs) = offer c vs ++ cond (is_le (version_order v c.version)) (at c.path v ∷ []) []

-- the offers of all old paths, from their listings
abbrev pub offers : Meaning → List ModuleVersion → List ModuleVersion
offers n [] = []
offers n (c ∷ cs) = offer c (found_in (n.listing c.path)) ++ offers n cs

-- every old path's listing is found
abbrev pub Listed : Meaning → List ModuleVersion → Type 0
Listed n cs = (c : ModuleVersion) → c ∈ cs → (vs : List Bytes) × (n.listing c.path ≡ found vs)

-- x is offered: its version is listed, at or under the ceiling of its path
abbrev pub Offered : Meaning → List ModuleVersion → ModuleVersion → Type 0
Offered n cs x = (c : ModuleVersion) × (c ∈ cs) × (c.path ≡ x.path) × Upto x.version c.version
    × ((vs : List Bytes) × (n.listing x.path ≡ found vs) × (x.version ∈ vs))

-- the order of the offers: path by path, and of a path the highest version first
abbrev pub Ahead : ModuleVersion → ModuleVersion → Type 0
Ahead x y = Before x.path y.path ⊎ ((x.path ≡ y.path) × Below y.version x.version)

-- of two places after the first, if the later one is from 0, so is the earlier one, and its row is ahead
abbrev pub OffersFirst : List Place → Type 0
OffersFirst sheet = (i j : ℕ) (q r : Place) → 0 < i → i < j → slice_get sheet i ≡ Some q → slice_get sheet j ≡ Some r → r.from ≡ 0 → (q.from ≡ 0) × Ahead q.row r.row

-- what comes after the listing of an old path: its offer is written from place 0
abbrev pub offer_written : (List Place → Walked) → ModuleVersion → List Place → Answer (List Bytes) → Walked
offer_written next c sheet (fault f) = ended (stopped 0 f) sheet
offer_written next c sheet (found vs) = if_room next (written 0 (offer c vs) sheet)

-- path by path the offer is written, and then comes what is next; a fault of a listing ends the walk
abbrev pub offers_written : Meaning → (List Place → Walked) → List ModuleVersion → List Place → Walked
offers_written n next [] sheet = next sheet
offers_written n next (c ∷ cs) sheet = offer_written (offers_written n next cs) c sheet (n.listing c.path)

-- to lower, a missing manifest is no fault
abbrev pub excused : Answer (List ModuleVersion) → Answer (List ModuleVersion)
excused (found xs) = found xs
excused (fault f) = cond (is_missing f.cause) (found []) (fault f)

abbrev pub is_missing_answer : Answer (List ModuleVersion) → Bool
is_missing_answer (found xs) = false
is_missing_answer (fault f) = is_missing f.cause

module _ (w : View) where
  -- what lower's walk is answered: no row above its ceiling is questioned
  abbrev pub lower_ask : List ModuleVersion → ModuleVersion → Answer (List ModuleVersion)
  lower_ask cs x = cond (is_above cs x) (found []) (excused (remaining w x))

  -- it is above its ceiling, or its manifest is missing
  abbrev pub is_bad : List ModuleVersion → ModuleVersion → Bool
  is_bad cs x = is_above cs x || is_missing_answer (remaining w x)

  -- a chain from x meets, within so many steps, one that is bad
  unfoldable pub barred : List ModuleVersion → ℕ → ModuleVersion → Bool
  barred cs zero x = is_bad cs x
  barred cs (suc n) x = is_bad cs x || some (barred cs n) (found_in (remaining w x))

  -- The kept rows, computed: of each path the highest offered row that is not barred. A sheet has at most 256 places, and no chain has to be
  -- longer than there are places. What they are is said by `Kept`, below.
  unfoldable pub kept_rows : List ModuleVersion → List ModuleVersion
  kept_rows cs = table (filter (λ x. not (barred cs 257 x)) (offers w.layer cs))

  -- a chain of remaining requirements leads from one to the other
  pub data Leads : ModuleVersion → ModuleVersion → Type 0 where
    itself : {x : ModuleVersion} → Leads x x
    through : {x y z : ModuleVersion} → Requires w x y → Leads y z → Leads x z

  -- lower's walk comes from x to y: x is not above its ceiling, and y remains required by it
  abbrev pub Passes : List ModuleVersion → ModuleVersion → ModuleVersion → Type 0
  Passes cs x y = (Above cs x → ⊥) × Requires w x y

  -- x is met: it is offered, or lower's walk comes to it from what is met
  pub data Met (cs : List ModuleVersion) : ModuleVersion → Type 0 where
    offered : {x : ModuleVersion} → Offered w.layer cs x → Met cs x
    passed : {x y : ModuleVersion} → Met cs x → Passes cs x y → Met cs y

  -- nothing that is met has a fault, other than that its manifest is missing; what is above its ceiling is not questioned
  abbrev pub Faultless : List ModuleVersion → Type 0
  Faultless cs = (x : ModuleVersion) → Met cs x → (Above cs x → ⊥) → (f : Fault) → remaining w x ≡ fault f → is_missing f.cause ≡ true

  -- its manifest is missing
  abbrev pub Missing : ModuleVersion → Type 0
  Missing x = (f : Fault) × (remaining w x ≡ fault f) × (is_missing f.cause ≡ true)

  -- available: the exclude layer finds its requirement list
  abbrev pub Available : ModuleVersion → Type 0
  Available x = (xs : List ModuleVersion) × (w.layer.requirements x ≡ found xs)

  -- allowed: no chain from x, itself included, meets a row above its ceiling or one whose manifest is missing
  abbrev pub Allowed : List ModuleVersion → ModuleVersion → Type 0
  Allowed cs x = (y : ModuleVersion) → Leads x y → (Above cs y → ⊥) × (Missing y → ⊥)

  -- The kept rows: a table of allowed offers, in which every allowed offer stands.
  pub record Kept (cs rows : List ModuleVersion) : Type 0 where
    pub ascending : AscendingRows rows
    pub allowed : (x : ModuleVersion) → x ∈ rows → Offered w.layer cs x × Allowed cs x
    pub highest : (x : ModuleVersion) → Offered w.layer cs x → Allowed cs x → Stands x rows

  -- all that x leads to, itself included, is available and above no ceiling
  abbrev pub Fits : List ModuleVersion → ModuleVersion → Type 0
  Fits cs x = (y : ModuleVersion) → Leads x y → Available y × (Above cs y → ⊥)

  -- A sound set: its module versions are available, above no ceiling, and hold among them all that remains required by one of them.
  pub record Sound (cs : List ModuleVersion) (set : ModuleVersion → Type 0) : Type 0 where
    pub available : (x : ModuleVersion) → set x → Available x
    pub not_above : (x : ModuleVersion) → set x → Above cs x → ⊥
    pub closed : (x y : ModuleVersion) → set x → Requires w x y → set y

  -- what kept rows are worth
  pub record KeptRight (cs rows : List ModuleVersion) : Type 0 where
    -- they are a table, on old paths
    pub ascending : AscendingRows rows
    pub on_old_paths : (x : ModuleVersion) → x ∈ rows → OnOldPath cs x
    -- By chains: a kept row fits, and whatever fits on an old path stands at or below a kept row. Whatever lies in a sound set fits
    -- (`SetsRight`), so this speaks of every set, told by a test or not.
    pub fits : (x : ModuleVersion) → x ∈ rows → Fits cs x
    pub highest : (x : ModuleVersion) → OnOldPath cs x → Fits cs x → Stands x rows
    -- By sets that are told by a test: the kept rows lie in a sound one, and none holds an old path above its kept row. Where there
    -- is no kept row, none holds the path at all.
    pub in_sound_set : (set : ModuleVersion → Bool) × Sound cs (λ x. set x ≡ true) × ((x : ModuleVersion) → x ∈ rows → set x ≡ true)
    pub no_sound_set_above : (set : ModuleVersion → Bool) → Sound cs (λ x. set x ≡ true) → (x : ModuleVersion) → set x ≡ true → OnOldPath cs x → Stands x rows

module _ (m : Meaning) (s : State) where
  -- Lower's walk: the sheet is written anew, the main row and then the offers, and the places from 1 on are questioned.
  unfoldable pub lower_walk : List ModuleVersion → Walked
  lower_walk cs = offers_written (view m s).layer (walk (lower_ask (view m s) cs) 255 1) cs (first_sheet s)

  -- the list that lower starts from, if the walk is done, and its ceilings
  abbrev pub old_list : List ModuleVersion
  old_list = list_of s (list_walk m s).sheet

  abbrev pub ceilings_at : Bytes → Bytes → List ModuleVersion
  ceilings_at p v = ceilings p v old_list

  -- at most 256 are met, with the main row: a list of so many holds them all
  abbrev pub FewMet : List ModuleVersion → Type 0
  FewMet cs = (xs : List ModuleVersion) × (length xs ≤ 256) × (main_row s ∈ xs) × ((x : ModuleVersion) → Met (view m s) cs x → x ∈ xs)

  -- more than 256 are: here are so many, none twice
  abbrev pub ManyMet : List ModuleVersion → Type 0
  ManyMet cs = (xs : List ModuleVersion) × (256 < length xs) × Distinct xs × ((x : ModuleVersion) → x ∈ xs → (x ≡ main_row s) ⊎ Met (view m s) cs x)

  -- The sheet of a lower: each place came from an earlier one, those from 0 by an offer; and these come first, in the order of the offers.
  pub record LowerSheet (cs : List ModuleVersion) (sheet : List Place) : Type 0 where
    pub places : SheetRight (main_row s) (Offered (view m s).layer cs) (Passes (view m s) cs) sheet
    pub offers_first : OffersFirst sheet

  -- what a lower's walk shows that stopped with the fault f at the place k
  pub data LowerStopped (cs : List ModuleVersion) (sheet : List Place) (k : ℕ) (f : Fault) : Type 0 where
    -- it is the fault of an old path's listing; those of the paths before it are found
    at_listing : (front back : List ModuleVersion) (c : ModuleVersion) → cs ≡ front ++ c ∷ back → Listed (view m s).layer front → (view m s).layer.listing c.path ≡ fault f
        → k ≡ 0 → LowerStopped cs sheet k f
    -- it is the fault of what stands at that place, which is met and not above its ceiling; and not that its manifest is missing
    at_place : (q : Place) → slice_get sheet k ≡ Some q → Met (view m s) cs q.row → (Above cs q.row → ⊥) → remaining (view m s) q.row ≡ fault f → is_missing f.cause ≡ false
        → LowerStopped cs sheet k f

  -- The walk of a list taken right then is done, and on the old paths the list shows exactly the kept rows.
  pub record Relisted (cs rows : List ModuleVersion) : Type 0 where
    pub listed : (list_walk m (with_rows s rows)).end ≡ done
    pub shows : (x : ModuleVersion) → OnOldPath cs x → x ∈ list_of (with_rows s rows) (list_walk m (with_rows s rows)).sheet ↔ x ∈ rows

-- THE SETS: whatever lies in a sound set fits. A contract cannot speak of all predicates, which are too many for it; so a set is given by a type of
-- whatever kind, of which each thing names a member. That is every set: take for the type its members, each with a proof that it is one.
abbrev pub SetsRight : Type 0 → Type 0
SetsRight T = (w : View) (cs : List ModuleVersion) (member : T → ModuleVersion) → Sound w cs (λ x. (t : T) × (member t ≡ x)) → (t : T) → Fits w cs (member t)

-- THE KEPT ROWS: where lower's walk is done, the rows that are computed are the kept rows, and no others are.
abbrev pub KeptMeant : Type 0
KeptMeant = (m : Meaning) (s : State) (p v : Bytes) → (lower_walk m s (ceilings_at m s p v)).end ≡ done
    → (rows : List ModuleVersion) → (rows ≡ kept_rows (view m s) (ceilings_at m s p v)) ↔ Kept (view m s) (ceilings_at m s p v) rows

-- THE LOWER: over a lawful meaning the kept rows are worth what is said above.
abbrev pub LowerRight : Type 0
LowerRight = (m : Meaning) → Lawful m → (s : State) (p v : Bytes) → (lower_walk m s (ceilings_at m s p v)).end ≡ done
    → KeptRight (view m s) (ceilings_at m s p v) (kept_rows (view m s) (ceilings_at m s p v))
    × Relisted m s (ceilings_at m s p v) (kept_rows (view m s) (ceilings_at m s p v))
