-- Runs of calls from the fresh state, and the law over all of them: whatever calls were made, over every lawful meaning, a list that is given is
-- the least that is fit, a refusal is deserved and shown, and a lower keeps the highest rows that can stand together; when a list and a lower are
-- accepted, what each refusal shows, and what the two slices hold after each. Assumes nothing.
use Rattle.std.specs.Prelude.{◌≡◌, ℕ, ◌<◌, ◌≤◌, true, ◌⊎◌, ◌↔◌, List, [], ◌∷◌, length, replicate, Some, codes}
use Rattle.std.specs.List.{slice_get, AllByRecursion}
use Rattle.rules.specs.Orders.{Bytes}
use Rattle.rules.specs.Names.{ModuleVersion, ◌∈◌, Distinct}
use Rattle.rules.specs.Rows.{AscendingRows, AscendingExclusions}
use Rattle.rules.specs.Causes.{slice_too_short, too_many_module_versions, nothing_to_change, is_missing, Refusal, Fault}
use Rattle.rules.specs.Sources.{found, fault, Meaning, Lawful}
use Rattle.rules.specs.Projects.{State, OnlyRowsChange, main_row, view, remaining, Reached, Few, Many}
use Rattle.rules.specs.Walks.{Place, module_versions}
use Rattle.rules.specs.Sheets.{ListSheet}
use Rattle.rules.specs.Lists.{IsList, LeastFit}
use Rattle.rules.specs.Faults.{Broken, ShownOn}
use Rattle.rules.specs.Lowers.{StandsAbove, ceilings, OnOldPath, Above, Listed, Offered, Met, Faultless, FewMet, ManyMet, KeptRight, LowerSheet, LowerStopped}
use Rattle.rules.specs.Slices.{blank, blank_place, Lent, long_enough, TooShort, filled}
use Rattle.rules.specs.Manifests.{manifest, unread}
use Rattle.rules.specs.Calls.{Call, load, raise, drop, exclude, lower, list, counted, refused, Outcome, refusal_for, does}

-- a fresh project
abbrev pub fresh : State
fresh = record { main = codes "_"; rows = []; exclusions = [] }

-- the state after some calls, in order
abbrev pub after : Meaning → State → List Call → State
after m s [] = s
after m s (c ∷ cs) = after m (does m s c).state cs

-- what a call does after some calls
abbrev pub outcome : Meaning → List Call → Call → Outcome
outcome m calls c = does m (after m fresh calls) c

-- the call is accepted, the list slice holds just l and then blanks, and the reply tells how many rows l has
abbrev pub Gives : Outcome → Lent → List ModuleVersion → Type 0
Gives o n l = ((places : ℕ) × (o.reply ≡ counted places (length l))) × (o.slices.list ≡ filled blank n.list l)

-- a list or a lower is accepted
abbrev pub Counted : Outcome → Type 0
Counted o = (places rows : ℕ) × (o.reply ≡ counted places rows)

abbrev pub Refused : Outcome → Type 0
Refused o = (r : Refusal) × (o.reply ≡ refused r)

-- a list or a lower is refused because a slice is too short
abbrev pub TurnedAway : Lent → Outcome → Type 0
TurnedAway n o = (o.reply ≡ refused (refusal_for slice_too_short)) × (o.slices.sheet ≡ replicate n.sheet blank_place) × (o.slices.list ≡ replicate n.list blank)

abbrev pub fault_of : Refusal → Fault
fault_of r = record { cause = r.cause; place = r.place; depth = r.depth }

module _ (m : Meaning) (s : State) where
  -- l is a list, and the only one that is fit and nowhere above any fit list
  abbrev pub Least : List ModuleVersion → Type 0
  Least l = IsList s l × ((k : List ModuleVersion) → IsList s k → (k ≡ l) ↔ LeastFit m s k)

  -- A list is given or refused, and refused exactly when for some module version that is reached, the main one apart, no requirement list is
  -- to be had; and the refusal shows such a one at its sheet place.
  abbrev pub Deserved : Outcome → Type 0
  Deserved o = (Counted o ⊎ Refused o) × (Refused o ↔ Broken m s)
      × ((r : Refusal) → o.reply ≡ refused r → ShownOn m s o.slices.sheet r.sheet_place (fault_of r))

  -- more than 256 are reached, and 256 of them, none twice, are on the sheet slice
  abbrev pub Overfull : Lent → Outcome → Type 0
  Overfull n o = Many m s × ((sheet : List Place) × (length sheet ≡ 256) × (o.slices.sheet ≡ filled blank_place n.sheet sheet)
      × Distinct (module_versions sheet) × ((x : ModuleVersion) → x ∈ module_versions sheet → Reached m s x))

  -- what a list in slices long enough leaves on the sheet slice, given or refused
  pub record Listing (n : Lent) (o : Outcome) : Type 0 where
    -- the sheet, as far as it was walked, and then blanks
    pub sheet : List Place
    pub holds : o.slices.sheet ≡ filled blank_place n.sheet sheet
    pub right : ListSheet m s sheet
    -- given, it has just what is reached
    pub places : (k rows : ℕ) → o.reply ≡ counted k rows → k ≡ length sheet
    pub all_reached : Counted o → (x : ModuleVersion) → x ∈ module_versions sheet ↔ Reached m s x
    -- refused, before the place that it names each has a requirement list
    pub first_fault : (r : Refusal) → o.reply ≡ refused r → (i : ℕ) (q : Place) → 0 < i → i < r.sheet_place → slice_get sheet i ≡ Some q
        → (xs : List ModuleVersion) × (remaining (view m s) q.row ≡ found xs)

  -- When a lower of the path p to the version v is accepted: the list is given, the path stands on it above the version, every old path's listing
  -- is found, nothing that is met under the ceilings has a fault other than a missing manifest, and with the main row at most 256 are met.
  pub record Lowerable (p v : Bytes) (n : Lent) : Type 0 where
    pub old : List ModuleVersion
    pub given : Gives (does m s (list n)) n old
    pub stands : StandsAbove p v old
    pub listed : Listed (view m s).layer (ceilings p v old)
    pub faultless : Faultless (view m s) (ceilings p v old)
    pub few : FewMet m s (ceilings p v old)

  -- what a lower leaves, accepted or refused, whose list l is given and has the path above the version
  pub record Lowering (p v : Bytes) (n : Lent) (l : List ModuleVersion) (o : Outcome) : Type 0 where
    -- the list slice holds the list
    pub old : o.slices.list ≡ filled blank n.list l
    -- the sheet slice holds the sheet, as far as it was written, and then blanks
    pub sheet : List Place
    pub holds : o.slices.sheet ≡ filled blank_place n.sheet sheet
    pub right : LowerSheet m s (ceilings p v l) sheet
    -- accepted, it has every offer from 0, and just what is met
    pub places : (k rows : ℕ) → o.reply ≡ counted k rows → k ≡ length sheet
    pub all_offered : Counted o → (x : ModuleVersion) → Offered (view m s).layer (ceilings p v l) x → record { row = x; from = 0 } ∈ sheet
    pub all_met : Counted o → (x : ModuleVersion) → x ∈ module_versions sheet ↔ ((x ≡ main_row s) ⊎ Met (view m s) (ceilings p v l) x)
    -- refused, it shows why: by a listing, by what stands at a place, or by there being more than 256
    pub refusal : (r : Refusal) → o.reply ≡ refused r
        → LowerStopped m s (ceilings p v l) sheet r.sheet_place (fault_of r) ⊎ ((r ≡ refusal_for too_many_module_versions) × (length sheet ≡ 256) × ManyMet m s (ceilings p v l))
    -- and before the place that it names nothing that is questioned has a fault, other than that it is missing
    pub first_fault : (r : Refusal) → o.reply ≡ refused r → (i : ℕ) (q : Place) → 0 < i → i < r.sheet_place → slice_get sheet i ≡ Some q
        → (Above (ceilings p v l) q.row → ⊥) → (f : Fault) → remaining (view m s) q.row ≡ fault f → is_missing f.cause ≡ true

  -- what an accepted lower of the path p to the version v is worth
  pub record Lowered (p v : Bytes) (n : Lent) (o : Outcome) : Type 0 where
    -- the list that it started from is on the list slice
    pub old : List ModuleVersion
    pub gives : Gives o n old
    pub least : Least old
    -- of the state only the rows are changed
    pub rest : OnlyRowsChange s o.state
    -- the rows are the highest that can stand together under the ceilings, as the state sees other modules then
    pub kept : KeptRight (view m o.state) (ceilings p v old) o.state.rows
    -- a list taken right then, in slices long enough, is given, and on the old paths shows exactly the rows
    pub relisted : (k : Lent) → long_enough k ≡ true → (l : List ModuleVersion) × Gives (does m o.state (list k)) k l
        × ((x : ModuleVersion) → OnOldPath (ceilings p v old) x → x ∈ l ↔ x ∈ o.state.rows)

  -- what holds of every call in the state s
  pub record Right : Type 0 where
    -- a call that is refused leaves the state as it was
    pub refused_unchanged : (c : Call) → Refused (does m s c) → (does m s c).state ≡ s
    -- a list that is given is the least
    pub list_least : (n : Lent) → Counted (does m s (list n)) → (l : List ModuleVersion) × Gives (does m s (list n)) n l × Least l
    -- and what it leaves on the sheet slice, given or refused
    pub list_shown : (n : Lent) → long_enough n ≡ true → Listing n (does m s (list n))
    -- of all that is reached only the main row is on the main path
    pub main_alone : (x : ModuleVersion) → Reached m s x → x.path ≡ s.main → x ≡ main_row s
    -- a refusal in slices long enough shows why: by a module version for which no list is to be had, or by there being more than 256
    pub refusal_shown : (n : Lent) → long_enough n ≡ true → (r : Refusal) → (does m s (list n)).reply ≡ refused r
        → ShownOn m s (does m s (list n)).slices.sheet r.sheet_place (fault_of r) ⊎ ((r ≡ refusal_for too_many_module_versions) × Overfull n (does m s (list n)))
    -- while at most 256 are reached, in slices long enough, a refusal is deserved
    pub refusal_deserved : (n : Lent) → long_enough n ≡ true → Few m s → Deserved (does m s (list n))
    -- where a list is refused, its slice is blank
    pub refused_blank : (n : Lent) → Refused (does m s (list n)) → (does m s (list n)).slices.list ≡ replicate n.list blank
    -- where a list is refused, a lower does just what the list does
    pub lower_lists_first : (p v : Bytes) (n : Lent) → Refused (does m s (list n)) → does m s (lower p v n) ≡ does m s (list n)
    -- where a list is given that does not have the path above the version, there is nothing to lower, and the slices are as the list leaves them
    pub lower_idle : (p v : Bytes) (n : Lent) (l : List ModuleVersion) → Gives (does m s (list n)) n l → (StandsAbove p v l → ⊥)
        → ((does m s (lower p v n)).reply ≡ refused (refusal_for nothing_to_change)) × ((does m s (lower p v n)).slices ≡ (does m s (list n)).slices)
    -- and where it has, a lower is accepted or shows why it is not
    pub lower_shown : (p v : Bytes) (n : Lent) (l : List ModuleVersion) → Gives (does m s (list n)) n l → StandsAbove p v l → Lowering p v n l (does m s (lower p v n))
    pub lower_accepted : (p v : Bytes) (n : Lent) → Counted (does m s (lower p v n)) ↔ Lowerable p v n
    -- an accepted lower is worth what is said above
    pub lower_kept : (p v : Bytes) (n : Lent) → Counted (does m s (lower p v n)) → Lowered p v n (does m s (lower p v n))
    -- in slices that are too short a list and a lower are refused, and both slices are blank
    pub list_short : (n : Lent) → TooShort n → TurnedAway n (does m s (list n))
    pub lower_short : (p v : Bytes) (n : Lent) → TooShort n → TurnedAway n (does m s (lower p v n))
    -- slices stay as long as they are, and a list changes no state
    pub list_lengths : (n : Lent) → (length (does m s (list n)).slices.sheet ≡ n.sheet) × (length (does m s (list n)).slices.list ≡ n.list)
    pub lower_lengths : (p v : Bytes) (n : Lent) → (length (does m s (lower p v n)).slices.sheet ≡ n.sheet) × (length (does m s (lower p v n)).slices.list ≡ n.list)
    pub list_unchanged : (n : Lent) → (does m s (list n)).state ≡ s

-- THE RUNS: over every lawful meaning, so it is after every run of calls from the fresh state.
abbrev pub RunsRight : Type 0
RunsRight = (m : Meaning) → Lawful m → (calls : List Call) → Right m (after m fresh calls)

-- ---- the tables

pub record Tidy (s : State) : Type 0 where
  pub rows_ascend : AscendingRows s.rows
  pub exclusions_ascend : AscendingExclusions s.exclusions
  pub few_rows : length s.rows ≤ 256
  pub few_exclusions : length s.exclusions ≤ 32

-- a manifest that was read has no more rows than the tables have room for
abbrev pub InBounds : Call → Type 0
InBounds (load (manifest t)) = (length t.requires ≤ 256) × (length t.excludes ≤ 32)
InBounds (load (unread c k)) = Unit {0}
InBounds (raise x) = Unit {0}
InBounds (drop p) = Unit {0}
InBounds (exclude x) = Unit {0}
InBounds (lower p v n) = Unit {0}
InBounds (list n) = Unit {0}

-- THE STATE: after every run whose manifests are in bounds, both tables of the state are tables and in bounds.
abbrev pub TidyRight : Type 0
TidyRight = (m : Meaning) (calls : List Call) → AllByRecursion InBounds calls → Tidy (after m fresh calls)
