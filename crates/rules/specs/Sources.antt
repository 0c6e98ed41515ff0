-- Sources and layers. What a source means is a function: each module version has a requirement list or a fault, and each path has a listing, its
-- versions ascending, or a fault. A meaning is lawful if lists and listings have at most 64 members, all well formed, if a listing that is no
-- fault holds every version that has a requirement list, and if no fault is deeper than 255.
-- A layer is a source over others; a fault from below goes up with its depth one more, up to 255. The exclude layer has some module versions
-- missing: it finds no list for them, leaves them out of the lists of others, and lists none of them. The fallback layer asks a second source
-- where the first has a manifest missing, and only there; its listing is both listings joined, if both are found and together have at most 64
-- versions. Assumes nothing.
use Rattle.std.specs.Prelude.{◌≡◌, ◌+◌, ◌≤◌, min, true, cond, not, List, [], length, filter, nat_lt}
use Rattle.std.specs.List.{AllByRecursion}
use Rattle.rules.specs.Orders.{Bytes}
use Rattle.rules.specs.Versions.{is_version}
use Rattle.rules.specs.Causes.{missing, too_many_to_list, is_missing, Fault}
use Rattle.rules.specs.Names.{ModuleVersion, is_module_version, at, has, ◌∈◌}
use Rattle.rules.specs.Rows.{AscendingVersions, joined_versions}

-- what a question is answered
pub data Answer (A : Type 0) : Type 0 where
  found : A → Answer A
  fault : Fault → Answer A

pub record Meaning : Type 0 where
  -- the requirement list of a module version
  pub requirements : ModuleVersion → Answer (List ModuleVersion)
  -- the versions of a path
  pub listing : Bytes → Answer (List Bytes)

-- What the meaning of every source obeys.
pub record Lawful (m : Meaning) : Type 0 where
  -- a requirement list that is found has at most 64 rows, each well formed
  pub few_rows : (x : ModuleVersion) (rs : List ModuleVersion) → m.requirements x ≡ found rs → length rs ≤ 64
  pub rows_formed : (x : ModuleVersion) (rs : List ModuleVersion) → m.requirements x ≡ found rs → AllByRecursion (λ r. is_module_version r ≡ true) rs
  -- a listing that is found has at most 64 versions, ascending, and so each once
  pub few_versions : (p : Bytes) (vs : List Bytes) → m.listing p ≡ found vs → length vs ≤ 64
  pub versions_formed : (p : Bytes) (vs : List Bytes) → m.listing p ≡ found vs → AllByRecursion (λ v. is_version v ≡ true) vs
  pub ascending : (p : Bytes) (vs : List Bytes) → m.listing p ≡ found vs → AscendingVersions vs
  -- and holds every version of the path that has a requirement list
  pub whole : (p : Bytes) (vs : List Bytes) → m.listing p ≡ found vs → (v : Bytes) (rs : List ModuleVersion) → m.requirements (at p v) ≡ found rs → v ∈ vs
  -- no fault is deeper than 255
  pub requirements_depth : (x : ModuleVersion) (f : Fault) → m.requirements x ≡ fault f → f.depth ≤ 255
  pub listing_depth : (p : Bytes) (f : Fault) → m.listing p ≡ fault f → f.depth ≤ 255

-- the members of what is found
abbrev pub found_in : {A : Type 0} → Answer (List A) → List A
found_in (found xs) = xs
found_in (fault f) = []

-- f of what is found
abbrev pub narrowed : {A B : Type 0} → (A → B) → Answer A → Answer B
narrowed f (found a) = found (f a)
narrowed f (fault g) = fault g

-- a fault from below, one layer up
abbrev pub deeper : Fault → Fault
deeper f = record { cause = f.cause; place = f.place; depth = min 255 (f.depth + 1) }

abbrev pub passed_up : {A : Type 0} → Answer A → Answer A
passed_up (found a) = found a
passed_up (fault f) = fault (deeper f)

-- the fault of what is missing at this very source
abbrev pub missing_here : Fault
missing_here = record { cause = missing; place = 0; depth = 0 }

-- those that are not among the exclusions
abbrev pub included : List ModuleVersion → List ModuleVersion → List ModuleVersion
included es = filter (λ y. not (has es y))

-- the exclude layer over a meaning
abbrev pub excluding : List ModuleVersion → Meaning → Meaning
excluding es m = record {
  requirements = λ x. cond (has es x) (fault missing_here) (passed_up (narrowed (included es) (m.requirements x)));
  listing = λ p. passed_up (narrowed (filter (λ v. not (has es (at p v)))) (m.listing p));
}

-- where the first says that the manifest is missing, the second's answer stands
abbrev pub or_else : {A : Type 0} → Answer A → Answer A → Answer A
or_else (found a) b = found a
or_else (fault f) b = cond (is_missing f.cause) b (fault f)

-- A listing must hold the versions of both, so it needs both: a fault of the first is its fault, and then one of the second.
abbrev pub both_listed : Answer (List Bytes) → Answer (List Bytes) → Answer (List Bytes)
both_listed (fault f) b = fault f
both_listed (found vs) (fault f) = fault f
both_listed (found vs) (found ws) = found (joined_versions vs ws)

abbrev pub over_64 : Fault
over_64 = record { cause = too_many_to_list; place = 0; depth = 0 }

abbrev pub at_most_64 : Answer (List Bytes) → Answer (List Bytes)
at_most_64 (fault f) = fault f
at_most_64 (found vs) = cond (nat_lt 64 (length vs)) (fault over_64) (found vs)

-- the fallback layer over two meanings
abbrev pub falling_back : Meaning → Meaning → Meaning
falling_back a b = record {
  requirements = λ x. passed_up (or_else (a.requirements x) (b.requirements x));
  listing = λ p. at_most_64 (passed_up (both_listed (a.listing p) (b.listing p)));
}
