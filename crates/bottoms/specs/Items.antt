-- What a list of items means: the records of a shelf, or the files of a tree. The first item of a module version counts, and gives the answer;
-- without one it is missing. The versions of a path are those that items hold for it, ascending and each once, if they are at most 64.
-- Assumes nothing.
use Rattle.std.specs.Prelude.{Bool, cond, List, [], ◌∷◌, Some, None, Option}
use Rattle.rules.specs.Orders.{Bytes}
use Rattle.rules.specs.Names.{ModuleVersion}
use Rattle.rules.specs.Versions.{version_order}
use Rattle.rules.specs.Tables.{keep, entered, entered_all}
use Rattle.rules.specs.Rows.{own}
use Rattle.rules.specs.Sources.{Answer, found, fault, Meaning, missing_here, over_64, at_most_64}

module _ {I : Type 0} (is_of : ModuleVersion → I → Bool) where
  -- the first item of a module version
  abbrev pub first_of : ModuleVersion → List I → Option I
  first_of x [] = None
  first_of x (i ∷ is) = cond (is_of x i) (Some i) (first_of x is)

module _ {I : Type 0} (answer : I → Answer (List ModuleVersion)) where
  abbrev pub answered : Option I → Answer (List ModuleVersion)
  answered None = fault missing_here
  answered (Some i) = answer i

abbrev pub with_version : Option Bytes → List Bytes → List Bytes
with_version None vs = vs
with_version (Some v) vs = v ∷ vs

module _ {I : Type 0} (version_in : Bytes → I → Option Bytes) where
  -- the versions that items hold for a path, as they come
  abbrev pub versions_in : Bytes → List I → List Bytes
  versions_in p [] = []
  versions_in p (i ∷ is) = with_version (version_in p i) (versions_in p is)

-- the table that versions make
abbrev pub version_table : List Bytes → List Bytes
version_table = entered_all own version_order keep []

-- an item is of a module version; the answer that an item gives; the version that an item holds for a path
abbrev pub meaning_of : {I : Type 0} → (ModuleVersion → I → Bool) → (I → Answer (List ModuleVersion)) → (Bytes → I → Option Bytes) → List I → Meaning
meaning_of is_of answer version_in items = record {
  requirements = λ x. answered answer (first_of is_of x items);
  listing = λ p. at_most_64 (found (version_table (versions_in version_in p items)));
}

-- ---- on the way

-- a table with a version entered, if one is held
abbrev pub entered_held : Option Bytes → List Bytes → List Bytes
entered_held None t = t
entered_held (Some v) t = entered own version_order keep v t

-- the answer of a listing that was made, or was not since there are too many versions
abbrev pub listing_answer : Option (List Bytes) → Answer (List Bytes)
listing_answer None = fault over_64
listing_answer (Some vs) = found vs
