-- A sheet as the rules tell it, and how a walk of the code ends: why it is refused, if it is, and what is left on the sheet. Of a sheet that needs
-- a 257th place the first 256 are written. Assumes nothing.
use Rattle.std.specs.Prelude.{◌≡◌, List, map, take, Some, None, Ok, Err, Option, Result}
use Rattle.rules.specs.Causes as R
use Rattle.rules.specs.Walks as W
use Rattle.rules.specs.Walks.{End, done, stopped, no_room, Walked}
use Rattle.rules.specs.Calls.{refusal_at, refusal_for}
use Rattle.causes.specs.Told.{refusal_of}
use Rattle.causes.specs.declared.refusal.Refusal.{Refusal}
use Rattle.walks.specs.declared.filling.Filling.{Filling}
use Rattle.walks.specs.declared.place.Place.{Place}
use Rattle.walks.specs.Fillings.{items_of}
use Rattle.walks.specs.Places.{place_of}

-- the places of a sheet
abbrev pub sheet_of : Filling Place → List W.Place
sheet_of s = map place_of (items_of s)

-- why a walk that ends so is refused
abbrev pub refused_by : End → Option R.Refusal
refused_by done = None
refused_by (stopped k f) = Some (refusal_at k f)
refused_by no_room = Some (refusal_for R.too_many_module_versions)

module _ {A : Type 0} where
  -- why the code is refused
  abbrev pub refusal_by : Result A Refusal → Option R.Refusal
  refusal_by (Ok x) = None
  refusal_by (Err r) = Some (refusal_of r)

  -- the answer r, and the sheet that is left, are those of the walk w
  pub record EndsAs (w : Walked) (r : Result A Refusal) (left : List W.Place) : Type 0 where
    pub refused : refusal_by r ≡ refused_by w.end
    pub items : left ≡ take 256 w.sheet
