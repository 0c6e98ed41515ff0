-- How marks spread over edges: a place is marked in the end if a row of edges leads from it to one that was marked. The marks are told place by
-- place. Assumes nothing.
use Rattle.std.specs.Prelude.{◌≡◌, ℕ, suc, ◌+◌, ◌<◌, ◌≤◌, Bool, true, false, cond, List, [], ◌∷◌, slice_index_or}
use Rattle.rules.specs.Names.{ModuleVersion, ◌∈◌}
use Rattle.lowers.specs.declared.learned.Edge.{Edge}

-- every edge leads from one of 256 places to one of them
abbrev pub Narrow : List Edge → Type 0
Narrow es = (e : Edge) → e ∈ es → (e.from < 256) × (e.to < 256)

-- how many places are not marked
abbrev pub unmarked : List Bool → ℕ
unmarked [] = 0
unmarked (b ∷ bs) = cond b (unmarked bs) (suc (unmarked bs))

-- whether a place is marked
abbrev pub mark_at : List Bool → ℕ → Bool
mark_at m i = slice_index_or m i false

module _ (es : List Edge) where
  -- a row of edges leads from the place i to one that is marked
  pub data LeadsToMark (m : List Bool) : ℕ → Type 0 where
    here : {i : ℕ} → mark_at m i ≡ true → LeadsToMark m i
    along : {e : Edge} → e ∈ es → LeadsToMark m e.to → LeadsToMark m e.from

  -- what is marked stays so, and nothing is marked from which no edges lead to a mark
  pub record Spread (m n : List Bool) : Type 0 where
    pub stays : (i : ℕ) → mark_at m i ≡ true → mark_at n i ≡ true
    pub leads : (i : ℕ) → mark_at n i ≡ true → LeadsToMark m i

  -- where an edge leads to a mark, there is one
  abbrev pub Closed : List Bool → Type 0
  Closed m = (e : Edge) → e ∈ es → mark_at m e.to ≡ true → mark_at m e.from ≡ true

  -- a pass over the edges: it marks fewer than there were unmarked, or there is no more to mark
  pub record SpreadOnce (m : List Bool) (more : Bool) (n : List Bool) : Type 0 where
    pub spread : Spread m n
    pub fewer : unmarked n + cond more 1 0 ≤ unmarked m
    pub still : more ≡ false → Closed n

  -- all passes
  pub record SpreadOut (m n : List Bool) : Type 0 where
    pub spread : Spread m n
    pub closed : Closed n

-- the rows at places that are not marked, the first of them at the place k
abbrev pub spared : (ℕ → Bool) → ℕ → List ModuleVersion → List ModuleVersion
spared mark k [] = []
spared mark k (x ∷ xs) = cond (mark k) (spared mark (k + 1) xs) (x ∷ spared mark (k + 1) xs)
