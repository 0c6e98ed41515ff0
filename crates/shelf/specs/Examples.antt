-- Worked shelves, computed: which buffers are accepted, at which place and for which cause the others are refused, and what a shelf answers.
-- Assumes nothing.
use Rattle.std.specs.Prelude.{◌≡◌, ℕ, zero, suc, List, [], ◌∷◌, ◌++◌, map, take, Ok, codes}
use Rattle.rules.specs.Orders.{Bytes}
use Rattle.rules.specs.Causes.{bad_path, bad_version, row_too_many, damaged_buffer}
use Rattle.rules.specs.Names.{ModuleVersion, at}
use Rattle.rules.specs.Sources.{Answer, found, fault, missing_here}
use Rattle.fields.specs.Openings.{Opening, refused_at}
use Rattle.fields.specs.Samples.{field}
use Rattle.shelf.specs.Grammar.{tag_M, tag_V, tag_R, tag_W, opening}
use Rattle.shelf.specs.Records.{shelf_meaning}

abbrev pub head : Bytes → Bytes → Bytes
head p v = field tag_M p ++ field tag_V v

abbrev pub row : Bytes → Bytes → Bytes
row p v = field tag_R p ++ field tag_W v

abbrev pub rows : ℕ → Bytes
rows zero = []
rows (suc n) = row (codes "b") (codes "v1.0.0") ++ rows n

-- a at v2.0.0 requires b, and its second record says nothing; a is there at v1.0.0 too
abbrev pub sample : Bytes
sample = head (codes "a") (codes "v2.0.0") ++ (row (codes "b") (codes "v0.1.0") ++ (head (codes "a") (codes "v2.0.0") ++ head (codes "a") (codes "v1.0.0")))

-- buffers, with what opening them gives
abbrev pub openings : List (Bytes × Opening)
openings =
    ([], Ok tt)
    ∷ (sample, Ok tt)
    ∷ (take 12 sample, refused_at 4 damaged_buffer)
    ∷ (tag_M ∷ 0 ∷ [], refused_at 0 damaged_buffer)
    ∷ (field tag_M (codes "a"), refused_at 4 damaged_buffer)
    ∷ (row (codes "b") (codes "v1.0.0"), refused_at 0 damaged_buffer)
    ∷ (field tag_M (codes ".a"), refused_at 0 bad_path)
    ∷ (head (codes "a") (codes "1.0"), refused_at 4 bad_version)
    ∷ (head (codes "a") (codes "v1.0.0") ++ rows 64, Ok tt)
    ∷ (head (codes "a") (codes "v1.0.0") ++ (rows 64 ++ field tag_R (codes ".")), refused_at 845 row_too_many)
    ∷ []

-- questions, with what the sample answers
abbrev pub questions : List (ModuleVersion × Answer (List ModuleVersion))
questions =
    (at (codes "a") (codes "v2.0.0"), found (at (codes "b") (codes "v0.1.0") ∷ []))
    ∷ (at (codes "a") (codes "v1.0.0"), found [])
    ∷ (at (codes "b") (codes "v0.1.0"), fault missing_here)
    ∷ []

pub record Shelves : Type 0 where
  pub opened : map (λ t. opening t.0) openings ≡ map (λ t. t.1) openings
  pub answered : map (λ t. (shelf_meaning sample).requirements t.0) questions ≡ map (λ t. t.1) questions
  -- ascending, each once
  pub listed : (shelf_meaning sample).listing (codes "a") ≡ found (codes "v1.0.0" ∷ codes "v2.0.0" ∷ [])
  pub unlisted : (shelf_meaning sample).listing (codes "b") ≡ found []
