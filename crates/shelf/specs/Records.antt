-- What a shelf says: its records, each a module version and the rows that it requires. The first record of a module version counts; the
-- versions of a path are those of its records. Assumes nothing.
use Rattle.std.specs.Prelude.{Bool, cond, ◌&&◌, List, [], ◌∷◌, length, nat_le, Some, None, Option, option_and_then, ◌==◌}
use Rattle.std.specs.Bool.{then_some}
use Rattle.std.specs.Str.{bytes_eq}
use Rattle.rules.specs.Orders.{Bytes}
use Rattle.rules.specs.Names.{ModuleVersion, at}
use Rattle.rules.specs.Sources.{Answer, found, Meaning}
use Rattle.fields.specs.Pairs.{Pair, pairs_in, PairCut}
use Rattle.bottoms.specs.Items.{meaning_of}
use Rattle.shelf.specs.Grammar.{tag_M, tag_R}

pub record Record : Type 0 where
  pub names : ModuleVersion
  pub rows : List ModuleVersion

-- the module version that the two fields of a pair name
abbrev pub named : Pair → ModuleVersion
named q = at q.first q.second

-- the rows that stand in front
abbrev pub rows_at : List Pair → List ModuleVersion
rows_at [] = []
rows_at (q ∷ qs) = cond (q.tag == tag_R) (named q ∷ rows_at qs) []

-- a record begins at each M, and has the rows right behind that
abbrev pub records : List Pair → List Record
records [] = []
records (q ∷ qs) = cond (q.tag == tag_M) (record { names = named q; rows = rows_at qs } ∷ records qs) (records qs)

abbrev pub are_names : ModuleVersion → ModuleVersion → Bool
are_names x y = bytes_eq y.path x.path && bytes_eq y.version x.version

abbrev pub is_record_of : ModuleVersion → Record → Bool
is_record_of x r = are_names x r.names

abbrev pub record_answer : Record → Answer (List ModuleVersion)
record_answer r = found r.rows

-- the version that a record holds for a path
abbrev pub record_version : Bytes → Record → Option Bytes
record_version p r = then_some (bytes_eq r.names.path p) r.names.version

abbrev pub shelf_meaning : Bytes → Meaning
shelf_meaning bs = meaning_of is_record_of record_answer record_version (records (pairs_in bs))

-- ---- on the way, pair by pair

-- the pair begins a record of a module version
abbrev pub heads : ModuleVersion → Pair → Bool
heads x q = q.tag == tag_M && are_names x (named q)

-- the version that the pair holds for a path, if it begins a record
abbrev pub head_version : Bytes → Pair → Option Bytes
head_version p q = then_some (q.tag == tag_M && bytes_eq q.first p) q.second

-- the same, if it has at most 48 bytes
abbrev pub held_version : Bytes → Pair → Option Bytes
held_version p q = option_and_then (λ v. then_some (nat_le (length v) 48) v) (head_version p q)

-- the first pair, if it is a row
abbrev pub row_cut : Option PairCut → Option PairCut
row_cut None = None
row_cut (Some p) = cond (p.pair.tag == tag_R) (Some p) None

-- the rows of a record that is found
abbrev pub record_rows : Record → List ModuleVersion
record_rows r = r.rows
