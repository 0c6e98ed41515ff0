-- Reading a manifest, line by line. Assumes nothing.
-- The shapes of a line are `module PATH`, `go WORD`, `require PATH VERSION` and `exclude PATH VERSION`. A verb other than module and go, with
-- an opening bracket as the second and last word, opens a block; in it lines have the shape without the verb, and a closing bracket alone
-- closes it. A bracket anywhere else is a wrong shape. Lines and blocks of any other verb are passed over, brackets apart.
use Rattle.std.specs.Prelude.{◌≡◌, ℕ, ◌+◌, ◌≤◌, Bool, true, false, cond, not, ◌&&◌, ◌||◌, List, [], ◌∷◌, ◌++◌, length, is_some, Some, None, Ok, Err, codes, Option, Result, ◌==◌, nat_le, nat_lt}
use Rattle.std.specs.Option.{option_map}
use Rattle.std.specs.Str.{bytes_eq}
use Rattle.rules.specs.Orders.{Bytes}
use Rattle.rules.specs.Texts.{every}
use Rattle.rules.specs.Paths.{is_path}
use Rattle.rules.specs.Versions.{is_version}
use Rattle.rules.specs.Names.{ModuleVersion, is_module_version, ◌∈◌}
use Rattle.rules.specs.Causes.{Cause, too_long, bad_byte, wrong_shape, bad_path, bad_version, module_line, row_too_many}
use Rattle.rules.specs.Lines.{lines, code, Word, text, opening, closing, words}

-- what a manifest's text says
pub record Manifest : Type 0 where
  pub main : Bytes
  pub requires : List ModuleVersion
  pub excludes : List ModuleVersion

-- what reading a text gave: a manifest, or a cause and the line it speaks of, 0 for the whole text
pub data Reading : Type 0 where
  manifest : Manifest → Reading
  unread : Cause → ℕ → Reading

-- ---- the shape of a line

pub data Verb : Type 0 where
  module_verb : Verb
  go_verb : Verb
  require_verb : Verb
  exclude_verb : Verb
  -- any other word
  other_verb : Verb

abbrev pub verb_of : Bytes → Verb
verb_of w =
    cond (bytes_eq w (codes "module")) module_verb
    (cond (bytes_eq w (codes "go")) go_verb
    (cond (bytes_eq w (codes "require")) require_verb
    (cond (bytes_eq w (codes "exclude")) exclude_verb other_verb)))

-- what a line asks for
pub data Directive : Type 0 where
  -- nothing: it has no words, or another verb
  passed : Directive
  names : Bytes → Directive
  go_version : Bytes → Directive
  requires_row : Bytes → Bytes → Directive
  excludes_row : Bytes → Bytes → Directive
  opens : Verb → Directive
  closes : Directive

abbrev pub single : (Bytes → Directive) → List Bytes → Option Directive
single make [] = None
single make (a ∷ []) = Some (make a)
single make (a ∷ b ∷ ts) = None

abbrev pub pair : (Bytes → Bytes → Directive) → List Bytes → Option Directive
pair make [] = None
pair make (a ∷ []) = None
pair make (a ∷ b ∷ []) = Some (make a b)
pair make (a ∷ b ∷ c ∷ ts) = None

-- the words behind a verb, or of a line in its block; none is a bracket
abbrev pub behind_verb : Verb → List Bytes → Option Directive
behind_verb module_verb ts = single names ts
behind_verb go_verb ts = single go_version ts
behind_verb require_verb ts = pair requires_row ts
behind_verb exclude_verb ts = pair excludes_row ts
behind_verb other_verb ts = Some passed

abbrev pub opens_block : Verb → Option Directive
opens_block module_verb = None
opens_block go_verb = None
opens_block require_verb = Some (opens require_verb)
opens_block exclude_verb = Some (opens exclude_verb)
opens_block other_verb = Some (opens other_verb)

-- words that are no brackets, as texts; nothing if there is a bracket among them
abbrev pub plain : List Word → Option (List Bytes)
plain [] = Some []
plain (text w ∷ ws) = option_map (λ ts. w ∷ ts) (plain ws)
plain (opening ∷ ws) = None
plain (closing ∷ ws) = None

-- the verb of a line that opens a block: a word, and then an opening bracket alone
abbrev pub lone_opening : List Word → Bool
lone_opening [] = false
lone_opening (text w ∷ ws) = false
lone_opening (opening ∷ []) = true
lone_opening (opening ∷ w ∷ ws) = false
lone_opening (closing ∷ ws) = false

abbrev pub opener : List Word → Option Bytes
opener [] = None
opener (text v ∷ ws) = cond (lone_opening ws) (Some v) None
opener (opening ∷ ws) = None
opener (closing ∷ ws) = None

abbrev pub lone_closing : List Word → Bool
lone_closing [] = false
lone_closing (text w ∷ ws) = false
lone_closing (opening ∷ ws) = false
lone_closing (closing ∷ []) = true
lone_closing (closing ∷ w ∷ ws) = false

-- a line outside blocks, none of its words a bracket
abbrev pub verb_line : Option (List Bytes) → Option Directive
verb_line None = None
verb_line (Some []) = Some passed
verb_line (Some (v ∷ ts)) = behind_verb (verb_of v) ts

-- a line in the block of a verb, none of its words a bracket
abbrev pub block_line : Verb → Option (List Bytes) → Option Directive
block_line verb None = None
block_line verb (Some []) = Some passed
block_line verb (Some (t ∷ ts)) = behind_verb verb (t ∷ ts)

abbrev pub outside_block : Option Bytes → List Word → Option Directive
outside_block (Some v) ws = opens_block (verb_of v)
outside_block None ws = verb_line (plain ws)

-- what a line asks for, outside blocks or in the block of a verb; nothing if its shape is wrong
abbrev pub directive : Option Verb → List Word → Option Directive
directive None ws = outside_block (opener ws) ws
directive (Some verb) ws = cond (lone_closing ws) (Some closes) (block_line verb (plain ws))

-- ---- what is read so far

pub record Progress : Type 0 where
  -- the verb of the block that is open
  pub block : Option Verb
  -- the module path, once it is read
  pub main : Option Bytes
  pub requires : List ModuleVersion
  pub excludes : List ModuleVersion

abbrev pub unbegun : Progress
unbegun = record { block = None; main = None; requires = []; excludes = [] }

abbrev pub with_block : Progress → Option Verb → Progress
with_block p b = record { block = b; main = p.main; requires = p.requires; excludes = p.excludes }

abbrev pub with_main : Progress → Bytes → Progress
with_main p m = record { block = p.block; main = Some m; requires = p.requires; excludes = p.excludes }

abbrev pub with_required : Progress → ModuleVersion → Progress
with_required p x = record { block = p.block; main = p.main; requires = p.requires ++ x ∷ []; excludes = p.excludes }

abbrev pub with_excluded : Progress → ModuleVersion → Progress
with_excluded p x = record { block = p.block; main = p.main; requires = p.requires; excludes = p.excludes ++ x ∷ [] }

-- the module line: its path is checked first, then that it is the only one
abbrev pub named : Progress → Bytes → Result Progress Cause
named p m = cond (is_path m) (cond (is_some p.main) (Err module_line) (Ok (with_main p m))) (Err bad_path)

-- a row: from left to right its path and its version are checked, then that there is room for one more
abbrev pub added : ℕ → List ModuleVersion → (ModuleVersion → Progress) → Bytes → Bytes → Result Progress Cause
added most rows next m v =
    cond (is_path m)
    (cond (is_version v) (cond (nat_lt (length rows) most) (Ok (next (record { path = m; version = v }))) (Err row_too_many)) (Err bad_version))
    (Err bad_path)

-- at most 32 exclude rows are read
abbrev pub obeyed : ℕ → Progress → Directive → Result Progress Cause
obeyed most p passed = Ok p
obeyed most p (names m) = named p m
obeyed most p (go_version w) = Ok p
obeyed most p (requires_row m v) = added most p.requires (with_required p) m v
obeyed most p (excludes_row m v) = added 32 p.excludes (with_excluded p) m v
obeyed most p (opens verb) = Ok (with_block p (Some verb))
obeyed most p closes = Ok (with_block p None)

abbrev pub shaped : ℕ → Progress → Option Directive → Result Progress Cause
shaped most p None = Err wrong_shape
shaped most p (Some d) = obeyed most p d

-- a byte that may stand outside comments: printable ASCII but for the double and the back quote, tab and carriage return
abbrev pub good_byte : ℕ → Bool
good_byte b = b == 9 || (b == 13 || (nat_le 32 b && (nat_le b 126 && not (b == 34 || b == 96))))

-- one line more
abbrev pub line_read : ℕ → Progress → Bytes → Result Progress Cause
line_read most p l = cond (every good_byte (code l)) (shaped most p (directive p.block (words (code l)))) (Err bad_byte)

-- at the end: no block may be open, and the module path must have been read
abbrev pub ended_main : Progress → Option Bytes → Reading
ended_main p None = unread module_line 0
ended_main p (Some m) = manifest (record { main = m; requires = p.requires; excludes = p.excludes })

abbrev pub ended_block : Progress → Option Verb → Reading
ended_block p (Some verb) = unread wrong_shape 0
ended_block p None = ended_main p p.main

abbrev pub at_end : Progress → Reading
at_end p = ended_block p p.block

-- what comes after line n
abbrev pub read_on : (Progress → Reading) → ℕ → Result Progress Cause → Reading
read_on next n (Err c) = unread c n
read_on next n (Ok p) = next p

-- the lines from the one behind line n on
abbrev pub lines_read : ℕ → ℕ → Progress → List Bytes → Reading
lines_read most n p [] = at_end p
lines_read most n p (l ∷ ls) = read_on (λ q. lines_read most (n + 1) q ls) (n + 1) (line_read most p l)

-- A whole text of at most 32,768 bytes, with at most so many require rows: 64 in a source, 256 in a project.
abbrev pub reading : ℕ → Bytes → Reading
reading most bs = cond (nat_le (length bs) 32768) (lines_read most 0 unbegun (lines bs)) (unread too_long 0)

-- ---- what is read is well formed, and what is written plainly is read back

-- the names of a manifest are well formed, and it has at most so many require rows and 32 exclude rows
pub record WellFormed (most : ℕ) (m : Manifest) : Type 0 where
  pub main : is_path m.main ≡ true
  pub requires : (x : ModuleVersion) → x ∈ m.requires → is_module_version x ≡ true
  pub excludes : (x : ModuleVersion) → x ∈ m.excludes → is_module_version x ≡ true
  pub require_rows : length m.requires ≤ most
  pub exclude_rows : length m.excludes ≤ 32

-- a verb, a space, what stands behind the verb, and a line feed
abbrev pub plain_line : Bytes → Bytes → Bytes
plain_line verb rest = verb ++ 32 ∷ (rest ++ 10 ∷ [])

abbrev pub row_lines : Bytes → List ModuleVersion → Bytes
row_lines verb [] = []
row_lines verb (x ∷ xs) = plain_line verb (x.path ++ 32 ∷ x.version) ++ row_lines verb xs

-- a manifest written plainly: the module line, a require line for each row, an exclude line for each row
abbrev pub written : Manifest → Bytes
written m = plain_line (codes "module") m.main ++ (row_lines (codes "require") m.requires ++ row_lines (codes "exclude") m.excludes)

-- THE READING: what a text is read to is well formed and within the bounds, and the text has at most 32,768 bytes. Every such manifest is read
-- back from its plain text, if that is short enough.
pub record ReadingsRight : Type 0 where
  pub well_formed : (most : ℕ) (bs : Bytes) (m : Manifest) → reading most bs ≡ manifest m → WellFormed most m × (length bs ≤ 32768)
  pub read_back : (most : ℕ) (m : Manifest) → WellFormed most m → length (written m) ≤ 32768 → reading most (written m) ≡ manifest m
