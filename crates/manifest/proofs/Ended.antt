-- What the lines make in the end. Assumes nothing.
use Rattle.std.proofs.Common.{◌≡◌, ℕ, List, [], length, IfOk, Some, None, Ok, Err, Option, Result, sym, refl, ap, ◌∙◌, ap₂, arith}
use Rattle.std.specs.Option.{option_map}
use Rattle.rules.specs.Orders.{Bytes}
use Rattle.rules.specs.Names.{ModuleVersion}
use Rattle.rules.specs.Causes as R
use Rattle.rules.specs.Manifests as M
use Rattle.causes.specs.declared.refusal.Refusal.{Refusal}
use Rattle.rules.specs.Slices.{blank, filled}
use Rattle.names.specs.Paths.{path_bytes}
use Rattle.modules.specs.declared.rows.Row.{Row}
use Rattle.lexer.specs.Told.{verb_told}
use Rattle.manifest.specs.declared.kinds.Manifest.{Manifest}
use Rattle.manifest.specs.declared.kinds.Progress.{Progress}
use Rattle.manifest.specs.declared.rows.RowsRead.{RowsRead}
use Rattle.manifest.specs.Holds.{names_in, names_read, Left}
use Rattle.manifest.specs.Rows.{rows_read}
use Rattle.manifest.specs.Views.{view}
use Rattle.manifest.proofs.Held.{names_long, filled_up}
use Rattle.manifest.specs.Outcomes.{Counts, outcome, counted, require_rows, exclude_rows, reading_told, finish_of}

-- counts and rows are those of what is told
abbrev counts_of : Result M.Manifest R.Refusal → Result Counts R.Refusal
counts_of (Ok m) = Ok (record { main = m.main; required = length m.requires; excluded = length m.excludes })
counts_of (Err f) = Err f

abbrev requires_of : Result M.Manifest R.Refusal → List ModuleVersion
requires_of (Ok m) = m.requires
requires_of (Err f) = []

abbrev excludes_of : Result M.Manifest R.Refusal → List ModuleVersion
excludes_of (Ok m) = m.excludes
excludes_of (Err f) = []

told_counts : (x : M.Reading) → counted x ≡ counts_of (reading_told x)
told_counts (M.manifest m) = refl
told_counts (M.unread c n) = refl

told_requires : (x : M.Reading) → require_rows x ≡ requires_of (reading_told x)
told_requires (M.manifest m) = refl
told_requires (M.unread c n) = refl

told_excludes : (x : M.Reading) → exclude_rows x ≡ excludes_of (reading_told x)
told_excludes (M.manifest m) = refl
told_excludes (M.unread c n) = refl

module _ (x y : M.Reading) (e : reading_told x ≡ reading_told y) where
  pub same_counts : counted x ≡ counted y
  same_counts = told_counts x ∙ ap counts_of e ∙ sym (told_counts y)

  pub same_requires : require_rows x ≡ require_rows y
  same_requires = told_requires x ∙ ap requires_of e ∙ sym (told_requires y)

  pub same_excludes : exclude_rows x ≡ exclude_rows y
  same_excludes = told_excludes x ∙ ap excludes_of e ∙ sym (told_excludes y)

abbrev so_far : Option M.Verb → Option Bytes → List ModuleVersion → List ModuleVersion → M.Progress
so_far block main xs ys = record { block = block; main = main; requires = xs; excludes = ys }

-- nothing is read
pub none_read : (required excluded : RowsRead) → required.count ≡ 0 → excluded.count ≡ 0 → view (record { block = None; main = None }) required excluded ≡ M.unbegun
none_read required excluded a b i = so_far None None (names_read (a i) required.rows.now) (names_read (b i) excluded.rows.now)

-- what is finished has the counts of its rows
pub finished : (block : Option M.Verb) (main : Option Bytes) (xs ys : List ModuleVersion) (n k : ℕ) → length xs ≡ n → length ys ≡ k
    → finish_of block main n k ≡ counted (M.at_end (so_far block main xs ys))
finished (Some v) main xs ys n k a b = refl
finished None None xs ys n k a b = refl
finished None (Some m) xs ys n k a b = λ i. Ok (record { main = m; required = sym a i; excluded = sym b i })

-- and has its rows, if it is not refused
pub rows_left : (r : Result Manifest Refusal) (block : Option M.Verb) (main : Option Bytes) (xs ys : List ModuleVersion)
    → outcome r ≡ counted (M.at_end (so_far block main xs ys))
    → IfOk r (λ _. (require_rows (M.at_end (so_far block main xs ys)) ≡ xs) × (exclude_rows (M.at_end (so_far block main xs ys)) ≡ ys))
rows_left (Err f) block main xs ys e = tt
rows_left (Ok m) (Some v) main xs ys e = let z : ◌≡◌ {A = ℕ} 0 1 = cc in absurd (omega arith)
rows_left (Ok m) None None xs ys e = let z : ◌≡◌ {A = ℕ} 0 1 = cc in absurd (omega arith)
rows_left (Ok m) None (Some p) xs ys e = (refl, refl)

pub made_on : {A E P Q : Type 0} (r : Result A E) → (P → Q) → IfOk r (λ _. P) → IfOk r (λ _. Q)
made_on (Ok a) f h = f h
made_on (Err b) f h = tt

-- the lines are read to p and these rows, what they make is r, and all of them make `all`
module _ (p : Progress) (required excluded : RowsRead) (r : Result Manifest Refusal) (all : M.Reading)
    (same : reading_told (M.at_end (view p required excluded)) ≡ reading_told all)
    (told : outcome r ≡ finish_of (option_map verb_told p.block) (option_map path_bytes p.main) required.count excluded.count) where
  abbrev block : Option M.Verb
  block = option_map verb_told p.block

  abbrev main : Option Bytes
  main = option_map path_bytes p.main

  abbrev end : M.Reading
  end = M.at_end (view p required excluded)

  counts : outcome r ≡ counted end
  counts =
      told ∙ finished block main (rows_read required) (rows_read excluded) required.count excluded.count
      (names_long required.most required.count required.rows.now required.holds) (names_long excluded.most excluded.count excluded.rows.now excluded.holds)

  pub end_counted : outcome r ≡ counted all
  end_counted = counts ∙ same_counts end all same

  left_by : (q : RowsRead) (was after : List Row) (xs : List ModuleVersion) → after ≡ q.rows.now → length q.rows.now ≡ length was → rows_read q ≡ xs → Left was after xs
  left_by q was after xs e n k = ap names_in e ∙ filled_up q.most q.count q.rows.now q.holds ∙ ap₂ (filled blank) n k

  pub end_left : (was_required was_excluded left_required left_excluded : List Row) → left_required ≡ required.rows.now → left_excluded ≡ excluded.rows.now
      → length required.rows.now ≡ length was_required → length excluded.rows.now ≡ length was_excluded
      → IfOk r (λ _. Left was_required left_required (require_rows all) × Left was_excluded left_excluded (exclude_rows all))
  end_left was_required was_excluded left_required left_excluded a b n k =
      made_on r (λ l. (
        left_by required was_required left_required (require_rows all) a n (sym l.0 ∙ same_requires end all same),
        left_by excluded was_excluded left_excluded (exclude_rows all) b k (sym l.1 ∙ same_excludes end all same),
      )) (rows_left r block main (rows_read required) (rows_read excluded) counts)
