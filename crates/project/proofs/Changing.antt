-- What a table answers to a row that is raised or excluded, told as an outcome of the rules. Assumes nothing.
use Rattle.std.proofs.Common.{◌≡◌, ℕ, Bool, true, false, cond, leb, List, length, is_ok, Some, None, Ok, Err, Option, Result, refl, ap, ap₂, arith}
use Rattle.std.specs.Ordering.{is_le}
use Rattle.rules.specs.Names.{ModuleVersion, has}
use Rattle.rules.specs.Versions.{version_order}
use Rattle.rules.specs.Rows.{row_of, with_row, with_exclusion}
use Rattle.rules.specs.Causes.{table_full, nothing_to_change}
use Rattle.causes.specs.declared.cause.Cause as C
use Rattle.causes.specs.declared.cause.Cause.TheVariants.{TableFull, NothingToChange}
use Rattle.causes.specs.Told.{cause_of}
use Rattle.layers.specs.Excluded.{exclusion_told}
use Rattle.rules.specs.Projects.{State, with_rows, with_exclusions}
use Rattle.rules.specs.Calls.{Outcome, accepts, refuses, refusal_for, raised, excluded}
use Rattle.modules.specs.Raised.{raise_told_by, raise_told}
use Rattle.modules.specs.declared.requirements.raises.NotRaised.{NotRaised}
use Rattle.modules.specs.declared.requirements.raises.NotRaised.TheVariants.{NotHigher, NoRoom}
use Rattle.project.specs.Raises.{raise_cause}

-- the outcome of a raise that leaves the rows `rows`
abbrev pub raise_outcome : State → List ModuleVersion → Result (Unit {0}) NotRaised → Outcome
raise_outcome s rows (Ok u) = accepts (with_rows s rows)
raise_outcome s rows (Err n) = refuses (with_rows s rows) (refusal_for (raise_cause n))

pub raise_right : (s : State) (x : ModuleVersion) (rows : List ModuleVersion) (r : Result (Unit {0}) NotRaised)
    → r ≡ raise_told s.rows x → (is_ok r ≡ true → rows ≡ with_row x s.rows) → (is_ok r ≡ false → rows ≡ s.rows)
    → raise_outcome s rows r ≡ raised s x (row_of x.path s.rows)
raise_right s x rows r e after refused = go (row_of x.path s.rows) r e after refused
  where
    by_test : (b : Bool) (n : NotRaised) (r : Result (Unit {0}) NotRaised) → r ≡ cond b (Err n) (Ok (tt {0})) → (is_ok r ≡ true → rows ≡ with_row x s.rows) → (is_ok r ≡ false → rows ≡ s.rows)
        → raise_outcome s rows r ≡ cond b (refuses s (refusal_for (raise_cause n))) (accepts (with_rows s (with_row x s.rows)))
    by_test true n (Ok u) q a f = let z : ◌≡◌ {A = ℕ} 0 1 = cc in absurd (omega arith)
    by_test true n (Err k) q a f = let same : k ≡ n = cc in ap₂ (λ t c. refuses (with_rows s t) (refusal_for (raise_cause c))) (f refl) same
    by_test false n (Ok u) q a f = ap (λ t. accepts (with_rows s t)) (a refl)
    by_test false n (Err k) q a f = let z : ◌≡◌ {A = ℕ} 0 1 = cc in absurd (omega arith)

    go : (o : Option ModuleVersion) (r : Result (Unit {0}) NotRaised) → r ≡ raise_told_by o s.rows x → (is_ok r ≡ true → rows ≡ with_row x s.rows) → (is_ok r ≡ false → rows ≡ s.rows)
        → raise_outcome s rows r ≡ raised s x o
    go (Some y) r q a f = by_test (is_le (version_order x.version y.version)) NotHigher r q a f
    go None r q a f = by_test (leb 256 (length s.rows)) NoRoom r q a f

-- the outcome of an exclude that leaves the exclusions `es`
abbrev pub exclude_outcome : State → List ModuleVersion → Result (Unit {0}) C.Cause → Outcome
exclude_outcome s es (Ok u) = accepts (with_exclusions s es)
exclude_outcome s es (Err c) = refuses (with_exclusions s es) (refusal_for (cause_of c))

pub exclude_right : (s : State) (x : ModuleVersion) (es : List ModuleVersion) (r : Result (Unit {0}) C.Cause)
    → r ≡ exclusion_told s.exclusions x → (is_ok r ≡ true → es ≡ with_exclusion x s.exclusions) → (is_ok r ≡ false → es ≡ s.exclusions)
    → exclude_outcome s es r ≡ excluded s x
exclude_right s x es = by_present (has s.exclusions x)
  where
    more : Outcome
    more = accepts (with_exclusions s (with_exclusion x s.exclusions))

    by_room : (b : Bool) (r : Result (Unit {0}) C.Cause) → r ≡ cond b (Err TableFull) (Ok (tt {0})) → (is_ok r ≡ true → es ≡ with_exclusion x s.exclusions) → (is_ok r ≡ false → es ≡ s.exclusions)
        → exclude_outcome s es r ≡ cond b (refuses s (refusal_for table_full)) more
    by_room true (Ok u) q a f = let z : ◌≡◌ {A = ℕ} 0 1 = cc in absurd (omega arith)
    by_room true (Err k) q a f = let same : k ≡ TableFull = cc in ap₂ (λ t c. refuses (with_exclusions s t) (refusal_for (cause_of c))) (f refl) same
    by_room false (Ok u) q a f = ap (λ t. accepts (with_exclusions s t)) (a refl)
    by_room false (Err k) q a f = let z : ◌≡◌ {A = ℕ} 0 1 = cc in absurd (omega arith)

    full : Bool
    full = leb 32 (length s.exclusions)

    by_present : (b : Bool) (r : Result (Unit {0}) C.Cause) → r ≡ cond b (Err NothingToChange) (cond full (Err TableFull) (Ok (tt {0}))) → (is_ok r ≡ true → es ≡ with_exclusion x s.exclusions) → (is_ok r ≡ false → es ≡ s.exclusions)
        → exclude_outcome s es r ≡ cond b (refuses s (refusal_for nothing_to_change)) (cond full (refuses s (refusal_for table_full)) more)
    by_present true (Ok u) q a f = let z : ◌≡◌ {A = ℕ} 0 1 = cc in absurd (omega arith)
    by_present true (Err k) q a f = let same : k ≡ NothingToChange = cc in ap₂ (λ t c. refuses (with_exclusions s t) (refusal_for (cause_of c))) (f refl) same
    by_present false r q a f = by_room full r q a f
