-- What load, raise, drop and exclude do to the tables, said by what the tables hold and not by how it is computed; what they leave as it was; and
-- when they are accepted and refused, which is exactly when no refusal applies and exactly when that one does. Assumes nothing.
use Rattle.std.specs.Prelude.{◌≡◌, ℕ, ◌<◌, ◌≤◌, ◌⊎◌, ◌↔◌, List, length, ◌≢◌}
use Rattle.std.specs.List.{AllByRecursion}
use Rattle.rules.specs.Orders.{Bytes}
use Rattle.rules.specs.Names.{ModuleVersion, Stands, ◌∈◌}
use Rattle.rules.specs.Rows.{NoRow}
use Rattle.rules.specs.Causes.{Cause, table_full, nothing_to_change}
use Rattle.rules.specs.Sources.{Meaning}
use Rattle.rules.specs.Projects.{State, OnlyRowsChange, OnlyExclusionsChange}
use Rattle.rules.specs.Lists.{NowhereAbove}
use Rattle.rules.specs.Manifests.{Manifest, manifest, unread}
use Rattle.rules.specs.Calls.{Call, load, raise, drop, exclude, accepted, refused, Outcome, refusal_for, does}
use Rattle.rules.specs.Runs.{after, fresh, InBounds}

abbrev pub Accepted : Outcome → Type 0
Accepted o = o.reply ≡ accepted

abbrev pub RefusedWith : Cause → Outcome → Type 0
RefusedWith c o = o.reply ≡ refused (refusal_for c)

pub record Changes (m : Meaning) (s : State) : Type 0 where
  -- a manifest that is loaded: its main path, of each path the highest of its rows, and its exclusions
  pub load_accepted : (t : Manifest) → Accepted (does m s (load (manifest t)))
  pub load_main : (t : Manifest) → (does m s (load (manifest t))).state.main ≡ t.main
  pub load_rows : (t : Manifest) (y : ModuleVersion) → y ∈ (does m s (load (manifest t))).state.rows → y ∈ t.requires
  pub load_highest : (t : Manifest) → NowhereAbove t.requires (does m s (load (manifest t))).state.rows
  pub load_exclusions : (t : Manifest) (y : ModuleVersion) → y ∈ (does m s (load (manifest t))).state.exclusions ↔ y ∈ t.excludes
  -- a text that was not read: its own refusal
  pub load_unread : (c : Cause) (line : ℕ) → (does m s (load (unread c line))).reply ≡ refused (record { cause = c; place = line; depth = 0; sheet_place = 0 })
  -- a raise sets the row of its path, and leaves the rest as it was; it is accepted if the row is not yet that high and, if it is new, has room
  pub raise_rows : (x : ModuleVersion) → Accepted (does m s (raise x)) → (y : ModuleVersion) → y ∈ (does m s (raise x)).state.rows ↔ ((y ≡ x) ⊎ ((y ∈ s.rows) × (y.path ≢ x.path)))
  pub raise_not_higher : (x : ModuleVersion) → RefusedWith nothing_to_change (does m s (raise x)) ↔ Stands x s.rows
  pub raise_table_full : (x : ModuleVersion) → RefusedWith table_full (does m s (raise x)) ↔ (NoRow x.path s.rows × (256 ≤ length s.rows))
  pub raise_rest : (x : ModuleVersion) → OnlyRowsChange s (does m s (raise x)).state
  pub raise_accepted : (x : ModuleVersion) → Accepted (does m s (raise x)) ↔ ((Stands x s.rows → ⊥) × (NoRow x.path s.rows → length s.rows < 256))
  -- a drop takes the row of its path out, if there is one
  pub drop_rows : (p : Bytes) → Accepted (does m s (drop p)) → (y : ModuleVersion) → y ∈ (does m s (drop p)).state.rows ↔ ((y ∈ s.rows) × (y.path ≢ p))
  pub drop_no_row : (p : Bytes) → RefusedWith nothing_to_change (does m s (drop p)) ↔ NoRow p s.rows
  pub drop_rest : (p : Bytes) → OnlyRowsChange s (does m s (drop p)).state
  pub drop_accepted : (p : Bytes) → Accepted (does m s (drop p)) ↔ (NoRow p s.rows → ⊥)
  -- an exclude adds an exclusion, if it is not there and there is room
  pub exclude_exclusions : (x : ModuleVersion) → Accepted (does m s (exclude x)) → (y : ModuleVersion) → y ∈ (does m s (exclude x)).state.exclusions ↔ ((y ≡ x) ⊎ (y ∈ s.exclusions))
  pub exclude_present : (x : ModuleVersion) → RefusedWith nothing_to_change (does m s (exclude x)) ↔ x ∈ s.exclusions
  pub exclude_table_full : (x : ModuleVersion) → RefusedWith table_full (does m s (exclude x)) ↔ ((x ∈ s.exclusions → ⊥) × (32 ≤ length s.exclusions))
  pub exclude_rest : (x : ModuleVersion) → OnlyExclusionsChange s (does m s (exclude x)).state
  pub exclude_accepted : (x : ModuleVersion) → Accepted (does m s (exclude x)) ↔ ((x ∈ s.exclusions → ⊥) × (length s.exclusions < 32))

-- THE CHANGES: so it is after every run whose manifests are in bounds.
abbrev pub ChangesRight : Type 0
ChangesRight = (m : Meaning) (calls : List Call) → AllByRecursion InBounds calls → Changes m (after m fresh calls)
