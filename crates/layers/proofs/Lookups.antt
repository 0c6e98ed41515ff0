-- In a table of exclusions a look-up finds what is among them, and nothing else. Assumes nothing.
use Rattle.std.proofs.Common.{◌≡◌, List, is_some, Some, None, Option, sym, refl, subst, ⊎_elim}
use Rattle.std.proofs.lemmas.Bool.{cases_Bool}
use Rattle.rules.specs.Names.{ModuleVersion, module_order, has, ◌∈◌}
use Rattle.rules.specs.Rows.{own, AscendingExclusions}
use Rattle.rules.specs.Tables.{lookup}
use Rattle.rules.proofs.Members.{has_from_member, member_from_has}
use Rattle.rules.proofs.Order.{module_versions}
use Rattle.rules.proofs.Tables.{lookup_some, lookup_none, map_ascending}
use Rattle.ordered.specs.Held.{held}
use Rattle.ordered.proofs.Ascents.{passed}
use Rattle.modules.specs.Rows.{row_names, row_order}
use Rattle.modules.specs.Tables.{exclusion_names}
use Rattle.modules.specs.declared.exclusions.Exclusions.{Exclusions}

pub lookup_has : (x : ModuleVersion) (es : List ModuleVersion) → AscendingExclusions es → is_some (lookup own module_order x es) ≡ has es x
lookup_has x es up = go (lookup own module_order x es) refl
  where
    go : (o : Option ModuleVersion) → lookup own module_order x es ≡ o → is_some o ≡ has es x
    go None e =
        let absent = (lookup_none own module_order module_versions x es up).0 e in
        ⊎_elim (λ t. absurd (absent x (member_from_has es x t) refl)) (λ t. sym t) (cases_Bool (has es x))
    go (Some y) e = let (there, at) = (lookup_some own module_order module_versions x es up y).0 e in sym (has_from_member es x (subst (λ z. z ∈ es) at there))

-- the table of exclusions ascends, by the names that it holds
pub names_ascend : (t : Exclusions) → AscendingExclusions (exclusion_names t)
names_ascend t = map_ascending own row_order own module_order row_names (λ a b. refl) (held t.table) (passed own row_order (held t.table) t.ascending)
