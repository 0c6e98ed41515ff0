-- One call more: the law from its reply, its state and its slices. Assumes nothing.
use Rattle.std.proofs.Common.{◌≡◌, List, [], ◌∷◌, ◌++◌, refl, ap, ◌∙◌}
use Rattle.std.specs.List.{AllByRecursion}
use Rattle.rules.specs.Sources.{Meaning, Lawful}
use Rattle.rules.specs.Projects.{State}
use Rattle.rules.specs.Slices.{Slices}
use Rattle.rules.specs.Calls.{Call, Reply, does}
use Rattle.rules.specs.Runs.{after, fresh, InBounds}
use Rattle.rules.proofs.Runs.{runs_right}
use Rattle.rules.proofs.Changes.{changes_right}
use Rattle.rules.proofs.Tidy.{tidy_right}
use Rattle.runs.specs.Law.{leaves, LawAt, GoesOn}

-- one call more
pub after_more : (m : Meaning) (s : State) (calls : List Call) (c : Call) → (does m (after m s calls) c).state ≡ after m s (calls ++ c ∷ [])
after_more m s [] c = refl
after_more m s (d ∷ ds) c = after_more m (does m s d).state ds c

pub law_at : (m : Meaning) → Lawful m → (calls : List Call) → AllByRecursion InBounds calls → LawAt m calls
law_at m law calls b = record { right = runs_right m law calls; changes = changes_right m calls b; tidy = tidy_right m calls b }

-- the law, where the reply, the state and the slices are as the rules say
pub goes_on : (m : Meaning) → Lawful m → (s : State) (c : Call) (reply : Reply) (t : State) (before slices : Slices)
    → reply ≡ (does m s c).reply → t ≡ (does m s c).state → slices ≡ leaves m s c before
    → (calls : List Call) → s ≡ after m fresh calls → GoesOn m calls c reply t before slices
goes_on m law s c reply t before slices p q w calls e = record {
  replied = p ∙ ap (λ (u : State). (does m u c).reply) e;
  changed = q ∙ ap (λ (u : State). (does m u c).state) e ∙ after_more m fresh calls c;
  written = w ∙ ap (λ (u : State). leaves m u c before) e;
  right = runs_right m law calls;
  law = law_at m law calls;
}
