-- A list over the exclude layer of a project, from its rows but the exclusions, is the list of the rules. Assumes nothing.
use Rattle.std.proofs.Common.{◌≡◌, Bool, true, false, cond, List, [], sym, refl, ap, ◌∙◌}
use Rattle.rules.specs.Names.{ModuleVersion}
use Rattle.rules.specs.Causes.{slice_too_short}
use Rattle.rules.specs.Sources.{Meaning, included}
use Rattle.rules.specs.Projects.{State, view}
use Rattle.rules.specs.Slices.{Lent, long_enough, Slices, holding}
use Rattle.rules.specs.Calls.{list, Reply, refused, Outcome, refusal_for, if_long_enough, lists, does}
use Rattle.walks.specs.Listed.{Listed, lists_from}
use Rattle.walks.proofs.Listing.{list_right}

-- a list changes no state
keeps : (m : Meaning) (s : State) (n : Lent) → (if_long_enough n s (lists m s n)).state ≡ s
keeps m s n = go (long_enough n)
  where
    go : (b : Bool) → (cond b (lists m s n) (record { reply = refused (refusal_for slice_too_short); state = s; slices = holding n [] [] })).state ≡ s
    go true = refl
    go false = refl

pub list_is : (m : Meaning) (s t : State) (n : Lent) (start : List ModuleVersion) (reply : Reply) (slices : Slices)
    → start ≡ included s.exclusions s.rows → t ≡ s → reply ≡ (lists_from (view m s) start n).reply → slices ≡ (lists_from (view m s) start n).slices
    → ◌≡◌ {A = Outcome} (record { reply = reply; state = t; slices = slices }) (does m s (list n))
unfolding does
list_is m s t n start reply slices e same p q i = record {
  reply = (p ∙ ap (λ xs. (lists_from (view m s) xs n).reply) e ∙ ap (λ (l : Listed). l.reply) (list_right m s n)) i;
  state = (same ∙ sym (keeps m s n)) i;
  slices = (q ∙ ap (λ xs. (lists_from (view m s) xs n).slices) e ∙ ap (λ (l : Listed). l.slices) (list_right m s n)) i;
}
