-- A lower over the exclude layer of a project, from its rows but the exclusions, is the lower of the rules. Assumes nothing.
use Rattle.std.proofs.Common.{◌≡◌, List, Option, sym, ap, ◌∙◌}
use Rattle.rules.specs.Orders.{Bytes}
use Rattle.rules.specs.Names.{ModuleVersion}
use Rattle.rules.specs.Sources.{Meaning, included}
use Rattle.rules.specs.Projects.{State, view}
use Rattle.rules.specs.Slices.{Lent, Slices}
use Rattle.rules.specs.Calls.{lower, Reply, Outcome, does}
use Rattle.lowers.specs.Lowered.{lowers_from, state_after}
use Rattle.lowers.proofs.Ending.{lower_stands}

pub lower_is : (m : Meaning) (s t : State) (p v : Bytes) (n : Lent) (start : List ModuleVersion) (reply : Reply) (kept : Option (List ModuleVersion)) (slices : Slices)
    → start ≡ included s.exclusions s.rows → t ≡ state_after s kept
    → reply ≡ (lowers_from (view m s) start p v n).reply → kept ≡ (lowers_from (view m s) start p v n).kept → slices ≡ (lowers_from (view m s) start p v n).slices
    → ◌≡◌ {A = Outcome} (record { reply = reply; state = t; slices = slices }) (does m s (lower p v n))
unfolding does
lower_is m s t p v n start reply kept slices e same r k w =
    (λ i. record {
      reply = (r ∙ ap (λ xs. (lowers_from (view m s) xs p v n).reply) e) i;
      state = (same ∙ ap (state_after s) (k ∙ ap (λ xs. (lowers_from (view m s) xs p v n).kept) e)) i;
      slices = (w ∙ ap (λ xs. (lowers_from (view m s) xs p v n).slices) e) i;
    })
    ∙ sym (lower_stands m s p v n)
