-- The value itself, also where it is checked anew. Assumes nothing.
use Rattle.std.proofs.Common.{rules, ◌≡◌, ℕ, Option, Some, None, Ok, ap, subst, arith}
use Rattle.std.specs.Option.{option_map, ok_or}
use Rattle.std.specs.Bool.{then_some}
use Rattle.names.specs.Canon.{same_formed}
use Rattle.names.specs.Formed.{plain_bytes}
use Rattle.names.specs.declared.grammar.Grammar.{Ghosts}
use Rattle.names.specs.declared.formed.Plain.{Plain}
use Rattle.names.specs.declared.formed.Formed.{Formed}
use Rattle.names.proofs.formed.FormedClone.clone.Goals as goal

checked : {G E : Type 0} {g : Ghosts G} (f : Formed G g) (o : Option (Formed G g)) (e : E) → option_map (λ x. x.plain) o ≡ then_some (g.formed (plain_bytes f.plain)) f.plain → ok_or o e ≡ Ok f
checked {G} {E} {g} f None e q =
    let z : ◌≡◌ {A = Option (Plain G)} None (Some f.plain) = subst (λ b. None ≡ then_some b f.plain) f.ok q in
    absurd (let y : ◌≡◌ {A = ℕ} 0 1 = cc in omega arith)
checked {G} {E} {g} f (Some x) e q =
    let z : ◌≡◌ {A = Option (Plain G)} (Some x.plain) (Some f.plain) = subst (λ b. Some x.plain ≡ then_some b f.plain) f.ok q in
    let p : x.plain ≡ f.plain = cc in
    ap Ok (same_formed x f (ap plain_bytes p))

pub returns : goal.returns
returns g c = search (rules, checked)
