-- The pieces of a text, from the first of them and what ends it. Assumes nothing.
use Rattle.std.proofs.Common.{◌≡◌, ℕ, Bool, true, not, eqb, List, [], ◌∷◌, ◌++◌, refl, ap, ◌∙◌, arith}
use Rattle.std.proofs.lemmas.Bool.{and_from, cond-false, not-true}
use Rattle.std.proofs.lemmas.Bool.Decides.{nat_tests}
use Rattle.rules.specs.Orders.{Bytes}
use Rattle.rules.specs.Texts.{dash, dot, every, begun, pieces}
use Rattle.rules.specs.Versions.{before_dash, behind_dash}
use Rattle.rules.proofs.Precedence.{every_head}
use Rattle.versions.specs.declared.pieces.Part.TheVariants.{Numbers, Identifiers}
use Rattle.versions.specs.declared.pieces.End.{End}
use Rattle.versions.specs.declared.pieces.End.TheVariants.{Dot, Dash, Last}
use Rattle.versions.specs.Cuts.{within, ending, EndsSo, Begins}

-- ---- a first piece without the byte that ends it

abbrev Lacks : ℕ → Bytes → Type 0
Lacks c p = every (λ b. not (eqb b c)) p ≡ true

pieces_first : (p s : Bytes) (qs : List Bytes) → Lacks dot p → pieces dot s ≡ [] ∷ qs → pieces dot (p ++ s) ≡ p ∷ qs
pieces_first [] s qs t e = e
pieces_first (b ∷ p) s qs t e =
    let (tb, ts) = every_head (λ c. not (eqb c dot)) b p t in
    cond-false (eqb b dot) ([] ∷ pieces dot (p ++ s)) (begun b (pieces dot (p ++ s))) (not-true (eqb b dot) tb) ∙ ap (begun b) (pieces_first p s qs ts e)

before_first : (p s : Bytes) → Lacks dash p → before_dash (p ++ s) ≡ p ++ before_dash s
before_first [] s t = refl
before_first (b ∷ p) s t =
    let (tb, ts) = every_head (λ c. not (eqb c dash)) b p t in
    cond-false (eqb b dash) [] (b ∷ before_dash (p ++ s)) (not-true (eqb b dash) tb) ∙ ap (λ r. b ∷ r) (before_first p s ts)

behind_first : (p s : Bytes) → Lacks dash p → behind_dash (p ++ s) ≡ behind_dash s
behind_first [] s t = refl
behind_first (b ∷ p) s t =
    let (tb, ts) = every_head (λ c. not (eqb c dash)) b p t in
    cond-false (eqb b dash) (pieces dot (p ++ s)) (behind_dash (p ++ s)) (not-true (eqb b dash) tb) ∙ behind_first p s ts

every_weaker : (f g : ℕ → Bool) → ((b : ℕ) → f b ≡ true → g b ≡ true) → (p : Bytes) → every f p ≡ true → every g p ≡ true
every_weaker f g h [] t = refl
every_weaker f g h (b ∷ p) t = let (tb, ts) = every_head f b p t in and_from (g b) (every g p) (h b tb) (every_weaker f g h p ts)

lacks_dot : (p : Bytes) → every (within Numbers) p ≡ true → Lacks dot p
lacks_dot = every_weaker (within Numbers) (λ b. not (eqb b dot)) (λ b t. grind (arith, nat_tests))

lacks_dash : (p : Bytes) → every (within Numbers) p ≡ true → Lacks dash p
lacks_dash = every_weaker (within Numbers) (λ b. not (eqb b dash)) (λ b t. grind (arith, nat_tests))

-- ---- what follows a piece

-- the numbers and the identifiers behind a number
abbrev pub numbers_behind : End → Bytes → List Bytes
numbers_behind Dash rest = []
numbers_behind Last rest = []
numbers_behind Dot rest = pieces dot (before_dash rest)

abbrev pub identifiers_behind : End → Bytes → List Bytes
identifiers_behind Dash rest = pieces dot rest
identifiers_behind Last rest = []
identifiers_behind Dot rest = behind_dash rest

-- the identifiers behind an identifier, which no dash ends
abbrev pub more_behind : End → Bytes → List Bytes
more_behind Dash rest = []
more_behind Last rest = []
more_behind Dot rest = pieces dot rest

module _ (text p : Bytes) (e : End) (rest : Bytes) where
  pub numbers_first : Begins Numbers text p e rest → pieces dot (before_dash text) ≡ p ∷ numbers_behind e rest
  numbers_first h =
      ap (λ s. pieces dot (before_dash s)) h.whole
      ∙ ap (pieces dot) (before_first p (ending e rest) (lacks_dash p h.inside))
      ∙ pieces_first p (before_dash (ending e rest)) (numbers_behind e rest) (lacks_dot p h.inside) (behind e h.so)
    where
      behind : (f : End) → EndsSo Numbers f rest → pieces dot (before_dash (ending f rest)) ≡ [] ∷ numbers_behind f rest
      behind Dash so = refl
      behind Last so = ap (λ s. pieces dot (before_dash s)) so
      behind Dot so = refl

  pub identifiers_first : Begins Numbers text p e rest → behind_dash text ≡ identifiers_behind e rest
  identifiers_first h = ap behind_dash h.whole ∙ behind_first p (ending e rest) (lacks_dash p h.inside) ∙ behind e h.so
    where
      behind : (f : End) → EndsSo Numbers f rest → behind_dash (ending f rest) ≡ identifiers_behind f rest
      behind Dash so = refl
      behind Last so = ap behind_dash so
      behind Dot so = refl

  pub more_first : Begins Identifiers text p e rest → pieces dot text ≡ p ∷ more_behind e rest
  more_first h = ap (pieces dot) h.whole ∙ pieces_first p (ending e rest) (more_behind e rest) h.inside (behind e h.so)
    where
      behind : (f : End) → EndsSo Identifiers f rest → pieces dot (ending f rest) ≡ [] ∷ more_behind f rest
      behind Dash so = absurd so
      behind Last so = ap (pieces dot) so
      behind Dot so = refl
