-- Texts of numbers and identifiers, from the first number on. Assumes nothing.
use Rattle.std.proofs.Common.{◌≡◌, ℕ, suc, Bool, true, false, ◌&&◌, eqb, List, ◌∷◌, length, refl, ap, ◌∙◌, ap₂, arith}
use Rattle.std.proofs.lemmas.Bool.{and_left}
use Rattle.std.proofs.lemmas.Bool.Decides.{nat_tests}
use Rattle.rules.specs.Orders.{Bytes}
use Rattle.rules.specs.Texts.{dot, every, pieces}
use Rattle.rules.specs.Versions.{is_number, is_identifier, before_dash, behind_dash}
use Rattle.rules.proofs.Precedence.{pieces_some}
use Rattle.versions.specs.declared.pieces.Part.TheVariants.{Numbers, Identifiers}
use Rattle.versions.specs.declared.pieces.End.{End}
use Rattle.versions.specs.declared.pieces.End.TheVariants.{Dash, Last, Dot}
use Rattle.versions.specs.Cuts.{Begins}
use Rattle.versions.specs.Releases.{releases}
use Rattle.versions.proofs.Steps.{numbers_behind, identifiers_behind, more_behind, numbers_first, identifiers_first, more_first}

-- a number, so many more behind it, and identifiers
abbrev told : ℕ → Bool → List Bytes → List Bytes → Bool
told n number ns is = (eqb (suc (length ns)) n && (number && every is_number ns)) && every is_identifier is

module _ (text p : Bytes) (e : End) (rest : Bytes) (h : Begins Numbers text p e rest) where
  releases_told : (n : ℕ) → releases n text ≡ told n (is_number p) (numbers_behind e rest) (identifiers_behind e rest)
  releases_told n =
      ap₂ (λ ns is. (eqb (length ns) n && every is_number ns) && every is_identifier is) (numbers_first text p e rest h) (identifiers_first text p e rest h)

  number_told : is_number p ≡ true → (f : End) → e ≡ f → (n : ℕ) → releases n text ≡ told n true (numbers_behind f rest) (identifiers_behind f rest)
  number_told t f q n = releases_told n ∙ ap₂ (λ u g. told n u (numbers_behind g rest) (identifiers_behind g rest)) t q

  pub no_number : is_number p ≡ false → (n : ℕ) → releases n text ≡ false
  no_number t n = releases_told n ∙ ap (λ u. told n u (numbers_behind e rest) (identifiers_behind e rest)) t ∙ grind arith

  pub number_dot : is_number p ≡ true → e ≡ Dot → (n : ℕ) → releases (suc n) text ≡ releases n rest
  number_dot t q n =
      number_told t Dot q (suc n)
      ∙ ap (λ u. (u && every is_number (pieces dot (before_dash rest))) && every is_identifier (behind_dash rest)) (step (length (pieces dot (before_dash rest))))
    where
      step : (m : ℕ) → eqb (suc m) (suc n) ≡ eqb m n
      step m = grind (arith, nat_tests)

  pub last_dash : is_number p ≡ true → e ≡ Dash → releases 1 text ≡ every is_identifier (pieces dot rest)
  last_dash t q = number_told t Dash q 1

  pub last_over : is_number p ≡ true → e ≡ Last → releases 1 text ≡ true
  last_over t q = number_told t Last q 1

  pub last_dot : is_number p ≡ true → e ≡ Dot → releases 1 text ≡ false
  last_dot t q = number_told t Dot q 1 ∙ go (pieces_some (before_dash rest))
    where
      go : (x : Bytes) × (xs : List Bytes) × (pieces dot (before_dash rest) ≡ x ∷ xs) → told 1 true (pieces dot (before_dash rest)) (behind_dash rest) ≡ false
      go (x, xs, r) = ap (λ ns. told 1 true ns (behind_dash rest)) r ∙ grind (arith, nat_tests)

  pub number_alone : (is_number p ≡ true → e ≡ Dot → ⊥) → (n : ℕ) → releases (suc (suc n)) text ≡ false
  number_alone other n = go (is_number p) refl e refl
    where
      go : (b : Bool) → is_number p ≡ b → (f : End) → e ≡ f → releases (suc (suc n)) text ≡ false
      go false t f q = no_number t (suc (suc n))
      go true t Dash q = number_told t Dash q (suc (suc n)) ∙ grind (arith, nat_tests)
      go true t Last q = number_told t Last q (suc (suc n)) ∙ grind (arith, nat_tests)
      go true t Dot q = absurd (other t q)

module _ (text p : Bytes) (e : End) (rest : Bytes) (h : Begins Identifiers text p e rest) where
  identifiers_told : every is_identifier (pieces dot text) ≡ (is_identifier p && every is_identifier (more_behind e rest))
  identifiers_told = ap (every is_identifier) (more_first text p e rest h)

  pub no_identifier : is_identifier p ≡ false → every is_identifier (pieces dot text) ≡ false
  no_identifier t = identifiers_told ∙ and_left (is_identifier p) (every is_identifier (more_behind e rest)) t

  identifier_told : is_identifier p ≡ true → (f : End) → e ≡ f → every is_identifier (pieces dot text) ≡ every is_identifier (more_behind f rest)
  identifier_told t f q = identifiers_told ∙ ap₂ (λ u g. u && every is_identifier (more_behind g rest)) t q

  pub identifier_dot : is_identifier p ≡ true → e ≡ Dot → every is_identifier (pieces dot text) ≡ every is_identifier (pieces dot rest)
  identifier_dot t q = identifier_told t Dot q

  pub identifier_over : is_identifier p ≡ true → (e ≡ Dot → ⊥) → every is_identifier (pieces dot text) ≡ true
  identifier_over t other = go e refl
    where
      go : (f : End) → e ≡ f → every is_identifier (pieces dot text) ≡ true
      go Dash q = identifier_told t Dash q
      go Last q = identifier_told t Last q
      go Dot q = absurd (other q)
