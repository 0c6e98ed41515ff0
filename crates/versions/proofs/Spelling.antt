-- A piece that is a number, or a word, as an identifier. Assumes nothing.
use Rattle.std.proofs.Common.{◌≡◌, Bool, true, false, cond, refl}
use Rattle.std.proofs.lemmas.Bool.{cond-true, both_ways}
use Rattle.rules.specs.Orders.{Bytes}
use Rattle.rules.specs.Texts.{digit, every}
use Rattle.rules.specs.Versions.{is_number, is_identifier, value, numeric, word, identifier}
use Rattle.rules.proofs.Precedence.{number_digits, identifier_number}

pub as_number : (p : Bytes) → is_number p ≡ true → identifier p ≡ numeric (value 0 p)
as_number p t = cond-true (every digit p) (numeric (value 0 p)) (word p) (number_digits p t)

pub as_word : (p : Bytes) → is_identifier p ≡ true → is_number p ≡ false → identifier p ≡ word p
as_word p t n = go (every digit p) refl
  where
    go : (d : Bool) → every digit p ≡ d → cond d (numeric (value 0 p)) (word p) ≡ word p
    go true e = absurd (both_ways (is_number p) n (identifier_number p t e))
    go false e = refl
