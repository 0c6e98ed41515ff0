-- Texts that need not be versions: how they stand, and which is newer. Assumes nothing.
use Rattle.std.proofs.Common.{◌≡◌, true, false, Some, None, Option, Greater, sym, refl, ap, ◌∙◌, ap₂}
use Rattle.std.specs.Ordering.{is_lt, ordering_reverse}
use Rattle.rules.specs.Orders.{Bytes, dictionary, none_first}
use Rattle.rules.specs.Versions.{Parts, is_version, parts, parted, precedence, version_order, is_newer}
use Rattle.rules.proofs.Order.{versions, no_version_below}
use Rattle.rules.proofs.Precedence.{precede}

pub version_above : (a b : Bytes) → is_version a ≡ true → is_version b ≡ false → version_order a b ≡ Greater
version_above a b t f = versions.back b a ∙ ap ordering_reverse (no_version_below b a f t)

pub others_by_bytes : (a b : Bytes) → is_version a ≡ false → is_version b ≡ false → version_order a b ≡ dictionary a b
unfolding version_order parted
others_by_bytes a b f g = rw (f, g)

parted_version : (a : Bytes) → is_version a ≡ true → parted a ≡ Some (parts a)
unfolding parted
parted_version a t = rw t

parted_other : (a : Bytes) → is_version a ≡ false → parted a ≡ None
unfolding parted
parted_other a f = rw f

pub other_not_newer : (a b : Bytes) → is_version b ≡ false → is_newer b a ≡ false
other_not_newer a b f = ap (λ y. is_lt (none_first precedence (parted a) y)) (parted_other b f) ∙ go (parted a)
  where
    go : (x : Option Parts) → is_lt (none_first precedence x None) ≡ false
    go None = refl
    go (Some x) = refl

pub newer_than_other : (a b : Bytes) → is_version a ≡ false → is_version b ≡ true → is_newer b a ≡ true
newer_than_other a b f t = ap₂ (λ x y. is_lt (none_first precedence x y)) (parted_other a f) (parted_version b t)

pub newer_version : (a b : Bytes) → is_version a ≡ true → is_version b ≡ true → is_newer b a ≡ is_lt (version_order a b)
newer_version a b t u = ap₂ (λ x y. is_lt (none_first precedence x y)) (parted_version a t) (parted_version b u) ∙ ap is_lt (sym (precede a b t u))
