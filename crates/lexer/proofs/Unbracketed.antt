-- A line has a bracket among its words exactly if it has one among its bytes. Assumes nothing.
use Rattle.std.proofs.Common.{◌≡◌, ℕ, Bool, true, false, not, eqb, List, [], ◌∷◌, is_some, Some, None, Option, sym, refl, ap, ◌∙◌, arith}
use Rattle.std.specs.Option.{option_map}
use Rattle.std.specs.List.{list_any}
use Rattle.std.proofs.lemmas.Bool.Decides.{nat_tests}
use Rattle.rules.specs.Orders.{Bytes}
use Rattle.rules.specs.Lines.{gap, goes_on, Word, text, opening, closing, lengthened, words}
use Rattle.rules.specs.Manifests.{plain}
use Rattle.lexer.specs.Brackets.{bracket_byte}

some_mapped : {A B : Type 0} (f : A → B) (x : Option A) → is_some (option_map f x) ≡ is_some x
some_mapped f (Some a) = refl
some_mapped f None = refl

longer : (b : ℕ) (t : Bool) (ws : List Word) → is_some (plain (lengthened b t ws)) ≡ is_some (plain ws)
longer b false ws = some_mapped (λ ts. (b ∷ []) ∷ ts) (plain ws)
longer b true [] = refl
longer b true (text w ∷ ws) = some_mapped (λ ts. (b ∷ w) ∷ ts) (plain ws) ∙ sym (some_mapped (λ ts. w ∷ ts) (plain ws))
longer b true (opening ∷ ws) = refl
longer b true (closing ∷ ws) = refl

plain_words : (bs : Bytes) → is_some (plain (words bs)) ≡ not (list_any bracket_byte bs)
plain_words [] = refl
plain_words (b ∷ bs) = go (plain_words bs) (gap b) refl (eqb b 40) refl (eqb b 41) refl
  where
    go : is_some (plain (words bs)) ≡ not (list_any bracket_byte bs) → (g : Bool) → gap b ≡ g → (o : Bool) → eqb b 40 ≡ o → (c : Bool) → eqb b 41 ≡ c
        → is_some (plain (words (b ∷ bs))) ≡ not (list_any bracket_byte (b ∷ bs))
    go below true eg true eo c ec = let z : ◌≡◌ {A = ℕ} 0 1 = grind (arith, nat_tests) in absurd (omega arith)
    go below true eg false eo true ec = let z : ◌≡◌ {A = ℕ} 0 1 = grind (arith, nat_tests) in absurd (omega arith)
    go below true eg false eo false ec = rw (eg, eo, ec) below
    go below false eg true eo c ec = rw (eg, eo) refl
    go below false eg false eo true ec = rw (eg, eo, ec) refl
    go below false eg false eo false ec = rw (eg, eo, ec) (longer b (goes_on bs) (words bs) ∙ below)

pub bracketed : (bs : Bytes) → list_any bracket_byte bs ≡ not (is_some (plain (words bs)))
bracketed bs = sym (ap not (plain_words bs) ∙ twice (list_any bracket_byte bs))
  where
    twice : (t : Bool) → not (not t) ≡ t
    twice true = refl
    twice false = refl
