-- A text cut at an index, where all bytes before it are of the first piece. Assumes nothing.
use Rattle.std.proofs.Common.{◌≡◌, ℕ, ◌+◌, ◌-◌, ◌<◌, ◌≤◌, Bool, true, List, [], ◌∷◌, ◌++◌, length, get_or, take, drop, sym, refl, ap, ◌∙◌, ap₂, arith}
use Rattle.std.proofs.lemmas.List.{append-nil, take-append-drop, take_more, take_rest, take_all, drop_more}
use Rattle.std.proofs.lemmas.Bool.{and_from}
use Rattle.rules.specs.Orders.{Bytes}
use Rattle.rules.specs.Texts.{dash, dot, every}
use Rattle.rules.proofs.Precedence.{every_head}
use Rattle.versions.specs.declared.pieces.Part.{Part}
use Rattle.versions.specs.declared.pieces.Part.TheVariants.{Numbers}
use Rattle.versions.specs.declared.pieces.End.{End}
use Rattle.versions.specs.declared.pieces.End.TheVariants.{Dash, Last, Dot}
use Rattle.versions.specs.Cuts.{within, Begins}

module _ {A : Type 0} (test : A → Bool) where
  every_push : (xs : List A) (x : A) → every test xs ≡ true → test x ≡ true → every test (xs ++ x ∷ []) ≡ true
  every_push [] x t h = and_from (test x) true h refl
  every_push (y ∷ ys) x t h = let (ty, ts) = every_head test y ys t in and_from (test y) (every test (ys ++ x ∷ [])) ty (every_push ys x ts h)

  -- one more from the left
  pub every_more : (xs : List A) (i : ℕ) (d : A) → i < length xs → every test (take i xs) ≡ true → test (get_or xs i d) ≡ true → every test (take (i + 1) xs) ≡ true
  every_more xs i d l t h = ap (every test) (take_more xs i d l) ∙ every_push (take i xs) (get_or xs i d) t h

  pub every_all : (xs : List A) (i : ℕ) → length xs ≤ i → every test (take i xs) ≡ true → every test xs ≡ true
  every_all xs i l t = ap (every test) (sym (take_all i xs l)) ∙ t

-- a text is what stands before an index, the byte there, and what stands behind it
cut_at : (xs : Bytes) (i b : ℕ) → i < length xs → get_or xs i 0 ≡ b → xs ≡ take (i - 0) xs ++ b ∷ take (length xs - (i + 1)) (drop (i + 1) xs)
cut_at xs i b l e =
    sym (take-append-drop i xs)
    ∙ ap₂ (λ front back. front ++ back) (ap (λ n. take n xs) from_zero) (drop_more xs i 0 l ∙ ap₂ (λ c cs. c ∷ cs) e (sym (take_rest xs (i + 1))))
  where
    from_zero : i ≡ i - 0
    from_zero = omega arith

-- a text begins with what stands before an index
abbrev pub BeginsAt : Part → Bytes → ℕ → End → Type 0
BeginsAt part text i e = Begins part text (take (i - 0) text) e (take (length text - (i + 1)) (drop (i + 1) text))

module _ (part : Part) (text : Bytes) (i : ℕ) (l : i < length text) (t : every (within part) (take i text) ≡ true) where
  inside : every (within part) (take (i - 0) text) ≡ true
  inside = ap (λ n. every (within part) (take n text)) from_zero ∙ t
    where
      from_zero : i - 0 ≡ i
      from_zero = omega arith

  pub begins_dot : get_or text i 0 ≡ dot → BeginsAt part text i Dot
  begins_dot b = record { whole = cut_at text i dot l b; inside = inside; so = tt }

  pub begins_dash : get_or text i 0 ≡ dash → part ≡ Numbers → BeginsAt part text i Dash
  begins_dash b n = record { whole = cut_at text i dash l b; inside = inside; so = rw n tt }

pub begins_last : (part : Part) (text : Bytes) → every (within part) text ≡ true → Begins part text text Last []
begins_last part text t = record { whole = sym (append-nil text); inside = t; so = refl }
