use Rattle.std.proofs.Common.{◌≡◌, ℕ, zero, suc, ◌+◌, ◌-◌, ◌≤◌, List, length, ◌++◌, get_or, drop, replicate, refl, ap, ◌∙◌, arith}
use Rattle.std.proofs.lemmas.List.{get_or-append_right, get_or-drop, length-append, length-drop}
use Rattle.names.specs.Padding.{Padded}
use Rattle.names.proofs.text.uses.padded.Goals as goal

zeros : (n k : ℕ) → get_or {A = ℕ} (replicate n 0) k 0 ≡ 0
zeros zero k = refl
zeros (suc n) zero = refl
zeros (suc n) (suc k) = zeros n k

-- a text over the first of 48 zeros
over_zeros : (text head : List ℕ) → head ≡ text → length text ≤ 48 → Padded 48 (head ++ drop (length text) (replicate 48 0)) (length text)
over_zeros text head e l =
    let n = length text in
    let tail : List ℕ = drop n (replicate 48 0) in
    let long : length head ≡ n = ap length e in
    let rest : length tail ≡ 48 - n = length-drop n (replicate 48 0) in
    let whole : length (head ++ tail) ≡ length head + length tail = length-append head tail in (
      omega (arith, long, rest, whole),
      l,
      λ k h. get_or-append_right head tail n k 0 long h ∙ get_or-drop n (replicate 48 0) (k - n) 0 ∙ zeros 48 (n + (k - n)),
    )

pub returns-clause-shape : goal.returns-clause-shape
returns-clause-shape c = over_zeros c.args.text.now c.copy_from_slice.new.self c.copy_from_slice.ensures.after c.requires
