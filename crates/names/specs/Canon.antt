-- The same text is the same value. Assumes nothing.
use Rattle.std.specs.Prelude.{◌≡◌, ℕ, true, List, length, take, slice_index}
use Rattle.std.proofs.Common.{sym, ap, ◌∙◌, ⊎_elim, arith}
use mathlib.Core.HLevel.{is_prop→PathP}
use Rattle.std.proofs.lemmas.List.{ext_get_or, get_or-take, length-take-le}
use Rattle.std.proofs.lemmas.Bool.{cases_lt}
use Rattle.std.proofs.Math.Bool.{Bool-set}
use Rattle.names.specs.Padding.{Padded}
use Rattle.names.specs.Texts.{text_bytes}
use Rattle.names.specs.contracts.text.Text.{struct, the_ghost, the_propositions}
use Rattle.names.specs.declared.text.Text.{Text}
use Rattle.names.specs.Formed.{plain_bytes, formed_bytes}
use Rattle.names.specs.Paths.{PlainPath, Path, plain_path_bytes, path_bytes}
use Rattle.names.specs.declared.grammar.Grammar.{Ghosts}
use Rattle.names.specs.declared.formed.Plain.{Plain}
use Rattle.names.specs.declared.formed.Formed.{Formed}

same_len : (n : ℕ) (a b : List ℕ) (i j : ℕ) → Padded n a i → Padded n b j → take i a ≡ take j b → i ≡ j
same_len n a b i j p q e =
    let ai : length (take i a) ≡ i = length-take-le i a (omega arith) in
    let bj : length (take j b) ≡ j = length-take-le j b (omega arith) in
    sym ai ∙ ap length e ∙ bj

same_bytes : (n : ℕ) (a b : List ℕ) (i j : ℕ) → Padded n a i → Padded n b j → take i a ≡ take j b → a ≡ b
same_bytes n a b i j p q e =
    let l = same_len n a b i j p q e in
    ext_get_or 0 a b (p.0 ∙ sym q.0) (λ k h.
    ⊎_elim
    (λ lt. sym (get_or-take i a k 0 lt) ∙ ap (λ s. slice_index s k) e ∙ get_or-take j b k 0 (omega arith))
    (λ ge. p.2 k ge ∙ sym (q.2 k (omega arith)))
    (cases_lt k i))

pub same_text : (p q : Text) → text_bytes p ≡ text_bytes q → p ≡ q
same_text p q e =
    let b : p.bytes ≡ q.bytes = same_bytes 48 p.bytes q.bytes p.len q.len p.padded q.padded e in
    let l : p.len ≡ q.len = same_len 48 p.bytes q.bytes p.len q.len p.padded q.padded e in
    λ i. struct.make (b i, (l i, tt)) (is_prop→PathP (λ j. the_ghost (b j, (l j, tt))) (λ j. the_propositions (b j, (l j, tt))) (struct.ghosts p) (struct.ghosts q) i)

pub same_plain : {G : Type 0} (p q : Plain G) → plain_bytes p ≡ plain_bytes q → p ≡ q
same_plain p q e i = record { text = same_text p.text q.text e i; of = p.of }

pub same_formed : {G : Type 0} {g : Ghosts G} (f h : Formed G g) → formed_bytes f ≡ formed_bytes h → f ≡ h
same_formed {G} {g} f h e =
    let p : f.plain ≡ h.plain = same_plain f.plain h.plain e in
    λ i. record { plain = p i; ok = is_prop→PathP (λ j. g.formed (plain_bytes (p j)) ≡ true) (λ j. Bool-set (g.formed (plain_bytes (p j))) true) f.ok h.ok i }

pub same_plain_path : (p q : PlainPath) → plain_path_bytes p ≡ plain_path_bytes q → p ≡ q
same_plain_path = same_plain

pub same_path : (p q : Path) → path_bytes p ≡ path_bytes q → p ≡ q
same_path = same_formed
