-- What is packed is read again. Assumes nothing.
use Rattle.std.proofs.Common.{◌≡◌, ℕ, ◌+◌, ◌*◌, ◌/◌, ◌%◌, ◌≤◌, leb, List, [], ◌∷◌, ◌++◌, map, length, take, drop, is_ok, Some, None, Ok, sym, ap, ◌∙◌, arith}
use Rattle.std.proofs.lemmas.List.{append_assoc, append-nil, length-append, take_at, drop_at}
use Rattle.std.proofs.lemmas.Bool.{cond-true, le-leb}
use Rattle.rules.specs.Orders.{Bytes}
use Rattle.fields.specs.Fields.{Cut, field_of, whole, pieces}
use Rattle.fields.specs.Pairs.{pairs, pairs_in}
use Rattle.fields.specs.Openings.{opened, opened_from}
use Rattle.fields.specs.Samples.{field}
use Rattle.fields.proofs.Pieces.{pieces_whole, pieces_none}
use Rattle.tree.specs.Grammar.{tag_N, tag_B, follow, may_end, opening}
use Rattle.tree.specs.declared.order.Expected.TheVariants.{Name}
use Rattle.commands.specs.Packing.{file, packed, held_file, PackingRight}

abbrev cut : ℕ → Bytes → Bytes → Cut
cut t b a = record { tag = t; body = b; after = a }

-- a field that is written is cut off again
field_again : (t : ℕ) (b rest : Bytes) → Some (cut t b rest) ≡ field_of (field t b ++ rest)
field_again t b rest =
    let n : ℕ = length b / 256 * 256 + length b % 256 in
    let is : n ≡ length b = omega arith in
    let fits : n ≤ length (b ++ rest) = omega (arith, length-append b rest) in
    sym (cond-true (leb n (length (b ++ rest))) (Some (cut t (take n (b ++ rest)) (drop n (b ++ rest)))) None (le-leb n (length (b ++ rest)) fits)
    ∙ ap (λ x. Some (cut t x (drop n (b ++ rest)))) (take_at b rest n (sym is)) ∙ ap (λ x. Some (cut t b x)) (drop_at b rest n (sym is)))

pieces_field : (t : ℕ) (b rest : Bytes) → pieces (field t b ++ rest) ≡ whole t b ∷ pieces rest
pieces_field t b rest = pieces_whole (field t b ++ rest) (cut t b rest) (field_again t b rest)

pieces_file : (name body rest : Bytes) → pieces (file name body ++ rest) ≡ whole tag_N name ∷ whole tag_B body ∷ pieces rest
pieces_file name body rest =
    ap pieces (append_assoc (field tag_N name) (field tag_B body) rest)
    ∙ pieces_field tag_N name (field tag_B body ++ rest)
    ∙ ap (λ ps. whole tag_N name ∷ ps) (pieces_field tag_B body rest)

opened_packed : (fs : List (Bytes × Bytes)) (place : ℕ) → opened_from follow may_end Name place (pieces (packed fs)) ≡ Ok tt
opened_packed [] place = ap (opened_from follow may_end Name place) pieces_none
opened_packed (f ∷ fs) place =
    ap (opened_from follow may_end Name place) (pieces_file f.0 f.1 (packed fs))
    ∙ opened_packed fs (place + 3 + length f.0 + 3 + length f.1)

pairs_packed : (fs : List (Bytes × Bytes)) → pairs (pieces (packed fs)) ≡ map held_file fs
pairs_packed [] = ap pairs pieces_none
pairs_packed (f ∷ fs) = ap pairs (pieces_file f.0 f.1 (packed fs)) ∙ ap (λ ps. held_file f ∷ ps) (pairs_packed fs)

tree_packed : (fs : List (Bytes × Bytes)) → length (packed fs) ≤ 65536 → opening (packed fs) ≡ Ok tt
unfolding opening opened
tree_packed fs h = cond-true _ _ _ (le-leb _ _ h) ∙ opened_packed fs 0

packed_more : (fs : List (Bytes × Bytes)) (name body : Bytes) → packed (fs ++ (name, body) ∷ []) ≡ packed fs ++ file name body
packed_more [] name body = append-nil (file name body)
packed_more (f ∷ fs) name body = ap (λ t. file f.0 f.1 ++ t) (packed_more fs name body) ∙ sym (append_assoc (file f.0 f.1) (packed fs) (file name body))

held_packed : (fs : List (Bytes × Bytes)) → pairs_in (packed fs) ≡ map held_file fs
unfolding pairs_in
held_packed = pairs_packed

pub packing_right : PackingRight
packing_right = record { accepted = λ fs h. ap is_ok (tree_packed fs h); held = held_packed; one_more = packed_more }
