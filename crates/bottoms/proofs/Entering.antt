-- One version more in a listing of at most 64. Assumes nothing.
use Rattle.std.proofs.Common.{◌≡◌, ℕ, ◌≤◌, Bool, true, false, cond, ltb, leb, List, [], ◌∷◌, length, Some, None, Ok, Err, Option, Result, sym, refl, ap, ◌∙◌, arith}
use Rattle.std.specs.Bool.{then_some}
use Rattle.std.proofs.lemmas.List.{length-map}
use Rattle.std.proofs.lemmas.Bool.{ltb-true, ltb-false, leb-false, le-leb, lt-leb}
use Rattle.rules.specs.Orders.{Bytes}
use Rattle.rules.specs.Versions.{version_order}
use Rattle.rules.specs.Names.{ModuleVersion}
use Rattle.rules.specs.Questions.{told}
use Rattle.rules.specs.Slices.{blank, filled}
use Rattle.rules.specs.Sources.{Answer, found, fault, found_in, narrowed, over_64, at_most_64}
use Rattle.rules.specs.Tables.{keep, lookup, entered, entered_all}
use Rattle.rules.specs.Rows.{own}
use Rattle.rules.proofs.Tables.{entered_most, entered_all_least}
use Rattle.ordered.specs.Held.{held, admitted, fitting}
use Rattle.ordered.specs.declared.table.NotInserted.{NotInserted}
use Rattle.ordered.specs.declared.table.NotInserted.TheVariants.{Present, Full}
use Rattle.ordered.proofs.Joining.{joined_same, joined_over}
use Rattle.versions.specs.Values.{plain_version_bytes}
use Rattle.modules.specs.Tables.{listing_bytes}
use Rattle.modules.specs.declared.listing.Listing.{Listing}
use Rattle.source.proofs.Telling.{given_long}
use Rattle.bottoms.specs.Items.{with_version, entered_held, listing_answer}

-- a listing has at most 64 versions
pub listing_fits : (t : Listing) → length (listing_bytes t) ≤ 64
listing_fits t = omega (arith, t.fits, length-map (held t.table) plain_version_bytes)

module _ (v : Bytes) (t : List Bytes) where
  abbrev with_one : List Bytes
  with_one = entered own version_order keep v t

  abbrev inserted : Bool → Result (Unit {0}) NotInserted
  inserted room = admitted (lookup own version_order v t) room

  pub room_left : Ok tt ≡ inserted (ltb (length t) 64) → leb (length with_one) 64 ≡ true
  room_left e = go (lookup own version_order v t) (ltb (length t) 64) refl e
    where
      go : (o : Option Bytes) (b : Bool) → ltb (length t) 64 ≡ b → Ok tt ≡ admitted o b → leb (length with_one) 64 ≡ true
      go (Some y) b p f = let z : ◌≡◌ {A = ℕ} 0 1 = cc in absurd (omega arith)
      go None true p f = le-leb _ _ (omega (arith, ltb-true (length t) 64 p, entered_most own version_order keep v t))
      go None false p f = let z : ◌≡◌ {A = ℕ} 0 1 = cc in absurd (omega arith)

  pub there_already : Err Present ≡ inserted (ltb (length t) 64) → t ≡ with_one
  there_already e = joined_same own version_order t (v ∷ []) t 0 refl v (omega arith) refl t (ltb (length t) 64) refl e

  pub no_room : Err Full ≡ inserted (ltb (length t) 64) → leb (length with_one) 64 ≡ false
  no_room e = go (leb (length with_one) 64) (joined_over own version_order t (v ∷ []) t 0 refl v (omega arith) refl 64 e)
    where
      go : (b : Bool) → None ≡ then_some b with_one → b ≡ false
      go true f = let z : ◌≡◌ {A = ℕ} 0 1 = cc in absurd (omega arith)
      go false f = refl

abbrev all_entered : List Bytes → List Bytes → List Bytes
all_entered = entered_all own version_order keep

-- one item more: the version that it holds, if any, comes before those of the others
entered_on : (o : Option Bytes) (t vs : List Bytes) → all_entered t (with_version o vs) ≡ all_entered (entered_held o t) vs
entered_on None t vs = refl
entered_on (Some v) t vs = refl

-- there is no room for it, and so none for all
no_listing : (o : Option Bytes) (t vs : List Bytes) → leb (length (entered_held o t)) 64 ≡ false → None ≡ fitting 64 (all_entered t (with_version o vs))
no_listing o t vs e =
    let long = leb-false (length (entered_held o t)) 64 e in
    let least = entered_all_least own version_order keep (entered_held o t) vs in
    ap (λ b. then_some b (all_entered t (with_version o vs))) (sym (lt-leb (length (all_entered t (with_version o vs))) 64 (omega (arith, long, least, ap length (entered_on o t vs)))))

-- all are entered
pub listing_made : (listing : Listing) (all : List Bytes) → all ≡ listing_bytes listing → Some (listing_bytes listing) ≡ fitting 64 all
listing_made listing all e = ap (λ b. then_some b (listing_bytes listing)) (sym (le-leb (length (listing_bytes listing)) 64 (listing_fits listing))) ∙ ap (fitting 64) (sym e)

-- what a listing that was made answers is what the versions mean
pub answers_listing : (vs : List Bytes) → at_most_64 (found vs) ≡ listing_answer (fitting 64 vs)
answers_listing vs = go (ltb 64 (length vs)) refl
  where
    go : (b : Bool) → ltb 64 (length vs) ≡ b → cond b (fault over_64) (found vs) ≡ listing_answer (then_some (leb (length vs) 64) vs)
    go true e = ap (λ b. listing_answer (then_some b vs)) (sym (lt-leb (length vs) 64 (ltb-true 64 (length vs) e)))
    go false e = ap (λ b. listing_answer (then_some b vs)) (sym (le-leb (length vs) 64 (ltb-false 64 (length vs) e)))

-- rows that are found and stand in front of blanks
pub rows_told : (n k : ℕ) (a : Answer (List ModuleVersion)) (rs left : List ModuleVersion) → 64 ≤ n → a ≡ found rs → k ≡ length rs → left ≡ filled blank n rs
    → (found k ≡ (told blank n a).answer) × (left ≡ (told blank n a).slice)
rows_told n k a rs left h w e q =
    let given = given_long n a h ∙ w in
    (ap found e ∙ sym (ap (narrowed length) given), q ∙ sym (ap (λ z. filled blank n (found_in z)) given))

-- a loop over items, where t is listed so far, and the versions of the items that are left begin with the one that the next holds
module _ (all t vs rest : List Bytes) (o : Option Bytes) (so_far : all ≡ all_entered t vs) (is : vs ≡ with_version o rest) where
  pub one_listed : (u : List Bytes) → u ≡ entered_held o t → all ≡ all_entered u rest
  one_listed u e = so_far ∙ ap (all_entered t) is ∙ entered_on o t rest ∙ ap (λ w. all_entered w rest) (sym e)

  pub not_listed : false ≡ leb (length (entered_held o t)) 64 → None ≡ fitting 64 all
  not_listed e = no_listing o t rest (sym e) ∙ ap (fitting 64) (sym (so_far ∙ ap (all_entered t) is))
