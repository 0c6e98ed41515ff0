-- The offers, as the code writes them. Assumes nothing.
use Rattle.std.proofs.Common.{◌≡◌, ℕ, ◌+◌, ◌<◌, ◌≤◌, Bool, true, false, cond, ltb, List, [], ◌∷◌, ◌++◌, map, length, get_or, take, drop, Ok, Err, Result, sym, refl, ap, ◌∙◌, subst, arith}
use Rattle.std.specs.Ordering.{is_le}
use Rattle.std.proofs.Common.{reverse}
use Rattle.std.proofs.lemmas.List.{at_drop_more, at_drop_all, append-nil, append_assoc, reverse-append}
use Rattle.rules.specs.Orders.{Bytes}
use Rattle.rules.specs.Versions.{version_order}
use Rattle.rules.specs.Names.{ModuleVersion, at}
use Rattle.rules.specs.Sources.{Answer, found, fault, Meaning}
use Rattle.rules.specs.Walks as R
use Rattle.rules.specs.Walks.{written, Walked, done, no_room, ended, if_room}
use Rattle.rules.specs.Calls.{if_done}
use Rattle.rules.specs.Lowers.{offer, offer_written, offers_written}
use Rattle.rules.proofs.Turns.{written_append, written_longer}
use Rattle.versions.specs.Values.{PlainVersion, plain_version_bytes}
use Rattle.causes.specs.declared.refusal.Refusal.{Refusal}
use Rattle.walks.specs.Sheets.{EndsAs}
use Rattle.walks.proofs.Writing.{written_full}
use Rattle.walks.proofs.Telling.{ok_ended, err_ended, ends_by, ends_over, with_room, without_room}

-- what is told of one meaning is told of the same
pub told_at : {A : Type 0} (walks : Meaning → Walked) (m n : Meaning) → m ≡ n → (r : Result A Refusal) (left : List R.Place) → EndsAs {A = A} (walks m) r left → EndsAs {A = A} (walks n) r left
told_at {A} walks m n same r left t = subst (λ (q : Meaning). EndsAs {A = A} (walks q) r left) same t

-- one version
abbrev pub part : ModuleVersion → Bytes → List ModuleVersion
part c v = cond (is_le (version_order v c.version)) (at c.path v ∷ []) []

-- of versions each in turn
abbrev pub parts : ModuleVersion → List PlainVersion → List ModuleVersion
parts c [] = []
parts c (v ∷ vs) = part c (plain_version_bytes v) ++ parts c vs

parts-append : (c : ModuleVersion) (us vs : List PlainVersion) → parts c (us ++ vs) ≡ parts c us ++ parts c vs
parts-append c [] vs = refl
parts-append c (u ∷ us) vs = ap (λ ys. part c (plain_version_bytes u) ++ ys) (parts-append c us vs) ∙ sym (append_assoc (part c (plain_version_bytes u)) (parts c us) (parts c vs))

-- an offer has the last first
pub offer_parts : (c : ModuleVersion) (vs : List PlainVersion) → offer c (map plain_version_bytes vs) ≡ parts c (reverse vs)
offer_parts c [] = refl
offer_parts c (v ∷ vs) =
    ap (λ ys. ys ++ part c (plain_version_bytes v)) (offer_parts c vs)
    ∙ ap (λ ys. parts c (reverse vs) ++ ys) (sym (append-nil (part c (plain_version_bytes v))))
    ∙ sym (parts-append c (reverse vs) (v ∷ []))
    ∙ ap (parts c) (sym (reverse-append (v ∷ []) vs))

-- the versions that are left, behind what is written
module _ (c : ModuleVersion) (us : List PlainVersion) where
  abbrev pub sheet_with : List R.Place → ℕ → List R.Place
  sheet_with front i = written 0 (parts c (drop i us)) front

  pub with_none : (front : List R.Place) (i : ℕ) → length us ≤ i → sheet_with front i ≡ front
  with_none front i h = at_drop_all (λ (ys : List PlainVersion). written 0 (parts c ys) front) us i h

  -- a turn: the places so far are `front`, and v is the next version
  module _ (i : ℕ) (v : PlainVersion) (h : i < length us) (read : v ≡ get_or us i v) (front left : List R.Place) where
    abbrev one : List R.Place
    one = written 0 (part c (plain_version_bytes v)) front

    next : sheet_with front i ≡ sheet_with one (i + 1)
    next =
        at_drop_more (λ (ys : List PlainVersion). written 0 (parts c ys) front) us i v h
        ∙ ap (λ (u : PlainVersion). written 0 (part c (plain_version_bytes u) ++ parts c (drop (i + 1) us)) front) (sym read)
        ∙ written_append 0 (part c (plain_version_bytes v)) (parts c (drop (i + 1) us)) front

    pub version_ok : EndsAs {A = Unit {0}} (if_room (ended done) one) (Ok tt) left → sheet_with left (i + 1) ≡ sheet_with front i
    version_ok t = let (l, e) = ok_ended one left tt t in ap (λ s. sheet_with s (i + 1)) e ∙ sym next

    pub version_err : (whole : List R.Place) → sheet_with front i ≡ whole → (s : Refusal) → EndsAs {A = Unit {0}} (if_room (ended done) one) (Err s) left → EndsAs {A = Unit {0}} (if_room (ended done) whole) (Err s) left
    version_err whole is s t =
        let (l, k) = err_ended one left s t in
        let all = sym is ∙ next in
        let more : 256 < length whole = omega (arith, l, ap length all, written_longer 0 (parts c (drop (i + 1) us)) one) in
        ends_by (if_room (ended done) whole) (ended no_room whole) (Err s) left (without_room (ended done) whole more)
        (ends_over one whole (Err s) left (ap (take 256) all ∙ written_full 0 (parts c (drop (i + 1) us)) one (omega (arith, l))) k)

-- a walk, and what comes next if it is done
abbrev pub followed : (List R.Place → Walked) → Walked → Walked
followed next w = if_done w.end (next w.sheet) w

-- the offers, and then what comes next
module _ (n : Meaning) (then : List R.Place → Walked) where
  pub offers_followed : (cs : List ModuleVersion) (sheet : List R.Place) → offers_written n then cs sheet ≡ followed then (offers_written n (ended done) cs sheet)
  offers_followed [] sheet = refl
  offers_followed (c ∷ cs) sheet = answer (offers_followed cs) (n.listing c.path)
    where
      room : ((s : List R.Place) → offers_written n then cs s ≡ followed then (offers_written n (ended done) cs s)) → (t : List R.Place) → (b : Bool)
          → cond b (ended no_room t) (offers_written n then cs t) ≡ followed then (cond b (ended no_room t) (offers_written n (ended done) cs t))
      room on t true = refl
      room on t false = on t

      answer : ((s : List R.Place) → offers_written n then cs s ≡ followed then (offers_written n (ended done) cs s)) → (a : Answer (List Bytes))
          → offer_written (offers_written n then cs) c sheet a ≡ followed then (offer_written (offers_written n (ended done) cs) c sheet a)
      answer on (fault f) = refl
      answer on (found vs) = room on (written 0 (offer c vs) sheet) (ltb 256 (length (written 0 (offer c vs) sheet)))

-- what the code says of one offer
module _ (n : Meaning) (then : List R.Place → Walked) (c : ModuleVersion) (sheet left : List R.Place) where
  pub offer_ok : EndsAs {A = Unit {0}} (offer_written (ended done) c sheet (n.listing c.path)) (Ok tt) left → offer_written then c sheet (n.listing c.path) ≡ then left
  offer_ok t = go (n.listing c.path) t
    where
      go : (a : Answer (List Bytes)) → EndsAs {A = Unit {0}} (offer_written (ended done) c sheet a) (Ok tt) left → offer_written then c sheet a ≡ then left
      go (fault f) h = let q = h.refused in let z : ◌≡◌ {A = ℕ} 0 1 = cc in absurd (omega arith)
      go (found vs) h =
          let (l, e) = ok_ended (written 0 (offer c vs) sheet) left tt h in
          with_room then (written 0 (offer c vs) sheet) l ∙ ap then (sym e)

  pub offer_err : (s : Refusal) → EndsAs {A = Unit {0}} (offer_written (ended done) c sheet (n.listing c.path)) (Err s) left → EndsAs {A = Unit {0}} (offer_written then c sheet (n.listing c.path)) (Err s) left
  offer_err s t = go (n.listing c.path) t
    where
      go : (a : Answer (List Bytes)) → EndsAs {A = Unit {0}} (offer_written (ended done) c sheet a) (Err s) left → EndsAs {A = Unit {0}} (offer_written then c sheet a) (Err s) left
      go (fault f) h = h
      go (found vs) h =
          let (l, k) = err_ended (written 0 (offer c vs) sheet) left s h in
          ends_by _ (ended no_room (written 0 (offer c vs) sheet)) (Err s) left (without_room then (written 0 (offer c vs) sheet) l) k
