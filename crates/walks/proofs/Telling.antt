-- What the code says of a walk that goes on if there is room, and back. Assumes nothing.
use Rattle.std.proofs.Common.{◌≡◌, ℕ, ◌<◌, ◌≤◌, Bool, true, false, cond, ltb, List, length, take, Some, None, Ok, Err, Result, sym, refl, ap, ◌∙◌, subst, arith}
use Rattle.std.proofs.lemmas.List.{take_all}
use Rattle.std.proofs.lemmas.Bool.{lt-ltb, le-ltb, ltb-true, ltb-false}
use Rattle.rules.specs.Causes.{too_many_module_versions}
use Rattle.rules.specs.Walks as R
use Rattle.rules.specs.Walks.{End, stopped, Walked, ended, if_room, done, no_room}
use Rattle.rules.specs.Calls.{refusal_for}
use Rattle.causes.specs.Told.{refusal_of}
use Rattle.causes.specs.declared.refusal.Refusal.{Refusal}
use Rattle.walks.specs.Sheets.{EndsAs, refused_by}

-- a sheet with what comes next
abbrev Next : Type 0
Next = List R.Place → Walked

pub with_room : (next : Next) (t : List R.Place) → length t ≤ 256 → if_room next t ≡ next t
with_room next t h = ap (λ b. cond b (ended no_room t) (next t)) (le-ltb 256 (length t) h)

pub without_room : (next : Next) (t : List R.Place) → 256 < length t → if_room next t ≡ ended no_room t
without_room next t h = ap (λ b. cond b (ended no_room t) (next t)) (lt-ltb 256 (length t) h)

-- the sheet that is left, for whatever answer
module _ {A : Type 0} where
  pub ends_by : (w v : Walked) (r : Result A Refusal) (left : List R.Place) → w ≡ v → EndsAs {A = A} v r left → EndsAs {A = A} w r left
  ends_by w v r left e t = subst (λ u. EndsAs {A = A} u r left) (sym e) t

  module _ (t left : List R.Place) where
    -- every place is written
    pub ends_done : (x : A) → length t ≤ 256 → left ≡ t → EndsAs {A = A} (ended done t) (Ok x) left
    ends_done x h e = record { refused = refl; items = e ∙ sym (take_all 256 t h) }

    pub ends_room : (x : A) → length t ≤ 256 → left ≡ t → EndsAs {A = A} (if_room (ended done) t) (Ok x) left
    ends_room x h e = ends_by (if_room (ended done) t) (ended done t) (Ok x) left (with_room (ended done) t h) (ends_done x h e)

    -- a 257th is needed
    pub ends_full : (s : Refusal) → 256 < length t → refusal_of s ≡ refusal_for too_many_module_versions → left ≡ take 256 t → EndsAs {A = A} (if_room (ended done) t) (Err s) left
    ends_full s h q e = ends_by (if_room (ended done) t) (ended no_room t) (Err s) left (without_room (ended done) t h) (record { refused = ap Some q; items = e })

    end_cases : (r : Result A Refusal) → EndsAs {A = A} (if_room (ended done) t) r left → (b : Bool) → ltb 256 (length t) ≡ b → EndsAs {A = A} (cond b (ended no_room t) (ended done t)) r left
    end_cases r h b e = subst (λ c. EndsAs {A = A} (cond c (ended no_room t) (ended done t)) r left) e h

    pub ok_ended : (x : A) → EndsAs {A = A} (if_room (ended done) t) (Ok x) left → (length t ≤ 256) × (left ≡ t)
    ok_ended x h = go (ltb 256 (length t)) refl (end_cases (Ok x) h (ltb 256 (length t)) refl)
      where
        go : (b : Bool) → ltb 256 (length t) ≡ b → EndsAs {A = A} (cond b (ended no_room t) (ended done t)) (Ok x) left → (length t ≤ 256) × (left ≡ t)
        go true e s = let q = s.refused in let z : ◌≡◌ {A = ℕ} 0 1 = cc in absurd (omega arith)
        go false e s = let l = ltb-false 256 (length t) e in (l, s.items ∙ take_all 256 t l)

    pub err_ended : (s : Refusal) → EndsAs {A = A} (if_room (ended done) t) (Err s) left → (256 < length t) × EndsAs {A = A} (ended no_room t) (Err s) left
    err_ended s h = go (ltb 256 (length t)) refl (end_cases (Err s) h (ltb 256 (length t)) refl)
      where
        go : (b : Bool) → ltb 256 (length t) ≡ b → EndsAs {A = A} (cond b (ended no_room t) (ended done t)) (Err s) left → (256 < length t) × EndsAs {A = A} (ended no_room t) (Err s) left
        go true e k = (ltb-true 256 (length t) e, k)
        go false e k = let q = k.refused in let z : ◌≡◌ {A = ℕ} 0 1 = cc in absurd (omega arith)

  -- the first 256 places are all that is left of a sheet that has no room
  pub ends_over : (t u : List R.Place) (r : Result A Refusal) (left : List R.Place) → take 256 u ≡ take 256 t → EndsAs {A = A} (ended no_room t) r left → EndsAs {A = A} (ended no_room u) r left
  ends_over t u r left e s = record { refused = s.refused; items = s.items ∙ sym e }

-- a refusal is passed on, whatever would have been answered
pub ends_so : {A B : Type 0} (w : Walked) (s : Refusal) (left : List R.Place) → EndsAs {A = A} w (Err s) left → EndsAs {A = B} w (Err s) left
ends_so w s left t = record { refused = t.refused; items = t.items }

-- what is not refused is done
pub ended_done : (e : End) → None ≡ refused_by e → e ≡ done
ended_done done q = refl
ended_done (stopped k f) q = let z : ◌≡◌ {A = ℕ} 0 1 = cc in absurd (omega arith)
ended_done no_room q = let z : ◌≡◌ {A = ℕ} 0 1 = cc in absurd (omega arith)
