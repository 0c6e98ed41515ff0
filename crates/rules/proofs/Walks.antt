-- The walk, whatever is asked: how it runs, what it keeps, and what its end says. Assumes nothing.
-- `walk` counts down and matches three times in a turn. `Run` is the same as a relation, one constructor for each way that a turn ends:
-- `run_of` goes through the matches once, and every other proof is a recursion over `Run`.
use Rattle.std.proofs.Common.{◌≡◌, ℕ, zero, suc, ◌+◌, ◌<◌, ◌≤◌, Bool, true, false, cond, ltb, ◌⊎◌, List, [], ◌∷◌, ◌++◌, length, Some, None, Option, sym, refl, ap, ◌∙◌, subst, inl, inr, ⊎_elim, arith}
use Rattle.std.specs.List.{slice_get}
use Rattle.std.proofs.lemmas.Bool.{ltb-true, ltb-false, cases_lt}
use Rattle.rules.specs.Names.{ModuleVersion, has, ◌∈◌, Distinct}
use Rattle.rules.specs.Causes.{Fault}
use Rattle.rules.specs.Sources.{Answer, found, fault}
use Rattle.rules.specs.Walks.{Place, module_versions, noted, written, End, done, stopped, no_room, Walked, ended, if_room, answered, questioned, walk}
use Rattle.rules.proofs.Members.{member_from_has, no_member_from_has, member_left, member_right, distinct_push}

-- places

pub nth_left : (xs ys : List Place) (i : ℕ) (r : Place) → slice_get xs i ≡ Some r → slice_get (xs ++ ys) i ≡ Some r
nth_left [] ys i r e = cc
nth_left (x ∷ xs) ys zero r e = e
nth_left (x ∷ xs) ys (suc i) r e = nth_left xs ys i r e

pub nth_within : (xs : List Place) (i : ℕ) (r : Place) → slice_get xs i ≡ Some r → i < length xs
nth_within [] i r e = let z : ◌≡◌ {A = ℕ} 0 1 = cc in omega arith
nth_within (x ∷ xs) zero r e = omega arith
nth_within (x ∷ xs) (suc i) r e = omega (arith, nth_within xs i r e)

nth_past : (xs : List Place) (i : ℕ) → slice_get xs i ≡ None → length xs ≤ i
nth_past [] i e = omega arith
nth_past (x ∷ xs) zero e = let z : ◌≡◌ {A = ℕ} 0 1 = cc in omega arith
nth_past (x ∷ xs) (suc i) e = omega (arith, nth_past xs i e)

nth_there : (xs : List Place) (i : ℕ) → i < length xs → (r : Place) × (slice_get xs i ≡ Some r)
nth_there [] i h = absurd (omega arith)
nth_there (x ∷ xs) zero h = (x, refl)
nth_there (x ∷ xs) (suc i) h = nth_there xs i (omega arith)

pub nth_pushed : (xs : List Place) (y : Place) (i : ℕ) (r : Place) → slice_get (xs ++ y ∷ []) i ≡ Some r → (slice_get xs i ≡ Some r) ⊎ ((i ≡ length xs) × (y ≡ r))
nth_pushed [] y zero r e = inr (refl, cc)
nth_pushed [] y (suc i) r e = inr (cc, cc)
nth_pushed (x ∷ xs) y zero r e = inl e
nth_pushed (x ∷ xs) y (suc i) r e = ⊎_elim (λ h. inl h) (λ h. inr (ap suc h.0, h.1)) (nth_pushed xs y i r e)

pub member_at : (sheet : List Place) (i : ℕ) (r : Place) → slice_get sheet i ≡ Some r → r.row ∈ module_versions sheet
member_at [] i r e = let z : ◌≡◌ {A = ℕ} 0 1 = cc in absurd (omega arith)
member_at (x ∷ xs) zero r e = inl (let q : x ≡ r = cc in ap (λ w. w.row) (sym q))
member_at (x ∷ xs) (suc i) r e = inr (member_at xs i r e)

pub place_of : (sheet : List Place) (x : ModuleVersion) → x ∈ module_versions sheet → (i : ℕ) × (r : Place) × (slice_get sheet i ≡ Some r) × (x ≡ r.row)
place_of [] x h = absurd h
place_of (r ∷ rs) x (inl e) = (0, r, refl, e)
place_of (r ∷ rs) x (inr h) = let (i, q, n, e) = place_of rs x h in (suc i, q, n, e)

pub module_versions_pushed : (sheet : List Place) (r : Place) → module_versions (sheet ++ r ∷ []) ≡ module_versions sheet ++ (r.row ∷ [])
module_versions_pushed [] r = refl
module_versions_pushed (x ∷ xs) r = ap (λ ys. x.row ∷ ys) (module_versions_pushed xs r)

-- what is written

abbrev pub placed : ModuleVersion → ℕ → Place
placed x from = record { row = x; from = from }

-- what each appended row keeps, the written sheet has
pub written_keeps : (I : List Place → Type 0) (from : ℕ) (xs : List ModuleVersion)
    → ((sheet : List Place) (x : ModuleVersion) → x ∈ xs → (x ∈ module_versions sheet → ⊥) → I sheet → I (sheet ++ placed x from ∷ []))
    → (sheet : List Place) → I sheet → I (written from xs sheet)
written_keeps I from [] step sheet i = i
written_keeps I from (x ∷ xs) step sheet i =
    written_keeps I from xs (λ s y h. step s y (inr h)) (noted from x sheet) (go (has (module_versions sheet) x) refl)
  where
    go : (b : Bool) → has (module_versions sheet) x ≡ b → I (cond b sheet (sheet ++ placed x from ∷ []))
    go true e = i
    go false e = step sheet x (inl refl) (no_member_from_has (module_versions sheet) x e) i

pub written_places : (from : ℕ) (xs : List ModuleVersion) (sheet : List Place) (i : ℕ) (r : Place) → slice_get sheet i ≡ Some r → slice_get (written from xs sheet) i ≡ Some r
written_places from xs sheet i r e = written_keeps (λ s. slice_get s i ≡ Some r) from xs (λ s x h n p. nth_left s (placed x from ∷ []) i r p) sheet e

pub written_members : (from : ℕ) (xs : List ModuleVersion) (sheet : List Place) (x : ModuleVersion) → x ∈ module_versions sheet → x ∈ module_versions (written from xs sheet)
written_members from xs sheet x =
    written_keeps (λ s. x ∈ module_versions s) from xs (λ s y h n k. rw module_versions_pushed (member_left (module_versions s) (y ∷ []) x k)) sheet

pub written_holds : (from : ℕ) (xs : List ModuleVersion) (sheet : List Place) (x : ModuleVersion) → x ∈ xs → x ∈ module_versions (written from xs sheet)
written_holds from [] sheet x h = absurd h
written_holds from (y ∷ ys) sheet x (inl e) = written_members from ys (noted from y sheet) x (go (has (module_versions sheet) y) refl)
  where
    go : (b : Bool) → has (module_versions sheet) y ≡ b → x ∈ module_versions (cond b sheet (sheet ++ placed y from ∷ []))
    go true t = rw e (member_from_has (module_versions sheet) y t)
    go false t = rw module_versions_pushed (member_right (module_versions sheet) (y ∷ []) x (inl e))
written_holds from (y ∷ ys) sheet x (inr h) = written_holds from ys (noted from y sheet) x h

module _ (ask : ModuleVersion → Answer (List ModuleVersion)) where
  -- from a place and a sheet, to a sheet and an end
  pub data Run : ℕ → List Place → List Place → End → Type 0 where
    ends : {k : ℕ} {sheet : List Place} → length sheet ≤ k → Run k sheet sheet done
    stops : {k : ℕ} {sheet : List Place} {r : Place} {f : Fault} → slice_get sheet k ≡ Some r → ask r.row ≡ fault f → Run k sheet sheet (stopped k f)
    fills : {k : ℕ} {sheet : List Place} {r : Place} {xs : List ModuleVersion} → slice_get sheet k ≡ Some r → ask r.row ≡ found xs
        → 256 < length (written k xs sheet) → Run k sheet (written k xs sheet) no_room
    goes : {k : ℕ} {sheet last : List Place} {e : End} {r : Place} {xs : List ModuleVersion} → slice_get sheet k ≡ Some r → ask r.row ≡ found xs
        → length (written k xs sheet) ≤ 256 → Run (suc k) (written k xs sheet) last e → Run k sheet last e

  abbrev Runs : ℕ → List Place → Walked → Type 0
  Runs k sheet w = Run k sheet w.sheet w.end

  pub run_of : (left k : ℕ) (sheet : List Place) → left + k ≡ 256 → length sheet ≤ 256 → Runs k sheet (walk ask left k sheet)
  unfolding walk
  run_of zero k sheet t l = ends (omega arith)
  run_of (suc left) k sheet t l = read (λ s. run_of left (suc k) s (omega arith)) (slice_get sheet k) refl
    where
      room : ((s : List Place) → length s ≤ 256 → Runs (suc k) s (walk ask left (suc k) s)) → (r : Place) (xs : List ModuleVersion)
          → slice_get sheet k ≡ Some r → ask r.row ≡ found xs → (b : Bool) → ltb 256 (length (written k xs sheet)) ≡ b
          → Runs k sheet (cond b (ended no_room (written k xs sheet)) (walk ask left (suc k) (written k xs sheet)))
      room on r xs n a true e = fills n a (ltb-true 256 (length (written k xs sheet)) e)
      room on r xs n a false e = let short = ltb-false 256 (length (written k xs sheet)) e in goes n a short (on (written k xs sheet) short)

      asked : ((s : List Place) → length s ≤ 256 → Runs (suc k) s (walk ask left (suc k) s)) → (r : Place) → slice_get sheet k ≡ Some r
          → (a : Answer (List ModuleVersion)) → ask r.row ≡ a → Runs k sheet (answered (walk ask left (suc k)) k sheet a)
      asked on r n (fault f) a = stops n a
      asked on r n (found xs) a = room on r xs n a (ltb 256 (length (written k xs sheet))) refl

      read : ((s : List Place) → length s ≤ 256 → Runs (suc k) s (walk ask left (suc k) s))
          → (o : Option Place) → slice_get sheet k ≡ o → Runs k sheet (questioned ask (walk ask left (suc k)) k sheet o)
      read on None e = ends (nth_past sheet k e)
      read on (Some r) e = asked on r e (ask r.row) refl

  -- what a turn keeps that keeps it at each row that it appends, from the place `low` on
  abbrev pub KeptOn : ℕ → (List Place → Type 0) → Type 0
  KeptOn low I = (k : ℕ) (sheet : List Place) (r : Place) (xs : List ModuleVersion) (x : ModuleVersion) → low ≤ k → slice_get sheet k ≡ Some r → ask r.row ≡ found xs → x ∈ xs
      → (x ∈ module_versions sheet → ⊥) → I sheet → I (sheet ++ placed x k ∷ [])

  turn_keeps : (low : ℕ) (I : List Place → Type 0) → KeptOn low I → (k : ℕ) (sheet : List Place) (r : Place) (xs : List ModuleVersion) → low ≤ k → slice_get sheet k ≡ Some r
      → ask r.row ≡ found xs → I sheet → I (written k xs sheet)
  turn_keeps low I step k sheet r xs l n a i =
      (written_keeps (λ s. (slice_get s k ≡ Some r) × I s) k xs
      (λ s x h new both. (nth_left s (placed x k ∷ []) k r both.0, step k s r xs x l both.0 a h new both.1))
      sheet (n, i)).1

  pub run_keeps : (low : ℕ) (I : List Place → Type 0) → KeptOn low I → {k : ℕ} {sheet last : List Place} {e : End} → Run k sheet last e → low ≤ k → I sheet → I last
  run_keeps low I step (ends h) l i = i
  run_keeps low I step (stops n a) l i = i
  run_keeps low I step (fills {k} {sheet} {r} {xs} n a h) l i = turn_keeps low I step k sheet r xs l n a i
  run_keeps low I step (goes {k} {sheet} {r = r} {xs = xs} n a h run) l i = run_keeps low I step run (omega arith) (turn_keeps low I step k sheet r xs l n a i)

  pub run_grows : {k : ℕ} {sheet last : List Place} {e : End} → Run k sheet last e → (x : ModuleVersion) → x ∈ module_versions sheet → x ∈ module_versions last
  run_grows run x =
      run_keeps 0 (λ s. x ∈ module_versions s) (λ k s r xs y l n a h new i. rw module_versions_pushed (member_left (module_versions s) (y ∷ []) x i)) run (omega arith)

  -- x was answered by a list, which is on the sheet
  abbrev pub Answered : ModuleVersion → List Place → Type 0
  Answered x sheet = (xs : List ModuleVersion) × (ask x ≡ found xs) × ((y : ModuleVersion) → y ∈ xs → y ∈ module_versions sheet)

  -- so was each row from the place `low` up to, and without, the place k
  abbrev pub AnsweredFrom : ℕ → ℕ → List Place → Type 0
  AnsweredFrom low k sheet = (i : ℕ) (r : Place) → low ≤ i → i < k → slice_get sheet i ≡ Some r → Answered r.row sheet

  turn_answers : (low k : ℕ) (sheet : List Place) (r : Place) (xs : List ModuleVersion) → slice_get sheet k ≡ Some r → ask r.row ≡ found xs
      → AnsweredFrom low k sheet → AnsweredFrom low (suc k) (written k xs sheet)
  turn_answers low k sheet r xs n a old i q g h p = go (cases_lt i k)
    where
      was : i < length sheet → (w : Place) × (slice_get sheet i ≡ Some w) × (w ≡ q)
      was l = let (w, e) = nth_there sheet i l in let f = written_places k xs sheet i w e in (w, e, cc)

      go : (i < k) ⊎ (k ≤ i) → Answered q.row (written k xs sheet)
      go (inl l) =
          let (w, e, s) = was (omega (arith, nth_within sheet k r n)) in
          let (ys, b, on) = old i w g l e in
          rw (← s) (ys, b, λ y m. written_members k xs sheet y (on y m))
      go (inr l) =
          let ik : i ≡ k = omega arith in
          let f : slice_get (written k xs sheet) i ≡ Some r = rw ik (written_places k xs sheet k r n) in
          let s : r ≡ q = cc in
          rw (← s) (xs, a, written_holds k xs sheet)

  -- a walk that is done has been answered at each row
  pub run_answers : (low : ℕ) {k : ℕ} {sheet last : List Place} {e : End} → Run k sheet last e → e ≡ done → AnsweredFrom low k sheet
      → (i : ℕ) (r : Place) → low ≤ i → slice_get last i ≡ Some r → Answered r.row last
  run_answers low (ends {k} {sheet} h) t old i r g n = old i r g (omega (arith, nth_within sheet i r n)) n
  run_answers low (stops n a) t old i r g p = let z : ◌≡◌ {A = ℕ} 0 1 = cc in absurd (omega arith)
  run_answers low (fills n a h) t old i r g p = let z : ◌≡◌ {A = ℕ} 0 1 = cc in absurd (omega arith)
  run_answers low (goes {k} {sheet} {r = r} {xs = xs} n a h run) t old i q g p = run_answers low run t (turn_answers low k sheet r xs n a old) i q g p

  -- one that stopped has been answered at each row before its place
  pub run_before : (low : ℕ) {k : ℕ} {sheet last : List Place} {e : End} → Run k sheet last e → (p : ℕ) (f : Fault) → e ≡ stopped p f → AnsweredFrom low k sheet → AnsweredFrom low p last
  run_before low (ends h) p f t old = let z : ◌≡◌ {A = ℕ} 0 1 = cc in absurd (omega arith)
  run_before low (stops {k} {sheet} n a) p f t old = let kp : k ≡ p = cc in subst (λ i. AnsweredFrom low i sheet) kp old
  run_before low (fills n a h) p f t old = let z : ◌≡◌ {A = ℕ} 0 1 = cc in absurd (omega arith)
  run_before low (goes {k} {sheet} {r = r} {xs = xs} n a h run) p f t old = run_before low run p f t (turn_answers low k sheet r xs n a old)

  -- one that stopped has at its place, where it began or later, what brought the fault
  pub run_stopped : {k : ℕ} {sheet last : List Place} {e : End} → Run k sheet last e → (p : ℕ) (f : Fault) → e ≡ stopped p f
      → (k ≤ p) × ((r : Place) × (slice_get last p ≡ Some r) × (ask r.row ≡ fault f))
  run_stopped (ends h) p f t = let z : ◌≡◌ {A = ℕ} 0 1 = cc in absurd (omega arith)
  run_stopped (stops {k} {sheet} {r} {f = g} n a) p f t =
      let kp : k ≡ p = cc in
      let gf : g ≡ f = cc in
      (omega arith, (r, rw kp at n, a ∙ ap fault gf))
  run_stopped (fills n a h) p f t = let z : ◌≡◌ {A = ℕ} 0 1 = cc in absurd (omega arith)
  run_stopped (goes n a h run) p f t = let (l, there) = run_stopped run p f t in (omega arith, there)

  -- and one that needs more room has more than 256 rows
  pub run_no_room : {k : ℕ} {sheet last : List Place} {e : End} → Run k sheet last e → e ≡ no_room → 256 < length last
  run_no_room (ends h) t = let z : ◌≡◌ {A = ℕ} 0 1 = cc in absurd (omega arith)
  run_no_room (stops n a) t = let z : ◌≡◌ {A = ℕ} 0 1 = cc in absurd (omega arith)
  run_no_room (fills n a h) t = h
  run_no_room (goes n a h run) t = run_no_room run t

  -- while it is not full, it has at most 256
  pub run_room : {k : ℕ} {sheet last : List Place} {e : End} → Run k sheet last e → length sheet ≤ 256 → (e ≡ no_room → ⊥) → length last ≤ 256
  run_room (ends h) l t = l
  run_room (stops n a) l t = l
  run_room (fills n a h) l t = absurd (t refl)
  run_room (goes n a h run) l t = run_room run h t

  -- A walk that begins with rows from place 0, and questions the places from 1 on.
  module _ (xs : List ModuleVersion) (sheet : List Place) where
    pub data Begun : List Place → End → Type 0 where
      overflows : 256 < length (written 0 xs sheet) → Begun (written 0 xs sheet) no_room
      begins : {last : List Place} {e : End} → length (written 0 xs sheet) ≤ 256 → Run 1 (written 0 xs sheet) last e → Begun last e

    pub begun_of : Begun (if_room (walk ask 255 1) (written 0 xs sheet)).sheet (if_room (walk ask 255 1) (written 0 xs sheet)).end
    begun_of = go (ltb 256 (length (written 0 xs sheet))) refl
      where
        go : (b : Bool) → ltb 256 (length (written 0 xs sheet)) ≡ b
            → Begun (cond b (ended no_room (written 0 xs sheet)) (walk ask 255 1 (written 0 xs sheet))).sheet (cond b (ended no_room (written 0 xs sheet)) (walk ask 255 1 (written 0 xs sheet))).end
        go true e = overflows (ltb-true 256 (length (written 0 xs sheet)) e)
        go false e = let short = ltb-false 256 (length (written 0 xs sheet)) e in begins short (run_of 255 1 (written 0 xs sheet) refl short)

    pub begun_keeps : {last : List Place} {e : End} → (I : List Place → Type 0) → ((s : List Place) (x : ModuleVersion) → x ∈ xs → (x ∈ module_versions s → ⊥) → I s → I (s ++ placed x 0 ∷ []))
        → KeptOn 1 I → Begun last e → I sheet → I last
    begun_keeps I first step (overflows h) i = written_keeps I 0 xs first sheet i
    begun_keeps I first step (begins h run) i = run_keeps 1 I step run (omega arith) (written_keeps I 0 xs first sheet i)

    -- no module version stands twice on the sheet
    pub begun_distinct : {last : List Place} {e : End} → Begun last e → Distinct (module_versions sheet) → Distinct (module_versions last)
    begun_distinct =
        begun_keeps (λ s. Distinct (module_versions s)) (λ s x h new d. rw module_versions_pushed (distinct_push (module_versions s) x d new))
        (λ k s r ys x l n a h new d. rw module_versions_pushed (distinct_push (module_versions s) x d new))

    pub begun_grows : {last : List Place} {e : End} → Begun last e → (x : ModuleVersion) → x ∈ module_versions sheet → x ∈ module_versions last
    begun_grows b x =
        begun_keeps (λ s. x ∈ module_versions s) (λ s y h new i. rw module_versions_pushed (member_left (module_versions s) (y ∷ []) x i))
        (λ k s r ys y l n a h new i. rw module_versions_pushed (member_left (module_versions s) (y ∷ []) x i)) b

    pub begun_holds : {last : List Place} {e : End} → Begun last e → (x : ModuleVersion) → x ∈ xs → x ∈ module_versions last
    begun_holds (overflows h) x i = written_holds 0 xs sheet x i
    begun_holds (begins h run) x i = run_grows run x (written_holds 0 xs sheet x i)

    pub begun_answers : {last : List Place} {e : End} → Begun last e → e ≡ done → (i : ℕ) (r : Place) → 1 ≤ i → slice_get last i ≡ Some r → Answered r.row last
    begun_answers (overflows h) t i r l n = let z : ◌≡◌ {A = ℕ} 0 1 = cc in absurd (omega arith)
    begun_answers (begins h run) t i r l n = run_answers 1 run t (λ j q g k p. absurd (omega arith)) i r l n

    pub begun_stopped : {last : List Place} {e : End} → Begun last e → (p : ℕ) (f : Fault) → e ≡ stopped p f → (1 ≤ p) × ((r : Place) × (slice_get last p ≡ Some r) × (ask r.row ≡ fault f))
    begun_stopped (overflows h) p f t = let z : ◌≡◌ {A = ℕ} 0 1 = cc in absurd (omega arith)
    begun_stopped (begins h run) p f t = run_stopped run p f t

    pub begun_before : {last : List Place} {e : End} → Begun last e → (p : ℕ) (f : Fault) → e ≡ stopped p f → AnsweredFrom 1 p last
    begun_before (overflows h) p f t = let z : ◌≡◌ {A = ℕ} 0 1 = cc in absurd (omega arith)
    begun_before (begins h run) p f t = run_before 1 run p f t (λ j q g k n. absurd (omega arith))

    pub begun_no_room : {last : List Place} {e : End} → Begun last e → e ≡ no_room → 256 < length last
    begun_no_room (overflows h) t = h
    begun_no_room (begins h run) t = run_no_room run t

    pub begun_room : {last : List Place} {e : End} → Begun last e → (e ≡ no_room → ⊥) → length last ≤ 256
    begun_room (overflows h) t = absurd (t refl)
    begun_room (begins h run) t = run_room run h t
