-- What a lower replies and leaves, by how its list and its walk ended; and that it is the lower of the rules. Assumes nothing.
use Rattle.std.proofs.Common.{◌≡◌, ℕ, suc, ◌+◌, ◌-◌, ◌≤◌, Bool, true, false, cond, not, ◌⊎◌, List, [], ◌∷◌, ◌++◌, map, length, take, drop, replicate, IfOk, Some, None, Ok, Err, Result, sym, refl, ap, ◌∙◌, subst, inl, inr, ⊎_elim, arith}
use Rattle.std.specs.List.{AllByRecursion}
use Rattle.std.proofs.lemmas.List.{take_all, length-take, take_at, take-map, length-map}
use Rattle.rules.proofs.Each.{each_filtered}
use Rattle.std.proofs.lemmas.Bool.{and_parts}
use Rattle.rules.specs.Orders.{Bytes}
use Rattle.rules.specs.Paths.{is_path}
use Rattle.rules.specs.Versions.{is_version}
use Rattle.rules.specs.Names.{ModuleVersion, is_module_version, same_path, ◌∈◌}
use Rattle.rules.specs.Causes.{Refusal, slice_too_short, nothing_to_change}
use Rattle.rules.specs.Sources.{Meaning, Lawful, included}
use Rattle.rules.specs.Projects.{State, View, view, with_rows, main_row, off_main, remaining}
use Rattle.rules.specs.Rows.{table, AscendingRows}
use Rattle.rules.specs.Walks as R
use Rattle.rules.specs.Walks.{module_versions, End, done, stopped, no_room, Walked, walk, first_sheet, list_walk}
use Rattle.rules.specs.Lists.{list_of}
use Rattle.rules.specs.Lowers.{can_lower, ceiling_of, ceilings, lower_ask, lower_walk, kept_rows, old_list, ceilings_at}
use Rattle.rules.specs.Slices.{Lent, Slices, long_enough, filled, holding, blank, blank_place}
use Rattle.rules.specs.Calls.{Reply, counted, refused, refusal_for, replied, if_done, Outcome, if_long_enough, lowers}
use Rattle.rules.proofs.Members.{kept_was, all_member, all_from_members, member_either}
use Rattle.rules.proofs.Rows.{table_was, table_ascending}
use Rattle.rules.proofs.Reached.{off_main_apart}
use Rattle.rules.proofs.Offers.{Offering, unlisted, overfull, all_offered, offering}
use Rattle.rules.proofs.Walks.{placed, run_of, run_room, module_versions_pushed, begun_of, begun_keeps}
use Rattle.causes.specs.Told.{refusal_of}
use Rattle.modules.specs.Rows.{row_names}
use Rattle.modules.specs.declared.rows.Row.{Row}
use Rattle.causes.specs.declared.refusal.Refusal as C
use Rattle.walks.specs.declared.place.Place.{Place}
use Rattle.walks.specs.Places.{place_of}
use Rattle.modules.specs.Tables.{requirement_names}
use Rattle.walks.specs.Sheets.{EndsAs, refused_by}
use Rattle.lowers.specs.declared.lowered.Lowered.{Lowered}
use Rattle.walks.specs.Views.{bare, walk_from}
use Rattle.walks.specs.Listed.{Listed, listed, lists_from}
use Rattle.walks.proofs.Telling.{ended_done}
use Rattle.walks.proofs.Walking.{required_formed}
use Rattle.walks.proofs.Listing.{walk_right}
use Rattle.lowers.specs.Lowered.{Lowering, LowerTold, told_of, told_under, told_from, lower_walk_from, old_from, lowers_from, lowers_under, lowers_listed, left_as_listed, lowerable, outcome_of, LowerStands}

-- ---- the lower of a project

lower_walk_right : (m : Meaning) (s : State) (cs : List ModuleVersion) → lower_walk_from (view m s) cs ≡ lower_walk m s cs
unfolding lower_walk_from lower_walk
lower_walk_right m s cs = refl

-- by the slices, by how the list's walk ended, by whether it can be lowered, and by how lower's walk ended
module _ (s : State) (n : Lent) (first second : List R.Place) (old rows : List ModuleVersion) where
  abbrev listed_as : Bool → End → Listed
  listed_as b e = cond b (record { reply = replied e (length first) (length old); slices = holding n first (if_done e old []) }) (record { reply = refused (refusal_for slice_too_short); slices = holding n [] [] })

  abbrev left_as : Bool → End → Reply → Lowering
  left_as b e r = record { reply = r; kept = None; slices = (listed_as b e).slices }

  abbrev lowered_as : Bool → Bool → End → End → Lowering
  lowered_as b c e f =
      cond b (if_done e (cond c (record { reply = replied f (length second) (length old); kept = if_done f (Some rows) None; slices = holding n second old }) (left_as b e (refused (refusal_for nothing_to_change))))
      (left_as b e (listed_as b e).reply)) (left_as b e (listed_as b e).reply)

  abbrev lists_as : End → Outcome
  lists_as e = record { reply = replied e (length first) (length old); state = s; slices = holding n first (if_done e old []) }

  abbrev lowers_as : Bool → Bool → End → End → Outcome
  lowers_as b c e f =
      cond b (if_done e (cond c (record { reply = replied f (length second) (length old); state = if_done f (with_rows s rows) s; slices = holding n second old })
      (record { reply = refused (refusal_for nothing_to_change); state = s; slices = holding n first (if_done e old []) })) (lists_as e))
      (record { reply = refused (refusal_for slice_too_short); state = s; slices = holding n [] [] })

  same_as : (b c : Bool) (e f : End) → lowers_as b c e f ≡ outcome_of s (lowered_as b c e f)
  same_as false c e f = refl
  same_as true c (stopped k g) f = refl
  same_as true c no_room f = refl
  same_as true false done f = refl
  same_as true true done done = refl
  same_as true true done (stopped k g) = refl
  same_as true true done no_room = refl

module _ (m : Meaning) (s : State) (p v : Bytes) (n : Lent) where
  abbrev V : Walked
  V = list_walk m s

  abbrev LW : Walked
  LW = lower_walk m s (ceilings_at m s p v)

  abbrev list_at : Walked → List ModuleVersion
  list_at u = list_of (bare s.main) u.sheet

  abbrev from : Walked → Lowering
  from u =
      lowered_as s n u.sheet (lower_walk_from (view m s) (ceilings p v (list_at u))).sheet (list_at u) (kept_rows (view m s) (ceilings p v (list_at u))) (long_enough n) (can_lower p v (list_at u)) u.end
      (lower_walk_from (view m s) (ceilings p v (list_at u))).end

  abbrev under : Walked → Lowering
  under u = lowered_as s n V.sheet u.sheet (old_list m s) (kept_rows (view m s) (ceilings_at m s p v)) (long_enough n) (can_lower p v (old_list m s)) V.end u.end

  told_alike : lowers_from (view m s) (included s.exclusions s.rows) p v n ≡ under LW
  told_alike = ap from (walk_right m s) ∙ ap under (lower_walk_right m s (ceilings_at m s p v))

  lower_stands_at : if_long_enough n s (lowers m s p v n) ≡ outcome_of s (lowers_from (view m s) (included s.exclusions s.rows) p v n)
  lower_stands_at =
      same_as s n V.sheet LW.sheet (old_list m s) (kept_rows (view m s) (ceilings_at m s p v)) (long_enough n) (can_lower p v (old_list m s)) V.end LW.end ∙ ap (outcome_of s) (sym told_alike)

pub lower_stands : LowerStands
lower_stands = lower_stands_at

-- ---- what is told of a lower

pub same_told : (a b : LowerTold) → a.reply ≡ b.reply → a.kept ≡ b.kept → a.sheet ≡ b.sheet → a ≡ b
same_told a b r k s i = record { reply = r i; kept = k i; sheet = s i }

-- with what the list slice holds
abbrev pub beside : List ModuleVersion → LowerTold → Lowering
beside list t = record { reply = t.reply; kept = t.kept; slices = record { sheet = t.sheet; list = list } }

-- ---- lower's walk

lower_short : (w : View) (cs : List ModuleVersion) → (lower_walk_from w cs).end ≡ done → length (lower_walk_from w cs).sheet ≤ 256
unfolding lower_walk_from
lower_short w cs ok = go (lower_walk_from w cs) (offering w.layer (walk (lower_ask w cs) 255 1) cs (first_sheet (bare w.main)) (omega arith)) ok
  where
    go : (v : Walked) → Offering w.layer (walk (lower_ask w cs) 255 1) cs (first_sheet (bare w.main)) v → v.end ≡ done → length v.sheet ≤ 256
    go v (unlisted front back c q ls g is) e = let r = sym (ap (λ (u : Walked). u.end) is) ∙ e in let z : ◌≡◌ {A = ℕ} 0 1 = cc in absurd (omega arith)
    go v (overfull front back q h is) e = let r = sym (ap (λ (u : Walked). u.end) is) ∙ e in let z : ◌≡◌ {A = ℕ} 0 1 = cc in absurd (omega arith)
    go v (all_offered ls h is) e =
        let r = sym (ap (λ (u : Walked). u.end) is) ∙ e in
        subst (λ (u : Walked). length u.sheet ≤ 256) (sym is) (run_room (lower_ask w cs) (run_of (lower_ask w cs) 255 1 _ refl h) h (λ d. let z : ◌≡◌ {A = ℕ} 0 1 = cc in omega arith))

module _ (w : View) (cs : List ModuleVersion) (left : List R.Place) where
  abbrev whole : Walked
  whole = lower_walk_from w cs

  module _ (l : Lowered) (t : EndsAs {A = Lowered} whole (Ok l) left) where
    ok : whole.end ≡ done
    ok = ended_done whole.end t.refused

    pub done_reply : (n rows : ℕ) → n ≡ length left → counted n rows ≡ replied whole.end (length whole.sheet) rows
    done_reply n rows e =
        ap (λ (k : ℕ). counted k rows) (e ∙ ap length (t.items ∙ take_all 256 whole.sheet (lower_short w cs ok))) ∙ ap (λ (e : End). replied e (length whole.sheet) rows) (sym ok)

    pub done_kept : (names rows : List ModuleVersion) → names ≡ rows → Some names ≡ if_done whole.end (Some rows) None
    done_kept names rows e = ap Some e ∙ ap (λ (d : End). if_done d (Some rows) None) (sym ok)

  module _ (s : C.Refusal) (t : EndsAs {A = Lowered} whole (Err s) left) where
    pub stopped_reply : (rows : ℕ) → refused (refusal_of s) ≡ replied whole.end (length whole.sheet) rows
    stopped_reply rows = go whole.end t.refused
      where
        go : (e : End) → Some (refusal_of s) ≡ refused_by e → refused (refusal_of s) ≡ replied e (length whole.sheet) rows
        go done q = let z : ◌≡◌ {A = ℕ} 0 1 = cc in absurd (omega arith)
        go (stopped k f) q = cc
        go no_room q = cc

    pub stopped_kept : (rows : List ModuleVersion) → None ≡ if_done whole.end (Some rows) None
    stopped_kept rows = go whole.end t.refused
      where
        go : (e : End) → Some (refusal_of s) ≡ refused_by e → None ≡ if_done e (Some rows) None
        go done q = let z : ◌≡◌ {A = ℕ} 0 1 = cc in absurd (omega arith)
        go (stopped k f) q = refl
        go no_room q = refl

  -- by the answer
  pub ended_told : (r : Result Lowered C.Refusal) → EndsAs {A = Lowered} whole r left → IfOk r (λ l. l.counts.places ≡ length left) → IfOk r (λ l. l.counts.rows ≡ length cs + 1)
      → IfOk r (λ l. requirement_names l.kept ≡ kept_rows w cs) → (n : ℕ) (after : List Place) → map place_of after ≡ filled blank_place n (take 256 whole.sheet) → told_of r after ≡ told_under w n cs
  ended_told (Ok l) t places rows kept n after e =
      same_told _ _ (done_reply l t l.counts.places l.counts.rows places ∙ ap (λ (k : ℕ). replied whole.end (length whole.sheet) k) rows) (done_kept l t (requirement_names l.kept) (kept_rows w cs) kept) e
  ended_told (Err s) t places rows kept n after e = same_told _ _ (stopped_reply s t (length cs + 1)) (stopped_kept s t (kept_rows w cs)) e

-- ---- the list

module _ (w : View) (start : List ModuleVersion) where
  abbrev sheet : List R.Place
  sheet = (walk_from w start).sheet

  -- the rows of the list, behind the main row
  abbrev pub behind : List ModuleVersion
  behind = table (off_main w.main (module_versions sheet))

  behind_was : (x : ModuleVersion) → x ∈ behind → (x ∈ module_versions sheet) × (x.path ≡ w.main → ⊥)
  behind_was x h =
      let (k, t) = kept_was (λ y. not (same_path y w.main)) (module_versions sheet) x (table_was (off_main w.main (module_versions sheet)) x h) in
      (k, off_main_apart w.main x t)

  pub behind_up : AscendingRows behind
  behind_up = table_ascending (off_main w.main (module_versions sheet))

  pub behind_off : AllByRecursion (λ x. x.path ≡ w.main → ⊥) behind
  behind_off = all_from_members (λ x. x.path ≡ w.main → ⊥) behind (λ x h. (behind_was x h).1)

  module _ (law : Lawful w.layer) (starts : AllByRecursion (λ x. is_module_version x ≡ true) start) where
    abbrev Good : List R.Place → Type 0
    Good t = (x : ModuleVersion) → x ∈ module_versions t → (x ≡ main_row (bare w.main)) ⊎ (is_module_version x ≡ true)

    push : (t : List R.Place) (y : ModuleVersion) (k : ℕ) → is_module_version y ≡ true → Good t → Good (t ++ placed y k ∷ [])
    push t y k f g x h =
        ⊎_elim (g x) (⊎_elim (λ e. inr (subst (λ (z : ModuleVersion). is_module_version z ≡ true) (sym e) f)) (λ z. absurd z))
        (member_either (module_versions t) (y ∷ []) x (subst (λ zs. x ∈ zs) (module_versions_pushed t (placed y k)) h))

    walk_good : Good sheet
    unfolding walk_from
    walk_good =
        begun_keeps (remaining w) (off_main w.main start) (first_sheet (bare w.main)) Good
        (λ t y h new g. push t y 0 (all_member (λ z. is_module_version z ≡ true) (off_main w.main start) (each_filtered (λ z. is_module_version z ≡ true) (λ z. not (same_path z w.main)) start starts) y h) g)
        (λ k t r ys y l e a h new g. push t y k (all_member (λ z. is_module_version z ≡ true) ys (required_formed w law r.row ys a) y h) g)
        (begun_of (remaining w) (off_main w.main start) (first_sheet (bare w.main)))
        (λ x h. ⊎_elim (λ e. inl e) (λ z. absurd z) h)

    pub behind_formed : AllByRecursion (λ x. is_path x.path ≡ true) behind
    behind_formed = all_from_members (λ x. is_path x.path ≡ true) behind (λ x h.
        let (k, off) = behind_was x h in
        ⊎_elim (λ e. absurd (off (ap (λ (z : ModuleVersion). z.path) e))) (λ t. (and_parts (is_path x.path) (is_version x.version) t).0) (walk_good x k))

  -- what the list says, where it is given
  abbrev Given : Lent → ℕ → Type 0
  Given n rows = (long_enough n ≡ true) × ((walk_from w start).end ≡ done) × (rows ≡ length (old_from w start))

  pub given : (n : Lent) (places rows : ℕ) → counted places rows ≡ (lists_from w start n).reply → Given n rows
  given n places rows e = by_length (long_enough n) refl e
    where
      by_end : (d : End) → (walk_from w start).end ≡ d → counted places rows ≡ replied d (length sheet) (length (old_from w start)) → ((walk_from w start).end ≡ done) × (rows ≡ length (old_from w start))
      by_end done t q = (t, cc)
      by_end (stopped k f) t q = let z : ◌≡◌ {A = ℕ} 0 1 = cc in absurd (omega arith)
      by_end no_room t q = let z : ◌≡◌ {A = ℕ} 0 1 = cc in absurd (omega arith)

      by_length : (b : Bool) → long_enough n ≡ b
          → counted places rows ≡ (cond b (listed w n (walk_from w start)) (record { reply = refused (refusal_for slice_too_short); slices = holding n [] [] })).reply → Given n rows
      by_length true t q = let (a, b) = by_end (walk_from w start).end refl q in (t, a, b)
      by_length false t q = let z : ◌≡◌ {A = ℕ} 0 1 = cc in absurd (omega arith)

  module _ (p v : Bytes) (n : Lent) (rows : ℕ) (g : Given n rows) where
    -- the slices that it leaves
    pub given_slices : (lists_from w start n).slices ≡ holding n sheet (old_from w start)
    given_slices =
        ap (λ (b : Bool). (cond b (listed w n (walk_from w start)) (record { reply = refused (refusal_for slice_too_short); slices = holding n [] [] })).slices) g.0
        ∙ ap (λ (d : End). holding n sheet (if_done d (old_from w start) [])) g.1

    pub given_lower : lowers_from w start p v n ≡ lowers_listed w start p v n
    given_lower =
        ap (λ (b : Bool). cond b (if_done (walk_from w start).end (lowers_listed w start p v n) (left_as_listed w start n (lists_from w start n).reply)) (left_as_listed w start n (lists_from w start n).reply)) g.0
        ∙ ap (λ (d : End). if_done d (lowers_listed w start p v n) (left_as_listed w start n (lists_from w start n).reply)) g.1

    -- what it replies, keeps and leaves, from the rows behind the main row
    pub given_told : (xs : List ModuleVersion) → xs ≡ behind → (before : List R.Place) → length before ≡ n.sheet → (list : List ModuleVersion)
        → ◌≡◌ {A = Slices} (record { sheet = before; list = list }) (lists_from w start n).slices → beside list (told_from w p v xs before) ≡ lowers_from w start p v n
    given_told xs is before long list q = ap (λ (ys : List ModuleVersion). beside list (told_from w p v ys before)) is ∙ go (lowerable p v behind) ∙ sym given_lower
      where
        cs : List ModuleVersion
        cs = map (ceiling_of p v) behind

        made : ℕ → ℕ → List ModuleVersion → Lowering
        made k a l = record {
          reply = replied (lower_walk_from w cs).end (length (lower_walk_from w cs).sheet) k;
          kept = if_done (lower_walk_from w cs).end (Some (kept_rows w cs)) None;
          slices = record { sheet = filled blank_place a (take 256 (lower_walk_from w cs).sheet); list = l };
        }

        one_more : length cs + 1 ≡ length (old_from w start)
        one_more = omega (arith, length-map behind (ceiling_of p v))

        as_listed : list ≡ filled blank n.list (old_from w start)
        as_listed = ap (λ (s : Slices). s.list) (q ∙ given_slices)

        go : (b : Bool) → beside list (cond {A = LowerTold} b (told_under w (length before) cs) (record { reply = refused (refusal_for nothing_to_change); kept = None; sheet = before }))
            ≡ cond b (lowers_under w start n (ceilings p v (old_from w start))) (left_as_listed w start n (refused (refusal_for nothing_to_change)))
        go true = ap (λ (k : ℕ). made k (length before) list) one_more ∙ ap (λ (a : ℕ). made (length (old_from w start)) a list) long ∙ ap (made (length (old_from w start)) n.sheet) as_listed
        go false = ap (λ (s : Slices). record { reply = refused (refusal_for nothing_to_change); kept = None; slices = s }) q

  -- where it is refused
  pub refused_lower : (p v : Bytes) (n : Lent) (r : Refusal) → refused r ≡ (lists_from w start n).reply → lowers_from w start p v n ≡ left_as_listed w start n (refused r)
  refused_lower p v n r e = by_length (long_enough n) e (left_as_listed w start n (lists_from w start n).reply) refl ∙ ap (left_as_listed w start n) (sym e)
    where
      by_end : (d : End) (l : Lowering) → refused r ≡ replied d (length sheet) (length (old_from w start)) → if_done d (lowers_listed w start p v n) l ≡ l
      by_end done l q = let z : ◌≡◌ {A = ℕ} 0 1 = cc in absurd (omega arith)
      by_end (stopped k f) l q = refl
      by_end no_room l q = refl

      by_length : (b : Bool) → refused r ≡ (cond b (listed w n (walk_from w start)) (record { reply = refused (refusal_for slice_too_short); slices = holding n [] [] })).reply
          → (l : Lowering) → left_as_listed w start n (lists_from w start n).reply ≡ l → cond b (if_done (walk_from w start).end (lowers_listed w start p v n) l) l ≡ l
      by_length true q l is = by_end (walk_from w start).end l q
      by_length false q l is = refl

-- ---- what stands in the slices

-- the rows of a slice that holds a list
pub rows_held : (list : List Row) (old : List ModuleVersion) (n : ℕ) → map row_names list ≡ filled blank n old → map row_names (take (length old) list) ≡ old
rows_held list old n e = sym (take-map row_names (length old) list) ∙ ap (take (length old)) e ∙ take_at old (replicate (n - length old) blank) (length old) refl

pub rows_fit : (list : List Row) (old : List ModuleVersion) (n : ℕ) → map row_names list ≡ filled blank n old → length old ≤ length list
rows_fit list old n e = omega (arith, ap length (rows_held list old n e), length-map (take (length old) list) row_names, length-take (length old) list)

-- and behind the first
pub behind_held : (list : List Row) (rows : ℕ) (x : ModuleVersion) (xs : List ModuleVersion) → rows ≡ suc (length xs) → map row_names (take (suc (length xs)) list) ≡ x ∷ xs
    → map row_names (take (rows - 1) (drop 1 list)) ≡ xs
behind_held [] rows x xs n e = let z : ◌≡◌ {A = ℕ} 0 1 = cc in absurd (omega arith)
behind_held (y ∷ ys) rows x xs n e =
    let k : rows - 1 ≡ length xs = omega arith in
    let tail : map row_names (take (length xs) ys) ≡ xs = cc in
    ap (λ (j : ℕ). map row_names (take j ys)) k ∙ tail
