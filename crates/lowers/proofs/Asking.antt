-- What lower's walk is answered at a place, as the code asks. Assumes nothing.
use Rattle.std.proofs.Common.{◌≡◌, ℕ, ◌+◌, ◌<◌, ◌≤◌, Bool, true, false, cond, List, [], length, IfOk, Some, Ok, Err, Result, refl, ap, ◌∙◌, subst, arith}
use Rattle.std.specs.List.{slice_get, AllByRecursion}
use Rattle.std.proofs.lemmas.Bool.{or_left, or_right}
use Rattle.rules.specs.Names.{ModuleVersion, is_module_version}
use Rattle.rules.specs.Causes.{Fault, is_missing}
use Rattle.rules.specs.Sources.{Answer, found, fault, Lawful, narrowed}
use Rattle.rules.specs.Projects.{View, off_main, remaining}
use Rattle.rules.specs.Walks as R
use Rattle.rules.specs.Walks.{module_versions, written, Walked, ended, done, stopped, if_room, answered, questioned}
use Rattle.rules.specs.Lowers.{is_above, excused, is_missing_answer, lower_ask, is_bad}
use Rattle.causes.specs.declared.refusal.Refusal.{Refusal}
use Rattle.walks.specs.Sheets.{EndsAs}
use Rattle.walks.proofs.Telling.{with_room}
use Rattle.walks.proofs.Walking.{AsksFormed, asked_of, required_formed}
use Rattle.lowers.specs.declared.learned.Learned.{Learned}
use Rattle.lowers.specs.Learned.{edges_in, Edged, Knows}
use Rattle.lowers.proofs.Edging.{told_extends, knows_list}

module _ (w : View) (cs : List ModuleVersion) where
  -- by the ceiling, and by what the source answers
  ask_above : (x : ModuleVersion) → is_above cs x ≡ true → lower_ask w cs x ≡ found []
  ask_above x t = ap (λ b. cond b (found []) (excused (remaining w x))) t

  module _ (x : ModuleVersion) (under : is_above cs x ≡ false) where
    ask_under : (a : Answer (List ModuleVersion)) → w.layer.requirements x ≡ a → lower_ask w cs x ≡ excused (narrowed (off_main w.main) a)
    ask_under a e = ap (λ b. cond b (found []) (excused (remaining w x))) under ∙ ap (λ r. excused (narrowed (off_main w.main) r)) e

    ask_missing : (f : Fault) → w.layer.requirements x ≡ fault f → is_missing f.cause ≡ true → lower_ask w cs x ≡ found []
    ask_missing f e t = ask_under (fault f) e ∙ ap (λ b. cond {A = Answer (List ModuleVersion)} b (found []) (fault f)) t

    ask_fault : (f : Fault) → w.layer.requirements x ≡ fault f → is_missing f.cause ≡ false → lower_ask w cs x ≡ fault f
    ask_fault f e t = ask_under (fault f) e ∙ ap (λ b. cond {A = Answer (List ModuleVersion)} b (found []) (fault f)) t

  pub bad_above : (x : ModuleVersion) → is_above cs x ≡ true → is_bad w cs x ≡ true
  bad_above x t = or_left _ _ t

  pub bad_missing : (x : ModuleVersion) (f : Fault) → w.layer.requirements x ≡ fault f → is_missing f.cause ≡ true → is_bad w cs x ≡ true
  bad_missing x f e t = or_right (is_above cs x) _ (ap (λ a. is_missing_answer (narrowed (off_main w.main) a)) e ∙ t)

  -- what is answered is well formed
  pub asks_formed : Lawful w.layer → AsksFormed (lower_ask w cs)
  asks_formed law x ys e = by_test (is_above cs x) e
    where
      none : found [] ≡ found ys → AllByRecursion (λ y. is_module_version y ≡ true) ys
      none q = let k : [] ≡ ys = cc in subst (AllByRecursion (λ y. is_module_version y ≡ true)) k tt

      excuse : (f : Fault) (b : Bool) → cond {A = Answer (List ModuleVersion)} b (found []) (fault f) ≡ found ys → AllByRecursion (λ y. is_module_version y ≡ true) ys
      excuse f true q = none q
      excuse f false q = let z : ◌≡◌ {A = ℕ} 0 1 = cc in absurd (omega arith)

      answer : (a : Answer (List ModuleVersion)) → remaining w x ≡ a → excused a ≡ found ys → AllByRecursion (λ y. is_module_version y ≡ true) ys
      answer (found zs) r q = required_formed w law x ys (r ∙ q)
      answer (fault f) r q = excuse f (is_missing f.cause) q

      by_test : (b : Bool) → cond b (found []) (excused (remaining w x)) ≡ found ys → AllByRecursion (λ y. is_module_version y ≡ true) ys
      by_test true q = none q
      by_test false q = answer (remaining w x) refl q

  -- the place i of a sheet, and the row x that stands there
  module _ (i : ℕ) (s : List R.Place) (x : ModuleVersion) (there : slice_get (module_versions s) i ≡ Some x) where
    abbrev pub asked_here : Walked
    asked_here = questioned (lower_ask w cs) (ended done) i s (slice_get s i)

    here : (a : Answer (List ModuleVersion)) → lower_ask w cs x ≡ a → asked_here ≡ answered (ended done) i s a
    here a e = asked_of (lower_ask w cs) (ended done) i s x there ∙ ap (answered (ended done) i s) e

    pub here_above : length s ≤ 256 → is_above cs x ≡ true → asked_here ≡ ended done s
    here_above short t = here (found []) (ask_above x t) ∙ with_room (ended done) s short

    module _ (under : is_above cs x ≡ false) where
      pub here_found : (ys : List ModuleVersion) → w.layer.requirements x ≡ found ys → asked_here ≡ if_room (ended done) (written i (off_main w.main ys) s)
      here_found ys e = here (found (off_main w.main ys)) (ask_under x under (found ys) e)

      pub here_missing : length s ≤ 256 → (f : Fault) → w.layer.requirements x ≡ fault f → is_missing f.cause ≡ true → asked_here ≡ ended done s
      here_missing short f e t = here (found []) (ask_missing x under f e t) ∙ with_room (ended done) s short

      pub here_fault : (f : Fault) → w.layer.requirements x ≡ fault f → is_missing f.cause ≡ false → asked_here ≡ ended (stopped i f) s
      here_fault f e t = here (fault f) (ask_fault x under f e t)

      -- what is learned of a place that has a list
      pub learned_list : (l k : Learned) → Knows w cs s l i → i < length (module_versions s) → (ys : List ModuleVersion) → w.layer.requirements x ≡ found ys → length (off_main w.main ys) ≤ 64
          → k.marked ≡ l.marked → (r : Result (Unit {0}) Refusal) (left : List R.Place) → EndsAs {A = Unit {0}} (if_room (ended done) (written i (off_main w.main ys) s)) r left
          → IfOk r (λ _. Edged i (edges_in l) (off_main w.main ys) (module_versions left) (edges_in k)) → IfOk r (λ _. Knows w cs left k (i + 1))
      learned_list l k knows in_rows ys e short marks (Ok n) left t edged =
          knows_list w cs s left l k i x (off_main w.main ys) knows there in_rows under (ap (narrowed (off_main w.main)) e) short (told_extends i (off_main w.main ys) s left t) edged marks
      learned_list l k knows in_rows ys e short marks (Err refusal) left t edged = tt
