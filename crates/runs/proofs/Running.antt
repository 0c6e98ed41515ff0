-- One call after another: what a turn of a run adds. Assumes nothing.
use Rattle.std.proofs.Common.{◌≡◌, ℕ, suc, ◌+◌, ◌<◌, List, [], ◌∷◌, ◌++◌, map, length, get_or, take, drop, set, Some, Option, sym, refl, ap, ◌∙◌, subst, ap₂, arith, length-append, length-set}
use lib.ListN.{length-map}
use lib.Seq.{take-set-le}
use Rattle.std.specs.Option.{option_map}
use Rattle.rules.proofs.Each.{each_taken}
use Rattle.std.proofs.lemmas.List.{take_more, get_or-set_same, map_push, drop-set-lt, drop-drop, length-take-le}
use Rattle.rules.specs.Sources.{Meaning, Lawful}
use Rattle.rules.specs.Projects.{State}
use Rattle.rules.specs.Slices.{Lent, Slices}
use Rattle.rules.specs.Calls as R
use Rattle.std.specs.List.{AllByRecursion}
use Rattle.rules.specs.Runs.{after, fresh, InBounds}
use Rattle.runs.specs.Law.{leaves, replies, slices_after, RunsBy}
use Rattle.runs.specs.Told.{reply_told, ToldIn}
use Rattle.runs.specs.declared.calls.Reply.{Reply}
use Rattle.runs.proofs.Making.{after_more, law_at}

module _ (m : Meaning) where
  slices_more : (s : State) (cs : List R.Call) (c : R.Call) (b : Slices) → leaves m (after m s cs) c (slices_after m s cs b) ≡ slices_after m s (cs ++ c ∷ []) b
  slices_more s [] c b = refl
  slices_more s (d ∷ ds) c b = slices_more (R.does m s d).state ds c (leaves m s d b)

  replies_more : (s : State) (cs : List R.Call) (c : R.Call) → replies m s cs ++ (R.does m (after m s cs) c).reply ∷ [] ≡ replies m s (cs ++ c ∷ [])
  replies_more s [] c = refl
  replies_more s (d ∷ ds) c = ap (λ rs. (R.does m s d).reply ∷ rs) (replies_more (R.does m s d).state ds c)

  replies_long : (s : State) (cs : List R.Call) → length (replies m s cs) ≡ length cs
  replies_long s [] = refl
  replies_long s (d ∷ ds) = ap suc (replies_long (R.does m s d).state ds)

-- a reply more in its place
told_more : (before rs : List (Option Reply)) (told : List R.Reply) (r : Reply) (i : ℕ) → length told ≡ i → i < length rs → ToldIn before rs told → ToldIn before (set rs i (Some r)) (told ++ reply_told r ∷ [])
told_more before rs told r i l h t = record {
  front = ap (λ (j : ℕ). map (option_map reply_told) (take j (set rs i y))) long
      ∙ ap (map (option_map reply_told)) (take_more (set rs i y) i y (simp length-set h) ∙ ap₂ (λ xs x. xs ++ x ∷ []) (take-set-le i rs i y (omega arith)) (get_or-set_same rs i y y h))
      ∙ map_push (option_map reply_told) (take i rs) y
      ∙ ap (λ xs. xs ++ Some (reply_told r) ∷ []) (ap (λ (j : ℕ). map (option_map reply_told) (take j rs)) (sym l) ∙ t.front)
      ∙ sym (map_push Some told (reply_told r));
  behind = ap (λ (j : ℕ). drop j (set rs i y)) long ∙ drop-set-lt (i + 1) rs i y (omega arith)
      ∙ drop_further i rs before (ap (λ (j : ℕ). drop j rs) (sym l) ∙ t.behind ∙ ap (λ (j : ℕ). drop j before) l)
      ∙ ap (λ (j : ℕ). drop j before) (sym long);
}
  where
    y : Option Reply
    y = Some r

    long : length (told ++ reply_told r ∷ []) ≡ i + 1
    long = length-append told (reply_told r ∷ []) ∙ ap (λ j. j + 1) l

    drop_further : (i : ℕ) (xs ys : List (Option Reply)) → drop i xs ≡ drop i ys → drop (i + 1) xs ≡ drop (i + 1) ys
    drop_further i xs ys e = sym (drop-drop 1 i xs) ∙ ap (drop 1) e ∙ drop-drop 1 i ys

-- A run to the call i: the calls f makes of the things asked, in slices of the lengths n; it began in the state s, with b in the slices and `before` in the
-- place of the replies. The pile still means m, and t, sl and rs are what there is now.
module _ {C : Type 0} (f : Lent → C → R.Call) (m : Meaning) (s : State) (n : Lent) (asked : List C) (b : Slices) (before : List (Option Reply)) where
  abbrev made : ℕ → List R.Call
  made i = map (f n) (take i asked)

  pub record RanTo (i : ℕ) (pile : Meaning) (t : State) (sl : Slices) (rs : List (Option Reply)) : Type 0 where
    pub same : pile ≡ m
    pub state : t ≡ after m s (map (f n) (take i asked))
    pub slices : sl ≡ slices_after m s (map (f n) (take i asked)) b
    pub told : ToldIn before rs (replies m s (map (f n) (take i asked)))

  module _ (i : ℕ) (pile pile' : Meaning) (t t' : State) (sl sl' : Slices) (rs : List (Option Reply)) (r : Reply) (here : Lent) (x : C) where
    -- one call more
    pub ran_more : RanTo i pile t sl rs → here ≡ n → i < length asked → x ≡ get_or asked i x → i < length rs → pile' ≡ pile
        → reply_told r ≡ (R.does pile t (f here x)).reply → t' ≡ (R.does pile t (f here x)).state → sl' ≡ leaves pile t (f here x) sl → RanTo (i + 1) pile' t' sl' (set rs i (Some r))
    ran_more ran lengths in_list read room keeps replied changed written = record {
      same = keeps ∙ ran.same;
      state = changed ∙ (λ h. (R.does (ran.same h) (ran.state h) (f (lengths h) x)).state) ∙ after_more m s (made i) (f n x) ∙ ap (after m s) more;
      slices = written ∙ (λ h. leaves (ran.same h) (ran.state h) (f (lengths h) x) (ran.slices h)) ∙ slices_more m s (made i) (f n x) b ∙ ap (λ ks. slices_after m s ks b) more;
      told = subst (ToldIn before (set rs i (Some r)))
          (ap (λ q. replies m s (made i) ++ q ∷ []) (replied ∙ λ h. (R.does (ran.same h) (ran.state h) (f (lengths h) x)).reply) ∙ replies_more m s (made i) (f n x) ∙ ap (replies m s) more)
          (told_more before rs (replies m s (made i)) r i (replies_long m s (made i) ∙ long) room ran.told);
    }
      where
        long : length (made i) ≡ i
        long = length-map (take i asked) (f n) ∙ length-take-le i asked (omega arith)

        more : made i ++ f n x ∷ [] ≡ made (i + 1)
        more = sym (map_push (f n) (take i asked) x) ∙ ap (map (f n)) (ap (λ y. take i asked ++ y ∷ []) read ∙ sym (take_more asked i x in_list))

-- calls that are told so are in bounds, if each is
pub all_in_bounds : {C : Type 0} (f : C → R.Call) → ((c : C) → InBounds (f c)) → (cs : List C) → AllByRecursion InBounds (map f cs)
all_in_bounds f each [] = tt
all_in_bounds f each (c ∷ cs) = (each c, all_in_bounds f each cs)

-- the whole run, on a fresh project
pub runs_by : (m : Meaning) → Lawful m → (cs : List R.Call) → AllByRecursion InBounds cs → (t : State) (b sl : Slices) → t ≡ after m fresh cs → sl ≡ slices_after m fresh cs b → RunsBy m cs t b sl
runs_by m law cs bounds t b sl p q = record { changed = p; written = q; law = λ i l. law_at m law (take i cs) (each_taken InBounds i cs bounds) }
