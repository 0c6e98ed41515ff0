-- The worked examples, by computation, and that their sources are lawful. Assumes nothing.
use Rattle.std.proofs.Common.{◌≡◌, ℕ, ◌≤◌, Bool, true, false, cond, ◌&&◌, leb, ◌⊎◌, List, [], ◌∷◌, map, length, Some, None, filter, Option, Less, sym, refl, ap, ◌∙◌, subst, inl, inr, ⊎_elim, arith}
use lib.ListN.{length-map}
use Rattle.std.specs.Ordering.{is_eq, ordering_then}
use Rattle.std.specs.List.{AllByRecursion}
use Rattle.rules.proofs.Each.{each_mapped}
use Rattle.std.proofs.lemmas.Bool.{leb-true, and_parts}
use Rattle.rules.specs.Orders.{Bytes, lexical}
use Rattle.rules.specs.Texts.{every}
use Rattle.rules.specs.Paths.{path_order}
use Rattle.rules.specs.Versions.{is_version, parted, version_order}
use Rattle.rules.specs.Names.{ModuleVersion, is_module_version, module_order, at, same, same_path, has, ◌∈◌}
use Rattle.rules.specs.Tables.{Ascending, lookup}
use Rattle.rules.specs.Rows.{AscendingVersions}
use Rattle.rules.specs.Causes.{Fault}
use Rattle.rules.specs.Sources.{Answer, found, fault, Meaning, missing_here, passed_up, or_else, falling_back, Lawful}
use Rattle.rules.specs.Walks.{walk, list_walk}
use Rattle.rules.specs.Lowers.{lower_walk, barred, kept_rows}
use Rattle.rules.specs.Calls.{does}
use Rattle.rules.specs.Examples.{Book, title, entry, editions, book, network, broken_network, old_network, ring, rings, bound, outfall1, rain9, worn, mute, unlisting, half_listing, worn_network, v1, tops, fan, fans, cases, Examples}
use Rattle.rules.proofs.Order.{equal_from_test, test_from_equal, paths, versions, module_versions}
use Rattle.rules.proofs.Members.{member_map, member_from_has, all_member, all_from_members, kept_member, kept_was}
use Rattle.rules.proofs.Tables.{kept_ascending, lookup_there, Steps, ascending_steps}
use Rattle.rules.proofs.Layers.{kept_length, fallback_lawful}

-- books

same_path_less : (x y : ModuleVersion) → x.path ≡ y.path → module_order x y ≡ Less → version_order x.version y.version ≡ Less
same_path_less x y p e = sym (ap (λ o. ordering_then o (version_order x.version y.version)) (ap (path_order x.path) (sym p) ∙ paths.same x.path)) ∙ e

versions_ascend : (p : Bytes) (es : Book) → Ascending title module_order es → AllByRecursion (λ e. (title e).path ≡ p) es → AscendingVersions (map (λ e. (title e).version) es)
versions_ascend p [] a h = tt
versions_ascend p (e ∷ es) a h = (
  each_mapped _ (λ e. (title e).version) es
      (all_from_members _ es (λ f k. same_path_less (title e) (title f) (h.0 ∙ sym (all_member (λ g. (title g).path ≡ p) es h.1 f k)) (all_member (λ g. module_order (title e) (title g) ≡ Less) es a.0 f k))),
  versions_ascend p es a.1 h.1,
)

-- a book that is written well: at most 64 editions, and of each a version, and at most 64 well-formed rows
abbrev well : ModuleVersion × List ModuleVersion → Bool
well e = leb (length e.1) 64 && (every is_module_version e.1 && is_version (title e).version)

abbrev well_written : Book → Bool
well_written es = leb (length es) 64 && every well es

all_every : {A : Type 0} (test : A → Bool) (xs : List A) → every test xs ≡ true → AllByRecursion (λ x. test x ≡ true) xs
all_every test [] t = tt
all_every test (x ∷ xs) t = let (h, k) = and_parts (test x) (every test xs) t in (h, all_every test xs k)

entry_found : (o : Option (ModuleVersion × List ModuleVersion)) (rs : List ModuleVersion) → entry o ≡ found rs → (f : ModuleVersion × List ModuleVersion) × (o ≡ Some f) × (f.1 ≡ rs)
entry_found None rs q = let z : ◌≡◌ {A = ℕ} 0 1 = cc in absurd (omega arith)
entry_found (Some f) rs q = (f, refl, cc)

entry_depth : (o : Option (ModuleVersion × List ModuleVersion)) (f : Fault) → entry o ≡ fault f → f.depth ≤ 255
entry_depth None f q = let e : missing_here ≡ f = cc in subst (λ g. g.depth ≤ 255) e (omega arith)
entry_depth (Some e) f q = let z : ◌≡◌ {A = ℕ} 0 1 = cc in absurd (omega arith)

module _ (es : Book) (a : Ascending title module_order es) (w : well_written es ≡ true) where
  few : length es ≤ 64
  few = leb-true (length es) 64 (and_parts (leb (length es) 64) (every well es) w).0

  -- an edition of the book
  edition : (f : ModuleVersion × List ModuleVersion) → f ∈ es → (length f.1 ≤ 64) × AllByRecursion (λ r. is_module_version r ≡ true) f.1 × (is_version (title f).version ≡ true)
  edition f h =
      let t = all_member _ es (all_every well es (and_parts (leb (length es) 64) (every well es) w).1) f h in
      let (n, r) = and_parts (leb (length f.1) 64) (every is_module_version f.1 && is_version (title f).version) t in
      let (rows, v) = and_parts (every is_module_version f.1) (is_version (title f).version) r in
      (leb-true (length f.1) 64 n, all_every is_module_version f.1 rows, v)

  found_edition : (x : ModuleVersion) (rs : List ModuleVersion) → (book es).requirements x ≡ found rs → (f : ModuleVersion × List ModuleVersion) × (f ∈ es) × (title f ≡ x) × (f.1 ≡ rs)
  found_edition x rs q =
      let (f, l, r) = entry_found (lookup title module_order x es) rs q in
      let (h, t) = lookup_there title module_order module_versions x es f l in
      (f, h, t, r)

  abbrev on : Bytes → Book
  on p = filter (λ g. same_path (title g) p) es

  ascends : (p : Bytes) → AscendingVersions (editions es p)
  ascends p =
      versions_ascend p (on p) (kept_ascending title module_order (λ f. same_path (title f) p) es a)
      (all_from_members _ (on p) (λ f k. equal_from_test paths (title f).path p (kept_was (λ g. same_path (title g) p) es f k).1))

  few_editions : (p : Bytes) → length (editions es p) ≤ 64
  few_editions p = omega (arith, few, length-map (on p) (λ e. (title e).version), kept_length (λ g. same_path (title g) p) es)

  formed : (p : Bytes) → AllByRecursion (λ v. is_version v ≡ true) (editions es p)
  formed p = each_mapped _ (λ e. (title e).version) (on p) (all_from_members _ (on p) (λ f k. (edition f (kept_was (λ g. same_path (title g) p) es f k).0).2))

  holds : (p v : Bytes) (rs : List ModuleVersion) → (book es).requirements (at p v) ≡ found rs → v ∈ editions es p
  holds p v rs q =
      let (f, h, t, r) = found_edition (at p v) rs q in
      subst (λ u. u ∈ editions es p) (ap (λ x. x.version) t)
      (member_map (λ g. (title g).version) (on p) f (kept_member (λ g. same_path (title g) p) es f h (test_from_equal paths (title f).path p (ap (λ x. x.path) t))))

  book_lawful : Lawful (book es)
  book_lawful = record {
    few_rows = λ x rs q. let (f, h, t, r) = found_edition x rs q in subst (λ ys. length ys ≤ 64) r (edition f h).0;
    rows_formed = λ x rs q. let (f, h, t, r) = found_edition x rs q in subst (AllByRecursion (λ y. is_module_version y ≡ true)) r (edition f h).1;
    few_versions = λ p vs e. let all : editions es p ≡ vs = cc in subst (λ ys. length ys ≤ 64) all (few_editions p);
    versions_formed = λ p vs e. let all : editions es p ≡ vs = cc in subst (AllByRecursion (λ v. is_version v ≡ true)) all (formed p);
    ascending = λ p vs e. let all : editions es p ≡ vs = cc in subst AscendingVersions all (ascends p);
    whole = λ p vs e v rs q. let all : editions es p ≡ vs = cc in subst (λ ys. v ∈ ys) all (holds p v rs q);
    requirements_depth = λ x f q. entry_depth (lookup title module_order x es) f q;
    listing_depth = λ p f e. let z : ◌≡◌ {A = ℕ} 0 1 = cc in absurd (omega arith);
  }

book_steps : (es : Book) → Steps title module_order module_versions es → well_written es ≡ true → Lawful (book es)
book_steps es h w = book_lawful es (ascending_steps title module_order module_versions es h) w

nothing_lawful : Lawful (book [])
nothing_lawful = book_steps [] tt refl

network_lawful : Lawful (book network)
unfolding lexical path_order parted version_order
network_lawful = book_steps network (refl, (refl, (refl, (refl, tt)))) refl

broken_lawful : Lawful (book broken_network)
unfolding lexical path_order parted version_order
broken_lawful = book_steps broken_network (refl, (refl, (refl, tt))) refl

old_lawful : Lawful (book old_network)
unfolding lexical path_order parted version_order
old_lawful = book_steps old_network (refl, (refl, (refl, (refl, (refl, tt))))) refl

ring_lawful : Lawful (book ring)
unfolding lexical path_order parted version_order
ring_lawful = book_steps ring (refl, (refl, tt)) refl

rings_lawful : Lawful (book rings)
unfolding lexical path_order parted version_order
rings_lawful = book_steps rings (refl, (refl, (refl, tt))) refl

bound_lawful : Lawful (book bound)
unfolding lexical path_order parted version_order
bound_lawful = book_steps bound (refl, (refl, tt)) refl

-- a source that finds less than a lawful one, and else answers that it is worn

abbrev Part : {A : Type 0} → Answer A → Answer A → Type 0
Part a b = (b ≡ a) ⊎ (b ≡ fault worn)

part_found : {A : Type 0} (a b : Answer A) (x : A) → Part a b → b ≡ found x → a ≡ found x
part_found a b x (inl e) q = sym e ∙ q
part_found a b x (inr e) q = let z : ◌≡◌ {A = ℕ} 0 1 = cc in absurd (omega arith)

part_depth : {A : Type 0} (a b : Answer A) (f : Fault) → Part a b → b ≡ fault f → (a ≡ fault f → f.depth ≤ 255) → f.depth ≤ 255
part_depth a b f (inl e) q h = h (sym e ∙ q)
part_depth a b f (inr e) q h = let same : worn ≡ f = cc in subst (λ g. g.depth ≤ 255) same (omega arith)

module _ (m n : Meaning) (listing : (p : Bytes) → Part (m.listing p) (n.listing p)) (requirements : (x : ModuleVersion) → Part (m.requirements x) (n.requirements x)) (law : Lawful m) where
  listed : (p : Bytes) (vs : List Bytes) → n.listing p ≡ found vs → m.listing p ≡ found vs
  listed p vs = part_found (m.listing p) (n.listing p) vs (listing p)

  required : (x : ModuleVersion) (rs : List ModuleVersion) → n.requirements x ≡ found rs → m.requirements x ≡ found rs
  required x rs = part_found (m.requirements x) (n.requirements x) rs (requirements x)

  part_lawful : Lawful n
  part_lawful = record {
    few_rows = λ x rs e. law.few_rows x rs (required x rs e);
    rows_formed = λ x rs e. law.rows_formed x rs (required x rs e);
    few_versions = λ p vs e. law.few_versions p vs (listed p vs e);
    versions_formed = λ p vs e. law.versions_formed p vs (listed p vs e);
    ascending = λ p vs e. law.ascending p vs (listed p vs e);
    whole = λ p vs e v rs q. law.whole p vs (listed p vs e) v rs (required (at p v) rs q);
    requirements_depth = λ x f e. part_depth (m.requirements x) (n.requirements x) f (requirements x) e (law.requirements_depth x f);
    listing_depth = λ p f e. part_depth (m.listing p) (n.listing p) f (listing p) e (law.listing_depth p f);
  }

either_worn : {A : Type 0} (b : Bool) (a : Answer A) → Part a (cond b a (fault worn)) × Part a (cond b (fault worn) a)
either_worn true a = (inl refl, inr refl)
either_worn false a = (inr refl, inl refl)

mute_lawful : Lawful mute
mute_lawful = part_lawful (book []) mute (λ p. inr refl) (λ x. inr refl) nothing_lawful

unlisting_lawful : Lawful unlisting
unlisting_lawful = part_lawful (book network) unlisting (λ p. inr refl) (λ x. inl refl) network_lawful

half_lawful : Lawful half_listing
half_lawful = part_lawful (book network) half_listing (λ p. (either_worn (same_path outfall1 p) ((book network).listing p)).0) (λ x. inl refl) network_lawful

worn_lawful : Lawful worn_network
worn_lawful = part_lawful (book old_network) worn_network (λ p. inl refl) (λ x. (either_worn (same x rain9) ((book old_network).requirements x)).1) old_lawful

-- the fans

-- a requirement list of theirs, and its version: the list of one of the five paths, or an empty one
fan_found : (x : ModuleVersion) (rs : List ModuleVersion) → fans.requirements x ≡ found rs → (x.version ≡ v1) × (((x ∈ tops) × (fan x.path ≡ rs)) ⊎ ([] ≡ rs))
fan_found x rs = by_version (is_eq (version_order x.version v1)) refl
  where
    by_top : (b : Bool) → has tops x ≡ b → cond b (fan x.path) [] ≡ rs → ((x ∈ tops) × (fan x.path ≡ rs)) ⊎ ([] ≡ rs)
    by_top true t q = inl (member_from_has tops x t, q)
    by_top false t q = inr q

    by_version : (b : Bool) → is_eq (version_order x.version v1) ≡ b → cond b (found (cond (has tops x) (fan x.path) [])) (fault missing_here) ≡ found rs
        → (x.version ≡ v1) × (((x ∈ tops) × (fan x.path ≡ rs)) ⊎ ([] ≡ rs))
    by_version true t q = let all : cond (has tops x) (fan x.path) [] ≡ rs = cc in (equal_from_test versions x.version v1 t, by_top (has tops x) refl all)
    by_version false t q = let z : ◌≡◌ {A = ℕ} 0 1 = cc in absurd (omega arith)

-- the rows of the five are well formed
tops_formed : (x : ModuleVersion) → x ∈ tops → every is_module_version (fan x.path) ≡ true
tops_formed = all_member (λ x. every is_module_version (fan x.path) ≡ true) tops (refl, (refl, (refl, (refl, (refl, tt)))))

fans_lawful : Lawful fans
fans_lawful = record {
  few_rows = λ x rs e. ⊎_elim (λ (h, q). subst (λ ys. length ys ≤ 64) q (omega arith)) (λ q. subst (λ (ys : List ModuleVersion). length ys ≤ 64) q (omega arith)) (fan_found x rs e).1;
  rows_formed = λ x rs e. ⊎_elim (λ (h, q). subst (AllByRecursion (λ y. is_module_version y ≡ true)) q (all_every is_module_version (fan x.path) (tops_formed x h))) (λ q. subst (AllByRecursion (λ y. is_module_version y ≡ true)) q tt) (fan_found x rs e).1;
  few_versions = λ p vs e. let one : v1 ∷ [] ≡ vs = cc in subst (λ ys. length ys ≤ 64) one (omega arith);
  versions_formed = λ p vs e. let one : v1 ∷ [] ≡ vs = cc in subst (AllByRecursion (λ v. is_version v ≡ true)) one (refl, tt);
  ascending = λ p vs e. let one : v1 ∷ [] ≡ vs = cc in subst AscendingVersions one (tt, tt);
  whole = λ p vs e v rs q. let one : v1 ∷ [] ≡ vs = cc in subst (λ ys. v ∈ ys) one (inl (fan_found (at p v) rs q).0);
  requirements_depth = λ x f e. by_version x f (is_eq (version_order x.version v1)) e;
  listing_depth = λ p f e. let z : ◌≡◌ {A = ℕ} 0 1 = cc in absurd (omega arith);
}
  where
    by_version : (x : ModuleVersion) (f : Fault) (b : Bool) → cond b (found (cond (has tops x) (fan x.path) [])) (fault missing_here) ≡ fault f → f.depth ≤ 255
    by_version x f true q = let z : ◌≡◌ {A = ℕ} 0 1 = cc in absurd (omega arith)
    by_version x f false q = let same : missing_here ≡ f = cc in subst (λ g. g.depth ≤ 255) same (omega arith)

found_again_lawful : Lawful (falling_back (book broken_network) (book network))
found_again_lawful = fallback_lawful (book broken_network) (book network) broken_lawful network_lawful

mute_first_lawful : Lawful (falling_back mute (book network))
mute_first_lawful = fallback_lawful mute (book network) mute_lawful network_lawful

infixr 20 ◌&◌
◌&◌ : {A B : Type 0} → A → B → A × B
x & y = (x, y)

-- in the order of the cases
sources_lawful : AllByRecursion (λ c. Lawful c.0) cases
sources_lawful =
    nothing_lawful
    & network_lawful & network_lawful & network_lawful & network_lawful & network_lawful & network_lawful & network_lawful & network_lawful & network_lawful
    & broken_lawful & found_again_lawful & mute_first_lawful & rings_lawful & bound_lawful & old_lawful & worn_lawful & unlisting_lawful & half_lawful & fans_lawful & fans_lawful
    & network_lawful & ring_lawful & network_lawful & network_lawful & network_lawful & network_lawful & network_lawful & network_lawful & network_lawful & tt

pub examples : Examples
unfolding lexical path_order parted version_order walk list_walk lower_walk barred kept_rows does
examples = record {
  rise = refl;
  no_version = refl;
  version = refl;
  newer = refl;
  paths = refl;
  readings = refl;
  calls = refl;
  lawful = sources_lawful;
  fallback = λ first second x e. ap (λ a. passed_up (or_else a (second.requirements x))) e;
}
