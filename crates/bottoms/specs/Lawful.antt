-- When the meaning of a list of items is lawful: if each item gives a lawful answer, and each that is of a module version holds its version.
-- Assumes nothing.
use Rattle.std.specs.Prelude.{◌≡◌, ℕ, ◌≤◌, Bool, true, false, cond, ◌⊎◌, List, [], ◌∷◌, length, Some, None, Option, nat_lt, refl}
use Rattle.std.proofs.Common.{sym, ◌∙◌, inl, inr, ⊎_elim, arith}
use Rattle.std.proofs.Math.Path.{ap, subst}
use Rattle.std.specs.List.{AllByRecursion}
use Rattle.std.proofs.lemmas.Bool.{ltb-false}
use Rattle.rules.specs.Orders.{Bytes}
use Rattle.rules.specs.Versions.{is_version, version_order}
use Rattle.rules.specs.Causes.{Fault}
use Rattle.rules.specs.Names.{ModuleVersion, is_module_version, at, ◌∈◌}
use Rattle.rules.specs.Rows.{own, AscendingVersions}
use Rattle.rules.specs.Tables.{keep}
use Rattle.rules.specs.Sources.{Answer, found, fault, Lawful, missing_here, over_64, at_most_64}
use Rattle.rules.proofs.Members.{all_from_members}
use Rattle.rules.proofs.Order.{versions}
use Rattle.rules.proofs.Tables.{entered_all_ascending, entered_all_told}
use Rattle.bottoms.specs.Items.{first_of, answered, with_version, versions_in, version_table, meaning_of}

limited : (vs ws : List Bytes) → at_most_64 (found vs) ≡ found ws → (vs ≡ ws) × (length ws ≤ 64)
limited vs ws e = go (nat_lt 64 (length vs)) refl e
  where
    go : (b : Bool) → nat_lt 64 (length vs) ≡ b → cond b (fault over_64) (found vs) ≡ found ws → (vs ≡ ws) × (length ws ≤ 64)
    go true t f = let z : ◌≡◌ {A = ℕ} 0 1 = cc in absurd (omega arith)
    go false t f = let s : vs ≡ ws = cc in (s, omega (arith, ltb-false 64 (length vs) t, ap length s))

over_limit : (vs : List Bytes) (f : Fault) → at_most_64 (found vs) ≡ fault f → f ≡ over_64
over_limit vs f e = go (nat_lt 64 (length vs)) e
  where
    go : (b : Bool) → cond b (fault over_64) (found vs) ≡ fault f → f ≡ over_64
    go true t = cc
    go false t = let z : ◌≡◌ {A = ℕ} 0 1 = cc in absurd (omega arith)

table_ascends : (vs : List Bytes) → AscendingVersions (version_table vs)
table_ascends vs = entered_all_ascending own version_order versions keep (λ x y p. refl) [] vs tt

table_holds : (vs : List Bytes) (v : Bytes) → v ∈ vs → v ∈ version_table vs
table_holds vs v h = (entered_all_told own version_order versions (λ x y p. p) [] vs tt v).1 (inr h)

table_was : (vs : List Bytes) (v : Bytes) → v ∈ version_table vs → v ∈ vs
table_was vs v h = ⊎_elim (λ k. absurd k) (λ k. k) ((entered_all_told own version_order versions (λ x y p. p) [] vs tt v).0 h)

module _ {I : Type 0} (is_of : ModuleVersion → I → Bool) (answer : I → Answer (List ModuleVersion)) (version_in : Bytes → I → Option Bytes) where
  pub record LawfulItems (items : List I) : Type 0 where
    pub few_rows : (i : I) → i ∈ items → (rs : List ModuleVersion) → answer i ≡ found rs → length rs ≤ 64
    pub rows_formed : (i : I) → i ∈ items → (rs : List ModuleVersion) → answer i ≡ found rs → AllByRecursion (λ r. is_module_version r ≡ true) rs
    pub depth : (i : I) → i ∈ items → (f : Fault) → answer i ≡ fault f → f.depth ≤ 255
    pub formed : (p : Bytes) (i : I) → i ∈ items → (v : Bytes) → version_in p i ≡ Some v → is_version v ≡ true
    pub holds : (p v : Bytes) (i : I) → i ∈ items → is_of (at p v) i ≡ true → version_in p i ≡ Some v

  first_there : (x : ModuleVersion) (is : List I) (i : I) → first_of is_of x is ≡ Some i → (i ∈ is) × (is_of x i ≡ true)
  first_there x [] i e = let z : ◌≡◌ {A = ℕ} 0 1 = cc in absurd (omega arith)
  first_there x (j ∷ is) i e = go (first_there x is i) (is_of x j) refl e
    where
      go : (first_of is_of x is ≡ Some i → (i ∈ is) × (is_of x i ≡ true)) → (b : Bool) → is_of x j ≡ b → cond b (Some j) (first_of is_of x is) ≡ Some i
          → ((i ≡ j) ⊎ (i ∈ is)) × (is_of x i ≡ true)
      go below true t f = let s : i ≡ j = cc in (inl s, ap (is_of x) s ∙ t)
      go below false t f = let r = below f in (inr r.0, r.1)

  version_there : (p v : Bytes) (is : List I) (i : I) → i ∈ is → version_in p i ≡ Some v → v ∈ versions_in version_in p is
  version_there p v [] i h e = absurd h
  version_there p v (j ∷ is) i (inl s) e = subst (λ o. v ∈ with_version o (versions_in version_in p is)) (sym (ap (version_in p) (sym s) ∙ e)) (inl refl)
  version_there p v (j ∷ is) i (inr h) e = go (version_in p j) (version_there p v is i h e)
    where
      go : (o : Option Bytes) → v ∈ versions_in version_in p is → v ∈ with_version o (versions_in version_in p is)
      go None k = k
      go (Some w) k = inr k

  version_was : (p v : Bytes) (is : List I) → v ∈ versions_in version_in p is → (i : I) × (i ∈ is) × (version_in p i ≡ Some v)
  version_was p v [] h = absurd h
  version_was p v (j ∷ is) h = go (version_was p v is) (version_in p j) refl h
    where
      later : (i : I) × (i ∈ is) × (version_in p i ≡ Some v) → (i : I) × ((i ≡ j) ⊎ (i ∈ is)) × (version_in p i ≡ Some v)
      later (i, k, e) = (i, inr k, e)

      go : (v ∈ versions_in version_in p is → (i : I) × (i ∈ is) × (version_in p i ≡ Some v)) → (o : Option Bytes) → version_in p j ≡ o
          → v ∈ with_version o (versions_in version_in p is) → (i : I) × ((i ≡ j) ⊎ (i ∈ is)) × (version_in p i ≡ Some v)
      go below None e k = later (below k)
      go below (Some w) e (inl s) = (j, inl refl, e ∙ ap Some (sym s))
      go below (Some w) e (inr k) = later (below k)

  module _ (items : List I) (ok : LawfulItems items) where
    found_there : (x : ModuleVersion) (rs : List ModuleVersion) → answered answer (first_of is_of x items) ≡ found rs
        → (i : I) × (i ∈ items) × (is_of x i ≡ true) × (answer i ≡ found rs)
    found_there x rs e = go (first_of is_of x items) refl e
      where
        go : (o : Option I) → first_of is_of x items ≡ o → answered answer o ≡ found rs → (i : I) × (i ∈ items) × (is_of x i ≡ true) × (answer i ≡ found rs)
        go None p f = let z : ◌≡◌ {A = ℕ} 0 1 = cc in absurd (omega arith)
        go (Some i) p f = let r = first_there x items i p in (i, r.0, r.1, f)

    shallow : (x : ModuleVersion) (f : Fault) → answered answer (first_of is_of x items) ≡ fault f → f.depth ≤ 255
    shallow x f e = go (first_of is_of x items) refl e
      where
        go : (o : Option I) → first_of is_of x items ≡ o → answered answer o ≡ fault f → f.depth ≤ 255
        go None p q = let s : f ≡ missing_here = cc in omega (arith, ap (λ (g : Fault). g.depth) s)
        go (Some i) p q = ok.depth i (first_there x items i p).0 f q

    listed : (p : Bytes) → List Bytes
    listed p = versions_in version_in p items

    pub lawful : Lawful (meaning_of is_of answer version_in items)
    unfolding listed
    lawful = record {
      few_rows = λ x rs e. let (i, h, t, a) = found_there x rs e in ok.few_rows i h rs a;
      rows_formed = λ x rs e. let (i, h, t, a) = found_there x rs e in ok.rows_formed i h rs a;
      few_versions = λ p vs e. (limited (version_table (listed p)) vs e).1;
      versions_formed = λ p vs e. all_from_members (λ v. is_version v ≡ true) vs
          (λ v h.
          let there : v ∈ version_table (listed p) = subst (λ ws. v ∈ ws) (sym (limited (version_table (listed p)) vs e).0) h in
          let (i, k, s) = version_was p v items (table_was (listed p) v there) in
          ok.formed p i k v s);
      ascending = λ p vs e. subst AscendingVersions (limited (version_table (listed p)) vs e).0 (table_ascends (listed p));
      whole = λ p vs e v rs r.
          let (i, h, t, a) = found_there (at p v) rs r in
          subst (λ ws. v ∈ ws) (limited (version_table (listed p)) vs e).0 (table_holds (listed p) v (version_there p v items i h (ok.holds p v i h t)));
      requirements_depth = shallow;
      listing_depth = λ p f e. let s = over_limit (version_table (listed p)) f e in omega (arith, ap (λ (g : Fault). g.depth) s);
    }
