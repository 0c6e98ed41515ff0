-- Manifests in folders: what is read is what is written, and which names those of a module version are. Assumes nothing.
use Rattle.std.proofs.Common.{◌≡◌, ℕ, ◌≤◌, Bool, true, false, leb, ◌++◌, length, Some, None, Option, sym, refl, ap, ◌∙◌, arith}
use Rattle.std.specs.Bool.{then_some}
use Rattle.std.proofs.lemmas.Bool.{leb-true, le-leb, and_parts, true≢false}
use Rattle.rules.specs.Orders.{Bytes}
use Rattle.rules.specs.Texts.{slash, every, pieces}
use Rattle.rules.specs.Paths.{is_element, is_path}
use Rattle.rules.specs.Versions.{is_version}
use Rattle.rules.specs.Names.{ModuleVersion, is_module_version, at}
use Rattle.tree.specs.Escapes.{escaped, unescaped}
use Rattle.tree.specs.Filenames.{dot_mod, before, bound}
use Rattle.tree.specs.Layouts.{at_v, held, text_written, formed, laid_out, LayoutRight}
use Rattle.tree.specs.Laws.{before_text, path_again, version_again}
use Rattle.tree.proofs.Spelled.{before_was, unescaped_was, bound_was, version_short}

-- ---- only short texts make a module version

path_short : (t : Bytes) → is_path t ≡ true → length t ≤ 48
path_short t e = leb-true (length t) 48 (and_parts (leb (length t) 48) (every is_element (pieces slash t)) e).0

abbrev made : Bytes → Bytes → Option ModuleVersion
made p v = then_some (is_module_version (at p v)) (at p v)

long_path : (p v : Bytes) → leb (length p) 48 ≡ false → (x : Bool) → is_module_version (at p v) ≡ x → then_some x (at p v) ≡ None
long_path p v k false h = refl
long_path p v k true h = absurd (true≢false (sym (le-leb (length p) 48 (path_short p (and_parts (is_path p) (is_version v) h).0)) ∙ k))

long_version : (p v : Bytes) → leb (length v) 48 ≡ false → (x : Bool) → is_module_version (at p v) ≡ x → then_some x (at p v) ≡ None
long_version p v k false h = refl
long_version p v k true h = absurd (true≢false (sym (le-leb (length v) 48 (version_short v (and_parts (is_path p) (is_version v) h).1)) ∙ k))

formed_none : (a : Option Bytes) → None ≡ formed a None
formed_none None = refl
formed_none (Some p) = refl

formed_held : (a b : Option Bytes) → formed (bound held a) (bound held b) ≡ formed a b
formed_held None b = refl
formed_held (Some p) None = sym (formed_none (held p))
formed_held (Some p) (Some v) = go (leb (length p) 48) refl (leb (length v) 48) refl
  where
    go : (x : Bool) → leb (length p) 48 ≡ x → (y : Bool) → leb (length v) 48 ≡ y → formed (then_some x p) (then_some y v) ≡ made p v
    go true h true k = refl
    go true h false k = sym (long_version p v k (is_module_version (at p v)) refl)
    go false h y k = sym (long_path p v h (is_module_version (at p v)) refl)

held_written : (o : Option Bytes) → bound text_written o ≡ bound held (bound unescaped o)
held_written None = refl
held_written (Some t) = refl

module _ (folder file : Bytes) where
  -- as the code reads it
  pub laid_read : (a b : Option Bytes) → a ≡ bound text_written (before at_v folder) → b ≡ bound text_written (before dot_mod file) → formed a b ≡ laid_out folder file
  laid_read a b e f =
      ap (λ o. formed o b) (e ∙ held_written (before at_v folder))
      ∙ ap (formed (bound held (bound unescaped (before at_v folder)))) (f ∙ held_written (before dot_mod file))
      ∙ formed_held (bound unescaped (before at_v folder)) (bound unescaped (before dot_mod file))

  pub no_path_read : None ≡ bound text_written (before at_v folder) → None ≡ laid_out folder file
  no_path_read e = laid_read None (bound text_written (before dot_mod file)) e refl

  pub no_version_read : (a : Option Bytes) → a ≡ bound text_written (before at_v folder) → None ≡ bound text_written (before dot_mod file) → None ≡ laid_out folder file
  no_version_read a e f = formed_none a ∙ laid_read a None e f

-- ---- the names

made_was : (p v : Bytes) (x : ModuleVersion) → made p v ≡ Some x → (is_module_version x ≡ true) × (at p v ≡ x)
made_was p v x e = go (is_module_version (at p v)) refl e
  where
    go : (b : Bool) → is_module_version (at p v) ≡ b → then_some b (at p v) ≡ Some x → (is_module_version x ≡ true) × (at p v ≡ x)
    go true h f = let s : at p v ≡ x = cc in (sym (ap is_module_version s) ∙ h, s)
    go false h f = let z : ◌≡◌ {A = ℕ} 0 1 = cc in absurd (omega arith)

formed_was : (a b : Option Bytes) (x : ModuleVersion) → formed a b ≡ Some x → (a ≡ Some x.path) × (b ≡ Some x.version) × (is_module_version x ≡ true)
formed_was None b x e = let z : ◌≡◌ {A = ℕ} 0 1 = cc in absurd (omega arith)
formed_was (Some p) None x e = let z : ◌≡◌ {A = ℕ} 0 1 = cc in absurd (omega arith)
formed_was (Some p) (Some v) x e =
    let (ok, s) = made_was p v x e in
    (ap (λ (y : ModuleVersion). Some y.path) s, ap (λ (y : ModuleVersion). Some y.version) s, ok)

-- what is written before an ending
written_was : (ending name t : Bytes) → bound unescaped (before ending name) ≡ Some t → name ≡ escaped t ++ ending
written_was ending name t e =
    let (front, e1, f1) = bound_was unescaped (before ending name) t e in
    before_was ending name front e1 ∙ ap (λ x. x ++ ending) (unescaped_was front t f1)

written_is : (ending t : Bytes) → unescaped (escaped t) ≡ Some t → bound unescaped (before ending (escaped t ++ ending)) ≡ Some t
written_is ending t e = ap (bound unescaped) (before_text (escaped t) ending) ∙ e

pub layout_right : LayoutRight
layout_right folder file x = (
  λ e. let (p, v, ok) = formed_was (bound unescaped (before at_v folder)) (bound unescaped (before dot_mod file)) x e in
      (ok, written_was at_v folder x.path p, written_was dot_mod file x.version v),
  λ (ok, f, g).
      let (path, version) = and_parts (is_path x.path) (is_version x.version) ok in
      ap (λ n. laid_out n file) f ∙ ap (laid_out (escaped x.path ++ at_v)) g
      ∙ ap (λ o. formed o (bound unescaped (before dot_mod (escaped x.version ++ dot_mod)))) (written_is at_v x.path (path_again x.path path))
      ∙ ap (formed (Some x.path)) (written_is dot_mod x.version (version_again x.version version))
      ∙ ap (λ b. then_some b x) ok,
)
