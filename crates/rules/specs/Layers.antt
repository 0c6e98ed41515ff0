-- What the layers answer, told from the answers below and not by how it is computed. A layer over lawful meanings is lawful, and so is every pile
-- of layers over lawful sources.
-- Exclude: what is excluded is missing, at depth 0; of anything else a list comes up without the excluded rows, a listing without the excluded
-- versions, and a fault one deeper. Fallback: where the first has the manifest missing, and only there, the second's answer comes up, and else
-- the first's, a fault one deeper; a listing is a table of exactly the versions of both, if both list and these are at most 64.
-- Over both layers a fault comes up two deeper. An exclude layer over a fallback leaves out of what the fallback has counted; a fallback over
-- exclude layers counts what they leave. Assumes nothing.
use Rattle.std.specs.Prelude.{◌≡◌, ℕ, ◌+◌, ◌<◌, ◌≤◌, ◌⊎◌, ◌↔◌, List, [], ◌∷◌, length}
use Rattle.rules.specs.Orders.{Bytes}
use Rattle.rules.specs.Causes.{missing, too_many_to_list, Fault}
use Rattle.rules.specs.Names.{ModuleVersion, at, ◌∈◌}
use Rattle.rules.specs.Rows.{AscendingVersions}
use Rattle.rules.specs.Sources.{Answer, found, fault, Meaning, Lawful, excluding, falling_back}

-- ---- how an answer comes up

-- the fault f as it comes up through k layers: the depth is k more, but stops at 255
pub record DeeperBy (k : ℕ) (f g : Fault) : Type 0 where
  pub cause : g.cause ≡ f.cause
  pub place : g.place ≡ f.place
  pub grows : f.depth + k ≤ 255 → g.depth ≡ f.depth + k
  pub stops : 255 ≤ f.depth + k → g.depth ≡ 255

-- an answer below and the answer above it, k layers up: what is found, and what becomes of it, or a fault that is k deeper
abbrev pub ComesUp : {A : Type 0} → ℕ → (A → A → Type 0) → Answer A → Answer A → Type 0
ComesUp k Becomes (found a) (found b) = Becomes a b
ComesUp k Becomes (found a) (fault g) = ⊥
ComesUp k Becomes (fault f) (found b) = ⊥
ComesUp k Becomes (fault f) (fault g) = DeeperBy k f g

-- a list, and what is left of it, in its order, without those that are out
pub data Without {A : Type 0} (Out : A → Type 0) : List A → List A → Type 0 where
  nothing : Without Out [] []
  left_out : {x : A} {xs ys : List A} → Out x → Without Out xs ys → Without Out (x ∷ xs) ys
  stays : {x : A} {xs ys : List A} → (Out x → ⊥) → Without Out xs ys → Without Out (x ∷ xs) (x ∷ ys)

-- the answer is that the manifest is missing
abbrev pub MissingIn : {A : Type 0} → Answer A → Type 0
MissingIn a = (f : Fault) × (a ≡ fault f) × (f.cause ≡ missing)

-- a table of exactly the versions of which In holds
abbrev pub Exactly : (Bytes → Type 0) → List Bytes → Type 0
Exactly In vs = AscendingVersions vs × ((v : Bytes) → v ∈ vs ↔ In v)

-- that there are more than 64 versions, told k layers down
abbrev pub too_many_at : ℕ → Fault
too_many_at k = record { cause = too_many_to_list; place = 0; depth = k }

-- ---- the exclude layer

pub record ExcludeAnswers (es : List ModuleVersion) (m : Meaning) : Type 0 where
  pub excluded : (x : ModuleVersion) → x ∈ es → (excluding es m).requirements x ≡ fault (record { cause = missing; place = 0; depth = 0 })
  pub requirements : (x : ModuleVersion) → (x ∈ es → ⊥) → ComesUp 1 (Without (λ r. r ∈ es)) (m.requirements x) ((excluding es m).requirements x)
  pub listing : (p : Bytes) → ComesUp 1 (Without (λ v. at p v ∈ es)) (m.listing p) ((excluding es m).listing p)

-- ---- the fallback layer

pub record FallbackAnswers (a b : Meaning) : Type 0 where
  pub first : (x : ModuleVersion) → (MissingIn (a.requirements x) → ⊥) → ComesUp 1 ◌≡◌ (a.requirements x) ((falling_back a b).requirements x)
  pub second : (x : ModuleVersion) → MissingIn (a.requirements x) → ComesUp 1 ◌≡◌ (b.requirements x) ((falling_back a b).requirements x)
  pub listing : (p : Bytes) (vs ws : List Bytes) → a.listing p ≡ found vs → b.listing p ≡ found ws → (zs : List Bytes) × Exactly (λ v. (v ∈ vs) ⊎ (v ∈ ws)) zs
      × (length zs ≤ 64 → (falling_back a b).listing p ≡ found zs)
      × (64 < length zs → (falling_back a b).listing p ≡ fault (too_many_at 0))
  pub first_fault : (p : Bytes) (f : Fault) → a.listing p ≡ fault f → ComesUp 1 ◌≡◌ (fault f) ((falling_back a b).listing p)
  pub second_fault : (p : Bytes) (vs : List Bytes) (f : Fault) → a.listing p ≡ found vs → b.listing p ≡ fault f → ComesUp 1 ◌≡◌ (fault f) ((falling_back a b).listing p)

-- ---- both layers, in either order

-- an exclude layer over a fallback
pub record ExcludeOverFallback (es : List ModuleVersion) (a b : Meaning) : Type 0 where
  pub excluded : (x : ModuleVersion) → x ∈ es → (excluding es (falling_back a b)).requirements x ≡ fault (record { cause = missing; place = 0; depth = 0 })
  pub first : (x : ModuleVersion) → (x ∈ es → ⊥) → (MissingIn (a.requirements x) → ⊥)
      → ComesUp 2 (Without (λ r. r ∈ es)) (a.requirements x) ((excluding es (falling_back a b)).requirements x)
  pub second : (x : ModuleVersion) → (x ∈ es → ⊥) → MissingIn (a.requirements x)
      → ComesUp 2 (Without (λ r. r ∈ es)) (b.requirements x) ((excluding es (falling_back a b)).requirements x)
  -- the versions of both are counted, and then the excluded ones left out
  pub listing : (p : Bytes) (vs ws : List Bytes) → a.listing p ≡ found vs → b.listing p ≡ found ws → (zs : List Bytes) × Exactly (λ v. (v ∈ vs) ⊎ (v ∈ ws)) zs
      × (length zs ≤ 64 → (ks : List Bytes) × ((excluding es (falling_back a b)).listing p ≡ found ks) × Exactly (λ v. ((v ∈ vs) ⊎ (v ∈ ws)) × (at p v ∈ es → ⊥)) ks)
      × (64 < length zs → (excluding es (falling_back a b)).listing p ≡ fault (too_many_at 1))
  pub first_fault : (p : Bytes) (f : Fault) → a.listing p ≡ fault f → ComesUp 2 ◌≡◌ (fault f) ((excluding es (falling_back a b)).listing p)
  pub second_fault : (p : Bytes) (vs : List Bytes) (f : Fault) → a.listing p ≡ found vs → b.listing p ≡ fault f
      → ComesUp 2 ◌≡◌ (fault f) ((excluding es (falling_back a b)).listing p)

-- a fallback over two exclude layers, each with exclusions of its own: what is excluded from the first is asked of the second
pub record FallbackOverExcludes (es fs : List ModuleVersion) (a b : Meaning) : Type 0 where
  pub first : (x : ModuleVersion) → (x ∈ es → ⊥) → (MissingIn (a.requirements x) → ⊥)
      → ComesUp 2 (Without (λ r. r ∈ es)) (a.requirements x) ((falling_back (excluding es a) (excluding fs b)).requirements x)
  pub second : (x : ModuleVersion) → (x ∈ es) ⊎ MissingIn (a.requirements x) → (x ∈ fs → ⊥)
      → ComesUp 2 (Without (λ r. r ∈ fs)) (b.requirements x) ((falling_back (excluding es a) (excluding fs b)).requirements x)
  pub excluded : (x : ModuleVersion) → (x ∈ es) ⊎ MissingIn (a.requirements x) → x ∈ fs
      → (falling_back (excluding es a) (excluding fs b)).requirements x ≡ fault (record { cause = missing; place = 0; depth = 1 })
  -- the excluded ones are left out, and then the versions that are left are counted
  pub listing : (p : Bytes) (vs ws : List Bytes) → a.listing p ≡ found vs → b.listing p ≡ found ws
      → (zs : List Bytes) × Exactly (λ v. ((v ∈ vs) × (at p v ∈ es → ⊥)) ⊎ ((v ∈ ws) × (at p v ∈ fs → ⊥))) zs
      × (length zs ≤ 64 → (falling_back (excluding es a) (excluding fs b)).listing p ≡ found zs)
      × (64 < length zs → (falling_back (excluding es a) (excluding fs b)).listing p ≡ fault (too_many_at 0))
  pub first_fault : (p : Bytes) (f : Fault) → a.listing p ≡ fault f → ComesUp 2 ◌≡◌ (fault f) ((falling_back (excluding es a) (excluding fs b)).listing p)
  pub second_fault : (p : Bytes) (vs : List Bytes) (f : Fault) → a.listing p ≡ found vs → b.listing p ≡ fault f
      → ComesUp 2 ◌≡◌ (fault f) ((falling_back (excluding es a) (excluding fs b)).listing p)

-- ---- piles

-- a source, or a layer over a pile or two
pub data Pile : Type 0 where
  source : Meaning → Pile
  exclude_layer : List ModuleVersion → Pile → Pile
  fallback_layer : Pile → Pile → Pile

abbrev pub meaning_of : Pile → Meaning
meaning_of (source m) = m
meaning_of (exclude_layer es t) = excluding es (meaning_of t)
meaning_of (fallback_layer t u) = falling_back (meaning_of t) (meaning_of u)

-- every source of the pile is lawful
abbrev pub OnLawful : Pile → Type 0
OnLawful (source m) = Lawful m
OnLawful (exclude_layer es t) = OnLawful t
OnLawful (fallback_layer t u) = OnLawful t × OnLawful u

-- ---- what is claimed

-- THE LAYER: over a lawful meaning the exclude layer is lawful, and answers so
abbrev pub LayerRight : Type 0
LayerRight = (m : Meaning) (es : List ModuleVersion) → (Lawful m → Lawful (excluding es m)) × ExcludeAnswers es m

-- THE FALLBACK: over lawful meanings the fallback layer is lawful, and answers so
abbrev pub FallbackRight : Type 0
FallbackRight = (a b : Meaning) → Lawful a → Lawful b → Lawful (falling_back a b) × FallbackAnswers a b

-- THE TWO LAYERS: over lawful meanings they answer so, in either order
abbrev pub TwoLayersRight : Type 0
TwoLayersRight = (a b : Meaning) → Lawful a → Lawful b → (es fs : List ModuleVersion) → ExcludeOverFallback es a b × FallbackOverExcludes es fs a b

-- THE PILE: every pile on lawful sources is lawful
abbrev pub PileRight : Type 0
PileRight = (t : Pile) → OnLawful t → Lawful (meaning_of t)
