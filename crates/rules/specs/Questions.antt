-- A source's two questions, in a slice that is lent: the requirement list of a module version, in a slice of rows, and the listing of a path, in
-- a slice of versions. Both go by one rule. A slice under 64 places is refused before all else, and is all blank. Else the answer is that of the
-- meaning, how many are found or a fault, and the slice holds what is found, if anything is, and then blanks. Assumes nothing.
use Rattle.std.specs.Prelude.{◌≡◌, ℕ, ◌-◌, ◌<◌, ◌≤◌, cond, List, length, take, drop, replicate, nat_le}
use Rattle.rules.specs.Orders.{Bytes}
use Rattle.rules.specs.Names.{ModuleVersion}
use Rattle.rules.specs.Causes.{slice_too_short, Fault}
use Rattle.rules.specs.Sources.{Answer, found, fault, Meaning, Lawful, found_in, narrowed}
use Rattle.rules.specs.Slices.{blank_version, blank, filled}

-- the fault of a slice that is too short, at whatever layer it is lent
abbrev pub too_short : Fault
too_short = record { cause = slice_too_short; place = 0; depth = 0 }

-- an answer as it is given to a slice of n places
abbrev pub given_in : {A : Type 0} → ℕ → Answer A → Answer A
given_in n a = cond (nat_le 64 n) a (fault too_short)

-- what a question answers, and what the slice then holds
pub record Told (A : Type 0) : Type 0 where
  pub answer : Answer ℕ
  pub slice : List A

-- a question in a slice of n places to which the meaning answers a; `none` is the blank
abbrev pub told : {A : Type 0} → A → ℕ → Answer (List A) → Told A
told none n a = record { answer = narrowed length (given_in n a); slice = filled none n (found_in (given_in n a)) }

abbrev pub requirements_told : Meaning → ModuleVersion → ℕ → Told ModuleVersion
requirements_told m x n = told blank n (m.requirements x)

abbrev pub listing_told : Meaning → Bytes → ℕ → Told Bytes
listing_told m p n = told blank_version n (m.listing p)

-- what that comes to, in the slice t of n places
pub record ToldRight {A : Type 0} (none : A) (n : ℕ) (a : Answer (List A)) (t : Told A) : Type 0 where
  pub short : n < 64 → (t.answer ≡ fault too_short) × (t.slice ≡ replicate n none)
  -- what is found stands in front
  pub list : 64 ≤ n → (xs : List A) → a ≡ found xs
      → (t.answer ≡ found (length xs)) × (take (length xs) t.slice ≡ xs) × (drop (length xs) t.slice ≡ replicate (n - length xs) none)
  pub faulty : 64 ≤ n → (f : Fault) → a ≡ fault f → (t.answer ≡ fault f) × (t.slice ≡ replicate n none)
  -- the slice keeps its length
  pub long : length t.slice ≡ n

-- THE QUESTIONS: so it is of both, whatever is asked of a lawful meaning, in slices of any length
abbrev pub QuestionsRight : Type 0
QuestionsRight = (m : Meaning) → Lawful m → (n : ℕ)
    → ((x : ModuleVersion) → ToldRight blank n (m.requirements x) (requirements_told m x n))
    × ((p : Bytes) → ToldRight blank_version n (m.listing p) (listing_told m p n))
