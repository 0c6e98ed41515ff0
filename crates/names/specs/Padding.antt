-- How a text lies in a row of bytes that is longer: zeros follow it. Assumes nothing.
use Rattle.std.specs.Prelude.{◌≡◌, ℕ, ◌≤◌, List, length, slice_index}

-- n bytes, of which those from len on are 0
abbrev pub Padded : ℕ → List ℕ → ℕ → Type 0
Padded n bytes len = (length bytes ≡ n) × (len ≤ n) × ((k : ℕ) → len ≤ k → slice_index bytes k ≡ 0)
