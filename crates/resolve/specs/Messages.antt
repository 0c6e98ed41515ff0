-- What a failure tells the reader, where it is a message. Assumes nothing.
use Rattle.std.specs.Prelude.{◌≡◌, ℕ, List, string_bytes}
use Rattle.resolve.specs.declared.failure.Failure.{Failure}
use Rattle.resolve.specs.declared.failure.Failure.TheVariants.{Message}

-- it is a message of these words
abbrev pub Says : List ℕ → Failure → Type 0
Says words (Message text) = string_bytes text ≡ words
Says words _ = ⊥
