-- Reading a tree, one file after the other. Assumes nothing.
use Rattle.std.proofs.Common.{◌≡◌, ℕ, Some, None, Option, sym, refl, ap, arith}
use Rattle.std.specs.Option.{option_map}
use Rattle.rules.specs.Orders.{Bytes}
use Rattle.rules.specs.Sources.{fault, missing_here}
use Rattle.fields.specs.Pairs.{Pair}
use Rattle.bottoms.specs.Items.{answered}
use Rattle.tree.specs.Files.{body_answer, file_answer, file_body}

pub file_found : (o : Option Pair) (body : Bytes) → Some body ≡ option_map file_body o → answered file_answer o ≡ body_answer body
file_found None body e = let z : ◌≡◌ {A = ℕ} 0 1 = cc in absurd (omega arith)
file_found (Some q) body e = let s : body ≡ q.second = cc in ap body_answer (sym s)

pub file_missing : (o : Option Pair) → None ≡ option_map file_body o → answered file_answer o ≡ fault missing_here
file_missing None e = refl
file_missing (Some q) e = let z : ◌≡◌ {A = ℕ} 0 1 = cc in absurd (omega arith)
