-- What the slots of a line hold. Assumes nothing.
use Rattle.std.specs.Prelude.{◌≡◌, ℕ, not, List, is_some}
use Rattle.std.specs.Option.{option_map}
use Rattle.rules.specs.Lines as R
use Rattle.rules.specs.Manifests.{plain}
use Rattle.lexer.specs.declared.slots.LineWords.{LineWords}
use Rattle.lexer.specs.Lefts.{but_first}
use Rattle.lexer.specs.Told.{word_told, next_word}

abbrev pub two_on : List R.Word → List R.Word
two_on ws = but_first (but_first ws)

-- the words ws of line n
pub record Slots (n : ℕ) (ws : List R.Word) (w : LineWords) : Type 0 where
  pub first : option_map word_told w.first ≡ next_word n ws
  pub second : option_map word_told w.second ≡ next_word n (but_first ws)
  pub third : option_map word_told w.third ≡ next_word n (two_on ws)
  pub fourth : option_map word_told w.fourth ≡ next_word n (but_first (two_on ws))
  pub bracket : w.bracket ≡ not (is_some (plain ws))
