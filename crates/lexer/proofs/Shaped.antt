-- The first four words of a line, and whether a bracket is among its words, decide what it asks for. Assumes nothing.
use Rattle.std.proofs.Common.{◌≡◌, ℕ, Bool, true, false, not, List, [], ◌∷◌, map, is_some, Some, None, Option, sym, refl, ap, ◌∙◌, arith}
use Rattle.std.specs.Option.{option_map}
use Rattle.rules.specs.Orders.{Bytes}
use Rattle.rules.specs.Lines as R
use Rattle.rules.specs.Lines.{text, opening, closing}
use Rattle.rules.specs.Manifests.{Verb, module_verb, go_verb, require_verb, exclude_verb, other_verb, Directive, behind_verb, verb_of, plain, lone_opening, lone_closing, directive, verb_line, block_line}
use Rattle.lexer.specs.declared.words.Word.{Word}
use Rattle.lexer.specs.Lefts.{but_first}
use Rattle.lexer.specs.Slots.{two_on, Slots}
use Rattle.lexer.specs.declared.slots.LineWords.{LineWords}
use Rattle.lexer.specs.Told.{word_of, word_told, next_word}
use Rattle.lexer.specs.Shapes.{behind_words, shape_words}

abbrev first_word : List R.Word → Option R.Word
first_word [] = None
first_word (w ∷ ws) = Some w

-- the word of a slot
slot_word : (o : Option Word) (n : ℕ) (ws : List R.Word) → option_map word_told o ≡ next_word n ws → option_map word_of o ≡ first_word ws
slot_word o n ws e = again o ∙ ap (option_map (λ (x : ℕ × R.Word). x.1)) e ∙ first n ws
  where
    again : (p : Option Word) → option_map word_of p ≡ option_map (λ (x : ℕ × R.Word). x.1) (option_map word_told p)
    again None = refl
    again (Some w) = refl

    first : (k : ℕ) (us : List R.Word) → option_map (λ (x : ℕ × R.Word). x.1) (next_word k us) ≡ first_word us
    first k [] = refl
    first k (u ∷ us) = refl

-- words of which none is a bracket are their texts
plain_is : (ws : List R.Word) (ts : List Bytes) → plain ws ≡ Some ts → ws ≡ map text ts
plain_is [] ts e = go ts e
  where
    go : (us : List Bytes) → Some [] ≡ Some us → [] ≡ map text us
    go [] f = refl
    go (u ∷ us) f = let z : ◌≡◌ {A = ℕ} 0 1 = cc in absurd (omega arith)
plain_is (text w ∷ ws) ts e = go (plain_is ws) (plain ws) refl e
  where
    go : ((us : List Bytes) → plain ws ≡ Some us → ws ≡ map text us) → (o : Option (List Bytes)) → plain ws ≡ o → option_map (λ us. w ∷ us) o ≡ Some ts
        → text w ∷ ws ≡ map text ts
    go below None p f = let z : ◌≡◌ {A = ℕ} 0 1 = cc in absurd (omega arith)
    go below (Some us) p f =
        let same : w ∷ us ≡ ts = cc in
        ap (λ l. text w ∷ l) (below us p) ∙ ap (map text) same
plain_is (opening ∷ ws) ts e = let z : ◌≡◌ {A = ℕ} 0 1 = cc in absurd (omega arith)
plain_is (closing ∷ ws) ts e = let z : ◌≡◌ {A = ℕ} 0 1 = cc in absurd (omega arith)

plain_texts : (ts : List Bytes) → plain (map text ts) ≡ Some ts
plain_texts [] = refl
plain_texts (t ∷ ts) = ap (option_map (λ us. t ∷ us)) (plain_texts ts)

abbrev behind_slots : Verb → List R.Word → Option Directive
behind_slots verb ws = behind_words verb (first_word ws) (first_word (but_first ws)) (first_word (two_on ws))

behind_is : (verb : Verb) (ts : List Bytes) → behind_slots verb (map text ts) ≡ behind_verb verb ts
behind_is module_verb [] = refl
behind_is module_verb (a ∷ []) = refl
behind_is module_verb (a ∷ b ∷ ts) = refl
behind_is go_verb [] = refl
behind_is go_verb (a ∷ []) = refl
behind_is go_verb (a ∷ b ∷ ts) = refl
behind_is require_verb [] = refl
behind_is require_verb (a ∷ []) = refl
behind_is require_verb (a ∷ b ∷ []) = refl
behind_is require_verb (a ∷ b ∷ c ∷ ts) = refl
behind_is exclude_verb [] = refl
behind_is exclude_verb (a ∷ []) = refl
behind_is exclude_verb (a ∷ b ∷ []) = refl
behind_is exclude_verb (a ∷ b ∷ c ∷ ts) = refl
behind_is other_verb ts = refl

abbrev slots_shape : Option Verb → Bool → List R.Word → Option Directive
slots_shape block bracket ws = shape_words block bracket (first_word ws) (first_word (but_first ws)) (first_word (two_on ws)) (first_word (but_first (two_on ws)))

-- a line without brackets
no_opening : (ts : List Bytes) → lone_opening (map text ts) ≡ false
no_opening [] = refl
no_opening (t ∷ ts) = refl

no_closing : (ts : List Bytes) → lone_closing (map text ts) ≡ false
no_closing [] = refl
no_closing (t ∷ ts) = refl

texts_outside : (ts : List Bytes) → slots_shape None false (map text ts) ≡ directive None (map text ts)
texts_outside [] = refl
texts_outside (v ∷ ts) = rw (no_opening ts, plain_texts ts) (behind_is (verb_of v) ts)

texts_inside : (verb : Verb) (ts : List Bytes) → slots_shape (Some verb) false (map text ts) ≡ directive (Some verb) (map text ts)
texts_inside verb [] = refl
texts_inside verb (t ∷ ts) = behind_is verb (t ∷ ts) ∙ ap (block_line verb) (sym (plain_texts (t ∷ ts)))

-- a line with a bracket
marks_outside : (ws : List R.Word) → plain ws ≡ None → slots_shape None true ws ≡ directive None ws
marks_outside [] e = let z : ◌≡◌ {A = ℕ} 0 1 = cc in absurd (omega arith)
marks_outside (text v ∷ []) e = let z : ◌≡◌ {A = ℕ} 0 1 = cc in absurd (omega arith)
marks_outside (text v ∷ text w ∷ ws) e = sym (ap verb_line e)
marks_outside (text v ∷ opening ∷ []) e = refl
marks_outside (text v ∷ opening ∷ w ∷ ws) e = refl
marks_outside (text v ∷ closing ∷ ws) e = refl
marks_outside (opening ∷ ws) e = refl
marks_outside (closing ∷ ws) e = refl

marks_inside : (verb : Verb) (ws : List R.Word) → plain ws ≡ None → slots_shape (Some verb) true ws ≡ directive (Some verb) ws
marks_inside verb [] e = let z : ◌≡◌ {A = ℕ} 0 1 = cc in absurd (omega arith)
marks_inside verb (text w ∷ ws) e = sym (ap (block_line verb) e)
marks_inside verb (opening ∷ ws) e = refl
marks_inside verb (closing ∷ []) e = refl
marks_inside verb (closing ∷ w ∷ ws) e = refl

shaped : (block : Option Verb) (ws : List R.Word) → slots_shape block (not (is_some (plain ws))) ws ≡ directive block ws
shaped block ws = go block (plain ws) refl
  where
    go : (b : Option Verb) (o : Option (List Bytes)) → plain ws ≡ o → slots_shape b (not (is_some o)) ws ≡ directive b ws
    go None (Some ts) e = rw (plain_is ws ts e) (texts_outside ts)
    go (Some verb) (Some ts) e = rw (plain_is ws ts e) (texts_inside verb ts)
    go None None e = marks_outside ws e
    go (Some verb) None e = marks_inside verb ws e

slots_shaped : (block : Option Verb) (n : ℕ) (ws : List R.Word) (w : LineWords) → Slots n ws w
    → shape_words block w.bracket (option_map word_of w.first) (option_map word_of w.second) (option_map word_of w.third) (option_map word_of w.fourth) ≡ directive block ws
slots_shaped block n ws w s =
    rw (
      s.bracket,
      slot_word w.first n ws s.first,
      slot_word w.second n (but_first ws) s.second,
      slot_word w.third n (two_on ws) s.third,
      slot_word w.fourth n (but_first (two_on ws)) s.fourth,
    )
    (shaped block ws)

-- what the slots make is what the line asks for
pub slots_told : (block : Option Verb) (n : ℕ) (ws : List R.Word) (w : LineWords) (d : Option Directive) → Slots n ws w
    → d ≡ shape_words block w.bracket (option_map word_of w.first) (option_map word_of w.second) (option_map word_of w.third) (option_map word_of w.fourth)
    → d ≡ directive block ws
slots_told block n ws w d s e = e ∙ slots_shaped block n ws w s
