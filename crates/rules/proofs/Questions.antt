-- A source's questions in a lent slice. Assumes nothing.
use Rattle.std.proofs.Common.{◌≡◌, ℕ, ◌-◌, ◌<◌, ◌≤◌, cond, List, [], ◌++◌, length, take, drop, replicate, refl, ap, ◌∙◌, ⊎_elim, arith}
use native.Mathlib.Nat.{sub-zero}
use Rattle.std.proofs.lemmas.List.{take-append-le, take_all, drop-append-le, drop_all}
use Rattle.std.proofs.lemmas.Bool.{le-leb, lt-leb, cases_lt}
use Rattle.rules.specs.Causes.{Fault}
use Rattle.rules.specs.Sources.{Answer, found, fault, found_in, narrowed}
use Rattle.rules.specs.Slices.{blank_version, blank, filled}
use Rattle.rules.specs.Questions.{too_short, Told, told, ToldRight, QuestionsRight}
use Rattle.rules.proofs.Slices.{filled_length}

module _ {A : Type 0} (none : A) (n : ℕ) (a : Answer (List A)) where
  -- what is told of an answer as it is given
  abbrev pub telling : Answer (List A) → Told A
  telling b = record { answer = narrowed length b; slice = filled none n (found_in b) }

  pub told_short : n < 64 → told none n a ≡ telling (fault too_short)
  told_short h = ap (λ b. telling (cond b a (fault too_short))) (lt-leb 64 n h)

  pub told_long : 64 ≤ n → told none n a ≡ telling a
  told_long h = ap (λ b. telling (cond b a (fault too_short))) (le-leb 64 n h)

  all_blank : filled none n [] ≡ replicate n none
  all_blank = ap (λ k. replicate k none) (sub-zero n)

  pub told_found : 64 ≤ n → (xs : List A) → a ≡ found xs → told none n a ≡ telling (found xs)
  told_found h xs e = told_long h ∙ ap telling e

  pub told_fault : 64 ≤ n → (f : Fault) → a ≡ fault f → told none n a ≡ telling (fault f)
  told_fault h f e = told_long h ∙ ap telling e

  told_right : ((xs : List A) → a ≡ found xs → length xs ≤ 64) → ToldRight none n a (told none n a)
  told_right few = record {
    short = λ h. (ap (λ t. t.answer) (told_short h), ap (λ t. t.slice) (told_short h) ∙ all_blank);
    list = λ h xs e. let t = told_found h xs e in (
      ap (λ t. t.answer) t,
      ap (λ t. take (length xs) t.slice) t ∙ take-append-le (length xs) xs (replicate (n - length xs) none) (omega arith) ∙ take_all (length xs) xs (omega arith),
      ap (λ t. drop (length xs) t.slice) t ∙ drop-append-le (length xs) xs (replicate (n - length xs) none) (omega arith)
          ∙ ap (λ ys. ys ++ replicate (n - length xs) none) (drop_all (length xs) xs (omega arith)),
    );
    faulty = λ h f e. let t = told_fault h f e in (ap (λ t. t.answer) t, ap (λ t. t.slice) t ∙ all_blank);
    long = ⊎_elim
        (λ h. ap (λ t. length t.slice) (told_short h) ∙ filled_length none n [] (omega arith))
        (λ h. ap (λ t. length t.slice) (told_long h) ∙ filled_length none n (found_in a) (omega (arith, found_few a few)))
        (cases_lt n 64);
  }
    where
      found_few : (b : Answer (List A)) → ((xs : List A) → b ≡ found xs → length xs ≤ 64) → length (found_in b) ≤ 64
      found_few (found xs) h = h xs refl
      found_few (fault f) h = omega arith

pub questions_right : QuestionsRight
questions_right m law n = (λ x. told_right blank n (m.requirements x) (law.few_rows x), λ p. told_right blank_version n (m.listing p) (law.few_versions p))
