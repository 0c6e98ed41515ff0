-- The first place at which a comment begins, or none. Assumes nothing.
use Rattle.std.proofs.Common.{◌≡◌, true, false, rules, arith, Some, None, drop}
use Rattle.std.proofs.lemmas.List.{take_rest}
use Rattle.std.proofs.lemmas.Iterator.{first_from_Range}
use Rattle.lexer.specs.Cuts.{begins_with_comment}
use Rattle.lexer.proofs.Coded.{code_first, code_whole}
use Rattle.lexer.proofs.lines.reading.code_of.Goals as goal

pub returns-in-Some : goal.returns-in-Some
returns-in-Some c =
    let l = c.args.line.now in
    let f = first_from_Range _ _ _ (Some c.in-Some.n) (λ n. begins_with_comment (drop n l) ≡ true) (λ n. begins_with_comment (drop n l) ≡ false) c.in-Some.ensures.ran (λ n q h. search (rules, take_rest)) (λ n q h. search (rules, take_rest)) in
    record { value = code_first l c.in-Some.n (omega (arith, f.1)) (λ k lt. f.3 k (omega arith) lt) f.2 }

pub returns-in-None : goal.returns-in-None
returns-in-None c =
    let l = c.args.line.now in
    let f = first_from_Range _ _ _ None (λ n. begins_with_comment (drop n l) ≡ true) (λ n. begins_with_comment (drop n l) ≡ false) c.in-None.ensures.ran (λ n q h. search (rules, take_rest)) (λ n q h. search (rules, take_rest)) in
    record { value = code_whole l (λ k lt. f k (omega arith) lt) }
