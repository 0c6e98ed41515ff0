use Rattle.std.proofs.Common.{◌≡◌, ℕ, ◌+◌, ◌<◌, ◌≤◌, Bool, false, not, ◌&&◌, [], length, get_or, drop, sym, ap, ◌∙◌, arith}
use Rattle.std.proofs.lemmas.List.{at_drop_more, drop_all}
use Rattle.std.proofs.lemmas.Bool.{le-leb}
use Rattle.rules.specs.Orders.{Bytes}
use Rattle.rules.specs.Texts.{slash, every, pieces}
use Rattle.rules.specs.Paths.{is_element, is_path}
use Rattle.names.specs.Scans.{follows, scan}
use Rattle.names.proofs.Scanned.{scanned}
use Rattle.names.proofs.path.checks.is_path_text.Goals as goal

-- one byte more
step : (s : Bytes) (i p : ℕ) (t : Bool) → i < length s → t ≡ follows p (get_or s i 0) → scan p (drop i s) ≡ (t && scan (get_or s i 0) (drop (i + 1) s))
step s i p t l e =
    let m : scan p (drop i s) ≡ (follows p (get_or s i 0) && scan (get_or s i 0) (drop (i + 1) s)) = at_drop_more (scan p) s i 0 l in
    m ∙ ap (λ b. b && scan (get_or s i 0) (drop (i + 1) s)) (sym e)

-- a text that is not too long is a path if it passes byte by byte
passes : (s : Bytes) → length s ≤ 48 → is_path s ≡ scan slash s
passes s l = ap (λ b. b && every is_element (pieces slash s)) (le-leb (length s) 48 l) ∙ sym (scanned s)

pub returns-then-not-may_follow : goal.returns-then-not-may_follow
returns-then-not-may_follow c =
    let s = c.args.text.now in
    let i = c.loop-b.b-index in
    sym (passes s (omega arith) ∙ sym c.loop-b.invariant ∙ step s i c.loop-b.before false c.loop-b-test.true c.if-not-may_follow.ensures)

pub returns : goal.returns
returns c =
    let s = c.args.text.now in
    let out : length s ≤ c.loop-b.b-index = omega arith in
    let e : drop c.loop-b.b-index s ≡ [] = drop_all _ _ out in
    ap not c.is_at_edge.ensures ∙ ap (scan c.loop-b.before) (sym e) ∙ c.loop-b.invariant ∙ sym (passes s (omega arith))
