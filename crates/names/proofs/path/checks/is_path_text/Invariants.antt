use Rattle.std.proofs.Common.{◌≡◌, drop}
use Rattle.rules.specs.Texts.{slash}
use Rattle.names.specs.Scans.{scan}
use Rattle.names.proofs.path.checks.is_path_text.Given as goal

-- what is left gives the same answer
abbrev pub invariant-loop-b : goal.invariant-loop-b
invariant-loop-b l = scan l.before (drop l.b-index l.text) ≡ scan slash l.text
