-- The fields and pairs of the code, and what opening answers, told as those of the rules. Assumes nothing.
use Rattle.std.specs.Prelude.{Ok, Err, Result}
use Rattle.rules.specs.Causes as R
use Rattle.causes.specs.declared.cause.Cause.{Cause}
use Rattle.causes.specs.declared.refusal.Refusal.{Refusal}
use Rattle.causes.specs.Told.{cause_of, refusal_of}
use Rattle.fields.specs.declared.field.Field.{Field}
use Rattle.fields.specs.declared.pair.Pair.{Pair}
use Rattle.fields.specs.Fields.{Cut}
use Rattle.fields.specs.Pairs.{PairCut}
use Rattle.fields.specs.Openings.{Opening}

abbrev pub cut_of : Field → Cut
cut_of f = record { tag = f.tag; body = f.body.now; after = f.after.now }

abbrev pub pair_cut_of : Pair → PairCut
pair_cut_of p = record { pair = record { tag = p.tag; first = p.first.now; second = p.second.now }; after = p.after.now }

-- what is opened, or why it is refused
abbrev pub opening_of : {A : Type 0} → Result A Refusal → Opening
opening_of (Ok x) = Ok tt
opening_of (Err f) = Err (refusal_of f)

-- what may come next, or a cause
abbrev pub next_of : {W : Type 0} → Result W Cause → Result W R.Cause
next_of (Ok w) = Ok w
next_of (Err c) = Err (cause_of c)
