-- There is no such place, it is the main one, or it leads on. Assumes nothing.
use Rattle.std.proofs.Common.{length, vec_items, sym}
use Rattle.std.proofs.lemmas.Bool.{ltb-false}
use Rattle.commands.proofs.Trails.{ends_past, ends_at_main, goes_on, ends_spent}
use Rattle.commands.proofs.chains.chain_to.Goals as goal

pub returns-in_default : goal.returns-in_default
returns-in_default c =
    let sheet = c.args.sheet.now in
    record { items = ends_past sheet (vec_items c.loop.rows) c.loop.counter c.loop.at c.args.place c.loop.invariant c.loop-test.true (ltb-false c.loop.at (length sheet) (sym c.in_default.ensures.lookup.0)) }

pub returns-then-at-eq0 : goal.returns-then-at-eq0
returns-then-at-eq0 c =
    let f = c.in-Some.ensures.lookup in
    record {
      items = ends_at_main c.args.sheet.now (vec_items c.loop.rows) c.loop.counter c.loop.at c.args.place c.loop.invariant c.in-Some.here.now f.3.0 f.1 c.loop-test.true
          c.if-at-eq0.true (vec_items c.push.new.self) c.in_ok-push.ensures.items;
    }

pub loop-preserved : goal.loop-preserved
loop-preserved c =
    let f = c.in-Some.ensures.lookup in
    goes_on c.args.sheet.now (vec_items c.loop.rows) c.loop.counter c.loop.at c.args.place c.loop.invariant c.in-Some.here.now f.3.0 f.1 c.loop-test.true
    c.if-at-eq0.false (vec_items c.push.new.self) c.in_ok-push.ensures.items

pub returns : goal.returns
returns c = record { items = ends_spent c.args.sheet.now (vec_items c.loop.rows) c.loop.counter c.loop.at c.args.place c.loop.invariant c.loop-test.false }
