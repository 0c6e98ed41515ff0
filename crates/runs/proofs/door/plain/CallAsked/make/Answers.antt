-- The law, from what the call's method ensures. Assumes nothing.
use Rattle.std.proofs.Common.{rules}
use Rattle.walks.specs.Listed.{lent, slices_of}
use Rattle.project.specs.Projects.{state_of}
use Rattle.runs.specs.Told.{call_of, reply_told}
use Rattle.runs.proofs.Making.{goes_on}
use Rattle.runs.proofs.door.plain.CallAsked.make.Goals as goal

pub returns-in-Load-clause-law : goal.returns-in-Load-clause-law
returns-in-Load-clause-law g c =
    let p = c.args.project.now in
    let n = lent c.args.sheet.now c.args.list.now in
    let before = slices_of c.args.sheet.now c.args.list.now in
    goes_on (g.S.Source.meaning p.layer.below) (g.S.Source.lawful p.layer.below) (state_of p) (call_of n c.args.self.now) (reply_told c.into.result) (state_of c.load.new.self) before before
    (search rules) (search rules) (search rules)

pub returns-in-Raise-clause-law : goal.returns-in-Raise-clause-law
returns-in-Raise-clause-law g c =
    let p = c.args.project.now in
    let n = lent c.args.sheet.now c.args.list.now in
    let before = slices_of c.args.sheet.now c.args.list.now in
    goes_on (g.S.Source.meaning p.layer.below) (g.S.Source.lawful p.layer.below) (state_of p) (call_of n c.args.self.now) (reply_told c.into-in-Raise.result) (state_of c.raise.new.self) before before
    (search rules) (search rules) (search rules)

pub returns-in-Drop-clause-law : goal.returns-in-Drop-clause-law
returns-in-Drop-clause-law g c =
    let p = c.args.project.now in
    let n = lent c.args.sheet.now c.args.list.now in
    let before = slices_of c.args.sheet.now c.args.list.now in
    goes_on (g.S.Source.meaning p.layer.below) (g.S.Source.lawful p.layer.below) (state_of p) (call_of n c.args.self.now) (reply_told c.into-in-Drop.result) (state_of c.drop_row.new.self) before before
    (search rules) (search rules) (search rules)

pub returns-in-Exclude-clause-law : goal.returns-in-Exclude-clause-law
returns-in-Exclude-clause-law g c =
    let p = c.args.project.now in
    let n = lent c.args.sheet.now c.args.list.now in
    let before = slices_of c.args.sheet.now c.args.list.now in
    goes_on (g.S.Source.meaning p.layer.below) (g.S.Source.lawful p.layer.below) (state_of p) (call_of n c.args.self.now) (reply_told c.into-in-Exclude.result) (state_of c.exclude.new.self) before before
    (search rules) (search rules) (search rules)

pub returns-in-List-clause-law : goal.returns-in-List-clause-law
returns-in-List-clause-law g c =
    let p = c.args.project.now in
    let n = lent c.args.sheet.now c.args.list.now in
    let before = slices_of c.args.sheet.now c.args.list.now in
    goes_on (g.S.Source.meaning p.layer.below) (g.S.Source.lawful p.layer.below) (state_of p) (call_of n c.args.self.now) (reply_told c.into-in-List.result) (state_of c.list.new.self) before (slices_of c.list.new.sheet c.list.new.list)
    (search rules) (search rules) (search rules)
