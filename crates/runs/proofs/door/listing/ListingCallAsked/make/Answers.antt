-- The law, from what the call's method ensures. Assumes nothing.
use Rattle.std.proofs.Common.{rules}
use Rattle.walks.specs.Listed.{lent, slices_of}
use Rattle.project.specs.Projects.{state_of}
use Rattle.runs.specs.Told.{listing_call_of, reply_told}
use Rattle.runs.proofs.Making.{goes_on}
use Rattle.runs.proofs.door.listing.ListingCallAsked.make.Goals as goal

pub returns-in-Lower-clause-law : goal.returns-in-Lower-clause-law
returns-in-Lower-clause-law g c =
    let p = c.args.project.now in
    let n = lent c.args.sheet.now c.args.list.now in
    let before = slices_of c.args.sheet.now c.args.list.now in
    goes_on (g.S.Source.meaning p.layer.below) (g.S.Source.lawful p.layer.below) (state_of p) (listing_call_of n c.args.self.now) (reply_told c.into.result) (state_of c.lower.new.self) before (slices_of c.lower.new.sheet c.lower.new.list)
    (search rules) (search rules) (search rules)
