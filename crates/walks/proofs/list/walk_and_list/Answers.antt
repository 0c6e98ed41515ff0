-- Every place was questioned, or the walk stopped. Assumes nothing.
use Rattle.std.proofs.Common.{◌≤◌, List, map, length, sym, ap, ◌∙◌, subst}
use Rattle.std.proofs.lemmas.List.{length-map}
use Rattle.rules.specs.Lists.{list_of}
use Rattle.names.specs.Paths.{path_bytes}
use Rattle.modules.specs.Rows.{row_names, names_of}
use Rattle.walks.specs.declared.place.Place.{Place}
use Rattle.walks.specs.Fillings.{items_of}
use Rattle.walks.specs.Places.{place_of}
use Rattle.walks.specs.Sheets.{sheet_of}
use Rattle.walks.specs.Views.{bare, seen_by}
use Rattle.walks.proofs.Listing.{room, done_reply, done_list}
use Rattle.walks.proofs.list.walk_and_list.Goals as goal

pub write_list-requires-clause-room : goal.write_list-requires-clause-room
write_list-requires-clause-room g c =
    let main = path_bytes c.args.main.now in
    let w = seen_by main (g.S.Source.meaning c.args.source.now) in
    subst (λ (ps : List Place). length (list_of (bare main) (map place_of ps)) ≤ 256) (sym c.as_slice.ensures.value)
    (room w (map names_of c.args.start.now) (sheet_of c.walk.new.sheet) c.in_ok-walk.ensures.value)

pub returns-clause-value : goal.returns-clause-value
returns-clause-value g c =
    let main = path_bytes c.args.main.now in
    let w = seen_by main (g.S.Source.meaning c.args.source.now) in
    let listed = c.write_list.ensures.after ∙ ap (λ (ps : List Place). list_of (bare main) (map place_of ps)) c.as_slice.ensures.value in
    done_reply w (map names_of c.args.start.now) (sheet_of c.walk.new.sheet) c.in_ok-walk.ensures.value c.len.result c.len-2.result
    (c.len.ensures.value ∙ sym (length-map (items_of c.walk.new.sheet) place_of))
    (c.len-2.ensures.value ∙ sym (length-map (items_of c.write_list.new.self) row_names) ∙ ap length listed)

pub returns-clause-rows : goal.returns-clause-rows
returns-clause-rows g c =
    let main = path_bytes c.args.main.now in
    let w = seen_by main (g.S.Source.meaning c.args.source.now) in
    let listed = c.write_list.ensures.after ∙ ap (λ (ps : List Place). list_of (bare main) (map place_of ps)) c.as_slice.ensures.value in
    done_list w (map names_of c.args.start.now) (sheet_of c.walk.new.sheet) c.in_ok-walk.ensures.value (map row_names (items_of c.write_list.new.self)) listed
