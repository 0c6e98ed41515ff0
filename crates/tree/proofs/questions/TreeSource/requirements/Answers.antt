-- One way for each answer. Assumes nothing.
use Rattle.std.proofs.Common.{List, [], length, sym, refl, ap, ◌∙◌, leb-true, leb-false}
use Rattle.std.specs.Option.{option_map}
use Rattle.rules.specs.Questions.{told, too_short}
use Rattle.rules.specs.Sources.{fault, missing_here}
use Rattle.rules.specs.Slices.{blank, filled}
use Rattle.modules.specs.declared.rows.Row.{Row}
use Rattle.modules.specs.Rows.{row_names, names_of}
use Rattle.fields.specs.Pairs.{pairs_in}
use Rattle.source.proofs.Telling.{tells_short, tells_fault}
use Rattle.bottoms.specs.Items.{first_of}
use Rattle.bottoms.specs.Seeking.{Seen}
use Rattle.bottoms.proofs.Seeking.{first_seen}
use Rattle.tree.specs.Files.{is_file_of, body_answer, file_body, tree_meaning}
use Rattle.tree.proofs.Filed.{file_found, file_missing}
use Rattle.tree.proofs.questions.TreeSource.requirements.Goals as goal

pub returns-in_err-check_room-clause-items : goal.returns-in_err-check_room-clause-items
returns-in_err-check_room-clause-items c =
    let n = length c.args.rows.now in
    (tells_short row_names blank n _ c.blank.result (fault too_short) _ (leb-false 64 n (sym c.in_err-check_room.ensures.long)) c.blank.ensures refl c.in_err-check_room.ensures.items).1

pub returns-in-Some : goal.returns-in-Some
returns-in-Some c =
    let bs = c.args.self.now.bytes.now in
    let x = names_of c.args.of.now in
    let body = c.in-Some.file.second.now in
    let found = ap (λ o. option_map file_body (option_map (λ (s : Seen). s.pair) o)) c.in-Some.ensures.value ∙ ap (option_map file_body) (first_seen is_file_of x (pairs_in bs)) in
    let is = sym (file_found (first_of is_file_of x (pairs_in bs)) body found) in
    let long = ap length c.in_ok-check_room.ensures.items in
    record {
      same = refl;
      inside = refl;
      value = c.read_manifest.ensures.value ∙ ap (λ k. (told blank k (body_answer body)).answer) long ∙ ap (λ a. (told blank (length c.args.rows.now) a).answer) is;
      items = c.read_manifest.ensures.items ∙ ap (λ k. (told blank k (body_answer body)).slice) long ∙ ap (λ a. (told blank (length c.args.rows.now) a).slice) is;
    }

pub returns-in-None : goal.returns-in-None
returns-in-None c =
    let n = length c.args.rows.now in
    let bs = c.args.self.now.bytes.now in
    let x = names_of c.args.of.now in
    let missed = ap (λ o. option_map file_body (option_map (λ (s : Seen). s.pair) o)) c.in-None.ensures.value ∙ ap (option_map file_body) (first_seen is_file_of x (pairs_in bs)) in
    let is = file_missing (first_of is_file_of x (pairs_in bs)) missed in
    let same = ap (λ (ys : List Row). filled c.blank-in-None.result (length ys) []) c.in_ok-check_room.ensures.items in
    let (value, items) = tells_fault row_names blank n ((tree_meaning bs).requirements x) missing_here c.blank-in-None.result _ c.refuse.new.items
    (leb-true 64 n (sym c.in_ok-check_room.ensures.long)) is c.blank-in-None.ensures c.refuse.ensures.value (c.refuse.ensures.items ∙ same) in
    record { same = refl; inside = refl; value = value; items = items }
