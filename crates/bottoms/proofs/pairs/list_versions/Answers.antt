-- One pair more: its version is entered, or there is no room; and the end. Assumes nothing.
use Rattle.std.proofs.Common.{◌≡◌, true, false, is_some, is_ok, sym, ap, ◌∙◌, arith}
use Rattle.std.specs.Option.{option_map}
use Rattle.std.proofs.lemmas.Bool.{cond-true}
use Rattle.rules.specs.Rows.{own}
use Rattle.rules.specs.Tables.{keep, entered_all}
use Rattle.rules.specs.Versions.{version_order}
use Rattle.versions.specs.Values.{plain_version_bytes}
use Rattle.modules.specs.Tables.{listing_bytes}
use Rattle.fields.specs.Pairs.{pairs_in}
use Rattle.fields.specs.Views.{pair_cut_of}
use Rattle.fields.proofs.Pieces.{pairs_some, pairs_none, pair_size}
use Rattle.bottoms.specs.Items.{with_version, versions_in}
use Rattle.bottoms.proofs.Entering.{one_listed, not_listed, listing_made}
use Rattle.bottoms.proofs.pairs.list_versions.Goals as goal

pub loop-pair-smaller : goal.loop-pair-smaller
loop-pair-smaller g c = omega (arith, pair_size c.loop-pair.rest.now (pair_cut_of c.in-Some.pair) c.in-Some.ensures.value)

pub loop-pair-preserved : goal.loop-pair-preserved
loop-pair-preserved g c =
    let p = pair_cut_of c.in-Some.pair in
    let cut = pairs_some c.loop-pair.rest.now p c.in-Some.ensures.value in
    let left = ap (versions_in g.P.Pairs.held c.args.path.now) cut ∙ ap (λ h. with_version h (versions_in g.P.Pairs.held c.args.path.now (pairs_in p.after))) (sym c.version_in.ensures.value) in
    let listed : is_ok c.list_held.result ≡ true = sym c.ok.ensures.variant ∙ ap is_some c.in_ok-ok.was in
    one_listed _ (listing_bytes c.loop-pair.listing) _ _ (option_map plain_version_bytes c.version_in.result) c.loop-pair.invariant left
    (listing_bytes c.list_held.new.listing) (c.list_held.ensures.after ∙ cond-true _ _ _ listed)

pub returns-in_err-ok : goal.returns-in_err-ok
returns-in_err-ok g c =
    let p = pair_cut_of c.in-Some.pair in
    let cut = pairs_some c.loop-pair.rest.now p c.in-Some.ensures.value in
    let left = ap (versions_in g.P.Pairs.held c.args.path.now) cut ∙ ap (λ h. with_version h (versions_in g.P.Pairs.held c.args.path.now (pairs_in p.after))) (sym c.version_in.ensures.value) in
    let full : is_ok c.list_held.result ≡ false = sym c.ok.ensures.variant ∙ ap is_some c.in_err-ok.was in
    record {
      value = ap (option_map listing_bytes) c.from_residual.ensures
          ∙ not_listed _ (listing_bytes c.loop-pair.listing) _ _ (option_map plain_version_bytes c.version_in.result) c.loop-pair.invariant left (sym full ∙ c.list_held.ensures.value);
    }

pub returns : goal.returns
returns g c =
    record {
      value = listing_made c.loop-pair.listing _ (c.loop-pair.invariant ∙ ap (λ qs. entered_all own version_order keep (listing_bytes c.loop-pair.listing) (versions_in g.P.Pairs.held c.args.path.now qs)) (pairs_none c.loop-pair.rest.now c.in_default.ensures.value));
    }
