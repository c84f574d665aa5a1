use Rattle.std.proofs.Common.{◌≡◌, get_or, length, subst, arith}
use Rattle.std.proofs.lemmas.Option.{slice_get-get_or}
use Rattle.checkpoint_run.specs.Versions.{pages_of}
use Rattle.checkpoint_run.specs.Places.{IsIndex}
use Rattle.checkpoint_run.proofs.IndexLemmas.{page_there}
use Rattle.checkpoint_run.proofs.checkpoint.index_of.Goals as goal

pub versions-preserved : goal.versions-preserved
versions-preserved c =
    let vs = c.args.versions.now in
    let v = c.index-versions-place.result in
    c.in_ok-add_place.ensures (pages_of vs) (page_there vs c.versions.place (get_or vs c.versions.place v) (slice_get-get_or vs c.versions.place v c.versions-test.true)) c.versions.invariant

pub returns : goal.returns
returns c =
    let end : c.versions.place ≡ length c.args.versions.now = omega (arith, c.versions-test.false, c.versions.auto.place-end) in
    subst (IsIndex c.versions.index.entries (pages_of c.args.versions.now)) end c.versions.invariant
