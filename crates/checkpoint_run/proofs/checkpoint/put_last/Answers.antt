use Rattle.std.proofs.Common.{◌/◌, ◌%◌, ◌<◌, ◌^◌, cond, eqb, Some, length, slice_index, take, sym, ap, subst, ◌∙◌, arith}
use Rattle.std.proofs.lemmas.Option.{slice_get-get_or}
use Rattle.mem_plain.specs.Contents.{byte_at}
use Rattle.checkpoint_run.specs.Versions.{pages_of}
use Rattle.checkpoint_run.specs.declared.version.Version.{Version}
use Rattle.checkpoint_run.proofs.IndexLemmas.{put_none, put_some, first_none, first_last, page_there}
use Rattle.checkpoint_run.proofs.checkpoint.put_last.Goals as goal

pub put_page-requires : goal.put_page-requires
put_page-requires c =
    let vs = c.args.versions.now in
    let place = c.in-Some.place in
    let v : Version = c.index-versions-place.result in
    let last = c.in-Some.ensures.some (pages_of vs) (length vs) c.args.page c.requires.places c.requires.count in
    let low = last.below in
    let most = c.requires.count in
    let got = slice_get-get_or vs place v (omega arith) ∙ ap Some (sym c.index-versions-place.is) in
    subst (λ p. p < 2 ^ 20) (sym (page_there vs place v got) ∙ last.there) v.below

pub returns-in-None : goal.returns-in-None
returns-in-None c put is =
    let vs = c.args.versions.now in
    put_none (take c.args.count vs) put c.args.page c.args.mem.now (first_none vs c.args.page c.args.count c.requires.count (c.in-None.ensures.none (pages_of vs) (length vs) c.args.page c.requires.places c.requires.count)) is

pub returns-in_ok-put_page-in-Some : goal.returns-in_ok-put_page-in-Some
returns-in_ok-put_page-in-Some c put is =
    let vs = c.args.versions.now in
    let page = c.args.page in
    let count = c.args.count in
    let place = c.in-Some.place in
    let v : Version = c.index-versions-place.result in
    let last = c.in-Some.ensures.some (pages_of vs) (length vs) page c.requires.places c.requires.count in
    let low = last.below in
    let most = c.requires.count in
    let got = slice_get-get_or vs place v (omega arith) ∙ ap Some (sym c.index-versions-place.is) in
    put_some (take count vs) put page c.args.mem.now c.put_page.new.self v.bytes (first_last vs page count place v c.requires.count last got)
    (λ q. c.in_ok-put_page-in-Some.ensures.put q ∙ ap (λ items. cond (eqb (q / 4096) page) (slice_index items (q % 4096)) (byte_at c.args.mem.now q)) (c.in_ok-clone-in-Some.ensures.cases ∙ ap (λ (x : Version). x.bytes.bytes.items) (sym c.index-versions-place.is))) is
