use Rattle.std.proofs.Common.{◌≡◌, ◌≤◌, ◌*◌, ◌++◌, length, take, sym, ap, subst, ◌∙◌, arith, IfSome}
use Rattle.segment_replay.specs.Roots.{digests}
use Rattle.rd_base.specs.declared.digest.Digest32.{Digest32}
use Rattle.std.specs.Fork.{slice_chunk}
use Rattle.segment_replay.proofs.PieceLemmas.{chunk_more, place_of_map}
use Rattle.std.proofs.lemmas.List.{map-append, take_all}
use Rattle.segment_replay.proofs.replaying.joined.Goals as goal

pub pieces-preserved : goal.pieces-preserved
pieces-preserved g c want size pieces =
    let i = c.pieces.worker-index in
    let h : digests c.in-Some.roots.items ≡ slice_chunk want size i = subst (λ r. IfSome r (λ v. digests v.items ≡ slice_chunk want size i))
    (sym (ap (λ w. w.made) c.worker-item.is) ∙ c.in-Some.is) (place_of_map (λ w. w.made) (λ n r. IfSome r (λ v. digests v.items ≡ slice_chunk want size n)) c.args.workers.now pieces i c.worker-item.result c.pieces-test.true) in
    ap digests c.in_ok-extend_from_slice-in-Some.ensures.items
    ∙ (map-append (λ (d : Digest32). d.0) c.pieces.all.items c.deref.result.now
    ∙ (ap (λ xs. xs ++ digests c.deref.result.now) (c.pieces.invariant want size pieces)
    ∙ (ap (λ xs. take (i * size) want ++ xs) (ap digests c.deref.ensures.value ∙ h)
    ∙ chunk_more want size i)))

pub returns : goal.returns
returns g c want size pieces enough =
    let end : length c.args.workers.now ≡ c.pieces.worker-index = omega arith in
    c.pieces.invariant want size pieces ∙ take_all (c.pieces.worker-index * size) want (subst (λ n. length want ≤ n * size) end enough)
