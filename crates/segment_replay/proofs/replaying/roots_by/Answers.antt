use Rattle.std.proofs.Common.{◌≡◌, ℕ, ◌+◌, ◌≤◌, ◌*◌, ◌/◌, ◌%◌, ◌++◌, min, ◌∙◌, All, List, drop, length, map, sym, ap, subst, arith}
use Rattle.std.proofs.lemmas.List.{length-map, length-append}
use Rattle.std.proofs.lemmas.List.Elements.{All-append, All-drop}
use Rattle.segment_replay.specs.Roots.{root_at}
use Rattle.segment_replay.specs.Cursor.{IsWorkerOf}
use Rattle.segment_replay.proofs.PieceLemmas.{written_back, enough_workers}
use Rattle.segment_replay.proofs.replaying.roots_by.Goals as goal

pub returns-clause-workers : goal.returns-clause-workers
returns-clause-workers g c =
    let busy = c.replay_pieces.new.workers in
    let idle = c.split_at_mut-busy.result.1.now in
    let all = busy ++ idle in
    let is_worker = IsWorkerOf g.D.Digester.digest_of c.args.replay.now.run.now in
    let same = ap length c.deref_mut.ensures.value in
    let parts = ap length c.split_at_mut-busy.ensures.value ∙ length-append c.split_at_mut-busy.result.0.now idle in
    let count = length-append busy idle in
    let lent : c.add_workers.new.workers.len ≡ length all =
    c.add_workers.new.workers.ok.0 ∙ (sym same ∙ (parts ∙ (ap (λ n. n + length idle) (sym c.replay_pieces.ensures.count) ∙ sym count))) in
    subst (All is_worker)
    (sym (written_back c.add_workers.new.workers.len all (drop (length all) c.add_workers.new.workers.items) lent))
    (All-append is_worker busy idle c.replay_pieces.ensures.workers
    (subst (All is_worker) (sym c.split_at_mut-busy.ensures.back)
    (All-drop is_worker c.piece_count-pieces.result c.deref_mut.result.now (subst (All is_worker) (sym c.deref_mut.ensures.value) c.in_ok-add_workers.ensures.workers))))

pub returns-clause-roots : goal.returns-clause-roots
returns-clause-roots g c =
    let f : ℕ → List ℕ = root_at g.D.Digester.digest_of c.args.replay.now.run.now in
    let size = c.piece_size-size.result in
    let many = length c.replay_pieces.new.workers in
    let lent : many ≡ c.piece_count-pieces.result = c.replay_pieces.ensures.count ∙ c.split_at_mut-busy.ensures.front_len in
    let few : length c.args.steps.now / size + min 1 (length c.args.steps.now % size) ≤ many =
    subst (λ n. n ≤ many) c.piece_count-pieces.ensures.value (subst (λ n. c.piece_count-pieces.result ≤ n) (sym lent) (omega arith)) in
    let mapped = length-map c.args.steps.now f in
    let room = enough_workers (length c.args.steps.now) size many c.piece_size-size.ensures.some few in
    c.joined.ensures (map f c.args.steps.now) size c.replay_pieces.ensures.made (omega arith)
