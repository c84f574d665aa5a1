use Rattle.std.proofs.Common.{◌≡◌, ℕ, zero, suc, ◌+◌, ◌*◌, ◌/◌, ◌%◌, ◌<◌, ◌≤◌, min, sym, subst, arith}
use Rattle.std.proofs.lemmas.Grind.{div_ceil_times}
use Rattle.segment_replay.proofs.PieceLemmas.{few_pieces}
use Rattle.segment_replay.proofs.replaying.piece_size.Goals as goal

positive : (size many n : ℕ) → 0 < n → n ≤ size * many → 0 < size
positive zero many n some room = absurd (omega arith)
positive (suc size) many n some room = omega arith

pub returns : goal.returns
returns c =
    let n = c.args.steps in
    let w = c.args.workers in
    let size = c.div_ceil.result in
    let is : size ≡ n / w + min 1 (n % w) = c.div_ceil.ensures in
    let times = div_ceil_times n w c.requires.workers in
    let room : n ≤ size * w = subst (λ k. n ≤ k * w) (sym is) times.0 in
    let short : size * w < n + w = subst (λ k. k * w < n + w) (sym is) times.1 in
    let some : 0 < size = positive size w n c.requires.steps room in
    record {
      some = some;
      pieces = few_pieces n size w some room;
      short = short;
    }
