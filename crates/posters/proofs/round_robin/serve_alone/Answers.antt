use Rattle.std.proofs.Common.{rules}
use Rattle.posters.proofs.round_robin.serve_alone.Goals as goal

pub serve-requires-clause-ready : goal.serve-requires-clause-ready
serve-requires-clause-ready g c = let ready = c.requires.ready in (ready.0, search rules, ready.2)
