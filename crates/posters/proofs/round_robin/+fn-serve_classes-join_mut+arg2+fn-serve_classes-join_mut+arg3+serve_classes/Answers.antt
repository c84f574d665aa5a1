use Rattle.std.proofs.Common.{rules, ◌≡◌, ℕ, ◌/◌, get_or, length, map, take, drop, refl, sym, ap, ◌∙◌, arith}
use Rattle.posters.proofs.Blocks.{said_near, said_far}
use Rattle.posters.proofs.ByClass.{All-take, All-drop, suits-one, suits-near, suits-far}
use Rattle.posters.proofs.round_robin.+fn-serve_classes-join_mut+arg2+fn-serve_classes-join_mut+arg3+serve_classes.Goals as goal

pub serve_alone-requires-clause-ready : goal.serve_alone-requires-clause-ready
serve_alone-requires-clause-ready g t c κs within =
    let ready = c.requires.ready in
    let block = c.split_at-2.ensures.front ∙ ap (take (length c.args.items.now)) (c.split_at.ensures.back ∙ ap (drop c.args.from) c.as_slice.ensures.value) in
    (ready.0, ready.1, ready.2 ∙ ap (map ready.0) (sym block))

pub serve_alone-requires-clause-class : goal.serve_alone-requires-clause-class
serve_alone-requires-clause-class g t c κs within =
    let block = c.split_at-2.ensures.front ∙ ap (take (length c.args.items.now)) (c.split_at.ensures.back ∙ ap (drop c.args.from) c.as_slice.ensures.value) in
    suits-one (λ w. g.Server.ClassServer.class_of (g.Server.ClassServer.stays w)) c.args.order.now.classes c.args.order.now.numbers.items c.args.from (length c.args.items.now) c.args.servers.now c.split_at-2.result.0.now c.requires.classes c.if-servers-lt2.true block c.split_at-2.ensures.front_len

pub join_mut-requires-after_bounds : goal.join_mut-requires-after_bounds
join_mut-requires-after_bounds g t c κs within =
    let meaning = g.Server.ClassServer.meaning in let class : g.row.Server.Denot → ℕ = λ w. g.Server.ClassServer.class_of (g.Server.ClassServer.stays w) in
    let ready = c.requires.ready in let may : g.row.Server.Denot → Type 0 = λ w. g.Server.ClassServer.ready c.args.board.now (g.Server.ClassServer.stays w) ready.0 in
    let few = c.requires.few.1 in let suits = c.requires.classes in
    let servers = c.args.servers.now in let items = c.args.items.now in let from : ℕ = c.args.from in
    let classes : ℕ = c.args.order.now.classes in let numbers = c.args.order.now.numbers.items in
    let left = c.split_at_mut-left.result.0.now in let right = c.split_at_mut-left.result.1.now in let by_half = c.split_at_mut-left.ensures in
    let near = c.split_at_mut-near.result.0.now in let far = c.split_at_mut-near.result.1.now in let by_place = c.split_at_mut-near.ensures in
    let half : ℕ = length servers / 2 in let place : ℕ = c.count_below-place.result in let cut = c.count_below-place.ensures in
    let block = c.split_at-2.result.0.now in let middle = c.index-servers-half.result in let many = c.if-servers-lt2.false in
    let block_is = c.split_at-2.ensures.front ∙ ap (take (length items)) (c.split_at.ensures.back ∙ ap (drop from) c.as_slice.ensures.value) in
    let block_long = c.split_at-2.ensures.front_len in
    let near_long = by_place.front_len in let far_long = by_place.back_len in
    let mid : c.class.result ≡ class (get_or servers half middle) = c.class.ensures in (
      (
        search rules,
        (
          λ a e. e,
          (
            λ a e. e,
            (
              λ a e. e,
              (
                λ a e. e,
                (
                  (
                    search rules,
                    (ready.0, All-take may half servers left by_half.front by_half.front_len (omega arith) ready.1, said_near meaning ready.0 items near numbers place from ready.2 by_place.front near_long (omega arith)),
                    c.requires.few.0,
                    omega arith,
                    suits-near class classes numbers from (length items) half place c.class.result servers left block middle suits by_half.front by_half.front_len (omega arith) block_is (omega arith) mid cut.below (length near) near_long,
                  ),
                  (search rules, search rules, search rules, search rules),
                ),
              ),
            ),
          ),
        ),
      ),
      (
        search rules,
        (
          λ a e. e,
          (
            λ a e. e,
            (
              λ a e. e,
              (
                λ a e. e,
                (
                  (
                    search rules,
                    (ready.0, All-drop may half servers right by_half.back by_half.back_len ready.1, said_far meaning ready.0 items far numbers place from _ ready.2 by_place.back far_long refl),
                    c.requires.few.0,
                    omega arith,
                    suits-far class classes numbers from (length items) half place c.class.result servers right block middle suits by_half.back by_half.back_len (omega arith) block_is block_long few mid cut.at _ (length far) refl far_long,
                  ),
                  (search rules, search rules, search rules, search rules),
                ),
              ),
            ),
          ),
        ),
      ),
    )
