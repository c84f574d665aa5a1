-- To believe: a seat at the board of one task. It knows what a seat at the board of many tasks knows whose only task it is.
use Rattle.std.specs.Prelude.{◌≡◌, List, [], ◌∷◌, Option, Some, None}
use Rattle.std.specs.Option.{option_and_then}
use Rattle.seat_lock.specs.Seats.{Known}

module _ {H : Type 0} where
  -- the element of a list of one
  abbrev pub only_of : List H → Option H
  only_of (h ∷ []) = Some h
  only_of _ = None

  -- what contracts see of it: the head is that of the only task
  abbrev pub of_one : Known (List H) → Known H
  of_one k = record {
    lock = k.lock;
    number = k.number;
    head = option_and_then only_of k.head;
    out = k.out;
    seen = k.seen;
    joined = k.joined;
    receipts = k.receipts;
    turns = k.turns;
    began = k.began;
  }

  -- a seat with one task
  abbrev pub HasOneTask : Known (List H) → Type 0
  HasOneTask k = (head : H) × (k.head ≡ Some (head ∷ []))
