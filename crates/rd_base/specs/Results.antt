-- To believe. How a definition stops at its first fault, and when a function answers what a definition gives.
use Rattle.std.specs.Prelude.{◌≡◌, ◌≢◌, Result, Ok, Err}

-- the `?` of the logic: the second step if the first gave a value, and else the first one's fault
infixl 10 ◌>>=◌
abbrev pub ◌>>=◌ : {A B E : Type 0} → Result A E → (A → Result B E) → Result B E
(Ok x) >>= f = f x
(Err e) >>= f = Err e

-- a result with its fault seen in another way
abbrev pub map_fault : {A E F : Type 0} → (E → F) → Result A E → Result A F
map_fault f (Ok x) = Ok x
map_fault f (Err e) = Err (f e)

-- a fault is the definition's, unless it is this free one, out of memory
abbrev pub Fails : {Y E : Type 0} → E → E → Result Y E → Type 0
Fails free e reading = e ≢ free → reading ≡ Err e

-- a result, its value seen by view, is what the definition gives, unless it is the free fault
abbrev pub Gives : {X Y E : Type 0} → E → (X → Y) → Result X E → Result Y E → Type 0
Gives free view (Ok x) reading = reading ≡ Ok (view x)
Gives free view (Err e) reading = Fails free e reading
