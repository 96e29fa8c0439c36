-- What the steps that a level's Desk knows made of its gate's world.
use Rattle.std.specs.Prelude.{◌≢◌, ℕ, None}
use Rattle.apf_model.specs.declared.moves.Stage.TheVariants.{Away}
use Rattle.apf_model.specs.World.{World}
use Rattle.apf_gate.specs.Traces.{world_of}
use Rattle.apf_book.specs.LifeBook.{LifeBookView}

abbrev pub world_in : LifeBookView → World
world_in b = world_of b.desk.desk.knows.shape b.desk.desk.knows.trace

-- the request came: it took seats, or entered a queue
abbrev pub HasComeIn : LifeBookView → ℕ → Type 0
HasComeIn b r = (world_in b).stage r ≢ Away

-- the request is decided
abbrev pub IsDecidedIn : LifeBookView → ℕ → Type 0
IsDecidedIn b r = (world_in b).decision r ≢ None
