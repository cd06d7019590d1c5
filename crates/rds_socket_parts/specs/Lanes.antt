-- The routes of a socket to its peers, as contracts see them. This project's own.
use Rattle.std.specs.Prelude.{◌≡◌, ◌≢◌, ℕ, ◌<◌, ◌&&◌, nat_le, nat_lt, if◌then◌else◌, List, [], ◌∷◌, length, All, map, Some, slice_get, slice_set}
use Rattle.rds_model.specs.declared.order.Order.{Order}
use Rattle.rds_model.specs.declared.order.Order.TheVariants as order
use Rattle.rds_mail.specs.Numbers.{Number}
use Rattle.rds_mail.specs.Passes.{QueueId, Putter, after_put}
use Rattle.rds_fmap.specs.declared.seen.Seen.{Seen}

-- a route: the peer's address, the right to put on the order queue of its line, and a reader of the peer's map
pub record Lane (R : Type 0) : Type 0 where
  pub peer : ℕ
  pub pass : Putter Order
  pub reader : R

-- what no call on a socket changes of a route: its peer, its order queue, its putter's number and splits, and the pair of its reader
pub record Fixed (P : Type 0) : Type 0 where
  pub peer : ℕ
  pub mail : QueueId
  pub number : Number
  pub splits : ℕ
  pub pair : P

-- an order of this slot, or a cut
abbrev pub IsOf : ℕ → Order → Type 0
IsOf slot (order.Send s sport dport payload) = s ≡ slot
IsOf slot (order.Cancel s dport) = s ≡ slot
IsOf slot (order.CloseSocket s) = s ≡ slot
IsOf slot order.Cut = Unit {0}

-- addresses ascend
abbrev pub Ascend : List ℕ → Type 0
Ascend [] = Unit {0}
Ascend (peer ∷ peers) = All (λ later. peer < later) peers × Ascend peers

module _ {R : Type 0} where
  abbrev pub peers_of : List (Lane R) → List ℕ
  peers_of routes = map (λ lane. lane.peer) routes

  -- this route stands at this place
  abbrev pub IsLaneAt : List (Lane R) → ℕ → Lane R → Type 0
  IsLaneAt routes place lane = slice_get routes place ≡ Some lane

  -- the route at this place leads to the peer
  abbrev pub LeadsTo : List (Lane R) → ℕ → ℕ → Type 0
  LeadsTo routes peer place = (lane : Lane R) × IsLaneAt routes place lane × (lane.peer ≡ peer)

  -- no route leads to the peer
  abbrev pub NoneTo : List (Lane R) → ℕ → Type 0
  NoneTo routes peer = All (λ lane. lane.peer ≢ peer) routes

  abbrev pub with_order : Lane R → Order → Lane R
  with_order lane item = record lane { pass = after_put lane.pass item }

  abbrev pub with_reader : Lane R → R → Lane R
  with_reader lane reader = record lane { reader = reader }

  -- the order was put on the queue of the route at this place
  abbrev pub IsPutAt : ℕ → Order → List (Lane R) → List (Lane R) → Type 0
  IsPutAt place item old new = (lane : Lane R) × IsLaneAt old place lane × (new ≡ slice_set old place (with_order lane item))

  -- the order was put on the peer's queue
  abbrev pub IsPutTo : ℕ → Order → List (Lane R) → List (Lane R) → Type 0
  IsPutTo peer item old new = (place : ℕ) × LeadsTo old peer place × IsPutAt place item old new

  -- the order was put on each queue from one place up to another
  abbrev pub ArePut : ℕ → ℕ → Order → List (Lane R) → List (Lane R) → Type 0
  ArePut from upto item old new = (length new ≡ length old) × ((place : ℕ) (lane : Lane R) → IsLaneAt old place lane → IsLaneAt new place (if nat_le from place && nat_lt place upto then with_order lane item else lane))

  -- on each queue it has put only orders of this slot, and cuts
  abbrev pub ArePutOf : ℕ → List (Lane R) → Type 0
  ArePutOf slot routes = All (λ lane. All (IsOf slot) lane.pass.put) routes

  module _ (looks : R → R → ℕ → Seen → Type 0) where
    -- one look at the peer's map, by the route at this place, found this of the port
    abbrev pub IsLookAt : ℕ → ℕ → Seen → List (Lane R) → List (Lane R) → Type 0
    IsLookAt place port seen old new = (lane : Lane R) × (reader : R) × IsLaneAt old place lane × looks lane.reader reader port seen × (new ≡ slice_set old place (with_reader lane reader))

    -- one look at the peer's map found this of the port
    abbrev pub IsLookTo : ℕ → ℕ → Seen → List (Lane R) → List (Lane R) → Type 0
    IsLookTo peer port seen old new = (place : ℕ) × LeadsTo old peer place × IsLookAt place port seen old new

  -- a look by the reader at this place has found this of the port
  abbrev pub HasSeen : (R → ℕ → Seen → Type 0) → List (Lane R) → ℕ → ℕ → Seen → Type 0
  HasSeen looked routes place port seen = (lane : Lane R) × IsLaneAt routes place lane × looked lane.reader port seen

  module _ {P : Type 0} (pair : R → P) where
    abbrev pub fixed : Lane R → Fixed P
    fixed lane = record { peer = lane.peer; mail = lane.pass.mail; number = lane.pass.number; splits = lane.pass.splits; pair = pair lane.reader }

    -- nothing of the routes changed but what was put, and what readers have found beside what they had
    pub record RoutesStay (looked : R → ℕ → Seen → Type 0) (old new : List (Lane R)) : Type 0 where
      pub fixed_parts : map fixed new ≡ map fixed old
      pub seen : (place port : ℕ) (seen : Seen) → HasSeen looked old place port seen → HasSeen looked new place port seen
