-- The slots of a host that was made. Source: this project's own.
use Rattle.std.specs.Prelude.{◌≡◌, ℕ, List, [], All, Some, length, slice_get}
use Rattle.rds_socket_parts.specs.Lanes.{peers_of}
use Rattle.rds_socket.specs.Holding.{Holding}

module _ {R : Type 0} where
  -- each slot's number is its place
  abbrev pub AreInPlace : List (Holding R) → Type 0
  AreInPlace vacants = (place : ℕ) (vacant : Holding R) → slice_get vacants place ≡ Some vacant → vacant.words.slot ≡ place

  -- there are so many, numbered from 0 upward, each with a route to each peer, and none has got, put or sent anything, or done anything
  -- at the meter
  pub record AreNewSlots (slots : ℕ) (peers : List ℕ) (vacants : List (Holding R)) : Type 0 where
    pub count : length vacants ≡ slots
    pub number : AreInPlace vacants
    pub routes : (place : ℕ) (vacant : Holding R) → slice_get vacants place ≡ Some vacant → peers_of vacant.routes ≡ peers
    pub got : (place : ℕ) (vacant : Holding R) → slice_get vacants place ≡ Some vacant → vacant.inbox.get.got ≡ []
    pub put : (place : ℕ) (vacant : Holding R) → slice_get vacants place ≡ Some vacant → All (λ lane. lane.pass.put ≡ []) vacant.routes
    pub total : (place : ℕ) (vacant : Holding R) → slice_get vacants place ≡ Some vacant → vacant.total ≡ 0
    pub steps : (place : ℕ) (vacant : Holding R) → slice_get vacants place ≡ Some vacant → vacant.words.seat.view.steps ≡ []
