-- How many orders a slot has put on its route at one place.
use Rattle.std.proofs.Common.{◌≡◌, ◌+◌, ◌≤◌, ◌&&◌, ℕ, nat_le, nat_lt, cond, Bool, true, false, List, [], ◌∷◌, ◌++◌, inl, inr, length, set, sym, ap, subst, ◌∙◌, arith}
use Rattle.std.proofs.lemmas.Option.{same_Some, slice_get_within}
use Rattle.rds_model.specs.declared.order.Datagram.{Datagram}
use Rattle.rds_model.specs.declared.order.Order.{Order}
use Rattle.rds_model.specs.declared.order.Order.TheVariants as order
use Rattle.rds_fmap.specs.Readers.{IsLook, ReaderView}
use Rattle.rds_fmap.specs.declared.seen.Seen.{Seen}
use Rattle.rds_socket_parts.specs.Lanes.{ArePut, IsLaneAt, IsLookAt, IsPutAt, Lane, with_order, with_reader}
use Rattle.rds_socket.specs.Holding.{Holding, Open, told_of}
use Rattle.rds_socket.specs.Sends.{RefusalFits, order_of}
use Rattle.rds_socket.specs.declared.error.SendError.{SendError}
use Rattle.rds_socket.specs.declared.error.SendError.TheVariants as send
use Rattle.rds_line.specs.Keeps.{uncut}
use Rattle.rds_run_callers.specs.Places.{Place, holding_of}
use Rattle.rds_run_callers.specs.Tenants.{Asks, Cancels, Closes, ReceivesNext, SendsFrom, SendsOrNot}
use Rattle.rds_run_laws.proofs.Weighing.{weigh}
use Rattle.rds_run_laws.proofs.At.{at_set, beside_set, either_way}

-- the orders that a route was given, cuts left out
abbrev pub given : (Order → ℕ) → Lane ReaderView → ℕ
given w lane = weigh w (uncut lane.pass.put)

one_more : (w : Order → ℕ) (front : List Order) (item : Order) → weigh w (uncut (front ++ item ∷ [])) ≤ weigh w (uncut front) + w item
one_more w [] (order.Send slot sport dport payload) = omega arith
one_more w [] (order.Cancel slot dport) = omega arith
one_more w [] (order.CloseSocket slot) = omega arith
one_more w [] order.Cut = omega arith
one_more w (order.Cut ∷ front) item = one_more w front item
one_more w (order.Send slot sport dport payload ∷ front) item = let rest = one_more w front item in omega (arith, rest)
one_more w (order.Cancel slot dport ∷ front) item = let rest = one_more w front item in omega (arith, rest)
one_more w (order.CloseSocket slot ∷ front) item = let rest = one_more w front item in omega (arith, rest)

more_given : (w : Order → ℕ) (lane : Lane ReaderView) (item : Order) → given w (with_order lane item) ≤ given w lane + w item
more_given w lane item = one_more w lane.pass.put item

either_given : (w : Order → ℕ) (told : Bool) (lane : Lane ReaderView) (item : Order) →
    given w (cond told (with_order lane item) lane) ≤ given w lane + w item
either_given w true lane item = more_given w lane item
either_given w false lane item = omega arith

module _ (w : Order → ℕ) (place : ℕ) where
  -- there is a route at the place, and at most so many orders were put there
  pub record HasAsked (n : ℕ) (routes : List (Lane ReaderView)) : Type 0 where
    pub lane : Lane ReaderView
    pub at : IsLaneAt routes place lane
    pub few : given w lane ≤ n

  -- one route changed, by at most so many orders
  changed : (n k : ℕ) (old : List (Lane ReaderView)) (i : ℕ) (was now : Lane ReaderView) → IsLaneAt old i was → given w now ≤ given w was + k →
      HasAsked n old → HasAsked (n + k) (set old i now)
  changed n k old i was now at more h =
      let few = h.few in
      either_way i place
      (λ is.
      let was_is : was ≡ h.lane = same_Some was h.lane (sym at ∙ subst (λ (j : ℕ). IsLaneAt old j h.lane) (sym is) h.at) in
      let small : given w was ≤ n = subst (λ (l : Lane ReaderView). given w l ≤ n) (sym was_is) few in record {
        lane = now;
        at = subst (λ (j : ℕ). IsLaneAt (set old i now) j now) is (at_set old i now (slice_get_within old i was at));
        few = omega (arith, small, more);
      })
      (λ apart. record {
        lane = h.lane;
        at = beside_set old i place now (λ e. apart (sym e)) ∙ h.at;
        few = omega (arith, few);
      })

  -- at most so many orders more were put there
  abbrev pub AsksAtMost : ℕ → List (Lane ReaderView) → List (Lane ReaderView) → Type 0
  AsksAtMost k old new = (n : ℕ) → HasAsked n old → HasAsked (n + k) new

  weaker : (n m : ℕ) (routes : List (Lane ReaderView)) → n ≤ m → HasAsked n routes → HasAsked m routes
  weaker n m routes less h = let few = h.few in record { lane = h.lane; at = h.at; few = omega (arith, few, less) }

  same_routes : (k : ℕ) (old new : List (Lane ReaderView)) → new ≡ old → AsksAtMost k old new
  same_routes k old new same n h =
      subst (λ (l : List (Lane ReaderView)). HasAsked (n + k) l) (sym same) (weaker n (n + k) old (omega arith) h)

  put_at : (k i : ℕ) (item : Order) (old new : List (Lane ReaderView)) → w item ≤ k → IsPutAt i item old new → AsksAtMost k old new
  put_at k i item old new light is n h =
      let more = more_given w is.0 item in
      subst (λ (l : List (Lane ReaderView)). HasAsked (n + k) l) (sym is.2)
      (changed n k old i is.0 (with_order is.0 item) is.1 (omega (arith, more, light)) h)

  look_at : (i port : ℕ) (seen : Seen) (old new : List (Lane ReaderView)) → IsLookAt IsLook i port seen old new → AsksAtMost 0 old new
  look_at i port seen old new is n h =
      subst (λ (l : List (Lane ReaderView)). HasAsked (n + 0) l) (sym is.4)
      (changed n 0 old i is.0 (with_reader is.0 is.1) is.2 (omega arith) h)

  looks : (k i port : ℕ) (seen : Seen) (old new : List (Lane ReaderView)) → IsLookAt IsLook i port seen old new → AsksAtMost k old new
  looks k i port seen old new is n h = weaker (n + 0) (n + k) new (omega arith) (look_at i port seen old new is n h)

  all_put : (k from upto : ℕ) (item : Order) (old new : List (Lane ReaderView)) → w item ≤ k → ArePut from upto item old new → AsksAtMost k old new
  all_put k from upto item old new light is n h =
      let few = h.few in
      let told : Bool = nat_le from place && nat_lt place upto in
      let more = either_given w told h.lane item in record {
        lane = cond told (with_order h.lane item) h.lane;
        at = is.1 place h.lane h.at;
        few = omega (arith, few, more, light);
      }

  -- the same of what a slot holds
  abbrev pub Keeps : ℕ → Holding ReaderView → Holding ReaderView → Type 0
  Keeps k old new = AsksAtMost k old.routes new.routes

  pub keeps_same : (k : ℕ) (old new : Holding ReaderView) → new.routes ≡ old.routes → Keeps k old new
  keeps_same k old new same = same_routes k old.routes new.routes same

  pub asks : (k to : ℕ) (item : Order) (old new : Holding ReaderView) → w item ≤ k → Asks to item old new → Keeps k old new
  asks k to item old new light (inl put) = put_at k put.0.0 item old.routes new.routes light put.0.2
  asks k to item old new light (inr none) = keeps_same k old new (ap (λ (x : Holding ReaderView). x.routes) none.1)

  refused : (k to dport : ℕ) (payload : List ℕ) (o q : Open ReaderView) (e : SendError) → RefusalFits IsLook to dport payload o e q → Keeps k o.own q.own
  refused k to dport payload o q (send.TooLong len limit) fits = keeps_same k o.own q.own (ap (λ (x : Open ReaderView). x.own.routes) fits.3)
  refused k to dport payload o q (send.NoRoute named) fits = keeps_same k o.own q.own (ap (λ (x : Open ReaderView). x.own.routes) fits.3)
  refused k to dport payload o q (send.Congested port version) fits =
      looks k fits.2.0 dport (record { version = version; set = true }) o.own.routes q.own.routes fits.2.2
  refused k to dport payload o q (send.SendFull queued len limit) fits =
      let look = fits.0.look in
      looks k look.0 dport (record { version = fits.0.version; set = false }) o.own.routes q.own.routes look.2
  refused k to dport payload o q send.Memory fits =
      let look = fits.0.look in
      looks k look.0 dport (record { version = fits.0.version; set = false }) o.own.routes q.own.routes look.2

  sends : (k to dport : ℕ) (payload : List ℕ) (o q : Open ReaderView) → w (order_of o dport payload) ≤ k → SendsOrNot to dport payload o q → Keeps k o.own q.own
  sends k to dport payload o q light (inl sent) n h =
      let look = sent.2.look in
      let same : n + 0 + k ≡ n + k = omega arith in
      subst (λ (m : ℕ). HasAsked m q.own.routes) same
      (put_at k sent.4.0 (order_of o dport payload) sent.0 q.own.routes light sent.4.2 (n + 0)
      (look_at look.0 dport (record { version = sent.2.version; set = false }) o.own.routes sent.0 look.2 n h))
  sends k to dport payload o q light (inr why) n h = refused k to dport payload o q why.0 why.2 n h

  pub receives : (k : ℕ) (o : Open ReaderView) (got : List Datagram) (p : Place) → ReceivesNext o got p → Keeps k o.own (holding_of p)
  receives k o got p (inl one) =
      keeps_same k o.own (holding_of p) (ap (λ (x : Place). (holding_of x).routes) one.3 ∙ ap (λ (x : Open ReaderView). x.own.routes) one.2.3)
  receives k o got p (inr none) = keeps_same k o.own (holding_of p) (ap (λ (x : Place). (holding_of x).routes) none.1)

  pub sends_from : (k to dport : ℕ) (payload : List ℕ) → ((slot sport : ℕ) → w (order.Send slot sport dport payload) ≤ k) →
      (o : Open ReaderView) (got : List Datagram) (p : Place) → SendsFrom to dport payload o got p → Keeps k o.own (holding_of p)
  sends_from k to dport payload light o got p is n h =
      subst (λ (x : Place). HasAsked (n + k) (holding_of x).routes) (sym is.2)
      (sends k to dport payload o is.0 (light o.own.words.slot o.port) is.1 n h)

  pub cancels : (k to dport : ℕ) → ((slot : ℕ) → w (order.Cancel slot dport) ≤ k) →
      (o : Open ReaderView) (got : List Datagram) (p : Place) → Cancels to dport o got p → Keeps k o.own (holding_of p)
  cancels k to dport light o got p is n h =
      subst (λ (x : Place). HasAsked (n + k) (holding_of x).routes) (sym is.2)
      (asks k to (order.Cancel o.own.words.slot dport) o.own is.0 (light o.own.words.slot) is.1 n h)

  pub closes : (k : ℕ) → ((slot : ℕ) → w (order.CloseSocket slot) ≤ k) →
      (o : Open ReaderView) (got : List Datagram) (p : Place) → Closes o got p → Keeps k o.own (holding_of p)
  closes k light o got p is n h =
      subst (λ (x : Place). HasAsked (n + k) (holding_of x).routes) (sym is.2)
      (all_put k (told_of o) (length o.own.routes) (order.CloseSocket o.own.words.slot) o.own.routes is.0.routes (light o.own.words.slot) is.1.0.1 n h)
