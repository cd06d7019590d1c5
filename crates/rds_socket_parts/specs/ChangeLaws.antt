-- Laws, each proved: proofs in other crates use them. Nothing here has to be believed.
-- One route of a socket changes in its place.
use Rattle.std.proofs.Common.{◌≡◌, ◌≢◌, ℕ, suc, ◌+◌, ◌<◌, ◌≤◌, ◌&&◌, eqb, eqb-true, nat_le, nat_lt, cond, Bool, true, false, List, [], ◌∷◌, length, map, set, get_or, Option, Some, slice_get, Result, Ok, Err, is_err, OnOk, All, refl, sym, ap, subst, ◌∙◌, arith}
use Rattle.std.proofs.lemmas.Bool.{eqb-false, ltb-true, ltb-false, leb-true, lt-ltb, le-ltb, le-leb}
use Rattle.std.proofs.lemmas.Option.{same_Some}
use Rattle.std.proofs.lemmas.List.{length-set}
use Rattle.rds_model.specs.declared.order.Order.{Order}
use Rattle.rds_mail.specs.Passes.{Putter}
use Rattle.rds_fmap.specs.declared.seen.Seen.{Seen}
use Rattle.rds_socket_parts.specs.Lanes.{Lane, Fixed, IsLaneAt, HasSeen, RoutesStay, fixed, with_order, IsPutAt, ArePut}
use Rattle.rds_socket_parts.specs.PlaceLaws.{here, there, stands, map_same, set_same}

-- two numbers are one or are apart
either_way : {Goal : Type 0} (a b : ℕ) → (a ≡ b → Goal) → (a ≢ b → Goal) → Goal
either_way {Goal} a b same apart =
    let go : (t : Bool) → eqb a b ≡ t → Goal = elim [ true ↦ (λ e. same (eqb-true a b e)) | false ↦ (λ e. apart (eqb-false a b e)) ] in
    go (eqb a b) refl

pub on_ok : {T E P : Type 0} (r : Result T E) → is_err r ≡ false → OnOk r P → P
on_ok (Ok x) no_err p = p
on_ok (Err e) no_err p = absurd (cc)

and_false : (a b : Bool) → (a ≡ true → b ≡ false) → (a && b) ≡ false
and_false true b h = h refl
and_false false b h = refl

and_true : (a b : Bool) → a ≡ true → b ≡ true → (a && b) ≡ true
and_true a b x y = ap (λ (t : Bool). t && b) x ∙ y

-- places before `from`, at `upto`, and other ones
outside : (from place : ℕ) → (nat_le from place && nat_lt place from) ≡ false
outside from place = and_false (nat_le from place) (nat_lt place from) (λ e. le-ltb place from (leb-true from place e))

beyond : (from upto place : ℕ) → place ≡ upto → (nat_le from place && nat_lt place upto) ≡ false
beyond from upto place e = and_false (nat_le from place) (nat_lt place upto) (λ _. le-ltb place upto (omega arith))

within : (from upto place : ℕ) → place ≡ upto → from ≤ upto → (nat_le from place && nat_lt place (upto + 1)) ≡ true
within from upto place e low = and_true (nat_le from place) (nat_lt place (upto + 1)) (le-leb from place (omega arith)) (lt-ltb place (upto + 1) (omega arith))

elsewhere : (upto place : ℕ) → place ≢ upto → nat_lt place upto ≡ nat_lt place (upto + 1)
elsewhere upto place ne =
    let go : (t : Bool) → nat_lt place upto ≡ t → t ≡ nat_lt place (upto + 1) = elim [
      | true ↦ (λ e. let l = ltb-true place upto e in sym (lt-ltb place (upto + 1) (omega arith)))
      | false ↦ (λ e. let l = ltb-false place upto e in sym (le-ltb place (upto + 1) (omega arith)))
    ] in go (nat_lt place upto) refl

module _ {R : Type 0} where
  pub at_place : (xs z : List (Lane R)) (i : ℕ) (was : Lane R) → xs ≡ z → i < length z → was ≡ get_or xs i was → IsLaneAt z i was
  at_place xs z i was is l e = stands z i was l (e ∙ ap (λ ys. get_or ys i was) is)

  pub at_read : (xs z : List (Lane R)) (i : ℕ) (was read : Lane R) → xs ≡ z → i < length z → was ≡ read → read ≡ get_or xs i read → IsLaneAt z i was
  at_read xs z i was read is l same e = at_place xs z i read is l e ∙ ap Some (sym same)

  module _ {P : Type 0} (pair : R → P) (looked : R → ℕ → Seen → Type 0) where
    pub stay_same : (routes : List (Lane R)) → RoutesStay pair looked routes routes
    stay_same routes = record { fixed_parts = refl; seen = λ place port s k. k }

    pub stay_on : (a b c : List (Lane R)) → RoutesStay pair looked a b → RoutesStay pair looked b c → RoutesStay pair looked a c
    stay_on a b c x y = record { fixed_parts = y.fixed_parts ∙ x.fixed_parts; seen = λ place port s k. y.seen place port s (x.seen place port s k) }

    -- a route that keeps its fixed parts and what its reader has found
    pub stay_at : (routes : List (Lane R)) (i : ℕ) (was now : Lane R) → IsLaneAt routes i was → i < length routes → fixed pair now ≡ fixed pair was
        → ((port : ℕ) (s : Seen) → looked was.reader port s → looked now.reader port s) → RoutesStay pair looked routes (set routes i now)
    stay_at routes i was now at l same kept = record {
      fixed_parts = map_same (fixed pair) routes i was now at same;
      seen = λ place port s k. either_way place i
          (λ e. (
            now,
            subst (λ j. IsLaneAt (set routes i now) j now) (sym e) (here routes i now l),
            kept port s (subst (λ (lane : Lane R). looked lane.reader port s) (same_Some k.0 was (sym k.1 ∙ subst (λ j. IsLaneAt routes j was) (sym e) at)) k.2),
          ))
          (λ ne. (k.0, there routes i place now ne ∙ k.1, k.2));
    }

    pub stay_in : (xs z : List (Lane R)) (i : ℕ) (was now : Lane R) → xs ≡ z → IsLaneAt z i was → i < length z → fixed pair now ≡ fixed pair was
        → ((port : ℕ) (s : Seen) → looked was.reader port s → looked now.reader port s) → RoutesStay pair looked z (set xs i now)
    stay_in xs z i was now is at l same kept = subst (λ ys. RoutesStay pair looked z (set ys i now)) (sym is) (stay_at z i was now at l same kept)

    -- a route that put an order, or none
    pub stay_put : (xs z : List (Lane R)) (i : ℕ) (was : Lane R) (pass : Putter Order) (put : List Order) → xs ≡ z → IsLaneAt z i was → i < length z
        → pass ≡ record { mail = was.pass.mail; number = was.pass.number; splits = was.pass.splits; put = put } → RoutesStay pair looked z (set xs i (record { peer = was.peer; pass = pass; reader = was.reader }))
    stay_put xs z i was pass put is at l same = stay_in xs z i was (record { peer = was.peer; pass = pass; reader = was.reader }) is at l
        (ap (λ (q : Putter Order). record { peer = was.peer; mail = q.mail; number = q.number; splits = q.splits; pair = pair was.reader }) same) (λ port s k. k)

  -- no order was put
  pub put_none : (from : ℕ) (item : Order) (routes : List (Lane R)) → ArePut from from item routes routes
  put_none from item routes = (refl, λ place lane at. at ∙ ap (λ (b : Bool). Some (cond b (with_order lane item) lane)) (sym (outside from place)))

  -- one order more was put
  pub put_more : (from upto : ℕ) (item : Order) (old mid new : List (Lane R)) → from ≤ upto → upto < length old → ArePut from upto item old mid → IsPutAt upto item mid new → ArePut from (upto + 1) item old new
  put_more from upto item old mid new low high before one =
      let size : upto < length mid = let e = before.0 in omega arith in (
        ap length one.2 ∙ (length-set mid upto (with_order one.0 item) ∙ before.0),
        λ place lane at. either_way place upto
            (λ e. let was : IsLaneAt mid place lane = before.1 place lane at ∙ ap (λ (b : Bool). Some (cond b (with_order lane item) lane)) (beyond from upto place e) in
            let same : lane ≡ one.0 = same_Some lane one.0 (sym was ∙ subst (λ j. IsLaneAt mid j one.0) (sym e) one.1) in
            subst (λ l. IsLaneAt l place (cond (nat_le from place && nat_lt place (upto + 1)) (with_order lane item) lane)) (sym one.2)
            (subst (λ j. IsLaneAt (set mid upto (with_order one.0 item)) j (with_order one.0 item)) (sym e) (here mid upto (with_order one.0 item) size)
            ∙ ap (λ (x : Lane R). Some (with_order x item)) (sym same)
            ∙ ap (λ (b : Bool). Some (cond b (with_order lane item) lane)) (sym (within from upto place e low))))
            (λ ne. subst (λ l. IsLaneAt l place (cond (nat_le from place && nat_lt place (upto + 1)) (with_order lane item) lane)) (sym one.2)
            (there mid upto place (with_order one.0 item) ne ∙ (before.1 place lane at
            ∙ ap (λ (b : Bool). Some (cond (nat_le from place && b) (with_order lane item) lane)) (elsewhere upto place ne)))),
      )
