-- A line's seat at the meter stores no limit.
use Rattle.std.proofs.Common.{◌≡◌, ◌⊎◌, inl, inr, ℕ, ◌+◌, Bool, true, false, List, [], ◌∷◌, ◌++◌, sym, subst, refl, arith}
use Rattle.std.specs.List.{Contains}
use Rattle.std.proofs.lemmas.List.Elements.{All-contains, Contains-append_cases}
use Rattle.rds_meter.specs.declared.view.Step.{Step}
use Rattle.rds_meter.specs.declared.view.Step.TheVariants.{Added, Stored, Loaded, Raised, Lowered, Bumped}
use Rattle.rds_meter.specs.declared.mark.Mark.{Mark}
use Rattle.rds_meter.specs.Seats.{MeterSeat}
use Rattle.rds_bindtab.specs.Seats.{PortSeat}
use Rattle.rds_meter.specs.Places.{change_word, limit_word, put_word, taken_word}
use Rattle.rds_line_parts.specs.Delivery.{IsDelivery, counting_steps, lowering, must_lower, raising}
use Rattle.rds_line_parts.specs.Own.{Own, IsRefresh, loads_from, own_word}
use Rattle.rds_line_parts.specs.Relief.{IsFreeing, IsRelief}
use Rattle.rds_line.specs.Seats.{StoresNothing}
use Rattle.rds_line.proofs.PortLooks.{first_or_later}

-- the step stores no limit
abbrev pub IsNoStore : Step → Type 0
IsNoStore (Added word amount after) = Unit {0}
IsNoStore (Stored word limit) = ⊥
IsNoStore (Loaded word found) = Unit {0}
IsNoStore (Raised port) = Unit {0}
IsNoStore (Lowered port) = Unit {0}
IsNoStore (Bumped after) = Unit {0}

pub stores_none : StoresNothing []
stores_none word limit has = let small = has.1 in omega arith

pub stores_more : (xs ys : List Step) → StoresNothing xs → StoresNothing ys → StoresNothing (xs ++ ys)
stores_more xs ys first second word limit has = go (Contains-append_cases xs ys (Stored word limit) has)
  where
    go : Contains xs (Stored word limit) ⊎ Contains ys (Stored word limit) → ⊥
    go (inl here) = first word limit here
    go (inr later) = second word limit later

stores_next : (step : Step) (ys : List Step) → IsNoStore step → StoresNothing ys → StoresNothing (step ∷ ys)
stores_next step ys other rest word limit has = go (first_or_later step ys (Stored word limit) has)
  where
    go : (step ≡ Stored word limit) ⊎ Contains ys (Stored word limit) → ⊥
    go (inl is) = subst IsNoStore is other
    go (inr later) = rest word limit later

loads_store : (i : ℕ) (words : List ℕ) → StoresNothing (loads_from i words)
loads_store i [] = stores_none
loads_store i (word ∷ words) = stores_next (Loaded (own_word i) word) (loads_from (i + 1) words) tt (loads_store (i + 1) words)

raising_stores : (set : Bool) (port number : ℕ) → StoresNothing (raising set port number)
raising_stores false port number = stores_none
raising_stores true port number = stores_next (Raised port) (Bumped number ∷ []) tt (stores_next (Bumped number) [] tt stores_none)

lowering_stores : (set : Bool) (port number : ℕ) → StoresNothing (lowering set port number)
lowering_stores false port number = stores_none
lowering_stores true port number = stores_next (Lowered port) (Bumped number ∷ []) tt (stores_next (Bumped number) [] tt stores_none)

counting_stores : (slot n : ℕ) (mark : Mark) (number : ℕ) → StoresNothing (counting_steps slot n mark number)
counting_stores slot n mark number =
    let raised = raising mark.set mark.port number in
    let limit = Loaded (limit_word slot) mark.limit in
    let taken = Loaded (taken_word slot) mark.taken in
    stores_next (Added (put_word slot) n mark.put) (limit ∷ taken ∷ raised) tt
    (stores_next limit (taken ∷ raised) tt (stores_next taken raised tt (raising_stores mark.set mark.port number)))

-- a reading of the own map, the addition of freed bytes, and a delivery
pub refresh_stores : {old new : Own} {seat after : MeterSeat} {read : Bool} → IsRefresh old new seat after read →
    StoresNothing seat.view.steps → StoresNothing after.view.steps
refresh_stores {old} {new} {seat} {after} {read} r was =
    subst (λ (h : MeterSeat). StoresNothing h.view.steps) (sym r.steps)
    (stores_more seat.view.steps (Loaded change_word r.number ∷ loads_from 0 r.words) was
    (stores_next (Loaded change_word r.number) (loads_from 0 r.words) tt (loads_store 0 r.words)))

pub relief_stores : {freed : List ℕ} {old new : MeterSeat} → IsRelief freed old new →
    StoresNothing old.view.steps → StoresNothing new.view.steps
relief_stores {freed} {old} {new} r was =
    subst (λ (h : MeterSeat). StoresNothing h.view.steps) (sym r.seat)
    (stores_more old.view.steps r.steps was (λ word limit has. All-contains IsFreeing r.steps (Stored word limit) r.only has))

pub delivery_stores : {slot port n : ℕ} {old new : MeterSeat} {ports after : PortSeat} → IsDelivery slot port n old new ports after →
    StoresNothing old.view.steps → StoresNothing new.view.steps
delivery_stores {slot} {port} {n} {old} {new} {ports} {after} d was = go d.mark.set refl
  where
    counted : StoresNothing d.counted.view.steps
    counted =
        subst (λ (h : MeterSeat). StoresNothing h.view.steps) (sym d.counts.seat)
        (stores_more old.view.steps (counting_steps slot n d.mark d.counts.number) was (counting_stores slot n d.mark d.counts.number))

    go : (b : Bool) → d.mark.set ≡ b → StoresNothing new.view.steps
    go true set =
        let second = d.raised set in
        let lowers = must_lower slot d.mark second.taken second.holder in
        let lowered = lowering lowers d.mark.port second.number in
        let taken = Loaded (taken_word slot) second.taken in
        subst (λ (h : MeterSeat). StoresNothing h.view.steps) (sym second.seat)
        (stores_more d.counted.view.steps (taken ∷ lowered) counted
        (stores_next taken lowered tt (lowering_stores lowers d.mark.port second.number)))
    go false unset = subst (λ (h : MeterSeat). StoresNothing h.view.steps) (sym (d.other unset).0) counted
