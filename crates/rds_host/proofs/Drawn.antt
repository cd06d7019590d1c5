-- What the seats of a new host are: nothing was done at them.
use Rattle.std.proofs.Common.{◌≡◌, ℕ, ◌<◌, List, [], Contains, Option, Some, None, unwrap_or, refl, sym, ap, subst, ⊎_elim, ◌∙◌, arith}
use Rattle.std.proofs.lemmas.List.Elements.{Contains-push_cases, at_from_Contains}
use Rattle.rds_bindtab.specs.declared.view.View.{View}
use Rattle.rds_bindtab.specs.declared.view.Step.{Step}
use Rattle.rds_bindtab.specs.declared.view.Step.TheVariants.{Drew, Claimed}
use Rattle.rds_seats.specs.Views.{Table}
use Rattle.rds_bindtab.specs.Seats.{PortSeat, knowing, after_draw, after_split, newcomer, slot_of, without_slot, with_slot_of}
use Rattle.rds_meter.specs.Seats.{MeterSeat, owning}
use Rattle.rds_meter.specs.Seats as meter
use Rattle.rds_socket_parts.specs.Ports.{HasClaimedOnly}
use Rattle.rds_host.specs.Seats.{AreFree, AreOfSlot, IsIdle}

-- a seat of the meter that another was split off, and that one
abbrev pub own_after : MeterSeat → MeterSeat
own_after h = meter.knowing h (meter.after_split h.view)

abbrev pub new_own : MeterSeat → MeterSeat
new_own h = record { table = h.table; slot = None; view = meter.newcomer h.view }

pub none_claimed : (v : View) → v.steps ≡ [] → HasClaimedOnly None v
none_claimed v none q s m =
    absurd (let k = at_from_Contains [] (Claimed q s 0) (subst (λ (l : List Step). Contains l (Claimed q s 0)) none m) in let l = k.1 in omega arith)

-- a seat with the same steps
pub claimed_same : (old new : View) → new.steps ≡ old.steps → HasClaimedOnly None old → HasClaimedOnly None new
claimed_same old new same none q s m = none q s (subst (λ (l : List Step). Contains l (Claimed q s 0)) same m)

-- a seat that has drawn a number
pub claimed_drawn : (v : View) (found : ℕ) → HasClaimedOnly None v → HasClaimedOnly None (after_draw v found)
claimed_drawn v found none q s m =
    ⊎_elim
    (λ was. none q s was)
    (λ (e : Drew found ≡ Claimed q s 0). absurd (cc))
    (Contains-push_cases v.steps (Drew found) (Claimed q s 0) m)

-- seats at a table and a meter, after others were split off them
module _ (table meter : Table) (seat : PortSeat) (own : MeterSeat) (free : AreFree table seat meter own) where
  pub idle_split : (rest : MeterSeat) → rest ≡ own_after own → IsIdle meter rest
  idle_split rest is = subst (IsIdle meter) (sym is) (record { meter_of = free.idle.meter_of; stage = free.idle.stage; checks = free.idle.checks; pending = free.idle.pending; steps = free.idle.steps })

  pub idle_new : (new : MeterSeat) → new ≡ new_own own → IsIdle meter new
  idle_new new is = subst (IsIdle meter) (sym is) (record { meter_of = free.idle.meter_of; stage = refl; checks = refl; pending = refl; steps = refl })

  pub split_keeps : (after : PortSeat) (rest : MeterSeat) → after ≡ knowing seat (after_split seat.view) → rest ≡ own_after own → AreFree table after meter rest
  split_keeps after rest is left = subst (λ (h : PortSeat). AreFree table h meter rest) (sym is) (record {
    table_of = free.table_of;
    slot = free.slot;
    port = free.port;
    claimed = claimed_same seat.view (after_split seat.view) refl free.claimed;
    idle = idle_split rest left;
    owner = ap (λ (h : MeterSeat). h.slot) left ∙ free.owner;
    slots = free.slots;
    few = free.few;
  })

  pub split_new : (new : PortSeat) (mine : MeterSeat) → new ≡ knowing seat (newcomer seat.view) → mine ≡ new_own own → AreFree table new meter mine
  split_new new mine is given = subst (λ (h : PortSeat). AreFree table h meter mine) (sym is) (record {
    table_of = free.table_of;
    slot = refl;
    port = refl;
    claimed = none_claimed (newcomer seat.view) refl;
    idle = idle_new mine given;
    owner = ap (λ (h : MeterSeat). h.slot) given;
    slots = free.slots;
    few = free.few;
  })

  -- a new seat at the port table, and the same at the meter
  pub last_free : (new : PortSeat) → new ≡ knowing seat (newcomer seat.view) → AreFree table new meter own
  last_free new is = subst (λ (h : PortSeat). AreFree table h meter own) (sym is) (record {
    table_of = free.table_of;
    slot = refl;
    port = refl;
    claimed = none_claimed (newcomer seat.view) refl;
    idle = free.idle;
    owner = free.owner;
    slots = free.slots;
    few = free.few;
  })

  -- and after a slot was drawn, which went to another seat
  module _ (found : ℕ) (middle : PortSeat) (drew : middle ≡ knowing seat (after_draw seat.view found)) where
    pub draw_keeps : (after : PortSeat) (rest : MeterSeat) → after ≡ knowing middle (without_slot middle.view) → rest ≡ own_after own → AreFree table after meter rest
    draw_keeps after rest is left =
        let whole : after ≡ knowing seat (without_slot (after_draw seat.view found)) = is ∙ ap (λ (h : PortSeat). knowing h (without_slot h.view)) drew in
        subst (λ (h : PortSeat). AreFree table h meter rest) (sym whole) (record {
          table_of = free.table_of;
          slot = refl;
          port = free.port;
          claimed = claimed_drawn seat.view found free.claimed;
          idle = idle_split rest left;
          owner = ap (λ (h : MeterSeat). h.slot) left ∙ free.owner;
          slots = free.slots;
          few = free.few;
        })

    pub draw_gives : (given : PortSeat) (split mine : MeterSeat) → middle.view.slot ≡ Some found → found < table.slots → given ≡ knowing middle (with_slot_of middle.view)
        → split ≡ new_own own → mine ≡ owning split found → AreOfSlot table given meter mine
    draw_gives given split mine has under is new owned =
        let at : given.view.slot ≡ Some found = ap (λ (h : PortSeat). h.view.slot) is ∙ has in
        let number : slot_of given.view ≡ found = ap (λ (o : Option ℕ). unwrap_or o 0) at in
        let idle = idle_new split new in
        record {
          table_of = ap (λ (h : PortSeat). h.table) is ∙ (ap (λ (h : PortSeat). h.table) drew ∙ free.table_of);
          slot = at ∙ ap Some (sym number);
          small = let few = free.few in omega (arith, number, under, few);
          port = ap (λ (h : PortSeat). h.view.port) is ∙ (ap (λ (h : PortSeat). h.view.port) drew ∙ free.port);
          claimed = claimed_same (after_draw seat.view found) given.view (ap (λ (h : PortSeat). h.view.steps) is ∙ ap (λ (h : PortSeat). h.view.steps) drew) (claimed_drawn seat.view found free.claimed);
          idle = subst (IsIdle meter) (sym owned) (record { meter_of = idle.meter_of; stage = idle.stage; checks = idle.checks; pending = idle.pending; steps = idle.steps });
          owner = ap (λ (h : MeterSeat). h.slot) owned ∙ ap Some (sym number);
        }

-- the same seats at tables that are known under other names
pub free_at : (table as_table meter as_meter : Table) (seat : PortSeat) (own : MeterSeat) → as_table ≡ table → as_meter ≡ meter → AreFree table seat meter own → AreFree as_table seat as_meter own
free_at table as_table meter as_meter seat own first second free =
    subst (λ (t : Table). AreFree t seat as_meter own) (sym first) (subst (λ (m : Table). AreFree table seat m own) (sym second) free)

pub slot_at : (table as_table meter as_meter : Table) (seat : PortSeat) (own : MeterSeat) → as_table ≡ table → as_meter ≡ meter → AreOfSlot table seat meter own → AreOfSlot as_table seat as_meter own
slot_at table as_table meter as_meter seat own first second of_slot =
    subst (λ (t : Table). AreOfSlot t seat as_meter own) (sym first) (subst (λ (m : Table). AreOfSlot table seat m own) (sym second) of_slot)
