use Rattle.std.proofs.Common.{map, slice_get, set, sym, ap, ◌∙◌, arith}
use Rattle.std.specs.Option.{option_map}
use Rattle.std.proofs.lemmas.List.{length-map, map-set}
use Rattle.std.proofs.lemmas.Option.{slice_get-map}
use Rattle.rds_run_callers.specs.Places.{spared}
use Rattle.rds_run_callers.specs.States.{shown}
use Rattle.rds_run_callers.proofs.Seen.{put_over}
use Rattle.rds_run_callers.proofs.Sparing.{part_step, part_all}
use Rattle.rds_run_callers.proofs.settling.leave_all.Goals as goal

pub loop-slot-preserved : goal.loop-slot-preserved
loop-slot-preserved c =
    let inv = c.loop-slot.invariant in
    let items = c.loop-slot.slots.states.items in
    let slot = c.loop-slot.slot in
    let x = c.replace-state.result in
    let count = c.replace.ensures.count ∙ c.replace-state.ensures.count in
    let here = ap (λ l. slice_get l slot) (sym inv.0) ∙ (slice_get-map shown items slot ∙ ap (option_map shown) c.replace-state.ensures.was) in (
      ap (map shown) (put_over items c.replace-state.new.self.states.items c.replace.new.self.states.items slot c.spared.result c.replace-state.ensures.states c.replace.ensures.states)
          ∙ (map-set shown items slot c.spared.result
          ∙ ((λ i. set (inv.0 i) slot (c.spared.ensures i)) ∙ part_step (option_map spared) slot (map shown c.args.slots.now.states.items) (shown x) here)),
      inv.1 ∙ sym count,
      count ∙ inv.2,
    )

pub returns : goal.returns
returns c =
    let inv = c.loop-slot.invariant in
    let done = c.loop-slot-test.false in
    let end = inv.1 in
    let same = inv.2 in
    let size = c.args.slots.now.states.ok.0 in
    let many = length-map c.args.slots.now.states.items shown in
    inv.0 ∙ part_all (option_map spared) c.loop-slot.slot (map shown c.args.slots.now.states.items) (omega arith)
