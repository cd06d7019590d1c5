use Rattle.std.proofs.Common.{◌+◌, ◌++◌, Some, set, get_or, sym, ap, subst, ◌∙◌, arith}
use Rattle.std.proofs.lemmas.Option.{same_Some, slice_get-get_or}
use Rattle.std.specs.Option.{option_to_list}
use Rattle.rds_socket_parts.specs.PlaceLaws.{stands}
use Rattle.rds_run_callers.proofs.Seen.{here_seen}
use Rattle.rds_run_callers.proofs.Leaving.{Leaves, leaves_more}
use Rattle.rds_run_callers.proofs.ending.end_all.Goals as goal

pub end-requires : goal.end-requires
end-requires g c =
    let inv = c.loop-slot.invariant in
    let states = c.args.states.items in
    let slot = c.loop-slot.slot in
    let small = c.loop-slot-test.true in
    let end = inv.1 in
    let same = inv.2 in
    let size = c.loop-slot.states.ok.0 in
    let all = c.args.states.ok.0 in
    let x = c.replace-state.result in
    let now = stands c.loop-slot.states.items slot c.index_mut.result.now (omega arith) c.index_mut.ensures.value in
    let stood = slice_get-get_or states slot x (omega arith) in
    let is = same_Some c.index_mut.result.now (get_or states slot x) (sym now ∙ inv.0.rest slot (get_or states slot x) (omega arith) stood) in
    let p = here_seen states c.requires.whole slot x (stood ∙ ap Some (sym is ∙ sym c.replace-state.ensures.value)) in
    record { here = (p.0, p.1) }

pub loop-slot-preserved : goal.loop-slot-preserved
loop-slot-preserved g c =
    let inv = c.loop-slot.invariant in
    let states = c.args.states.items in
    let slot = c.loop-slot.slot in
    let small = c.loop-slot-test.true in
    let end = inv.1 in
    let same = inv.2 in
    let size = c.loop-slot.states.ok.0 in
    let all = c.args.states.ok.0 in
    let x = c.replace-state.result in
    let now = stands c.loop-slot.states.items slot c.index_mut.result.now (omega arith) c.index_mut.ensures.value in
    let stood = slice_get-get_or states slot x (omega arith) in
    let is = same_Some c.index_mut.result.now (get_or states slot x) (sym now ∙ inv.0.rest slot (get_or states slot x) (omega arith) stood) in
    let p = here_seen states c.requires.whole slot x (stood ∙ ap Some (sym is ∙ sym c.replace-state.ensures.value)) in
    let more = leaves_more states c.loop-slot.states.items slot x c.replace-state.new.dest c.loop-slot.all_kept.items c.loop-slot.all_closed.items c.in_ok-kept.closed c.in_ok-kept.kept c.requires inv.0
    p.0 p.2 (c.in_ok-kept.ensures.ends p.0 p.1) (c.in_ok-kept.ensures.kept p.0 p.1) (c.in_ok-kept.ensures.ports p.0 p.1) in (
      subst (λ k. Leaves states (set c.loop-slot.states.items slot c.replace-state.new.dest) (slot + 1) k c.push.new.self.items) (sym c.in_ok-keep.ensures)
          (subst (λ l. Leaves states (set c.loop-slot.states.items slot c.replace-state.new.dest) (slot + 1) (c.loop-slot.all_kept.items ++ option_to_list c.in_ok-kept.kept) l) (sym c.in_ok-push.ensures.items) more),
      inv.1,
      inv.2,
    )

pub returns-clause-ports : goal.returns-clause-ports
returns-clause-ports g c = c.loop-slot.invariant.0.ports
