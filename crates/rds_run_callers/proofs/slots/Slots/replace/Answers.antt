use Rattle.std.proofs.Common.{Some, map, set, sym, ap, ◌∙◌, arith}
use Rattle.std.proofs.lemmas.List.{map-set}
use Rattle.rds_socket_parts.specs.PlaceLaws.{stands}
use Rattle.rds_run_callers.specs.States.{port_mark}
use Rattle.rds_run_callers.proofs.slots.Slots.replace.Goals as goal

pub invariant_of-self : goal.invariant_of-self
invariant_of-self c =
    let old = c.args.self.now in
    let slot = c.args.slot in
    record {
      marked = (λ i. set (old.marked i) slot (c.port.ensures i))
          ∙ (sym (map-set port_mark old.states.items slot c.args.state) ∙ ap (λ x. map port_mark (set old.states.items slot x)) (sym c.replace.ensures.after));
    }

pub returns-clause-was : goal.returns-clause-was
returns-clause-was c =
    let small = c.requires in
    let size = c.args.self.now.states.ok.0 in
    stands c.args.self.now.states.items c.args.slot c.index_mut-2.result.now (omega arith) c.index_mut-2.ensures.value ∙ ap Some (sym c.replace.ensures.value)
