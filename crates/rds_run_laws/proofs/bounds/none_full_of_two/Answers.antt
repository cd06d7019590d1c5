use Rattle.std.proofs.Common.{refl, sym}
use Rattle.rds_run_laws.proofs.Bounded.{few_delivered}
use Rattle.rds_run_laws.proofs.Ports.{fits_pulls_none}
use Rattle.rds_run_laws.proofs.bounds.none_full_of_two.Goals as goal

pub returns : goal.returns
returns c host peer entries commands own other full lines cuts room =
    let few = c.sums_of_journals.ensures.few in
    let honest = full.sound.honest refl in
    c.full_by_maps.ensures.ports 2 host peer entries commands own other full lines cuts
    (fits_pulls_none host peer _ commands own (full.own_filled refl)
    (λ slot. few_delivered few 2 host peer slot commands own other full.host_known full.peer_known full.apart full.sound.high_legal.legal
    (full.sound.fifo_back honest) full.other_sent)
    room.forth)
    (fits_pulls_none peer host _ commands other (full.other_filled refl)
    (λ slot. few_delivered few 2 peer host slot commands other own full.peer_known full.host_known (λ same. full.apart (sym same)) full.sound.low_legal.legal
    (full.sound.fifo_forth honest) full.own_sent)
    room.back)
