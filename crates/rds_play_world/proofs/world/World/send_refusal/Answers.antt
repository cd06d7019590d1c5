use Rattle.std.proofs.Common.{◌≡◌, ℕ, ◌<◌, ◌==◌, false, Option, Some, List, min, nat_lt, get_or, subst}
use Rattle.std.specs.Option.{option_map, option_map_or}
use Rattle.rds_wire.specs.declared.kind.TheConstants.{MAX_LENGTH}
use Rattle.rds_model.specs.Drained.{last_map_read}
use Rattle.rds_cong.specs.Map.{has_port}
use Rattle.rds_text.specs.Refusals.{congested, no_route, refusal_text, too_long}
use Rattle.rds_history.specs.Journals.{journal, maps_read}
use Rattle.rds_play_world.proofs.SendRefusals.{first_refusal, later_refusal, of_port, of_room, of_way, refusal_is}
use Rattle.rds_play_world.proofs.world.World.send_refusal.Goals as goal

pub returns-in-Some-clause-why : goal.returns-in-Some-clause-why
returns-in-Some-clause-why c = λ limit hosts past told bound.
    let h = c.args.host in
    let k = c.args.to in
    let slot = c.args.slot in
    let len = c.args.len in
    let buffer = c.sndbuf-buffer.result in
    let x = c.index.result.now in
    let at : x ≡ get_or c.args.self.now.hosts.items h x = cc in
    let host = told.hosts_are h (subst (λ n. h < n) told.count_is c.requires.host) x at in
    refusal_is hosts h slot k c.args.dport len buffer past (Some (refusal_text c.in-Some.why)) (c.sndbuf-buffer.ensures h past host bound)
    (first_refusal (nat_lt (min buffer MAX_LENGTH) len) (refusal_text c.in-Some.why) (too_long len (min buffer MAX_LENGTH)) (of_way hosts h slot k c.args.dport len buffer past) c.in-Some.ensures.why)

pub returns-in-Some-congested-clause-why : goal.returns-in-Some-congested-clause-why
returns-in-Some-congested-clause-why c = λ limit hosts past told bound.
    let h = c.args.host in
    let k = c.args.to in
    let slot = c.args.slot in
    let len = c.args.len in
    let buffer = c.sndbuf-buffer.result in
    let x = c.index.result.now in
    let at : x ≡ get_or c.args.self.now.hosts.items h x = cc in
    let host = told.hosts_are h (subst (λ n. h < n) told.count_is c.requires.host) x at in
    let why : Option (List ℕ) = Some (refusal_text c.in-Some-congested.why) in
    refusal_is hosts h slot k c.args.dport len buffer past why (c.sndbuf-buffer.ensures h past host bound)
    (later_refusal (nat_lt (min buffer MAX_LENGTH) len) (too_long len (min buffer MAX_LENGTH)) (of_way hosts h slot k c.args.dport len buffer past) why c.in_default.ensures.why
    (later_refusal (h == k) no_route (of_port hosts h slot k c.args.dport len buffer past) why c.in_default-no_route.ensures.why
    (first_refusal (option_map_or (λ map. has_port map c.args.dport) (last_map_read (journal h k past)) false) (refusal_text c.in-Some-congested.why) (congested (maps_read (journal h k past)))
    (of_room hosts h slot len buffer past) (c.in-Some-congested.ensures limit hosts past told))))

pub returns-clause-why : goal.returns-clause-why
returns-clause-why c = λ limit hosts past told bound.
    let h = c.args.host in
    let k = c.args.to in
    let slot = c.args.slot in
    let len = c.args.len in
    let buffer = c.sndbuf-buffer.result in
    let x = c.index.result.now in
    let at : x ≡ get_or c.args.self.now.hosts.items h x = cc in
    let host = told.hosts_are h (subst (λ n. h < n) told.count_is c.requires.host) x at in
    let why = option_map refusal_text c.full.result in
    refusal_is hosts h slot k c.args.dport len buffer past why (c.sndbuf-buffer.ensures h past host bound)
    (later_refusal (nat_lt (min buffer MAX_LENGTH) len) (too_long len (min buffer MAX_LENGTH)) (of_way hosts h slot k c.args.dport len buffer past) why c.in_default.ensures.why
    (later_refusal (h == k) no_route (of_port hosts h slot k c.args.dport len buffer past) why c.in_default-no_route.ensures.why
    (later_refusal (option_map_or (λ map. has_port map c.args.dport) (last_map_read (journal h k past)) false) (congested (maps_read (journal h k past)))
    (of_room hosts h slot len buffer past) why (c.in_default-congested.ensures limit hosts past told) (c.full.ensures limit hosts past told))))
