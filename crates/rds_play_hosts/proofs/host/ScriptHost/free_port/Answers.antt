use Rattle.std.proofs.Common.{◌≡◌, ◌-◌, ◌<◌, false, Some, None, sym, ◌∙◌, subst, arith}
use Rattle.std.specs.Prelude.{find, nat_le}
use Rattle.std.specs.List.{range_with_len}
use Rattle.std.proofs.lemmas.Bool.{cond-false, lt-leb}
use Rattle.rds_model.specs.declared.entry.TheConstants.{MAX_SLOTS}
use Rattle.rds_history.specs.Bind.{is_free, ports_round}
use Rattle.rds_history.specs.Sockets.{next_slot}
use Rattle.rds_play_hosts.proofs.Searching.{found_first, found_second}
use Rattle.rds_play_hosts.proofs.host.ScriptHost.free_port.Goals as goal

pub returns-in-Some : goal.returns-in-Some
returns-in-Some c = λ h past told.
    let start = c.args.start in
    let below : next_slot h past < MAX_SLOTS = omega (arith, c.if-len-from.false, told.binds_are, c.args.self.now.sockets.ok.0, c.len.ensures, c.from.ensures) in
    let few : nat_le MAX_SLOTS (next_slot h past) ≡ false = lt-leb MAX_SLOTS (next_slot h past) below in
    let place : c.from-2.result ≡ start = c.from-2.ensures in
    let above = subst (λ n. Some c.in-Some.port ≡ find (is_free h past) (range_with_len n (65536 - n))) place (c.in-Some.ensures h past told) in
    found_first (is_free h past) (range_with_len start (65536 - start)) (range_with_len 0 start) c.in-Some.port above
    ∙ sym (cond-false (nat_le MAX_SLOTS (next_slot h past)) None (find (is_free h past) (ports_round start)) few)

pub returns-in-None : goal.returns-in-None
returns-in-None c = λ h past told.
    let start = c.args.start in
    let r = c.free_within-in-None.result in
    let below : next_slot h past < MAX_SLOTS = omega (arith, c.if-len-from.false, told.binds_are, c.args.self.now.sockets.ok.0, c.len.ensures, c.from.ensures) in
    let few : nat_le MAX_SLOTS (next_slot h past) ≡ false = lt-leb MAX_SLOTS (next_slot h past) below in
    let place : c.from-2.result ≡ start = c.from-2.ensures in
    let last : c.from-in-None.result - 0 ≡ start = let e = c.from-in-None.ensures in omega (arith, e) in
    let none = subst (λ n. None ≡ find (is_free h past) (range_with_len n (65536 - n))) place (c.in-None.ensures h past told) in
    let under = subst (λ n. r ≡ find (is_free h past) (range_with_len 0 n)) last (c.free_within-in-None.ensures h past told) in
    found_second (is_free h past) (range_with_len start (65536 - start)) (range_with_len 0 start) r none under
    ∙ sym (cond-false (nat_le MAX_SLOTS (next_slot h past)) None (find (is_free h past) (ports_round start)) few)
