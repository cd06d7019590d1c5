use Rattle.std.proofs.Common.{◌≡◌, ℕ, suc, ◌-◌, OnOk, length, take, ap, subst, ◌∙◌, arith}
use Rattle.rds_host.specs.Held.{ends_of_all}
use Rattle.std.proofs.lemmas.List.{length_push, take_all}
use Rattle.std.proofs.lemmas.Iterator.{YieldsList-from_zip}
use Rattle.std.proofs.lemmas.Iterator.Adapters.{YieldsList-from_vec}
use Rattle.std.proofs.lemmas.Iterator.Consumers.{YieldsList-end, YieldsList-turn}
use Rattle.std.proofs.lemmas.Option.{slice_get_within}
use Rattle.rds_text.specs.Hosts.{address_of}
use Rattle.rds_run_rounds.specs.Grid.{rows_of}
use Rattle.rds_run_threads.proofs.At.{stood_at}
use Rattle.rds_run_threads.proofs.Held.{first_more}
use Rattle.rds_run_threads.proofs.Left.{AreLeftBelow, added, all_left, zipped_all, zipped_at}
use Rattle.rds_run_threads.proofs.Rows.{row_at, rows_count}
use Rattle.rds_run_threads.proofs.leaving.gather_all.Goals as goal

pub host_end-end-requires : goal.host_end-end-requires
host_end-end-requires g c =
    let left = c.args.left.items in
    let lines = c.args.lines.items in
    let seen = c.loop-slots.yielded in
    let n = length seen in
    let slots = c.in-Some.slots in
    let row = c.in-Some.row in
    let from = YieldsList-from_zip {s = c.into_iter-slots-iterator.result} (YieldsList-from_vec left (cc) (cc)) (YieldsList-from_vec lines (cc) (cc)) in
    let turn =
    YieldsList-turn from seen c.loop-slots.slots-iterator c.loop-slots.yielded_by c.next.result c.next.new.self (slots, row) c.in-Some.is
    c.next.ensures.steps in
    let at = zipped_at left lines n slots row turn.0 turn.1 in
    let told = c.requires.ended in
    let caller = stood_at told.0 left n slots told.2.count at.first in
    (caller.0.places, told.1.each n caller.0 row.items caller.1 (row_at lines n row at.second), told.2.each n caller.0 slots caller.1 at.first)

pub returns-clause-left : goal.returns-clause-left
returns-clause-left g c = λ callers told settled heard ended.
    let left = c.args.left.items in
    let lines = c.args.lines.items in
    let seen = c.loop-slots.yielded in
    let from = YieldsList-from_zip {s = c.into_iter-slots-iterator.result} (YieldsList-from_vec left (cc) (cc)) (YieldsList-from_vec lines (cc) (cc)) in
    let done =
    YieldsList-end from seen c.loop-slots.slots-iterator c.loop-slots.yielded_by c.next.result c.next.new.self c.in-None.is
    c.next.ensures.steps in
    let rows = rows_count lines in
    let tied = c.requires.ended.1.count in
    let same = c.requires.ended.2.count in
    let whole = zipped_all left lines (omega (arith, rows, tied, same)) in
    let long = done.1 in
    let count : length seen ≡ length (rows_of lines) = omega (arith, long, whole, rows, tied, same) in
    all_left (length seen) callers (rows_of lines) c.loop-slots.ends.items count
    (subst (λ r. OnOk r (AreLeftBelow (length seen) callers (rows_of lines) c.loop-slots.ends.items)) c.in_ok-all.was
    (c.loop-slots.invariant.1 callers told settled heard ended))

-- refused where a host's ends are kept
pub returns-clause-out : goal.returns-clause-out
returns-clause-out g c =
    let left = c.args.left.items in
    let lines = c.args.lines.items in
    let seen = c.loop-slots.yielded in
    let from = YieldsList-from_zip {s = c.into_iter-slots-iterator.result} (YieldsList-from_vec left (cc) (cc)) (YieldsList-from_vec lines (cc) (cc)) in
    let done =
    YieldsList-end from seen c.loop-slots.slots-iterator c.loop-slots.yielded_by c.next.result c.next.new.self c.in-None.is
    c.next.ensures.steps in
    let rows = rows_count lines in
    let tied = c.requires.ended.1.count in
    let same = c.requires.ended.2.count in
    let whole = zipped_all left lines (omega (arith, rows, tied, same)) in
    let long = done.1 in
    let all = ap ends_of_all (take_all (length seen) (rows_of lines) (omega (arith, long, whole, rows, tied, same))) in
    c.loop-slots.invariant.2 ∙ ap (λ n. g.W.Wire.out c.args.wire.now - n) all

pub loop-slots-preserved : goal.loop-slots-preserved
loop-slots-preserved g c =
    let left = c.args.left.items in
    let lines = c.args.lines.items in
    let seen = c.loop-slots.yielded in
    let n = length seen in
    let slots = c.in-Some.slots in
    let row = c.in-Some.row in
    let end = c.host_end-end in
    let from = YieldsList-from_zip {s = c.into_iter-slots-iterator.result} (YieldsList-from_vec left (cc) (cc)) (YieldsList-from_vec lines (cc) (cc)) in
    let turn =
    YieldsList-turn from seen c.loop-slots.slots-iterator c.loop-slots.yielded_by c.next.result c.next.new.self (slots, row) c.in-Some.is
    c.next.ensures.steps in
    let at = zipped_at left lines n slots row turn.0 turn.1 in
    let stands = row_at lines n row at.second in
    let addr : c.address.result ≡ address_of n = c.address.ensures ∙ ap address_of c.loop-slots.invariant.0 in
    let more = length_push seen (slots, row) in (
      omega (arith, more, c.loop-slots.invariant.0),
      λ callers told settled heard ended.
          let later = stood_at told left n slots ended.count at.first in
          let caller = stood_at callers told n later.0 heard.caller_count later.1 in
          let one = end.ensures.left n caller.0.places later.0.places addr (settled.each n caller.0 row.items caller.1 stands)
          (heard.heard n caller.0 later.0 row.items (slice_get_within callers n caller.0 caller.1) caller.1 later.1 stands)
          (ended.each n later.0 slots later.1 at.first) in
          subst (λ (k : ℕ). OnOk c.and-all.result (AreLeftBelow k callers (rows_of lines) c.add.new.ends.items)) (omega (arith, more))
          (added n callers (rows_of lines) c.loop-slots.ends.items c.add.new.ends.items caller.0 row.items end.result c.loop-slots.all c.add.result
          c.and-all.result caller.1 stands (c.loop-slots.invariant.1 callers told settled heard ended) one c.add.ensures c.and-all.ensures),
      subst (λ (k : ℕ). g.W.Wire.out c.host_end-end.new.wire ≡ g.W.Wire.out c.args.wire.now - ends_of_all (take k (rows_of lines))) {x = suc n}
          (omega (arith, more))
          (let first = first_more (rows_of lines) n row.items stands in
          let past = c.loop-slots.invariant.2 in
          omega (arith, first, past, end.ensures.out)),
    )
