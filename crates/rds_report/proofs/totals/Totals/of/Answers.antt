use Rattle.std.proofs.Common.{◌∙◌, ◌+◌, ◌-◌, ℕ, length, take, drop, arith, sym, ap, add_assoc}
use Rattle.std.proofs.lemmas.List.Sums.{sum_by-append}
use Rattle.std.proofs.lemmas.List.{take_rest}
use Rattle.rds_report.specs.Item.{Item}
use Rattle.rds_report.specs.Items.{seen}
use Rattle.rds_report.specs.ItemTotals.{bytes_of, grouped, payload_bytes, seen_counts, with_accepted}
use Rattle.rds_report.proofs.Turns.{Turn, turn_items, turn_length, turn_shorter, turn_up}
use Rattle.rds_report.proofs.Counted.{more_counts, more_counted}
use Rattle.rds_report.proofs.totals.Totals.of.Goals as goal

pub loop-group-smaller : goal.loop-group-smaller
loop-group-smaller c =
    let rest = c.loop-group.rest.now in
    let run = c.in-Some.run'.now in
    let g = seen c.in-Some._group in
    let n = length run in
    let others = take (length rest - n) (drop n rest) in
    let turn : Turn g rest run others = record {
      pair = c.in-Some.ensures.group;
      taken = c.in-Some.ensures.run;
      left = take_rest rest n;
      up = c.loop-group.invariant.up;
    } in
    turn_shorter turn

pub loop-group-preserved : goal.loop-group-preserved
loop-group-preserved c =
    let all = c.args.items.now in
    let rest = c.loop-group.rest.now in
    let run = c.in-Some.run'.now in
    let g = seen c.in-Some._group in
    let n = length run in
    let others = take (length rest - n) (drop n rest) in
    let turn : Turn g rest run others = record {
      pair = c.in-Some.ensures.group;
      taken = c.in-Some.ensures.run;
      left = take_rest rest n;
      up = c.loop-group.invariant.up;
    } in
    let parts = turn_items turn in
    let lengths = turn_length turn in
    let before = seen_counts c.loop-group.totals.counts in
    let after = seen_counts c.plus-totals.result.counts in
    let more = c.plus-totals.ensures in
    record {
      up = turn_up turn;
      counts = more_counts before after run others all rest more.counts parts c.loop-group.invariant.counts;
      counted = more_counted before after run others all rest more.counts lengths c.loop-group.invariant.counted;
      bytes =
          ap (λ (n : ℕ). n + bytes_of (grouped others)) more.bytes
          ∙ add_assoc c.loop-group.totals.bytes (bytes_of (with_accepted run)) (bytes_of (grouped others))
          ∙ ap (λ (n : ℕ). c.loop-group.totals.bytes + n)
          (sym (sum_by-append (λ (i : Item). payload_bytes i.what) (with_accepted run) (grouped others)) ∙ sym (ap bytes_of parts))
          ∙ c.loop-group.invariant.bytes;
      limit = omega (arith, more.limit, lengths, c.loop-group.invariant.limit);
    }
