use Rattle.std.proofs.Common.{◌∙◌, ◌++◌, ◌-◌, ℕ, List, length, take, drop, arith, sym, ap, append_assoc, string_bytes}
use Rattle.std.proofs.lemmas.List.{append-nil, take_rest}
use Rattle.rds_report.specs.Item.{Item}
use Rattle.rds_report.specs.Items.{seen}
use Rattle.rds_report.specs.ItemReport.{lines_of, groups_text}
use Rattle.rds_report.proofs.Turns.{Turn, none_left, turn_known, turn_run, turn_shorter, turn_text, turn_up}
use Rattle.rds_report.proofs.print.print_groups.Goals as goal

pub loop-group-smaller : goal.loop-group-smaller
loop-group-smaller c =
    let rest = c.loop-group.rest.now in
    let run = c.in-Some.run'.now in
    let g = seen c.in-Some.group in
    let n = length run in
    let others = take (length rest - n) (drop n rest) in
    let turn : Turn g rest run others = record {
      pair = c.in-Some.ensures.group;
      taken = c.in-Some.ensures.run;
      left = take_rest rest n;
      up = c.loop-group.invariant.up;
    } in
    turn_shorter turn

pub loop-group-preserved : goal.loop-group-preserved
loop-group-preserved c =
    let rest = c.loop-group.rest.now in
    let run = c.in-Some.run'.now in
    let g = seen c.in-Some.group in
    let n = length run in
    let others = take (length rest - n) (drop n rest) in
    let turn : Turn g rest run others = record {
      pair = c.in-Some.ensures.group;
      taken = c.in-Some.ensures.run;
      left = take_rest rest n;
      up = c.loop-group.invariant.up;
    } in
    record {
      within = omega (arith, turn_shorter turn, c.loop-group.invariant.within);
      up = turn_up turn;
      known = λ k. turn_known turn (c.loop-group.invariant.known k);
      printed = λ k.
          ap (λ (t : List ℕ). t ++ groups_text others) (c.in_ok-print_group.ensures (turn_run turn (c.loop-group.invariant.known k)))
          ∙ append_assoc (string_bytes c.loop-group.text) (lines_of g run) (groups_text others)
          ∙ ap (λ (t : List ℕ). string_bytes c.loop-group.text ++ t) (sym (turn_text turn))
          ∙ c.loop-group.invariant.printed k;
    }

pub returns : goal.returns
returns c = λ k.
    let printed = string_bytes c.loop-group.text in
    sym (append-nil printed)
    ∙ ap (λ (l : List Item). printed ++ groups_text l) (sym (none_left c.loop-group.rest.now c.in_default.ensures.group))
    ∙ c.loop-group.invariant.printed k
