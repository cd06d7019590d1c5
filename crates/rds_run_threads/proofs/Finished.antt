-- Hosts of a run whose lines were told of all orders, and turned until they were quiet.
use Rattle.std.proofs.Common.{◌≡◌, ◌≤◌, ℕ, All, List, Some, length, map, slice_get, subst, sym, arith}
use Rattle.rds_mail.specs.declared.view.Account.{Account}
use Rattle.rds_model.specs.declared.order.Order.{Order}
use Rattle.rds_fmap.specs.Readers.{ReaderView, WriterView}
use Rattle.rds_socket.specs.Holding.{Holding}
use Rattle.rds_bindtab.specs.Seats.{telling_of}
use Rattle.rds_line.specs.Line.{LineView}
use Rattle.rds_line.specs.Seats.{WasAlwaysTold}
use Rattle.rds_host.specs.Keeping.{LinesKeep}
use Rattle.rds_host.specs.Telling.{IsTold}
use Rattle.rds_run_callers.specs.Places.{CallerView, IsUsed, Place, spared}
use Rattle.rds_script.specs.declared.script.Placed.{Placed}
use Rattle.rds_run_hosts.specs.Parties.{AreNewCallers, HasLed, HaveLed, HaveObeyed}
use Rattle.rds_run_rounds.specs.Grid.{AreRows, EachRow}
use Rattle.rds_run_rounds.specs.Quiet.{AreQuiet, LinesGoOn}
use Rattle.rds_run_settling.specs.Tied.{AreLinesTold, AreTied, LinesHear, holdings}
use Rattle.rds_run_threads.specs.Settled.{AreToldBelow, HasSettled, HaveDoneLed, HaveDoneSpared, HaveSettled}
use Rattle.rds_run_threads.specs.Taking.{HaveTied}
use Rattle.rds_run_threads.proofs.At.{all_at, one_at, stood_at}
use Rattle.rds_run_threads.proofs.Keeping.{told_at}
use Rattle.rds_run_threads.proofs.Rows.{row_length}

module _ {E : Type 0} where
  -- a line that goes on was told of no more
  lines_told : (slots : List (Holding ReaderView)) (lines after : List (LineView E WriterView)) → AreLinesTold slots lines → LinesGoOn lines after → AreLinesTold slots after
  lines_told slots lines after told goes place line at slot h lane at_slot is =
      let old = stood_at lines after place line goes.count at in
      subst (λ (t : List (Account Order)). IsTold t lane.pass) (sym (goes.each place old.0 line old.1 at).told)
      (told place old.0 old.1 slot h lane at_slot is)

  lines_going_on : (old new : List (LineView E WriterView)) → LinesGoOn old new → LinesKeep old new
  lines_going_on old new goes = record {
    count = goes.count;
    each = λ place line after stood stands. (goes.each place line after stood stands).keeps;
  }

  -- the slots and the lines of each host are tied still
  pub all_tied : ((places : List Place) (lines after : List (LineView E WriterView)) → AreTied places lines → LinesKeep lines after → AreTied places after) →
      (old new : List CallerView) (rows told after : List (List (LineView E WriterView))) → length old ≡ length rows →
      AreToldBelow (length old) old new rows told → EachRow LinesGoOn told after → HaveTied new after
  all_tied law old new rows told after same all goes =
      let rows_count = goes.count in
      let told_count = all.row_count in
      let callers_count = all.caller_count in record {
        count = omega (arith, rows_count, told_count, callers_count, same);
        each = λ host later row at at_row.
            let heard = stood_at told after host row goes.count at_row in
            let was = stood_at rows told host heard.0 all.row_count heard.1 in
            let is = told_at old new rows told same all host was.0 heard.0 was.1 heard.1 in
            let later_is : is.1 ≡ later = one_at new host is.1 later is.3 at in
            subst (λ (c : CallerView). AreTied c.places row) later_is
            (law is.1.places heard.0 row is.4.tied (lines_going_on heard.0 row (goes.each host heard.0 row heard.1 at_row)));
      }

  -- one host has settled
  settled_end : {places : List Place} {told after : List (LineView E WriterView)} →
      ((places : List Place) (lines after : List (LineView E WriterView)) → AreTied places lines → LinesKeep lines after → AreTied places after) →
      AreTied places told → 1 ≤ length told → ((slot : ℕ) (p : Place) → slice_get places slot ≡ Some p → IsUsed p) →
      AreLinesTold (holdings places) told → LinesGoOn told after → AreQuiet after → HasSettled places after
  settled_end {places} {told} {after} law tied some used all goes quiet =
      let count = goes.count in record {
        tied = law places told after tied (lines_going_on told after goes);
        some = omega (arith, some, count);
        used = used;
        told = lines_told (holdings places) told after all goes;
        quiet = quiet;
      }

  -- all hosts have
  pub all_settled : ((places : List Place) (lines after : List (LineView E WriterView)) → AreTied places lines → LinesKeep lines after → AreTied places after) →
      (hosts : ℕ) (old new : List CallerView) (rows told after : List (List (LineView E WriterView))) → AreRows hosts rows → 2 ≤ hosts → length old ≡ length rows →
      AreToldBelow (length old) old new rows told → EachRow LinesGoOn told after → All AreQuiet after → HaveSettled new after
  all_settled law hosts old new rows told after shape some same all goes quiet =
      let rows_count = goes.count in
      let told_count = all.row_count in
      let callers_count = all.caller_count in record {
        count = omega (arith, rows_count, told_count, callers_count, same);
        each = λ host later row at at_row.
            let heard = stood_at told after host row goes.count at_row in
            let was = stood_at rows told host heard.0 all.row_count heard.1 in
            let is = told_at old new rows told same all host was.0 heard.0 was.1 heard.1 in
            let one = is.4 in
            let long = row_length hosts rows shape host was.0 was.1 in
            let long_told = one.hear.count in
            let later_is : is.1 ≡ later = one_at new host is.1 later is.3 at in
            subst (λ (c : CallerView). HasSettled c.places row) later_is
            (settled_end law one.tied (omega (arith, long, long_told, some)) one.used one.told (goes.each host heard.0 row heard.1 at_row)
            (all_at AreQuiet after host row quiet at_row));
      }

module _ {E : Type 0} where
  -- what lines were always told they were told still, once they heard of orders and went on
  led_later : {host : ℕ} {commands : List Placed} {first last : List Place} {lines heard after : List (LineView E WriterView)} →
      HasLed host commands first last lines → LinesHear lines heard → LinesGoOn heard after → HasLed host commands first last after
  led_later {host} {commands} {first} {last} {lines} {heard} {after} led hear goes = record {
    led = led.led;
    began = led.began;
    rest = led.rest;
    told = λ slot place o got line at_o at_line.
        let told = stood_at heard after place line goes.count at_line in
        let was = stood_at lines heard place told.0 hear.count told.1 in
        let telling = telling_of o.own.ports.view in
        (goes.each place told.0 line told.1 at_line).always telling
        (subst (λ (l : LineView E WriterView). WasAlwaysTold telling l.ports.view) (sym (hear.each place was.0 told.0 was.1 told.1))
        (led.told slot place o got was.0 at_o was.1));
  }

  -- the callers did their commands, and then gave up the slots that no socket had
  pub done_spared : (hosts : ℕ) (commands : List Placed) (old new : List CallerView) (rows told after : List (List (LineView E WriterView))) →
      length old ≡ length rows → AreToldBelow (length old) old new rows told → EachRow LinesGoOn told after → HaveDoneLed hosts commands old rows →
      HaveDoneSpared hosts commands new after
  done_spared hosts commands old new rows told after same all goes did host later row at at_row =
      let heard = stood_at told after host row goes.count at_row in
      let was = stood_at rows told host heard.0 all.row_count heard.1 in
      let is = told_at old new rows told same all host was.0 heard.0 was.1 heard.1 in
      let later_is : is.1 ≡ later = one_at new host is.1 later is.3 at in
      let it = did host is.0 was.0 is.2 was.1 in
      record {
        last = is.0.places;
        did = record { done = it.done; led = led_later it.led is.4.hear (goes.each host heard.0 row heard.1 at_row) };
        left = subst (λ (c : CallerView). c.places ≡ map spared is.0.places) later_is is.4.places;
      }

  -- from new slots they did them
  pub all_done : (hosts : ℕ) (commands : List Placed) (new after : List CallerView) (rows : List (List (LineView E WriterView))) → AreNewCallers hosts commands new →
      HaveObeyed commands new after → HaveLed commands new after rows → HaveDoneLed hosts commands after rows
  all_done hosts commands new after rows are obeyed led host caller row at at_row =
      let was = stood_at new after host caller obeyed.count at in
      let is = are host was.0 was.1 in record {
        done = record { first = was.0.places; count = is.0; new = is.1; obeyed = obeyed.each host was.0 caller was.1 at };
        led = led host was.0 caller row was.1 at at_row;
      }
