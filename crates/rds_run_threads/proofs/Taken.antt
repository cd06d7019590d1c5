-- Journals that were taken out of what hosts have, and what stands in them of the orders of slots.
use Rattle.std.proofs.Common.{◌≡◌, ◌<◌, ◌+◌, ◌-◌, ℕ, List, Vec, [], ◌∷◌, Some, Ok, Err, Result, IfOk, OnOk, get_or, length, map, option_map, set, slice_get, swap_remove, refl, sym, ap, subst, ◌∙◌, arith}
use Rattle.std.specs.Global.{Global}
use Rattle.std.specs.List.{sum_by}
use Rattle.std.proofs.lemmas.List.{get_or-set_other, get_or-take, length-map, length-set, length-take-le}
use Rattle.std.proofs.lemmas.List.Sums.{sum_by-cons, sum_by-swap_remove}
use Rattle.std.proofs.lemmas.Option.{slice_get-map, slice_get_read, slice_get_within}
use Rattle.rds_wire.specs.declared.memory.Memory.{Memory}
use Rattle.rds_fmap.specs.Readers.{ReaderView, WriterView}
use Rattle.rds_model.specs.Honest.{Begins}
use Rattle.rds_model.specs.Log.{Log}
use Rattle.rds_model.specs.declared.entry.Entry.{Entry}
use Rattle.rds_socket_parts.specs.Lanes.{IsLaneAt, Lane}
use Rattle.rds_socket.specs.Holding.{Holding}
use Rattle.rds_text.specs.FinalState.{FinalJournal}
use Rattle.rds_text.specs.FinalViews.{side_view}
use Rattle.rds_line.specs.Keeps.{uncut}
use Rattle.rds_line.specs.Line.{LineView, line_past}
use Rattle.rds_host.specs.Held.{ends_in, ends_of_all}
use Rattle.rds_host_end.specs.Joined.{AreJoined, orders_of}
use Rattle.rds_host_end.specs.Sides.{line_side}
use Rattle.rds_run_callers.specs.Ends.{AreEndsOf}
use Rattle.rds_run_callers.specs.Places.{CallerView, Place, spared}
use Rattle.rds_script.specs.declared.script.Placed.{Placed}
use Rattle.rds_run_rounds.specs.Grid.{peer_at, rows_of}
use Rattle.rds_run_threads.specs.Causes.{BeginsOrdersAt, IsOfCommands}
use Rattle.rds_run_threads.specs.Settled.{HasDoneSpared, HaveDoneSpared}
use Rattle.rds_run_threads.specs.Taking.{HasOrders, HasOrdersAt, HaveTied, IsJournalOf, IsJournalOfLine}
use Rattle.rds_run_threads.proofs.At.{one_at, some_at, spared_holds, stood_at}
use Rattle.rds_run_threads.proofs.Cutting.{cuts_of_done}
use Rattle.rds_run_threads.proofs.Rows.{place_is, read_at}
use Rattle.rds_run_threads.proofs.Written.{on_ok}

-- where one was taken out of a list, there is one less, and what stood before it stands there still
pub length_fewer : {T : Type 0} (xs : List T) (i : ℕ) (d : T) → i < length xs → length (swap_remove xs i d) ≡ length xs - 1
length_fewer xs i d within =
    let long = length-set xs i (get_or xs (length xs - 1) d) in
    length-take-le (length xs - 1) (set xs i (get_or xs (length xs - 1) d)) (omega (arith, long, within))

pub read_fewer : {T : Type 0} (xs : List T) (i j n : ℕ) (d x : T) → n ≡ j → j < i → i < length xs → x ≡ get_or (swap_remove xs i d) n x →
    slice_get xs j ≡ Some x
read_fewer xs i j n d x same before within is =
    read_at xs j j x refl (omega (arith, before, within))
    (is ∙ (ap (λ (k : ℕ). get_or (swap_remove xs i d) k x) same
    ∙ (get_or-take (length xs - 1) (set xs i (get_or xs (length xs - 1) d)) j x (omega (arith, before, within))
    ∙ get_or-set_other xs i j (get_or xs (length xs - 1) d) x (λ same_place. absurd (omega (arith, same_place, before))))))

module _ {E M : Type 0} where
  -- the ends of all rows, as those of the vectors
  sum_rows : (lists : List (Vec (LineView E M) Global)) → ends_of_all (rows_of lists) ≡ sum_by (λ (v : Vec (LineView E M) Global). ends_in v.items) lists
  sum_rows [] = refl
  sum_rows (v ∷ lists) =
      sum_by-cons ends_in v.items (rows_of lists)
      ∙ (ap (λ (n : ℕ). ends_in v.items + n) (sum_rows lists) ∙ sym (sum_by-cons (λ (v : Vec (LineView E M) Global). ends_in v.items) v lists))

  -- those of a row that was taken out
  pub row_out : (lists : List (Vec (LineView E M) Global)) (i n : ℕ) (row : Vec (LineView E M) Global) → i ≡ n → n < length lists → row ≡ get_or lists i row →
      ends_of_all (rows_of (swap_remove lists i row)) + ends_in row.items ≡ ends_of_all (rows_of lists)
  row_out lists i n row same within is =
      let all = sum_by-swap_remove (λ (v : Vec (LineView E M) Global). ends_in v.items) lists i row (omega (arith, same, within)) in
      let here = ap (λ (v : Vec (LineView E M) Global). ends_in v.items) is in
      omega (arith, all, here, sum_rows lists, sum_rows (swap_remove lists i row))

-- the journal at a place of what is left of a host is that of the line there
pub journal_is : {E M : Type 0} (lines : List (LineView E M)) (journals : List (ℕ × Log)) (place : ℕ) (taken : ℕ × Log) (line : LineView E M) →
    map side_view journals ≡ map line_side lines → place < length lines → taken ≡ get_or journals place taken → slice_get lines place ≡ Some line →
    taken.1.past ≡ line_past line
journal_is {E} {M} lines journals place taken line same within is at =
    let one = length-map journals side_view in
    let two = ap length same in
    let three = length-map lines (λ (l : LineView E M). line_side l) in
    let there = slice_get_read journals (length journals) place taken refl (omega (arith, one, two, three, within)) is in
    ap (λ (s : FinalJournal). s.past)
    (one_at (map side_view journals) place (side_view taken) (line_side line) (slice_get-map side_view journals place ∙ ap (option_map side_view) there)
    (ap (λ (l : List FinalJournal). slice_get l place) same
    ∙ (slice_get-map (λ (l : LineView E M). line_side l) lines place ∙ ap (option_map (λ (l : LineView E M). line_side l)) at)))

module _ {E : Type 0} where
  -- what stands of orders in it is of slots, and begins what they put
  pub orders_begin : (places : List Place) (closed : List (Holding ReaderView)) (lines : List (LineView E WriterView)) (place : ℕ) (past : List Entry) →
      place < length lines → ((line : LineView E WriterView) → slice_get lines place ≡ Some line → past ≡ line_past line) → AreEndsOf places closed →
      AreJoined closed lines → HasOrdersAt place places past
  orders_begin places closed lines place past within is ends joined =
      let line = some_at lines place within in
      let same = is line.0 line.1 in record {
        sent = λ slot p lane at at_lane.
            let h = stood_at closed places slot p (sym ends.count) at in
            let routes = (ends.each slot p h.0 at h.1).routes in
            subst (λ (l : List Entry). Begins (orders_of slot l) (uncut lane.pass.put)) (sym same)
            (joined.begin_taken slot place h.0 lane line.0 h.1 (subst (λ (l : List (Lane ReaderView)). IsLaneAt l place lane) (sym routes) at_lane) line.1);
        none_else = λ some slot few.
            let count = ends.count in
            ap (orders_of slot) same ∙ joined.known_slots (omega (arith, some, count)) slot place line.0 line.1 (omega (arith, few, count));
      }

  -- the journal of a host's line at a place is that with the peer of the place
  journal_of : (rows : List (List (LineView E WriterView))) (host peer place : ℕ) (row : List (LineView E WriterView)) (line : LineView E WriterView) (past : List Entry) →
      slice_get rows host ≡ Some row → slice_get row place ≡ Some line → peer_at host place ≡ peer → IsJournalOfLine line past → IsJournalOf rows host peer past
  journal_of rows host peer place row line past at at_line to is other there also stands =
      let place_same : other ≡ place = place_is host other place (also ∙ sym to) in
      let row_same : stands.0 ≡ row = one_at rows host stands.0 row stands.1 at in
      let here = subst (λ (r : List (LineView E WriterView)). slice_get r other ≡ Some there) row_same stands.2 in
      let line_same : line ≡ there = one_at row place line there at_line (subst (λ (n : ℕ). slice_get row n ≡ Some there) place_same here) in
      subst (λ (l : LineView E WriterView). IsJournalOfLine l past) line_same is

  -- so it is where it was to be had
  pub journal_ok : (rows : List (List (LineView E WriterView))) (host peer place : ℕ) (row : List (LineView E WriterView)) (result : Result Log Memory) →
      slice_get rows host ≡ Some row → place < length row → peer_at host place ≡ peer →
      ((line : LineView E WriterView) → slice_get row place ≡ Some line → IfOk result (λ journal. IsJournalOfLine line journal.past)) →
      IfOk result (λ journal. IsJournalOf rows host peer journal.past)
  journal_ok rows host peer place row result at within to is =
      let line = some_at row place within in
      on_ok (λ (journal : Log). IsJournalOfLine line.0 journal.past) (λ (journal : Log). IsJournalOf rows host peer journal.past) result
      (λ journal of. journal_of rows host peer place row line.0 journal.past at line.1 to of) (is line.0 line.1)

-- and so are the orders
pub orders_ok : (host peer place : ℕ) (places : List Place) (result : Result Log Memory) → peer_at host place ≡ peer →
    IfOk result (λ journal. HasOrdersAt place places journal.past) → IfOk result (λ journal. HasOrders host peer places journal.past)
orders_ok host peer place places result to =
    on_ok (λ (journal : Log). HasOrdersAt place places journal.past) (λ (journal : Log). HasOrders host peer places journal.past) result
    (λ journal has. record {
      sent = λ other also. subst (λ (n : ℕ). BeginsOrdersAt n places journal.past) (sym (place_is host other place (also ∙ sym to))) has.sent;
      none_else = has.none_else;
    })

-- one of two journals that are both there
pub first_of : {A : Type 0} (one other : Result A Memory) (result : Result (A × A) Memory) (P : A → Type 0) → IfOk result (λ r. one ≡ Ok r.0) → IfOk one P →
    IfOk result (λ r. P r.0)
first_of {A} one other (Ok r) P is holds = subst (λ (o : Result A Memory). IfOk o P) is holds
first_of one other (Err e) P is holds = tt

pub second_of : {A : Type 0} (one other : Result A Memory) (result : Result (A × A) Memory) (P : A → Type 0) → IfOk result (λ r. other ≡ Ok r.1) → IfOk other P →
    IfOk result (λ r. P r.1)
second_of {A} one other (Ok r) P is holds = subst (λ (o : Result A Memory). IfOk o P) is holds
second_of one other (Err e) P is holds = tt

-- what holds where one is there holds where both are
pub on_one : {A B : Type 0} (one : Result A Memory) (result : Result B Memory) (of : B → A) (P Q : Type 0) → IfOk result (λ r. one ≡ Ok (of r)) → OnOk one P →
    (P → Q) → OnOk result Q
on_one {A} one (Ok r) of P Q is holds go = go (subst (λ (o : Result A Memory). OnOk o P) is holds)
on_one one (Err e) of P Q is holds go = tt

module _ {E : Type 0} where
  -- the journal of a host that did its commands, and gave up the slots that no socket had, is of these commands
  of_commands : (hosts host peer : ℕ) (commands : List Placed) (places : List Place) (lines : List (LineView E WriterView)) (past : List Entry) →
      1 < hosts → HasDoneSpared hosts host commands places lines → HasOrders host peer places past → IsOfCommands hosts host peer commands past
  of_commands hosts host peer commands places lines past two did has = record {
    last = did.last;
    done = did.did.done;
    sent = λ place to slot p lane at at_lane.
        has.sent place to slot (spared p) lane
        (subst (λ (l : List Place). slice_get l slot ≡ Some (spared p)) (sym did.left) (slice_get-map spared did.last slot ∙ ap (option_map spared) at))
        (subst (λ (h : Holding ReaderView). IsLaneAt h.routes place lane) (sym (spared_holds p)) at_lane);
    none_else = λ slot few.
        let way = cuts_of_done hosts host 0 commands did.last did.did.done two in
        let within = slice_get_within did.last way.slot way.p way.at in
        let count = ap length did.left ∙ length-map did.last spared in
        has.none_else (omega (arith, within, count)) slot (omega (arith, few, count));
  }

  -- so it is of a host of all
  pub of_commands_at : (hosts : ℕ) (commands : List Placed) (callers : List CallerView) (rows : List (List (LineView E WriterView))) →
      1 < hosts → HaveDoneSpared hosts commands callers rows → HaveTied callers rows → (host peer : ℕ) → host < length rows → (past : List Entry) →
      ((caller : CallerView) → slice_get callers host ≡ Some caller → HasOrders host peer caller.places past) → IsOfCommands hosts host peer commands past
  of_commands_at hosts commands callers rows two did tied host peer within past has =
      let row = some_at rows host within in
      let caller = stood_at callers rows host row.0 (sym tied.count) row.1 in
      of_commands hosts host peer commands caller.0.places row.0 past two (did host caller.0 row.0 caller.1 row.1) (has caller.0 caller.1)
