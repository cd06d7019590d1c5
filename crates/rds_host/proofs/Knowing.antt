-- What lines know once they were told of ports, one after another.
use Rattle.std.proofs.Common.{◌≡◌, ℕ, ◌+◌, ◌<◌, ◌≤◌, List, [], ◌∷◌, ◌++◌, Some, length, set, append_assoc, slice_get, refl, sym, ap, subst, ⊎_elim, ◌∙◌, arith}
use Rattle.std.proofs.lemmas.Bool.{cases_eq}
use Rattle.std.proofs.lemmas.List.{append-nil, length-set}
use Rattle.std.proofs.lemmas.Option.{same_Some, slice_get_within}
use Rattle.rds_model.specs.Honest.{Begins}
use Rattle.rds_model.specs.SumLaws.{same_list}
use Rattle.rds_meter.specs.Grounds.{seats_of}
use Rattle.rds_bindtab.specs.declared.view.Step.{Step}
use Rattle.rds_bindtab.specs.declared.view.Telling.{Telling}
use Rattle.rds_bindtab.specs.declared.view.View.{View}
use Rattle.rds_bindtab.specs.Seats.{PortSeat, joined, knowing, note_of, telling_of}
use Rattle.rds_fmap.specs.Readers.{WriterView}
use Rattle.rds_line_channel.specs.PlaceLaws.{at_set, beside_set}
use Rattle.rds_line.specs.Line.{LineView}
use Rattle.rds_line.specs.Stays.{AreSameBoxes}
use Rattle.rds_host.specs.Keeping.{LineKeeps, LinesKeep}
use Rattle.rds_host.specs.Settled.{AreLinesToldMore, IsLineToldMore, knowing_ports}
use Rattle.rds_host.proofs.Kept.{beside}
use Rattle.rds_host.proofs.Staying.{begins_through, boxes_same}

-- a seat that was told these ports
abbrev told_to : PortSeat → List Telling → PortSeat
told_to seat told = knowing seat (record seat.view { told = told })

knowing_none : (seat : PortSeat) → seat ≡ knowing_ports seat []
knowing_none seat = ap (told_to seat) (sym (append-nil seat.view.told))

knowing_both : (seat : PortSeat) (some more : List Telling) → knowing_ports (knowing_ports seat some) more ≡ knowing_ports seat (some ++ more)
knowing_both seat some more = ap (told_to seat) (append_assoc seat.view.told some more)

-- a note of a port adds what its holder tells, and nothing else
joined_note : (v w : View) → joined v (note_of w) ≡ record v { told = v.told ++ telling_of w ∷ [] }
joined_note v w =
    let told = v.told ++ telling_of w ∷ [] in
    let weight : v.weight + 0 ≡ v.weight = omega arith in
    let splits : v.splits + 0 ≡ v.splits = omega arith in
    let draws : v.draws + 0 ≡ v.draws = omega arith in
    ap (λ (n : ℕ). record v { weight = n; splits = v.splits + 0; draws = v.draws + 0; told = told; steps = v.steps ++ [] }) weight
    ∙ (ap (λ (n : ℕ). record v { splits = n; draws = v.draws + 0; told = told; steps = v.steps ++ [] }) splits
    ∙ (ap (λ (n : ℕ). record v { draws = n; told = told; steps = v.steps ++ [] }) draws
    ∙ ap (λ (l : List Step). record v { told = told; steps = l }) (append-nil v.steps)))

pub knowing_note : (seat holder : PortSeat) → knowing seat (joined seat.view (note_of holder.view)) ≡ knowing_ports seat (telling_of holder.view ∷ [])
knowing_note seat holder = ap (knowing seat) (joined_note seat.view holder.view)

-- a seat that was told of nothing
pub still_knowing : (old new : PortSeat) → new ≡ old → new ≡ knowing_ports old []
still_knowing old new same = same ∙ knowing_none old

module _ {E : Type 0} where
  pub ports_begin : (ports : List Telling) (old new : LineView E WriterView) → IsLineToldMore ports old new → Begins old.ports.view.told new.ports.view.told
  ports_begin ports old new more = (ports, ap (λ (l : LineView E WriterView). l.ports.view.told) more.rest)

  line_told_same : (line : LineView E WriterView) → IsLineToldMore [] line line
  line_told_same line = record {
    rest = ap (λ (p : PortSeat). record line { ports = p }) (knowing_none line.ports);
    told = same_list line.orders.told;
  }

  line_told_through : (some more : List Telling) (old middle new : LineView E WriterView) → IsLineToldMore some old middle → IsLineToldMore more middle new
      → IsLineToldMore (some ++ more) old new
  line_told_through some more old middle new first second = record {
    rest =
        second.rest
        ∙ (ap (λ (l : LineView E WriterView). record l { orders = record l.orders { told = new.orders.told }; ports = knowing_ports l.ports more }) first.rest
        ∙ ap (λ (p : PortSeat). record old { orders = record old.orders { told = new.orders.told }; ports = p }) (knowing_both old.ports some more));
    told = begins_through old.orders.told middle.orders.told new.orders.told first.told second.told;
  }

  pub lines_told_same : (lines : List (LineView E WriterView)) → AreLinesToldMore [] lines lines
  lines_told_same lines = record {
    count = refl;
    each = λ place line after stood stands. subst (IsLineToldMore [] line) (same_Some line after (sym stood ∙ stands)) (line_told_same line);
  }

  pub lines_told_through : (some more : List Telling) (old middle new : List (LineView E WriterView)) → AreLinesToldMore some old middle → AreLinesToldMore more middle new
      → AreLinesToldMore (some ++ more) old new
  lines_told_through some more old middle new first second = record {
    count = second.count ∙ first.count;
    each = λ place line after stood stands.
        let between = beside middle old line place (sym first.count) stood in
        line_told_through some more line between.0 after (first.each place line between.0 stood between.1) (second.each place between.0 after between.1 stands);
  }

  -- the lines up to one were told of these ports, and the others of none
  pub record LinesUpTo (n : ℕ) (ports : List Telling) (old new : List (LineView E WriterView)) : Type 0 where
    pub count : length new ≡ length old
    pub each : (place : ℕ) (line after : LineView E WriterView) → place < n → slice_get old place ≡ Some line → slice_get new place ≡ Some after → IsLineToldMore ports line after
    pub left : (place : ℕ) (line : LineView E WriterView) → n ≤ place → slice_get new place ≡ Some line → slice_get old place ≡ Some line

  -- the next line was told of them
  pub next_line : (n : ℕ) (ports : List Telling) (lines told : List (LineView E WriterView)) (line new : LineView E WriterView) → slice_get told n ≡ Some line → IsLineToldMore ports line new
      → LinesUpTo n ports lines told → LinesUpTo (n + 1) ports lines (set told n new)
  next_line n ports lines told line new at more up = record {
    count = length-set told n new ∙ up.count;
    each = λ place before after small stood stands.
        ⊎_elim
        (λ (here : place ≡ n).
        let was : line ≡ before = same_Some line before (sym (up.left n line (omega arith) at) ∙ (ap (slice_get lines) (sym here) ∙ stood)) in
        let is : new ≡ after = same_Some new after (sym (at_set told n new (slice_get_within told n line at)) ∙ (ap (slice_get (set told n new)) (sym here) ∙ stands)) in
        subst (λ (l : LineView E WriterView). IsLineToldMore ports l after) was (subst (IsLineToldMore ports line) is more))
        (λ (other : place ≡ n → ⊥).
        let few : place < n = grind arith in
        up.each place before after few stood (sym (beside_set told n place new other) ∙ stands))
        (cases_eq place n);
    left = λ place after past stands. up.left place after (omega (arith, past)) (sym (beside_set told n place new (λ here. omega (arith, past, here))) ∙ stands);
  }

  pub all_lines : (n : ℕ) (ports : List Telling) (old new : List (LineView E WriterView)) → length new ≤ n → LinesUpTo n ports old new → AreLinesToldMore ports old new
  all_lines n ports old new all up = record {
    count = up.count;
    each = λ place line after stood stands. let small = slice_get_within new place after stands in up.each place line after (omega (arith, small, all)) stood stands;
  }

  line_keeps : (ports : List Telling) (old new : LineView E WriterView) → IsLineToldMore ports old new → LineKeeps old new
  line_keeps ports old new more = record {
    peer = ap (λ (l : LineView E WriterView). l.channel.conn.peer) more.rest;
    mail = ap (λ (l : LineView E WriterView). l.orders.mail) more.rest;
    joined = ap (λ (l : LineView E WriterView). l.orders.joined) more.rest;
    boxes = subst (AreSameBoxes old.boxes) (sym (ap (λ (l : LineView E WriterView). l.boxes) more.rest)) (boxes_same old.boxes);
    ports = ap (λ (l : LineView E WriterView). l.ports.table) more.rest;
    words = ap (λ (l : LineView E WriterView). l.words.table) more.rest;
    seats = ap (λ (l : LineView E WriterView). seats_of l.words.view) more.rest;
    pair = ap (λ (l : LineView E WriterView). l.map.pair) more.rest;
  }

  pub lines_keep_told : (ports : List Telling) (old new : List (LineView E WriterView)) → AreLinesToldMore ports old new → LinesKeep old new
  lines_keep_told ports old new more = record { count = more.count; each = λ place line after stood stands. line_keeps ports line after (more.each place line after stood stands) }
