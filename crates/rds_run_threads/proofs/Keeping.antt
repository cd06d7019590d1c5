-- What is kept where the lines of all hosts are told of orders, and their slots of datagrams.
use Rattle.std.proofs.Common.{◌≡◌, ◌≢◌, ◌+◌, ◌<◌, ℕ, zero, suc, List, [], ◌∷◌, Some, Vec, inl, inr, get_or, length, set, subst, take, drop, ◌++◌, ◌≤◌, slice_get, refl, sym, ap, ◌∙◌, arith}
use Rattle.std.specs.Global.{Global}
use Rattle.std.proofs.lemmas.Bool.{cases_lt}
use Rattle.std.proofs.lemmas.List.{append-nil, length-set, take_all}
use Rattle.std.proofs.lemmas.Option.{slice_get_within}
use Rattle.rds_fmap.specs.Readers.{WriterView}
use Rattle.rds_line.specs.Line.{LineView}
use Rattle.rds_run_callers.specs.Places.{CallerView}
use Rattle.rds_run_rounds.specs.Connection.{AreSameConnections}
use Rattle.rds_run_rounds.specs.Grid.{EachRow, rows_of}
use Rattle.rds_run_settling.specs.Tied.{LinesHear}
use Rattle.rds_run_threads.specs.Settled.{AreToldBelow, HasHeard, HasSettled, HaveHeardBelow, HaveSettled, IsToldOf}
use Rattle.rds_run_threads.specs.Taking.{HaveTied}
use Rattle.rds_run_threads.proofs.At.{at_set, beside_set, one_at, stood_at}
use Rattle.rds_run_threads.proofs.Rows.{read_at, row_at, rows_count}

module _ {E : Type 0} where
  -- lines that were told of orders are of the same connections
  heard_same : (lines after : List (LineView E WriterView)) → LinesHear lines after → AreSameConnections lines after
  heard_same lines after hear = record {
    count = hear.count;
    each = λ place line heard at at_heard.
        let is = hear.each place line heard at at_heard in record {
          limit = ap (λ (l : LineView E WriterView). l.channel.conn.log.limit) is;
          peer = ap (λ (l : LineView E WriterView). l.channel.conn.peer) is;
          streams = ap (λ (l : LineView E WriterView). l.channel.streams.list) is;
        };
  }

  -- what was told to one host, of all that were told
  pub told_at : (old new : List CallerView) (rows after : List (List (LineView E WriterView))) → length old ≡ length rows →
      AreToldBelow (length old) old new rows after → (host : ℕ) (row heard : List (LineView E WriterView)) → slice_get rows host ≡ Some row →
      slice_get after host ≡ Some heard → (caller : CallerView) × (later : CallerView) × (slice_get old host ≡ Some caller) × (slice_get new host ≡ Some later)
      × IsToldOf caller.places later.places row heard
  told_at old new rows after same all host row heard at at_heard =
      let caller = stood_at old rows host row (sym same) at in
      let later = stood_at new old host caller.0 (sym all.caller_count) caller.1 in
      let within = slice_get_within old host caller.0 caller.1 in
      (caller.0, later.0, caller.1, later.1, all.told host caller.0 later.0 row heard within caller.1 later.1 at at_heard)

  -- all rows are of the same connections
  pub rows_same : (old new : List CallerView) (rows after : List (List (LineView E WriterView))) → length old ≡ length rows →
      AreToldBelow (length old) old new rows after → EachRow AreSameConnections rows after
  rows_same old new rows after same all = record {
    count = all.row_count;
    each = λ host row heard at at_heard.
        let is = told_at old new rows after same all host row heard at at_heard in
        heard_same row heard is.4.hear;
  }

  -- one more was told
  pub one_told : (count : ℕ) (old new : List CallerView) (rows after : List (List (LineView E WriterView))) (now later : CallerView)
      (row heard : List (LineView E WriterView)) → AreToldBelow count old new rows after → slice_get new count ≡ Some now → slice_get after count ≡ Some row →
      IsToldOf now.places later.places row heard → AreToldBelow (count + 1) old (set new count later) rows (set after count heard)
  one_told count old new rows after now later row heard all at_now at_row one = record {
    caller_count = length-set new count later ∙ all.caller_count;
    row_count = length-set after count heard ∙ all.row_count;
    told = λ host caller next was came below at at_next at_was at_came.
        elim (cases_lt host count) [
          | inl earlier ↦
              let apart : host ≢ count = λ same. absurd (omega (arith, same, earlier)) in
              all.told host caller next was came earlier at (sym (beside_set new count host later apart) ∙ at_next) at_was
              (sym (beside_set after count host heard apart) ∙ at_came)
          | inr from ↦
              let is : host ≡ count = omega (arith, from, below) in
              let rest = all.others count (omega arith) in
              let next_is : later ≡ next =
              one_at (set new count later) count later next (at_set new count later (slice_get_within new count now at_now))
              (subst (λ (h : ℕ). slice_get (set new count later) h ≡ Some next) is at_next) in
              let came_is : heard ≡ came =
              one_at (set after count heard) count heard came (at_set after count heard (slice_get_within after count row at_row))
              (subst (λ (h : ℕ). slice_get (set after count heard) h ≡ Some came) is at_came) in
              let caller_is : now ≡ caller =
              one_at old count now caller (sym rest.0 ∙ at_now) (subst (λ (h : ℕ). slice_get old h ≡ Some caller) is at) in
              let row_is : row ≡ was = one_at rows count row was (sym rest.1 ∙ at_row) (subst (λ (h : ℕ). slice_get rows h ≡ Some was) is at_was) in
              subst (λ (c : CallerView). IsToldOf caller.places c.places was came) next_is
              (subst (λ (l : List (LineView E WriterView)). IsToldOf caller.places later.places was l) came_is
              (subst (λ (c : CallerView). IsToldOf c.places later.places was heard) caller_is
              (subst (λ (l : List (LineView E WriterView)). IsToldOf now.places later.places l heard) row_is one)))
        ];
    others = λ host from.
        let apart : host ≢ count = λ same. absurd (omega (arith, same, from)) in
        let rest = all.others host (omega (arith, from)) in
        (beside_set new count host later apart ∙ rest.0, beside_set after count host heard apart ∙ rest.1);
  }

module _ {E : Type 0} where
  -- the slots of one host more were told
  pub one_heard : (count : ℕ) (old new : List CallerView) (rows : List (List (LineView E WriterView))) (now later : CallerView)
      (row : List (LineView E WriterView)) → HaveHeardBelow count old new rows → slice_get new count ≡ Some now → slice_get rows count ≡ Some row →
      HasHeard now.places later.places row → HaveHeardBelow (count + 1) old (set new count later) rows
  one_heard count old new rows now later row all at_now at_row one = record {
    caller_count = length-set new count later ∙ all.caller_count;
    heard = λ host caller next was below at at_next at_was.
        elim (cases_lt host count) [
          | inl earlier ↦
              let apart : host ≢ count = λ same. absurd (omega (arith, same, earlier)) in
              all.heard host caller next was earlier at (sym (beside_set new count host later apart) ∙ at_next) at_was
          | inr from ↦
              let is : host ≡ count = omega (arith, from, below) in
              let next_is : later ≡ next =
              one_at (set new count later) count later next (at_set new count later (slice_get_within new count now at_now))
              (subst (λ (h : ℕ). slice_get (set new count later) h ≡ Some next) is at_next) in
              let caller_is : now ≡ caller =
              one_at old count now caller (sym (all.others count (omega arith)) ∙ at_now) (subst (λ (h : ℕ). slice_get old h ≡ Some caller) is at) in
              let row_is : row ≡ was = one_at rows count row was at_row (subst (λ (h : ℕ). slice_get rows h ≡ Some was) is at_was) in
              subst (λ (c : CallerView). HasHeard caller.places c.places was) next_is
              (subst (λ (c : CallerView). HasHeard c.places later.places was) caller_is
              (subst (λ (l : List (LineView E WriterView)). HasHeard now.places later.places l) row_is one))
        ];
    others = λ host from.
        let apart : host ≢ count = λ same. absurd (omega (arith, same, from)) in
        beside_set new count host later apart ∙ all.others host (omega (arith, from));
  }

  -- they are tied to the lines still
  pub heard_tied : (old new : List CallerView) (rows : List (List (LineView E WriterView))) → length old ≡ length rows →
      HaveHeardBelow (length old) old new rows → HaveTied new rows
  heard_tied old new rows same all = record {
    count = all.caller_count ∙ same;
    each = λ host later row at at_row.
        let caller = stood_at old new host later all.caller_count at in
        (all.heard host caller.0 later row (slice_get_within old host caller.0 caller.1) caller.1 at at_row).tied;
  }

-- the next host of those whose slots are told: where its caller and its row stand
pub record IsNextAt {E : Type 0} (host : ℕ) (now : List CallerView) (before lines : List (Vec (LineView E WriterView) Global)) (caller : CallerView)
    (row : Vec (LineView E WriterView) Global) : Type 0 where
  pub at_caller : slice_get now host ≡ Some caller
  pub at_row : slice_get (rows_of before) host ≡ Some row.items
  pub at_line : slice_get lines host ≡ Some row
  pub settled : HasSettled caller.places row.items

pub next_at : {E : Type 0} (host : ℕ) (old now : List CallerView) (before lines : List (Vec (LineView E WriterView) Global)) (caller : CallerView)
    (row : Vec (LineView E WriterView) Global) → HaveSettled old (rows_of before) → HaveHeardBelow host old now (rows_of before) →
    rows_of lines ≡ rows_of before → host < length now → caller ≡ get_or now host caller → row ≡ get_or lines host row →
    IsNextAt host now before lines caller row
next_at {E} host old now before lines caller row settled all same below read read_row =
    let one = rows_count lines in
    let two : length (rows_of lines) ≡ length (rows_of before) = ap length same in
    let now_count = all.caller_count in
    let count = settled.count in
    let at_caller = read_at now host host caller refl below read in
    let at_line = read_at lines host host row refl (omega (arith, one, two, now_count, count, below)) read_row in
    let at_row = subst (λ (l : List (List (LineView E WriterView))). slice_get l host ≡ Some row.items) same (row_at lines host row at_line) in
    record {
      at_caller = at_caller;
      at_row = at_row;
      at_line = at_line;
      settled = settled.each host caller row.items (sym (all.others host (omega arith)) ∙ at_caller) at_row;
    }

-- a vector whose items were lent out and came back, as many as before
drop_end : {T : Type 0} (xs : List T) (k : ℕ) → length xs ≤ k → drop k xs ≡ []
drop_end [] zero small = refl
drop_end [] (suc k) small = refl
drop_end (x ∷ xs) zero small = absurd (omega (arith, small))
drop_end (x ∷ xs) (suc k) small = drop_end xs k (omega (arith, small))

pub back_of : {T : Type 0} (old new : List T) (n : ℕ) → n ≡ length old → length new ≡ length old → take n (new ++ drop (length new) old) ≡ new
back_of {T} old new n len same =
    ap (λ (l : List T). take n (new ++ l)) (drop_end old (length new) (omega (arith, same)))
    ∙ (ap (take n) (append-nil new) ∙ take_all n new (omega (arith, len, same)))
