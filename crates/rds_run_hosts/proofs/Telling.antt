-- How the lines of each host are told of ports, host by host.
use Rattle.std.proofs.Common.{◌≡◌, ⊎_elim, ℕ, ◌+◌, ◌<◌, ◌≤◌, List, Some, length, set, slice_get, refl, sym, ap, subst, ◌∙◌, arith}
use Rattle.std.proofs.lemmas.List.{length-set}
use Rattle.std.proofs.lemmas.Option.{same_Some, slice_get_within}
use Rattle.rds_fmap.specs.Readers.{WriterView}
use Rattle.rds_line.specs.Line.{LineView}
use Rattle.rds_run_callers.specs.Places.{CallerView, Place}
use Rattle.rds_run_rounds.specs.Connection.{AreSameConnections}
use Rattle.rds_run_rounds.specs.Grid.{EachRow}
use Rattle.rds_run_settling.specs.Tied.{ArePortsTold, AreTied, LinesLearnPorts}
use Rattle.rds_run_hosts.specs.Leading.{AllPortsTold, SamePlaces}
use Rattle.rds_run_hosts.specs.Parties.{AreParties}
use Rattle.rds_run_hosts.proofs.At.{at_set_any, stood_at}

module _ {E : Type 0} where
  -- the lines of the hosts below this one were told, and those of the others are as they were
  pub record AreToldBelow (n : ℕ) (old callers : List CallerView) (old_rows rows : List (List (LineView E WriterView))) : Type 0 where
    pub callers_count : length callers ≡ length old
    pub rows_count : length rows ≡ length old_rows
    pub same : (host : ℕ) (caller after : CallerView) → slice_get old host ≡ Some caller → slice_get callers host ≡ Some after → after.places ≡ caller.places
    pub tied : (host : ℕ) (caller : CallerView) (row : List (LineView E WriterView)) → host < n → slice_get callers host ≡ Some caller → slice_get rows host ≡ Some row →
        AreTied caller.places row
    pub told : (host : ℕ) (caller : CallerView) (row : List (LineView E WriterView)) → host < n → slice_get callers host ≡ Some caller → slice_get rows host ≡ Some row →
        ArePortsTold caller.places row
    pub learned : (host : ℕ) (row after : List (LineView E WriterView)) → host < n → slice_get old_rows host ≡ Some row → slice_get rows host ≡ Some after → LinesLearnPorts row after
    pub left : (host : ℕ) (row after : List (LineView E WriterView)) → n ≤ host → slice_get old_rows host ≡ Some row → slice_get rows host ≡ Some after → after ≡ row

  pub told_none : (callers : List CallerView) (rows : List (List (LineView E WriterView))) → AreToldBelow 0 callers callers rows rows
  told_none callers rows = record {
    callers_count = refl;
    rows_count = refl;
    same = λ host caller after stood stands. ap (λ (c : CallerView). c.places) (same_Some after caller (sym stands ∙ stood));
    tied = λ host caller row below at_caller at_row. absurd (omega (arith, below));
    told = λ host caller row below at_caller at_row. absurd (omega (arith, below));
    learned = λ host row after below stood stands. absurd (omega (arith, below));
    left = λ host row after above stood stands. same_Some after row (sym stands ∙ stood);
  }

  -- the slots and the lines of the next host belong together
  pub told_next : (n hosts : ℕ) (old callers : List CallerView) (old_rows rows : List (List (LineView E WriterView))) (was : CallerView)
      (row : List (LineView E WriterView)) → AreToldBelow n old callers old_rows rows → AreParties hosts old old_rows → slice_get callers n ≡ Some was →
      slice_get rows n ≡ Some row → AreTied was.places row
  told_next n hosts old callers old_rows rows was row before parties at_caller at_row =
      let o = stood_at old callers n was before.callers_count at_caller in
      let r = stood_at old_rows rows n row before.rows_count at_row in
      subst (λ (ps : List Place). AreTied ps row) (sym (before.same n o.0 was o.1 at_caller))
      (subst (λ (l : List (LineView E WriterView)). AreTied o.0.places l) (sym (before.left n r.0 row (omega arith) r.1 at_row)) (parties.tied n o.0 r.0 o.1 r.1))

  module _ (n : ℕ) (old callers : List CallerView) (old_rows rows : List (List (LineView E WriterView))) (was after : CallerView)
      (row told_row : List (LineView E WriterView)) (before : AreToldBelow n old callers old_rows rows) (at_caller : slice_get callers n ≡ Some was)
      (at_row : slice_get rows n ≡ Some row) (places : after.places ≡ was.places) (told : ArePortsTold after.places told_row)
      (lines : LinesLearnPorts row told_row) (tied : AreTied after.places told_row) where
    pub told_more : AreToldBelow (n + 1) old (set callers n after) old_rows (set rows n told_row)
    told_more = record {
      callers_count = length-set callers n after ∙ before.callers_count;
      rows_count = length-set rows n told_row ∙ before.rows_count;
      same = λ host caller x stood stands. ⊎_elim
          (λ here. ap (λ (c : CallerView). c.places) here.1 ∙ places
          ∙ before.same host caller was stood (subst (λ k. slice_get callers k ≡ Some was) (sym here.0) at_caller))
          (λ there. before.same host caller x stood there.1)
          (at_set_any callers n after host x stands);
      tied = λ host caller line below at_c at_r. ⊎_elim
          (λ here. ⊎_elim
          (λ here_row. subst (λ (c : CallerView). AreTied c.places line) (sym here.1)
          (subst (λ (r : List (LineView E WriterView)). AreTied after.places r) (sym here_row.1) tied))
          (λ there. absurd (there.0 here.0))
          (at_set_any rows n told_row host line at_r))
          (λ there. ⊎_elim
          (λ here_row. absurd (there.0 here_row.0))
          (λ there_row. let ne = there.0 in before.tied host caller line (omega (arith, below, ne)) there.1 there_row.1)
          (at_set_any rows n told_row host line at_r))
          (at_set_any callers n after host caller at_c);
      told = λ host caller line below at_c at_r. ⊎_elim
          (λ here. ⊎_elim
          (λ here_row. subst (λ (c : CallerView). ArePortsTold c.places line) (sym here.1)
          (subst (λ (r : List (LineView E WriterView)). ArePortsTold after.places r) (sym here_row.1) told))
          (λ there. absurd (there.0 here.0))
          (at_set_any rows n told_row host line at_r))
          (λ there. ⊎_elim
          (λ here_row. absurd (there.0 here_row.0))
          (λ there_row. let ne = there.0 in before.told host caller line (omega (arith, below, ne)) there.1 there_row.1)
          (at_set_any rows n told_row host line at_r))
          (at_set_any callers n after host caller at_c);
      learned = λ host line x below stood stands. ⊎_elim
          (λ here.
          let same : row ≡ line = before.left n line row (omega arith) (subst (λ k. slice_get old_rows k ≡ Some line) here.0 stood) at_row in
          subst (λ (r : List (LineView E WriterView)). LinesLearnPorts line r) (sym here.1)
          (subst (λ (r : List (LineView E WriterView)). LinesLearnPorts r told_row) same lines))
          (λ there. let ne = there.0 in before.learned host line x (omega (arith, below, ne)) stood there.1)
          (at_set_any rows n told_row host x stands);
      left = λ host line x above stood stands. ⊎_elim
          (λ here. absurd (omega (arith, above, here.0)))
          (λ there. before.left host line x (omega (arith, above)) stood there.1)
          (at_set_any rows n told_row host x stands);
    }

  module _ (n : ℕ) (old callers : List CallerView) (old_rows rows : List (List (LineView E WriterView))) (all : n ≡ length callers)
      (hosts : ℕ) (parties : AreParties hosts old old_rows) (below : AreToldBelow n old callers old_rows rows) where
    caller_within : (host : ℕ) (caller : CallerView) → slice_get callers host ≡ Some caller → host < n
    caller_within host caller at = let within = slice_get_within callers host caller at in omega (arith, within, all)

    row_within : (host : ℕ) (row : List (LineView E WriterView)) → slice_get old_rows host ≡ Some row → host < n
    row_within host row at =
        let within = slice_get_within old_rows host row at in
        let a = below.callers_count in let b = parties.callers_count in let d = parties.rows_count in
        omega (arith, within, all, a, b, d)

    pub told_same : SamePlaces old callers
    told_same = record { count = below.callers_count; each = below.same }

    pub told_ports : AllPortsTold callers rows
    told_ports host caller row at_caller at_row = below.told host caller row (caller_within host caller at_caller) at_caller at_row

    pub told_lines : EachRow LinesLearnPorts old_rows rows
    told_lines = record {
      count = below.rows_count;
      each = λ host row after stood stands. below.learned host row after (row_within host row stood) stood stands;
    }

    pub told_parties : (k : ℕ) → AreParties k old old_rows → AreParties k callers rows
    told_parties k p = record {
      callers_count = below.callers_count ∙ p.callers_count;
      rows_count = below.rows_count ∙ p.rows_count;
      tied = λ host caller row at_caller at_row. below.tied host caller row (caller_within host caller at_caller) at_caller at_row;
    }

  -- lines whose seats learn of ports keep their connections
  pub learned_same : (rows after : List (List (LineView E WriterView))) → EachRow LinesLearnPorts rows after → EachRow AreSameConnections rows after
  learned_same rows after learn = record {
    count = learn.count;
    each = λ host row told stood stands.
        let lines = learn.each host row told stood stands in record {
          count = lines.count;
          each = λ place line new was is.
              let same = (lines.each place line new was is).0 in record {
                limit = ap (λ (l : LineView E WriterView). l.channel.conn.log.limit) same;
                peer = ap (λ (l : LineView E WriterView). l.channel.conn.peer) same;
                streams = ap (λ (l : LineView E WriterView). l.channel.streams.list) same;
              };
        };
  }
