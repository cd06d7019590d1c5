-- How the hosts of a run are made.
use Rattle.std.proofs.Common.{◌≡◌, ◌⊎◌, inl, inr, ⊎_elim, ℕ, zero, suc, ◌+◌, ◌-◌, ◌<◌, ◌≤◌, Bool, true, false, ltb, if◌then◌else◌, List, Vec, [], ◌∷◌, ◌++◌, All, Some, length, map, get_or, slice_get, refl, sym, ap, subst, ◌∙◌, arith}
use Rattle.std.proofs.lemmas.Bool.{lt-ltb, le-ltb, ltb-true, ltb-false}
use Rattle.std.proofs.lemmas.List.{length_push}
use Rattle.std.proofs.lemmas.List.Elements.{All-cons, All-nil, All-map}
use Rattle.std.proofs.lemmas.List.FromFn.{length-range_with_len, get_or-range_with_len}
use Rattle.std.proofs.lemmas.Option.{same_Some, slice_get_within, slice_get-get_or}
use Rattle.std.specs.Global.{Global}
use Rattle.std.specs.List.{range_with_len}
use Rattle.rds_fmap.specs.Readers.{WriterView}
use Rattle.rds_link.specs.Ends.{Means}
use Rattle.rds_line_channel.specs.Streams.{AreNumbered, IsUnused}
use Rattle.rds_line.specs.Line.{LineView}
use Rattle.rds_socket_parts.specs.Lanes.{Ascend}
use Rattle.rds_text.specs.Hosts.{address_of}
use Rattle.rds_script.specs.declared.script.Placed.{Placed}
use Rattle.rds_run_callers.specs.Places.{CallerView}
use Rattle.rds_host.specs.Lines.{AreNewLines, IsNewLine}
use Rattle.rds_run_rounds.specs.Grid.{AreRows, IsAt, OfEachPair, others, peer_at}
use Rattle.rds_run_settling.specs.Tied.{AreTied}
use Rattle.rds_run_hosts.specs.Giving.{HasNewLines, HaveNewLines}
use Rattle.rds_run_hosts.specs.Obeyed.{AreNewPlaces, slot_count}
use Rattle.rds_run_hosts.specs.Parties.{AreNewCallers, AreParties}
use Rattle.rds_run_hosts.specs.Preparing.{AreAllPrepared, ArePrepared}
use Rattle.rds_run_hosts.proofs.At.{all_at, at_snoc, length_map, map_at, some_at}

-- a host below a place's number stands at its own place, and one above one place earlier
pub lower_peer : (host place : ℕ) → place < host → peer_at host place ≡ place
lower_peer host place below = ap (λ b. if b then place else suc place) (lt-ltb place host below)

pub higher_peer : (host place : ℕ) → host ≤ place → peer_at host place ≡ suc place
higher_peer host place above = ap (λ b. if b then place else suc place) (le-ltb place host above)

order : (a b : ℕ) → (a < b) ⊎ (b ≤ a)
order a b = by_test (ltb a b) refl
  where
    by_test : (t : Bool) → ltb a b ≡ t → (a < b) ⊎ (b ≤ a)
    by_test true is = inl (ltb-true a b is)
    by_test false is = inr (ltb-false a b is)

-- a later place is of a higher host
peers_rise : (host i j : ℕ) → i < j → peer_at host i < peer_at host j
peers_rise host i j lt = by_case (cases i) (cases j)
  where
    cases : (n : ℕ) → ((n < host) × (peer_at host n ≡ n)) ⊎ ((host ≤ n) × (peer_at host n ≡ suc n))
    cases n = ⊎_elim (λ below. inl (below, lower_peer host n below)) (λ above. inr (above, higher_peer host n above)) (order n host)

    by_case : ((i < host) × (peer_at host i ≡ i)) ⊎ ((host ≤ i) × (peer_at host i ≡ suc i)) →
        ((j < host) × (peer_at host j ≡ j)) ⊎ ((host ≤ j) × (peer_at host j ≡ suc j)) → peer_at host i < peer_at host j
    by_case (inl one) (inl two) = omega (arith, one.1, two.1, lt)
    by_case (inl one) (inr two) = omega (arith, one.1, two.1, lt)
    by_case (inr one) (inl two) = absurd (omega (arith, one.0, two.0, lt))
    by_case (inr one) (inr two) = omega (arith, one.1, two.1, lt)

numbers_ascend : (a n : ℕ) → Ascend (range_with_len a n)
numbers_ascend a zero = tt
numbers_ascend a (suc n) = (above a (a + 1) n (omega arith), numbers_ascend (a + 1) n)
  where
    above : (a k n : ℕ) → a < k → All (λ later. a < later) (range_with_len k n)
    above a k zero lt = All-nil (λ later. a < later)
    above a k (suc n) lt = All-cons (λ later. a < later) k (range_with_len (k + 1) n) lt (above a (k + 1) n (omega (arith, lt)))

-- what rises keeps numbers ascending
map_ascends : (f : ℕ → ℕ) → ((i j : ℕ) → i < j → f i < f j) → (xs : List ℕ) → Ascend xs → Ascend (map f xs)
map_ascends f rises [] up = tt
map_ascends f rises (x ∷ xs) up =
    (All-map (λ later. f x < later) f xs (λ k d within. rises x (get_or xs k d) (up.0 k d within)), map_ascends f rises xs up.1)

pub peers_ascend : (hosts host : ℕ) → Ascend (map address_of (others hosts host))
peers_ascend hosts host =
    map_ascends address_of (λ i j lt. omega (arith, lt)) (others hosts host)
    (map_ascends (peer_at host) (peers_rise host) (range_with_len 0 (hosts - 1)) (numbers_ascend 0 (hosts - 1)))

pub peers_count : (hosts host : ℕ) → length (map address_of (others hosts host)) ≡ hosts - 1
peers_count hosts host =
    length_map address_of (others hosts host) ∙ length_map (peer_at host) (range_with_len 0 (hosts - 1)) ∙ length-range_with_len 0 (hosts - 1)

-- the peer at a place
pub peer_there : (hosts host place : ℕ) → place < hosts - 1 → slice_get (map address_of (others hosts host)) place ≡ Some (address_of (peer_at host place))
peer_there hosts host place within =
    map_at address_of (others hosts host) place (peer_at host place) (map_at (peer_at host) (range_with_len 0 (hosts - 1)) place place at)
  where
    at : slice_get (range_with_len 0 (hosts - 1)) place ≡ Some place
    at = slice_get-get_or (range_with_len 0 (hosts - 1)) place 0 (let n = length-range_with_len 0 (hosts - 1) in omega (arith, n, within))
        ∙ ap Some (get_or-range_with_len 0 (hosts - 1) place 0 within ∙ omega arith)

-- a row has something for each other host
pub row_size : {T : Type 0} (hosts : ℕ) (rows : List (List T)) → AreRows hosts rows → (host : ℕ) (row : List T) → slice_get rows host ≡ Some row → suc (length row) ≡ hosts
row_size {T} hosts rows shape host row at =
    let within = slice_get_within rows host row at in
    subst (λ (r : List T). suc (length r) ≡ hosts) (same_Some (get_or rows host row) row (sym (slice_get-get_or rows host row within) ∙ at)) (shape.each host row within)

module _ {T : Type 0} (Holds : ℕ → ℕ → T → T → Type 0) where
  -- what a host has for a peer is one of the two things that the two have for each other
  pub of_pair : (hosts : ℕ) (rows : List (List T)) (P : T → Type 0) → AreRows hosts rows → OfEachPair Holds rows →
      ((low high : ℕ) (one other : T) → Holds low high one other → P one × P other) → (host place : ℕ) (x : T) → IsAt rows host place x → P x
  of_pair hosts rows P shape pairs both host place x at = by_order (order place host)
    where
      cell : (i p : ℕ) → i < hosts → suc p < hosts → (y : T) × IsAt rows i p y
      cell i p below within =
          let row = some_at rows i (let count = shape.count in omega (arith, count, below)) in
          let size = row_size hosts rows shape i row.0 row.1 in
          let y = some_at row.0 p (omega (arith, size, within)) in
          (y.0, (row.0, row.1, y.1))

      host_within : host < hosts
      host_within = let within = slice_get_within rows host at.0 at.1 in let count = shape.count in omega (arith, within, count)

      place_within : suc place < hosts
      place_within = let within = slice_get_within at.0 place x at.2 in let size = row_size hosts rows shape host at.0 at.1 in omega (arith, within, size)

      by_order : (place < host) ⊎ (host ≤ place) → P x
      by_order (inr le) =
          let other = cell (suc place) host place_within (omega (arith, le, place_within)) in
          (both host (suc place) x other.0 (pairs host place x other.0 le at other.1)).0
      by_order (inl lt) =
          let last : suc (host - 1) ≡ host = omega (arith, lt) in
          let other = cell place (host - 1) (omega (arith, lt, host_within)) (omega (arith, lt, host_within)) in
          (both place (suc (host - 1)) other.0 x
          (pairs place (host - 1) other.0 x (omega (arith, lt)) other.1 (subst (λ n. IsAt rows n place x) (sym last) at))).1

module _ {E : Type 0} (m : Means E) where
  abbrev pub StreamsOf : Type 0
  StreamsOf = Vec (ℕ × E) Global

  -- the streams of two hosts were prepared
  abbrev pub IsPair : ℕ → ℕ → StreamsOf → StreamsOf → Type 0
  IsPair low high one other = (newest : ℕ) × ArePrepared m newest one.items other.items

  -- no host at all
  pub none_prepared : AreAllPrepared m 0 []
  none_prepared = record {
    shape = record { count = refl; each = λ k d within. absurd (omega (arith, within)) };
    pairs = λ low place one other le at_one at_other. absurd (let within = slice_get_within [] low at_one.0 at_one.1 in omega (arith, within));
  }

  -- the streams of a host to each peer are numbered, and unused
  pub all_numbered : (hosts : ℕ) (rows : List (List StreamsOf)) → AreAllPrepared m hosts rows → (host : ℕ) (row : List StreamsOf) → slice_get rows host ≡ Some row →
      All (λ (list : StreamsOf). AreNumbered list.items) row
  all_numbered hosts rows all host row at place d within =
      of_pair IsPair hosts rows (λ (list : StreamsOf). AreNumbered list.items) all.shape all.pairs
      (λ low high one other p. (p.1.one_numbered, p.1.other_numbered))
      host place (get_or row place d) (row, at, slice_get-get_or row place d within)

  pub all_unused : (hosts : ℕ) (rows : List (List StreamsOf)) → AreAllPrepared m hosts rows → (host : ℕ) (row : List StreamsOf) → slice_get rows host ≡ Some row →
      All (λ (list : StreamsOf). All (λ stream. IsUnused m stream.1) list.items) row
  all_unused hosts rows all host row at place d within =
      of_pair IsPair hosts rows (λ (list : StreamsOf). All (λ stream. IsUnused m stream.1) list.items) all.shape all.pairs
      (λ low high one other p. (p.1.one_unused, p.1.other_unused))
      host place (get_or row place d) (row, at, slice_get-get_or row place d within)

module _ {E : Type 0} where
  -- the first hosts of so many were made
  pub record AreMade (limit hosts : ℕ) (commands : List Placed) (n : ℕ) (callers : List CallerView) (rows : List (List (LineView E WriterView))) : Type 0 where
    pub callers_count : length callers ≡ n
    pub rows_count : length rows ≡ n
    pub tied : (host : ℕ) (caller : CallerView) (row : List (LineView E WriterView)) → slice_get callers host ≡ Some caller → slice_get rows host ≡ Some row →
        AreTied caller.places row
    pub new : AreNewCallers hosts commands callers
    pub lines : (host : ℕ) (row : List (LineView E WriterView)) → slice_get rows host ≡ Some row → HasNewLines limit hosts host row

  pub made_none : (limit hosts : ℕ) (commands : List Placed) → AreMade limit hosts commands 0 [] []
  made_none limit hosts commands = record {
    callers_count = refl;
    rows_count = refl;
    tied = λ host caller row at_caller at_row. absurd (cc);
    new = λ host caller at. absurd (cc);
    lines = λ host row at. absurd (cc);
  }

  pub made_more : (limit hosts : ℕ) (commands : List Placed) (n : ℕ) (callers : List CallerView)
      (rows : List (List (LineView E WriterView))) (new : CallerView) (new_row : List (LineView E WriterView)) →
      AreMade limit hosts commands n callers rows → AreTied new.places new_row →
      length new.places ≡ slot_count n commands → AreNewPlaces hosts n new.places → HasNewLines limit hosts n new_row →
      AreMade limit hosts commands (n + 1) (callers ++ new ∷ []) (rows ++ new_row ∷ [])
  made_more limit hosts commands n callers rows new new_row made new_tied new_count new_places new_lines = record {
    callers_count = length_push callers new ∙ ap (λ k. k + 1) made.callers_count;
    rows_count = length_push rows new_row ∙ ap (λ k. k + 1) made.rows_count;
    tied = λ host caller row at_caller at_row. ⊎_elim
        (λ old. ⊎_elim
        (λ old_row. made.tied host caller row old old_row)
        (λ last. let within = slice_get_within callers host caller old in let a = made.callers_count in let b = made.rows_count in
        absurd (omega (arith, within, last.0, a, b)))
        (at_snoc rows new_row host row at_row))
        (λ last. ⊎_elim
        (λ old_row. let within = slice_get_within rows host row old_row in let a = made.callers_count in let b = made.rows_count in
        absurd (omega (arith, within, last.0, a, b)))
        (λ last_row. subst (λ (c : CallerView). AreTied c.places row) (sym last.1)
        (subst (λ (r : List (LineView E WriterView)). AreTied new.places r) (sym last_row.1) new_tied))
        (at_snoc rows new_row host row at_row))
        (at_snoc callers new host caller at_caller);
    new = λ host caller at. ⊎_elim
        (λ old. made.new host caller old)
        (λ last.
        let here : host ≡ n = last.0 ∙ made.callers_count in
        subst (λ k. (length caller.places ≡ slot_count k commands) × AreNewPlaces hosts k caller.places) (sym here)
        (subst (λ (c : CallerView). (length c.places ≡ slot_count n commands) × AreNewPlaces hosts n c.places) (sym last.1) (new_count, new_places)))
        (at_snoc callers new host caller at);
    lines = λ host row at. ⊎_elim
        (λ old. made.lines host row old)
        (λ last.
        let here : host ≡ n = last.0 ∙ made.rows_count in
        subst (λ k. HasNewLines limit hosts k row) (sym here)
        (subst (λ (r : List (LineView E WriterView)). HasNewLines limit hosts n r) (sym last.1) new_lines))
        (at_snoc rows new_row host row at);
  }

  pub made_parties : (limit hosts : ℕ) (commands : List Placed) (callers : List CallerView) (rows : List (List (LineView E WriterView))) →
      AreMade limit hosts commands hosts callers rows → AreParties hosts callers rows
  made_parties limit hosts commands callers rows made =
      record { callers_count = made.callers_count; rows_count = made.rows_count; tied = made.tied }

  pub made_lines : (limit hosts : ℕ) (commands : List Placed) (callers : List CallerView) (rows : List (List (LineView E WriterView))) →
      AreMade limit hosts commands hosts callers rows → HaveNewLines limit hosts rows
  made_lines limit hosts commands callers rows made = record { count = made.rows_count; each = made.lines }

  -- what is empty is numbered and unused
  pub all_empty_numbered : (lists : List (Vec (ℕ × E) Global)) → All (λ (list : Vec (ℕ × E) Global). list.items ≡ []) lists →
      All (λ (list : Vec (ℕ × E) Global). AreNumbered list.items) lists
  all_empty_numbered lists none i d within =
      subst (λ (l : List (ℕ × E)). AreNumbered l) (sym (none i d within)) (λ k small. absurd (omega (arith, small)))

  pub all_empty_unused : (m : Means E) (lists : List (Vec (ℕ × E) Global)) → All (λ (list : Vec (ℕ × E) Global). list.items ≡ []) lists →
      All (λ (list : Vec (ℕ × E) Global). All (λ stream. IsUnused m stream.1) list.items) lists
  all_empty_unused m lists none i d within =
      subst (λ (l : List (ℕ × E)). All (λ stream. IsUnused m stream.1) l) (sym (none i d within)) (All-nil (λ (stream : ℕ × E). IsUnused m stream.1))

  -- the lines that a host is made with, over no streams
  pub without_streams : (limit hosts host : ℕ) (lists : List (Vec (ℕ × E) Global)) (lines : List (LineView E WriterView)) → 2 ≤ hosts →
      length lists ≡ hosts - 1 → All (λ (list : Vec (ℕ × E) Global). list.items ≡ []) lists →
      AreNewLines (address_of host) limit (map address_of (others hosts host)) (map (λ (list : Vec (ℕ × E) Global). list.items) lists) lines →
      HasNewLines limit hosts host lines
  without_streams limit hosts host lists lines two size none new = record {
    count = let count = peers_count hosts host in let same = new.count in omega (arith, count, same, two);
    each = λ place line at.
        let count = peers_count hosts host in
        let same = new.count in
        let within = slice_get_within lines place line at in
        let list = some_at lists place (omega (arith, count, same, within, size)) in
        let made = new.each place (address_of (peer_at host place)) list.0.items line (peer_there hosts host place (omega (arith, count, same, within)))
        (map_at (λ (l : Vec (ℕ × E) Global). l.items) lists place list.0 list.1) at in
        let empty : list.0.items ≡ [] = all_at (λ (l : Vec (ℕ × E) Global). l.items ≡ []) lists place list.0 none list.1 in
        subst (λ (l : List (ℕ × E)). IsNewLine (address_of host) (address_of (peer_at host place)) limit l line) empty made;
  }
