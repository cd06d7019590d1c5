-- What is known of each two hosts, while their streams are opened.
use Rattle.std.proofs.Common.{◌≡◌, ◌≤◌, ◌-◌, ⊎_elim, ℕ, zero, suc, ◌+◌, Bool, true, false, List, Vec, [], ◌∷◌, ◌++◌, Option, Some, length, option_and_then, set, slice_get, unwrap_or, refl, sym, ap, subst, ◌∙◌, arith}
use Rattle.std.specs.Global.{Global}
use Rattle.std.proofs.lemmas.List.{length-set, length_push, map-append}
use Rattle.std.proofs.lemmas.Option.{slice_get_within}
use Rattle.rds_model.specs.Alive.{up_to}
use Rattle.rds_line_channel.specs.Streams.{numbers}
use Rattle.rds_script.specs.declared.script.Placed.{Placed}
use Rattle.rds_run_rounds.specs.Causes.{known_of, nothing_known}
use Rattle.rds_run_rounds.specs.declared.verdict.Wanted.{Wanted}
use Rattle.rds_run_hosts.specs.Growing.{AreRowsKnown, IsRowKnown}
use Rattle.rds_run_hosts.specs.Preparing.{AreAllKnown}
use Rattle.rds_run_hosts.specs.Streams.{AreAllUnlessLacking, IsKnown, cuts_between}
use Rattle.rds_run_hosts.proofs.At.{at_both_set, at_both_snoc, stood_at}

-- there are so many numbers from 1 to this one
count_up : (n : ℕ) → length (up_to n) ≡ n
count_up zero = refl
count_up (suc n) =
    let rest = count_up n in
    let more = length_push (up_to n) (suc n) in
    omega (arith, rest, more)

-- no more streams are there than were to be opened
no_more : (count : ℕ) (lacks : Bool) (list : List ℕ) → AreAllUnlessLacking count lacks list → length list ≤ count
no_more count true list are = let fewer = are.short refl in omega (arith, fewer)
no_more count false list are = let all = ap length (are.whole refl) ∙ count_up count in omega (arith, all)

-- before any was to be opened
pub none_lacks : AreAllUnlessLacking 0 false []
none_lacks = record { whole = λ calm. refl; short = λ lacks. absurd (cc) }

-- one more was refused, and so it is said that one is missing
pub one_refused : (count : ℕ) (lacks : Bool) (list : List ℕ) → AreAllUnlessLacking count lacks list → AreAllUnlessLacking (count + 1) true list
one_refused count lacks list are = record {
  whole = λ calm. absurd (cc);
  short = λ said. let most = no_more count lacks list are in omega (arith, most);
}

module _ {E : Type 0} where
  -- one more was opened
  pub all_one_more : (n : ℕ) (lacks : Bool) (list : List (ℕ × E)) (end : E) → AreAllUnlessLacking n lacks (numbers list) →
      AreAllUnlessLacking (n + 1) lacks (numbers (list ++ (n + 1, end) ∷ []))
  all_one_more n lacks list end are =
      let next : n + 1 ≡ suc n = omega arith in
      let grown = map-append (λ (s : ℕ × E). s.0) list ((n + 1, end) ∷ []) in record {
        whole = λ calm.
            grown
            ∙ ap (λ (ns : List ℕ). ns ++ (n + 1) ∷ []) (are.whole calm)
            ∙ ap (λ (k : ℕ). up_to n ++ k ∷ []) next
            ∙ ap up_to (sym next);
        short = λ said.
            let fewer = are.short said in
            let size = ap length grown ∙ length_push (numbers list) (n + 1) in
            omega (arith, fewer, size);
      }

module _ {E : Type 0} (commands : List Placed) where
  -- a host has streams to one more, and it is known of that one
  row_more : (host : ℕ) (row : List (Vec (ℕ × E) Global)) (known : List Wanted) (list : Vec (ℕ × E) Global) (w : Wanted) → IsRowKnown commands host row known →
      IsKnown commands host (suc (length row)) w (numbers list.items) → IsRowKnown commands host (row ++ list ∷ []) (known ++ w ∷ [])
  row_more host row known list w was new = record {
    count = length_push known w ∙ ap (λ n. n + 1) was.count ∙ sym (length_push row list);
    each = λ place l v later at_l at_v. ⊎_elim
        (λ (old : (slice_get row place ≡ Some l) × (slice_get known place ≡ Some v)). was.each place l v later old.0 old.1)
        (λ (last : (place ≡ length row) × (l ≡ list) × (v ≡ w)).
        subst (λ n. IsKnown commands host (suc n) v (numbers l.items)) (sym last.0)
        (subst (λ (x : Wanted). IsKnown commands host (suc (length row)) x (numbers l.items)) (sym last.2)
        (subst (λ (x : Vec (ℕ × E) Global). IsKnown commands host (suc (length row)) w (numbers x.items)) (sym last.1) new)))
        (at_both_snoc row known list w place l v was.count at_l at_v);
  }

  -- the last host knows of no later one
  pub last_known : (host : ℕ) (row : List (Vec (ℕ × E) Global)) (known : List Wanted) → length row ≡ host → length known ≡ length row → IsRowKnown commands host row known
  last_known host row known size same = record {
    count = same;
    each = λ place list w later at_list at_w. let within = slice_get_within row place list at_list in absurd (omega (arith, within, size, later));
  }

  -- before there is any host
  pub none_known : AreRowsKnown {E = E} commands [] []
  none_known = record { count = refl; each = λ host row known at_row at_known. absurd (cc) }

  -- the streams of a host to one more were opened
  pub rows_known_more : (rows : List (List (Vec (ℕ × E) Global))) (wanted : List (List Wanted)) (low : ℕ) (stood : List (Vec (ℕ × E) Global)) (known : List Wanted)
      (list : Vec (ℕ × E) Global) (w : Wanted) → AreRowsKnown commands rows wanted → slice_get rows low ≡ Some stood → slice_get wanted low ≡ Some known →
      IsKnown commands low (suc (length stood)) w (numbers list.items) →
      AreRowsKnown commands (set rows low (stood ++ list ∷ [])) (set wanted low (known ++ w ∷ []))
  rows_known_more rows wanted low stood known list w was at_stood at_known new = record {
    count = length-set wanted low (known ++ w ∷ []) ∙ was.count ∙ sym (length-set rows low (stood ++ list ∷ []));
    each = λ host row k at_row at_k. ⊎_elim
        (λ (here : (host ≡ low) × (row ≡ stood ++ list ∷ []) × (k ≡ known ++ w ∷ [])).
        subst (λ n. IsRowKnown commands n row k) (sym here.0)
        (subst (λ (x : List (Vec (ℕ × E) Global)). IsRowKnown commands low x k) (sym here.1)
        (subst (λ (x : List Wanted). IsRowKnown commands low (stood ++ list ∷ []) x) (sym here.2)
        (row_more low stood known list w (was.each low stood known at_stood at_known) new))))
        (λ (there : (slice_get rows host ≡ Some row) × (slice_get wanted host ≡ Some k)). was.each host row k there.0 there.1)
        (at_both_set rows wanted low (stood ++ list ∷ []) (known ++ w ∷ []) host row k at_row at_k);
  }

  -- a host more has its row
  pub rows_known_pushed : (rows : List (List (Vec (ℕ × E) Global))) (wanted : List (List Wanted)) (own : List (Vec (ℕ × E) Global)) (known : List Wanted) →
      AreRowsKnown commands rows wanted → IsRowKnown commands (length rows) own known → AreRowsKnown commands (rows ++ own ∷ []) (wanted ++ known ∷ [])
  rows_known_pushed rows wanted own known was new = record {
    count = length_push wanted known ∙ ap (λ n. n + 1) was.count ∙ sym (length_push rows own);
    each = λ host row k at_row at_k. ⊎_elim
        (λ (old : (slice_get rows host ≡ Some row) × (slice_get wanted host ≡ Some k)). was.each host row k old.0 old.1)
        (λ (last : (host ≡ length rows) × (row ≡ own) × (k ≡ known)).
        subst (λ n. IsRowKnown commands n row k) (sym last.0)
        (subst (λ (x : List (Vec (ℕ × E) Global)). IsRowKnown commands (length rows) x k) (sym last.1)
        (subst (λ (x : List Wanted). IsRowKnown commands (length rows) own x) (sym last.2) new)))
        (at_both_snoc rows wanted own known host row k was.count at_row at_k);
  }

-- what the last rounds know of a host and a later one stands in the row of the lower one
known_at : (wanted : List (List Wanted)) (low place : ℕ) (row : List Wanted) (w : Wanted) → slice_get wanted low ≡ Some row → slice_get row place ≡ Some w →
    known_of wanted low (suc place) ≡ w
known_at wanted low place row w at_row at_w =
    let place_is : suc place - 1 ≡ place = omega arith in
    ap (λ (found : Option (List Wanted)). unwrap_or (option_and_then (λ r. slice_get r (suc place - 1)) found) nothing_known) at_row
    ∙ ap (λ (n : ℕ). unwrap_or (slice_get row n) nothing_known) place_is
    ∙ ap (λ (found : Option Wanted). unwrap_or found nothing_known) at_w

-- what is known for some commands is true for others with as many cuts between each two hosts
known_alike : (some commands : List Placed) (low high : ℕ) (w : Wanted) (list : List ℕ) → cuts_between low high some ≡ cuts_between low high commands →
    IsKnown some low high w list → IsKnown commands low high w list
known_alike some commands low high w list alike known = record {
  cuts = known.cuts ∙ alike;
  streams = subst (λ (n : ℕ). AreAllUnlessLacking (n + 3) w.lacks list) alike known.streams;
}

-- so what the last rounds know is true of all hosts
pub all_known : {E : Type 0} (some commands : List Placed) (rows : List (List (Vec (ℕ × E) Global))) (wanted : List (List Wanted)) →
    ((low high : ℕ) → cuts_between low high some ≡ cuts_between low high commands) → AreRowsKnown some rows wanted → AreAllKnown commands wanted rows
all_known {E} some commands rows wanted alike are low place list later at =
    let known = stood_at wanted rows low at.0 (sym are.count) at.1 in
    let row = are.each low at.0 known.0 at.1 known.1 in
    let w = stood_at known.0 at.0 place list (sym row.count) at.2 in
    subst (λ (x : Wanted). IsKnown commands low (suc place) x (numbers list.items)) (sym (known_at wanted low place known.0 w.0 known.1 w.1))
    (known_alike some commands low (suc place) w.0 (numbers list.items) (alike low (suc place)) (row.each place list w.0 later at.2 w.1))
