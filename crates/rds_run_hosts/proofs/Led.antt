-- The binds that a script begins with, and what the lines of a host were told once they were done.
use Rattle.std.proofs.Common.{◌≡◌, ◌<◌, ◌≤◌, ◌+◌, ℕ, zero, suc, true, false, List, [], ◌∷◌, ◌++◌, append_assoc, drop, get_or, length, take, refl, sym, ap, subst, ◌∙◌, arith}
use Rattle.std.specs.Prelude.{Contains}
use Rattle.std.proofs.lemmas.Bool.{cond-false, cond-true}
use Rattle.std.proofs.lemmas.List.{append-nil, drop_more}
use mathlib.Core.Option.{some, some-injective, some-ne-none}
use lib.ListN.{get_elem?}
use Rattle.rds_bindtab.specs.Seats.{PortSeat, telling_of}
use Rattle.rds_bindtab.specs.declared.view.Step.{Step}
use Rattle.rds_bindtab.specs.declared.view.Step.TheVariants.{Looked}
use Rattle.rds_fmap.specs.Readers.{WriterView}
use Rattle.rds_link.specs.Ends.{Means}
use Rattle.rds_line.specs.Line.{LineView}
use Rattle.rds_line.specs.Seats.{WasAlwaysTold}
use Rattle.rds_host.specs.Lines.{AreTurned, pair_of}
use Rattle.rds_run_callers.specs.Commands.{binds}
use Rattle.rds_run_callers.specs.Places.{CallerView}
use Rattle.rds_run_rounds.specs.Grid.{EachRow}
use Rattle.rds_script.specs.declared.script.Placed.{Placed}
use Rattle.rds_host.specs.Telling.{IsPortTold}
use Rattle.rds_run_settling.specs.Tied.{LinesLearnPorts}
use Rattle.rds_run_hosts.specs.Leading.{AllPortsTold, AreLeading}
use Rattle.rds_run_hosts.specs.Obeyed.{HasObeyed, after_binds, leading_binds}
use Rattle.rds_run_hosts.specs.Parties.{HaveLed, HaveNotLooked, HaveObeyed}
use Rattle.rds_run_hosts.proofs.At.{stood_at}
use Rattle.rds_run_hosts.proofs.Commands.{taken_next}
use Rattle.rds_run_hosts.proofs.Keeping.{drop_end}

-- the first commands are binds
pub record AreBindsTo (i : ℕ) (commands : List Placed) : Type 0 where
  pub leading : leading_binds commands ≡ take i commands ++ leading_binds (drop i commands)
  pub rest : after_binds commands ≡ after_binds (drop i commands)

pub none_bound : (commands : List Placed) → AreBindsTo 0 commands
none_bound commands = record { leading = refl; rest = refl }

-- what is left from a place on begins with what stands there
left_at : (xs : List Placed) (i : ℕ) (x : Placed) → i < length xs → x ≡ get_or xs i x → drop i xs ≡ x ∷ drop (i + 1) xs
left_at xs i x below is = drop_more xs i x below ∙ ap (λ (y : Placed). y ∷ drop (i + 1) xs) (sym is)

pub one_bound : (xs : List Placed) (i : ℕ) (x : Placed) → i < length xs → x ≡ get_or xs i x → binds x.command ≡ true → AreBindsTo i xs → AreBindsTo (i + 1) xs
one_bound xs i x below is bind are =
    let later = drop (i + 1) xs in
    let left = left_at xs i x below is in record {
      leading =
          are.leading
          ∙ (ap (λ (l : List Placed). take i xs ++ leading_binds l) left
          ∙ (ap (λ (l : List Placed). take i xs ++ l) (cond-true (binds x.command) (x ∷ leading_binds later) [] bind)
          ∙ (sym (append_assoc (take i xs) (x ∷ []) (leading_binds later)) ∙ ap (λ (l : List Placed). l ++ leading_binds later) (sym (taken_next xs i x below is)))));
      rest = are.rest ∙ (ap after_binds left ∙ cond-true (binds x.command) (after_binds later) (x ∷ later) bind);
    }

pub bound_until : (xs : List Placed) (i : ℕ) (x : Placed) → i < length xs → x ≡ get_or xs i x → binds x.command ≡ false → AreBindsTo i xs → AreLeading i xs
bound_until xs i x below is other are =
    let later = drop (i + 1) xs in
    let left = left_at xs i x below is in record {
      first =
          sym
          (are.leading
          ∙ (ap (λ (l : List Placed). take i xs ++ leading_binds l) left
          ∙ (ap (λ (l : List Placed). take i xs ++ l) (cond-false (binds x.command) (x ∷ leading_binds later) [] other) ∙ append-nil (take i xs))));
      rest = sym (are.rest ∙ (ap after_binds left ∙ (cond-false (binds x.command) (after_binds later) (x ∷ later) other ∙ sym left)));
    }

pub all_bound : (xs : List Placed) (i : ℕ) → length xs ≤ i → AreBindsTo i xs → AreLeading i xs
all_bound xs i end are =
    let none = drop_end xs i end in record {
      first = sym (are.leading ∙ (ap (λ (l : List Placed). take i xs ++ leading_binds l) none ∙ append-nil (take i xs)));
      rest = none ∙ sym (are.rest ∙ ap after_binds none);
    }

contains_at : {V : Type 0} (xs : List V) (i : ℕ) (v : V) → get_elem? xs i ≡ some v → Contains xs v
contains_at [] i v e = absurd (some-ne-none v (sym e))
contains_at (x ∷ xs) zero v e = (0, omega arith, some-injective x v e)
contains_at (x ∷ xs) (suc i) v e = let later = contains_at xs i v e in (suc later.0, omega (arith, later.1), later.2)

-- a seat that has made no step was always told what it was told
always_told : (seat holder : PortSeat) → IsPortTold seat holder → seat.view.steps ≡ [] → WasAlwaysTold (telling_of holder.view) seat.view
always_told seat holder told none = record {
  tells = subst (Contains seat.view.told) told.3 (contains_at seat.view.told told.0 told.1 told.2);
  first = λ port found known has.
      let nowhere = subst (λ (l : List Step). Contains l (Looked port found known)) none has in let small = nowhere.1 in absurd (omega (arith, small));
}

-- the lines were told of the ports that were bound before they looked up any, and turned
pub led_of : {E : Type 0} (m : Means E) (commands : List Placed) (count : ℕ) (old bound after : List CallerView) (rows told turned : List (List (LineView E WriterView))) →
    AreLeading count commands → HaveObeyed (take count commands) old bound → HaveObeyed (drop count commands) bound after → HaveNotLooked rows →
    AllPortsTold bound told → EachRow LinesLearnPorts rows told → EachRow (AreTurned m pair_of) told turned → HaveLed commands old after turned
led_of m commands count old bound after rows told turned leading one two none ports learn turn host caller later row at at_later at_row =
    let between = stood_at bound after host later two.count at_later in
    let heard = stood_at told turned host row turn.count at_row in
    let first = stood_at rows told host heard.0 learn.count heard.1 in record {
      led = between.0.places;
      began = subst (λ (l : List Placed). HasObeyed host l caller.places between.0.places) leading.first (one.each host caller between.0 at between.1);
      rest = subst (λ (l : List Placed). HasObeyed host l between.0.places later.places) leading.rest (two.each host between.0 later between.1 at_later);
      told = λ slot place o got line at_o at_line.
          let lines = turn.each host heard.0 row heard.1 at_row in
          let was = stood_at heard.0 row place line lines.count at_line in
          let learned = learn.each host first.0 heard.0 first.1 heard.1 in
          let fresh = stood_at first.0 heard.0 place was.0 learned.count was.1 in
          let steps = (learned.each place fresh.0 was.0 fresh.1 was.1).2 ∙ none host place fresh.0 (first.0, first.1, fresh.1) in
          (lines.each place was.0 line was.1 at_line).always (telling_of o.own.ports.view)
          (always_told was.0.ports o.own.ports (ports host between.0 heard.0 between.1 heard.1 slot place o got was.0 at_o was.1) steps);
    }
