-- A seat that is split off, and one that is joined into another, keep the rule.
use Rattle.std.proofs.Common.{◌≢◌, ℕ, ◌+◌, ◌≤◌, List, [], ◌∷◌, ◌++◌, set, refl, sym, ◌∙◌, ⊎_elim, arith}
use Rattle.std.proofs.lemmas.List.Elements.{Contains-append_left, Contains-append_right, Contains-append_cases}
use Rattle.std.specs.Prelude.{slice_index}
use Rattle.atomic_table.specs.Table.{Joins, Splits}
use Rattle.atomic_table.proofs.Lists.{set_else}
use Rattle.rds_seats.specs.Views.{At, Has}
use Rattle.rds_seats.specs.ViewLaws.{at_here, at_there, each_set, each_snoc, has_snoc, total_set, total_snoc}
use Rattle.rds_meter.specs.declared.view.View.{View}
use Rattle.rds_meter.specs.declared.view.Step.TheVariants.{Loaded}
use Rattle.rds_meter.specs.Places.{part}
use Rattle.rds_meter.specs.Seats.{joined, spent, after_split, newcomer}
use Rattle.rds_meter.specs.Shared.{Shared, Ruled, HasStored, HasRaised, BitsFit}
use Rattle.rds_meter.proofs.Facts.{Facts, Rising, nothing_in, has_on, limit_on, bits_on, facts_set, facts_snoc}
use Rattle.rds_meter.specs.PartLaws.{part-append}
use Rattle.rds_meter.proofs.Steps.{IsFew, IsIdle, facts_of, shared_of}

module _ (words : List ℕ) (views : List View) (id other : ℕ) (v w : View) (h : Shared words views) (here : At views id v) (apart : other ≢ id) (there : At views other w) (living : 1 ≤ v.weight) where
  abbrev both : View
  both = joined v w

  abbrev first : List View
  first = set views id both

  abbrev last : List View
  last = set first other spent

  still : Rising words words
  still slot small = omega arith

  other_there : At first other w
  other_there = at_there views id other w both apart there

  both_there : At last id both
  both_there = at_there first other id both spent (λ e. apart (sym e)) (at_here views id v both here)

  stored_first : (slot limit : ℕ) → HasStored slot limit v → Has first (HasStored slot limit)
  stored_first slot limit m = (id, both, at_here views id v both here, Contains-append_left v.steps w.steps _ m)

  raised_first : (port : ℕ) → HasRaised port v → Has first (HasRaised port)
  raised_first port m = (id, both, at_here views id v both here, (m.0, Contains-append_left v.checks w.checks m.0 m.1, m.2))

  stored_last : (slot limit : ℕ) → HasStored slot limit w → Has last (HasStored slot limit)
  stored_last slot limit m = (id, both, both_there, Contains-append_right v.steps w.steps _ m)

  raised_last : (port : ℕ) → HasRaised port w → Has last (HasRaised port)
  raised_last port m = (id, both, both_there, (m.0, Contains-append_right v.checks w.checks m.0 m.1, m.2))

  taken_in : Facts words first
  taken_in = facts_set words words views id v both (facts_of words views h) here record {
    puts = still;
    stored = stored_first;
    raised = raised_first;
    limits = λ slot small. limit_on words words views first still (λ s l. has_on (HasStored s l) views id v both here (stored_first s l)) slot _ (h.limits slot small);
    closed = λ c m. ⊎_elim (λ was. h.closed id v here c was) (λ was. h.closed other w there c was) (Contains-append_cases v.checks w.checks c m);
    opened = λ c m. ⊎_elim (λ was. h.opened id v here c was) (λ was. h.opened other w there c was) (Contains-append_cases v.pending w.pending c m);
    staged = h.staged id v here;
    loaded = λ q n m. ⊎_elim (λ was. h.loaded id v here q n was) (λ was. h.loaded other w there q n was) (Contains-append_cases v.steps w.steps (Loaded q n) m);
  }

  left_over : Facts words last
  left_over = facts_set words words first other w spent taken_in other_there record {
    puts = still;
    stored = stored_last;
    raised = raised_last;
    limits = λ slot small. limit_on words words first last still (λ s l. has_on (HasStored s l) first other w spent other_there (stored_last s l)) slot _ (taken_in.limits slot small);
    closed = λ c m. absurd (nothing_in c m);
    opened = λ c m. absurd (nothing_in c m);
    staged = tt;
    loaded = λ q n m. absurd (nothing_in _ m);
  }

  bits_last : (word : ℕ) → BitsFit last word (slice_index words word)
  bits_last word = bits_on first last (λ port. has_on (HasRaised port) first other w spent other_there (raised_last port)) word _
      (bits_on views first (λ port. has_on (HasRaised port) views id v both here (raised_first port)) word _ (h.bits word))

  pub joined_one : Shared words last
  joined_one = shared_of words last h.size
      (λ word low high.
      let a = total_set (λ (x : View). part word x.steps) views id v both here in
      let b = total_set (λ (x : View). part word x.steps) first other w spent other_there in
      let p = part-append word v.steps w.steps in
      let s = h.sums word low high in
      omega arith)
      bits_last
      (let a = total_set (λ (x : View). x.weight + x.splits) views id v both here in let b = total_set (λ (x : View). x.weight + x.splits) first other w spent other_there in let e = h.seated in omega arith)
      (each_set IsFew IsFew first other spent
      (each_set IsFew IsFew views id both h.few (λ x p. p) (λ word. (let a = h.few id v here word in let b = h.few other w there word in let p = part-append word v.steps w.steps in omega arith)))
      (λ x p. p)
      (λ word. omega arith))
      (each_set IsIdle IsIdle first other spent
      (each_set IsIdle IsIdle views id both h.idle (λ x p. p) (λ none. absurd (let l = living in omega arith)))
      (λ x p. p)
      (λ none. (refl, refl, refl, refl)))
      left_over

pub joins : (id other : ℕ) (v w : View) → 1 ≤ v.weight → Joins Ruled id v other w (joined v w) spent
joins id other v w living s h here apart there =
    joined_one s.words s.views id other v w h here apart (sym (set_else s.views id other (joined v w) apart) ∙ there) living

pub splits_off : (id : ℕ) (v : View) → 1 ≤ v.weight → 1 ≤ v.splits → Splits Ruled id v (after_split v) (newcomer v)
splits_off id v living room s h here =
    let words = s.words in
    let views = s.views in
    let w = after_split v in
    let u = newcomer v in
    let left = set views id w in
    let now = left ++ u ∷ [] in
    let still : Rising words words = λ slot small. omega arith in
    let stored : (slot limit : ℕ) → HasStored slot limit v → Has left (HasStored slot limit) = λ slot limit m. (id, w, at_here views id v w here, m) in
    let raised : (port : ℕ) → HasRaised port v → Has left (HasRaised port) = λ port m. (id, w, at_here views id v w here, m) in
    let g : Facts words left = facts_set words words views id v w (facts_of words views h) here record {
      puts = still;
      stored = stored;
      raised = raised;
      limits = λ slot small. limit_on words words views left still (λ a l. has_on (HasStored a l) views id v w here (stored a l)) slot _ (h.limits slot small);
      closed = h.closed id v here;
      opened = h.opened id v here;
      staged = h.staged id v here;
      loaded = h.loaded id v here;
    } in
    shared_of words now h.size
    (λ word low high. let t = total_snoc (λ (x : View). part word x.steps) left u in let r = total_set (λ (x : View). part word x.steps) views id v w here in let e = h.sums word low high in omega arith)
    (λ word. bits_on left now (λ port. has_snoc (HasRaised port) left u) word _ (bits_on views left (λ port. has_on (HasRaised port) views id v w here (raised port)) word _ (h.bits word)))
    (let t = total_snoc (λ (x : View). x.weight + x.splits) left u in let r = total_set (λ (x : View). x.weight + x.splits) views id v w here in let e = h.seated in omega arith)
    (each_snoc IsFew IsFew left u (each_set IsFew IsFew views id w h.few (λ x p. p) (h.few id v here)) (λ x p. p) (λ word. omega arith))
    (each_snoc IsIdle IsIdle left u (each_set IsIdle IsIdle views id w h.idle (λ x p. p) (λ none. absurd (omega arith))) (λ x p. p) (λ none. absurd (omega arith)))
    (facts_snoc words left u g refl refl refl refl)
