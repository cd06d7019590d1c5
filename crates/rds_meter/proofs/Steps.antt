-- One step of one seat: its sums, its bits and its numbers, put together with what else holds of the views.
use Rattle.std.proofs.Common.{◌≡◌, ℕ, ◌+◌, ◌*◌, ◌<◌, ◌≤◌, List, [], ◌∷◌, ◌++◌, length, set, ap, ◌∙◌, arith}
use Rattle.std.specs.Prelude.{slice_index}
use Rattle.rds_seats.specs.Views.{At, Each, total}
use Rattle.rds_seats.specs.ViewLaws.{each_set, total_set, total_at, total_below, total_times}
use Rattle.rds_meter.specs.declared.view.View.{View}
use Rattle.rds_meter.specs.declared.view.Step.{Step}
use Rattle.rds_meter.specs.declared.view.Stage.TheVariants.{Idle}
use Rattle.rds_meter.specs.Places.{amount_in, part}
use Rattle.rds_meter.specs.Shared.{Shared, BitsFit}
use Rattle.rds_meter.proofs.Facts.{Facts, Change, facts_set}
use Rattle.rds_meter.specs.PartLaws.{part-push}

pub facts_of : (words : List ℕ) (views : List View) → Shared words views → Facts words views
facts_of words views h = record { limits = h.limits; closed = h.closed; opened = h.opened; staged = h.staged; loaded = h.loaded }

abbrev pub Sums : List ℕ → List View → Type 0
Sums words views = (word : ℕ) → 1024 ≤ word → word < 4096 → slice_index words word ≡ total (λ v. part word v.steps) views

abbrev pub IsIdle : View → Type 0
IsIdle v = v.weight + v.splits ≡ 0 → (v.stage ≡ Idle) × (v.checks ≡ []) × (v.pending ≡ []) × (v.steps ≡ [])

abbrev pub IsFew : View → Type 0
IsFew v = (word : ℕ) → part word v.steps ≤ v.weight * 4503599627370496

pub shared_of : (words : List ℕ) (views : List View) → length words ≡ 5121 → Sums words views → ((word : ℕ) → BitsFit views word (slice_index words word))
    → total (λ v. v.weight + v.splits) views ≡ 4095 → Each views IsFew → Each views IsIdle → Facts words views → Shared words views
shared_of words views size sums bits seated few idle f =
    record { size = size; sums = sums; limits = f.limits; closed = f.closed; opened = f.opened; staged = f.staged; bits = bits; loaded = f.loaded; seated = seated; few = few; idle = idle }

-- what a seat counts stays in step with the words, and it stands for as many seats
pub record Counts (words after : List ℕ) (v w : View) : Type 0 where
  pub parts : (word : ℕ) → 1024 ≤ word → word < 4096 → slice_index after word + part word v.steps ≡ slice_index words word + part word w.steps
  pub seats : w.weight + w.splits ≡ v.weight + v.splits
  pub few : IsFew w
  pub living : 1 ≤ w.weight

pub stepped_one : (words after : List ℕ) (views : List View) (id : ℕ) (v w : View) → Shared words views → At views id v → length after ≡ 5121 → Counts words after v w
    → ((word : ℕ) → BitsFit (set views id w) word (slice_index after word)) → Change words after views (set views id w) v w → Shared after (set views id w)
stepped_one words after views id v w h here size k bits c =
    shared_of after (set views id w) size
    (λ q low high. let t = total_set (λ (x : View). part q x.steps) views id v w here in let s = h.sums q low high in let p = k.parts q low high in omega arith)
    bits
    (let t = total_set (λ (x : View). x.weight + x.splits) views id v w here in let s = h.seated in let e = k.seats in omega arith)
    (each_set IsFew IsFew views id w h.few (λ x p. p) k.few)
    (each_set IsIdle IsIdle views id w h.idle (λ x p. p) (λ none. absurd (let l = k.living in omega arith)))
    (facts_set words after views id v w (facts_of words views h) here c)

-- a step that adds to no word
pub plain_counts : (words after : List ℕ) (v w : View) (s : Step) → ((word : ℕ) → amount_in word s ≡ 0) → ((word : ℕ) → 1024 ≤ word → word < 4096 → slice_index after word ≡ slice_index words word)
    → w.steps ≡ v.steps ++ s ∷ [] → w.weight ≡ v.weight → w.splits ≡ v.splits → 1 ≤ v.weight → IsFew v → Counts words after v w
plain_counts words after v w s none same steps weight splits living few =
    let still : (word : ℕ) → part word w.steps ≡ part word v.steps = λ word. ap (part word) steps ∙ (let p = part-push word v.steps s in let z = none word in omega arith) in
    record {
      parts = λ word low high. (let e = same word low high in let p = still word in omega arith);
      seats = omega arith;
      few = λ word. (let f = few word in let p = still word in omega arith);
      living = omega arith;
    }

-- no sum exceeds what 4,095 seats can add
pub totals_fit : (views : List View) (word : ℕ) → Each views IsFew → total (λ v. v.weight + v.splits) views ≡ 4095 → total (λ v. part word v.steps) views ≤ 18442240474082181120
totals_fit views word few seated =
    let a = total_below (λ (v : View). part word v.steps) (λ v. v.weight * 4503599627370496) views (λ i v e. few i v e word) in
    let b = total_times (λ (v : View). v.weight) 4503599627370496 views in
    let c = total_below (λ (v : View). v.weight) (λ v. v.weight + v.splits) views (λ i v e. omega arith) in
    omega arith

-- a seat's part is within the word
pub part_within : (words : List ℕ) (views : List View) (id word : ℕ) (v : View) → Shared words views → At views id v → 1024 ≤ word → word < 4096 → part word v.steps ≤ slice_index words word
part_within words views id word v h here low high = let a = total_at (λ (x : View). part word x.steps) views id v here in let e = h.sums word low high in omega arith
