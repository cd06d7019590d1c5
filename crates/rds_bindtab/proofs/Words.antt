-- One step of one seat: its words, its holdings and its totals, put together with what else holds of the views.
use Rattle.std.proofs.Common.{◌≡◌, ℕ, ◌+◌, ◌*◌, ◌<◌, ◌≤◌, List, [], ◌∷◌, ◌++◌, length, set, sym, ◌∙◌, arith}
use Rattle.std.specs.Prelude.{◌↔◌, slice_index, Contains}
use Rattle.std.proofs.lemmas.List.Elements.{Contains-append_left}
use Rattle.rds_seats.specs.Views.{At, Has, Each, total}
use Rattle.rds_seats.specs.ViewLaws.{has_set, has_unset, each_set, total_set, total_below, total_times}
use Rattle.rds_bindtab.specs.declared.view.View.{View}
use Rattle.rds_bindtab.specs.declared.view.Step.{Step}
use Rattle.rds_bindtab.specs.declared.view.Step.TheVariants.{Claimed}
use Rattle.rds_bindtab.specs.Shared.{Shared, HoldsPort, HasClaimed}
use Rattle.rds_bindtab.proofs.Facts.{Facts, Change, facts_set}

-- a port's word is 1 + s exactly where the seat of slot s holds the port
abbrev pub Ports : List ℕ → List View → Type 0
Ports words views = (port slot : ℕ) → port < 65536 → (slice_index words port ≡ 1 + slot) ↔ Has views (HoldsPort port slot)

abbrev pub draws_in : List ℕ → ℕ
draws_in words = slice_index words 65536

pub facts_of : (slots : ℕ) (words : List ℕ) (views : List View) → Shared slots words views → Facts slots (draws_in words) views
facts_of slots words views h = record { apart = h.apart; below = h.below; claimed = h.claimed; told = h.told; looked = h.looked }

pub shared_of : (slots : ℕ) (words : List ℕ) (views : List View) → length words ≡ 65537 → Ports words views → draws_in words ≡ total (λ v. v.draws) views → total (λ v. v.weight + v.splits) views ≡ 4095
    → Each views (λ v. v.draws ≤ v.weight * 2147483648) → Facts slots (draws_in words) views → Shared slots words views
shared_of slots words views size ports drawn seated few f =
    record { size = size; ports = ports; drawn = drawn; apart = f.apart; below = f.below; claimed = f.claimed; told = f.told; looked = f.looked; seated = seated; few = few }

-- what a seat counts stays in step with the words
pub record Counts (before now : ℕ) (v w : View) : Type 0 where
  pub draws : now + v.draws ≡ before + w.draws
  pub seats : w.weight + w.splits ≡ v.weight + v.splits
  pub few : w.draws ≤ w.weight * 2147483648

-- one step of one seat
pub stepped_one : (slots : ℕ) (words after : List ℕ) (views : List View) (id : ℕ) (v w : View) → Shared slots words views → At views id v → length after ≡ 65537
    → Ports after (set views id w) → Counts (draws_in words) (draws_in after) v w → Change slots (draws_in words) (draws_in after) views (set views id w) v w
    → Shared slots after (set views id w)
stepped_one slots words after views id v w h here size ports k c =
    shared_of slots after (set views id w) size ports
    (let t = total_set (λ (x : View). x.draws) views id v w here in let d = h.drawn in let e = k.draws in omega arith)
    (let t = total_set (λ (x : View). x.weight + x.splits) views id v w here in let d = h.seated in let e = k.seats in omega arith)
    (each_set (λ x. x.draws ≤ x.weight * 2147483648) (λ x. x.draws ≤ x.weight * 2147483648) views id w h.few (λ x p. p) k.few)
    (facts_set slots (draws_in words) (draws_in after) views id v w (facts_of slots words views h) here c)

-- the words of the ports stay, and the seat holds what it held
pub ports_same : (words after : List ℕ) (views : List View) (id : ℕ) (v w : View) → At views id v → ((port : ℕ) → port < 65536 → slice_index after port ≡ slice_index words port)
    → ((port slot : ℕ) → HoldsPort port slot v → HoldsPort port slot w) → ((port slot : ℕ) → HoldsPort port slot w → HoldsPort port slot v)
    → Ports words views → Ports after (set views id w)
ports_same words after views id v w here same onward back ports port slot small =
    let p = ports port slot small in (
      (λ e. has_set (HoldsPort port slot) views id v w here (onward port slot) (p.0 (sym (same port small) ∙ e))),
      (λ h. same port small ∙ p.1 (has_unset (HoldsPort port slot) views id w (λ k. (id, v, here, back port slot k)) h)),
    )

-- the draws fit their word
pub draws_fit : (slots : ℕ) (words : List ℕ) (views : List View) → Shared slots words views → draws_in words ≤ 8793945538560
draws_fit slots words views h =
    let a = total_below (λ (v : View). v.draws) (λ v. v.weight * 2147483648) views h.few in
    let b = total_times (λ (v : View). v.weight) 2147483648 views in
    let c = total_below (λ (v : View). v.weight) (λ v. v.weight + v.splits) views (λ i v e. omega arith) in
    let d = h.seated in
    let e = h.drawn in
    omega arith

-- a change that adds one step to what the seat has done
pub claimed_still : (port slot : ℕ) (v : View) (s : Step) → HasClaimed port slot v → Contains (v.steps ++ s ∷ []) (Claimed port slot 0)
claimed_still port slot v s h = Contains-append_left v.steps (s ∷ []) (Claimed port slot 0) h
