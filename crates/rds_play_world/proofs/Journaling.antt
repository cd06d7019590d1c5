-- What an event of one connection leaves of the others.
use Rattle.std.proofs.Common.{◌≡◌, ℕ, ◌+◌, ◌&&◌, ◌==◌, List, ◌∷◌, refl}
use Rattle.std.proofs.lemmas.Bool.{cond-true, cond-false}
use Rattle.rds_model.specs.declared.entry.Entry.{Entry}
use Rattle.rds_model.specs.declared.entry.Entry.TheVariants.{Accept, Cancel, Open, Pull, Read, Shut, Bad}
use Rattle.rds_history.specs.Events.{Event, Appended, Moved}
use Rattle.rds_history.specs.Journals.{journal, moved_count}
use Rattle.rds_play_hosts.specs.HostLaws.{same_pair, other_pair}

pub journal_here : (h k : ℕ) (e : Entry) (past : List Event) → journal h k (Appended h k e ∷ past) ≡ e ∷ journal h k past
journal_here h k e past = cond-true (h == h && (k == k)) (e ∷ journal h k past) (journal h k past) (same_pair h k)

pub journal_there : (h k a b : ℕ) (e : Entry) (past : List Event) → (a ≡ h → b ≡ k → ⊥) →
    journal a b (Appended h k e ∷ past) ≡ journal a b past
journal_there h k a b e past apart =
    cond-false (h == a && (k == b)) (e ∷ journal a b past) (journal a b past) (other_pair h k a b apart)

pub moved_there : (h k a b : ℕ) (e : Entry) (past : List Event) → (a ≡ h → b ≡ k → ⊥) →
    moved_count a b (Appended h k e ∷ past) ≡ moved_count a b past
moved_there h k a b (Open stream) past apart = cond-false (h == a && (k == b)) 0 (moved_count a b past) (other_pair h k a b apart)
moved_there h k a b (Accept slot sport dport payload) past apart = refl
moved_there h k a b (Cancel slot target) past apart = refl
moved_there h k a b (Pull stream frame) past apart = refl
moved_there h k a b (Read stream frame outcome) past apart = refl
moved_there h k a b (Shut stream) past apart = refl
moved_there h k a b (Bad stream header found) past apart = refl

pub moved_opened : (h k stream : ℕ) (past : List Event) → moved_count h k (Appended h k (Open stream) ∷ past) ≡ 0
moved_opened h k stream past = cond-true (h == h && (k == k)) 0 (moved_count h k past) (same_pair h k)

pub moved_here : (h k count : ℕ) (past : List Event) → moved_count h k (Moved h k count ∷ past) ≡ moved_count h k past + count
moved_here h k count past = cond-true (h == h && (k == k)) (moved_count h k past + count) (moved_count h k past) (same_pair h k)

pub moved_elsewhere : (h k a b count : ℕ) (past : List Event) → (a ≡ h → b ≡ k → ⊥) → moved_count a b (Moved h k count ∷ past) ≡ moved_count a b past
moved_elsewhere h k a b count past apart = cond-false (h == a && (k == b)) (moved_count a b past + count) (moved_count a b past) (other_pair h k a b apart)
