-- Streams are opened one after another, so what went over an earlier stream stands before what went over a later one.
use Rattle.std.proofs.Common.{◌≡◌, ℕ, ◌<◌, ◌≤◌, Some, None, List, [], ◌∷◌, arith}
use Rattle.rds_model.specs.declared.entry.Entry.{Entry}
use Rattle.rds_model.specs.declared.entry.Entry.TheVariants.{Accept, Cancel, Open, Pull, Read, Shut, Bad}
use Rattle.rds_model.specs.Past.{Moment, now, before, open_stream, newest_stream}
use Rattle.rds_model.specs.Legal.{IsLegal}
use Rattle.rds_model.specs.LegalityLaws.{lawful_open}

-- the open stream is the newest
pub open_is_newest : (p : List Entry) (s : ℕ) → open_stream p ≡ Some s → newest_stream p ≡ s
open_is_newest [] s is = cc
open_is_newest (Open stream ∷ past) s is = cc
open_is_newest (Shut stream ∷ past) s is = cc
open_is_newest (Bad stream header cause ∷ past) s is = cc
open_is_newest (Accept slot sport dport payload ∷ past) s is = open_is_newest past s is
open_is_newest (Cancel slot target ∷ past) s is = open_is_newest past s is
open_is_newest (Pull stream frame ∷ past) s is = open_is_newest past s is
open_is_newest (Read stream frame outcome ∷ past) s is = open_is_newest past s is

newest_step : (e : Entry) (past : List Entry) → IsLegal (e ∷ past) → newest_stream past ≤ newest_stream (e ∷ past)
newest_step (Open s) past legal = omega (arith, (lawful_open s past legal).1)
newest_step _ past legal = omega arith

pub newest_grows : {p j : List Entry} → IsLegal j → Moment p j → newest_stream p ≤ newest_stream j
newest_grows legal now = omega arith
newest_grows legal (before {e} {j} m) = omega (arith, newest_step e j legal, newest_grows legal.1 m)

opened_step : (n s : ℕ) (e : Entry) (past : List Entry) → IsLegal (e ∷ past) → n ≤ newest_stream past →
    (open_stream past ≡ Some s → n < s) → open_stream (e ∷ past) ≡ Some s → n < s
opened_step n s (Open stream) past legal behind older is =
    let same : stream ≡ s = cc in
    omega (arith, (lawful_open stream past legal).1)
opened_step n s (Shut stream) past legal behind older is = cc
opened_step n s (Bad stream header cause) past legal behind older is = cc
opened_step n s (Accept slot sport dport payload) past legal behind older is = older is
opened_step n s (Cancel slot target) past legal behind older is = older is
opened_step n s (Pull stream frame) past legal behind older is = older is
opened_step n s (Read stream frame outcome) past legal behind older is = older is

-- where no stream is open, the one that is open later is newer than all before
pub opened_later : (s : ℕ) {p j : List Entry} → IsLegal j → Moment p j → open_stream p ≡ None → open_stream j ≡ Some s →
    newest_stream p < s
opened_later s legal now none some = cc
opened_later s {p} legal (before {e} {j} m) none some =
    opened_step (newest_stream p) s e j legal (newest_grows legal.1 m) (opened_later s legal.1 m none) some

-- of two entries on one stream or on two, the one on the earlier stream stands first
pub on_earlier_stream : (s l : ℕ) {p q : List Entry} → IsLegal q → Moment p q →
    open_stream p ≡ Some s → open_stream q ≡ Some l → s ≤ l
on_earlier_stream s l {p} {q} legal m is_k is_l =
    omega (arith, newest_grows legal m, open_is_newest p s is_k, open_is_newest q l is_l)
