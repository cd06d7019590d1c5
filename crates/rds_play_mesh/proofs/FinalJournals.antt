-- The journals of hosts, list by list.
use Rattle.std.proofs.Common.{◌≡◌, ◌≢◌, ⊎_elim, ℕ, zero, suc, ◌+◌, ◌<◌, ◌≤◌, ◌==◌, cond, not, Vec, List, [], ◌∷◌, ◌++◌, filter, length, map, take, drop, get_or, set, refl, sym, ◌∙◌, ap, arith}
use Rattle.std.specs.Prelude.{nat_lt}
use Rattle.std.specs.Global.{Global}
use Rattle.std.proofs.lemmas.Bool.{cases_lt, cases_eq, eq-eqb, ne_eqb, lt-ltb, le-ltb}
use Rattle.std.proofs.lemmas.List.{map-append, get_or-drop, get_or-set_other, get_or-set_same, get_or-take, get_or_push}
use Rattle.std.proofs.lemmas.List.Elements.{filter-append}
use Rattle.rds_text.specs.Ports.{below}
use Rattle.rds_model.specs.declared.entry.Entry.{Entry}
use Rattle.rds_model.specs.Log.{Log}
use Rattle.rds_text.specs.FinalState.{FinalJournal}
use Rattle.rds_text.specs.Hosts.{address_of}
use Rattle.rds_text.specs.FinalViews.{side_view}
use Rattle.rds_play_pair.specs.declared.step.PairEnd.TheVariants.{First, Second}
use Rattle.rds_play_pair.specs.Ends.{JointEnds, blank, of_end}
use Rattle.rds_play_mesh.specs.Places.{triangle}
use Rattle.rds_play_mesh.specs.Ends.{MeshView, end_at, joint_of}
use Rattle.rds_play_mesh.specs.FinalJournals.{AreJointsOf, HoldJournals, journal_with, journals_below}
use Rattle.rds_play_mesh.proofs.Places.{grows, symmetric}
use Rattle.rds_play_mesh.proofs.Stepping.{at_inside}

-- with one host more
below_more : (n h : ℕ) (m : MeshView) → journals_below (suc n) h m ≡
    journals_below n h m ++ map (λ k. journal_with h k m) (cond (not (n == h)) (n ∷ []) [])
below_more n h m =
    ap (map (λ k. journal_with h k m)) (filter-append (λ k. not (k == h)) (below n) (n ∷ []))
    ∙ map-append (λ k. journal_with h k m) (filter (λ k. not (k == h)) (below n)) (filter (λ k. not (k == h)) (n ∷ []))

-- another host, and the host itself
pub other_more : (n h : ℕ) (m : MeshView) → n ≢ h → journals_below (suc n) h m ≡ journals_below n h m ++ journal_with h n m ∷ []
other_more n h m apart =
    below_more n h m
    ∙ ap (λ b. journals_below n h m ++ map (λ k. journal_with h k m) (cond (not b) (n ∷ []) [])) (ne_eqb n h apart)

pub own_same : (h : ℕ) (m : MeshView) → journals_below (suc h) h m ≡ journals_below h h m
own_same h m =
    below_more h h m
    ∙ ap (λ b. journals_below h h m ++ map (λ k. journal_with h k m) (cond (not b) (h ∷ []) [])) (eq-eqb h h refl)
    ∙ append_nil (journals_below h h m)
  where
    append_nil : {X : Type 0} (xs : List X) → xs ++ [] ≡ xs
    append_nil [] = refl
    append_nil (x ∷ xs) = ap (λ l. x ∷ l) (append_nil xs)

-- the first n of those below `high` have their journal with it
abbrev pub AreHalfway : (n high : ℕ) → MeshView → List (Vec (ℕ × Log) Global) → Type 0
AreHalfway n high m rows = (h : ℕ) → h < high → (row : Vec (ℕ × Log) Global) → row ≡ get_or rows h row →
    map side_view row.items ≡ journals_below (cond (nat_lt h n) (suc high) high) h m

pub halfway_start : (high : ℕ) (m : MeshView) (rows : List (Vec (ℕ × Log) Global)) → HoldJournals high m rows → AreHalfway 0 high m rows
halfway_start high m rows hold = λ h h_in row is.
    hold h h_in row is ∙ ap (λ b. journals_below (cond b (suc high) high) h m) (sym (le-ltb h 0 (omega arith)))

-- a journal behind others
pub side_push : (js : List (ℕ × Log)) (j : ℕ × Log) (peer : ℕ) (past : List Entry) → j.0 ≡ address_of peer → j.1.past ≡ past →
    map side_view (js ++ j ∷ []) ≡ map side_view js ++ record { peer = address_of peer; past = past } ∷ []
side_push js j peer past peer_is past_is =
    map-append side_view js (j ∷ [])
    ∙ ap (λ a. map side_view js ++ record { peer = a; past = j.1.past } ∷ []) peer_is
    ∙ ap (λ (p : List Entry). map side_view js ++ record { peer = address_of peer; past = p } ∷ []) past_is

-- the next of them gets it
pub halfway_more : (n high : ℕ) (m : MeshView) (rows : List (Vec (ℕ × Log) Global)) (was row : Vec (ℕ × Log) Global) (j : ℕ × Log) →
    n < high → length rows ≡ high → was ≡ get_or rows n was → row.items ≡ was.items ++ j ∷ [] → j.0 ≡ address_of high →
    j.1.past ≡ (end_at n high m).past → AreHalfway n high m rows → AreHalfway (suc n) high m (set rows n row)
halfway_more n high m rows was row j n_in size was_is pushed peer_is past_is half = λ h h_in r is. ⊎_elim
    (λ (e : h ≡ n). here h r e is)
    (λ (apart : h ≢ n). there h h_in r apart is)
    (cases_eq h n)
  where
    own : map side_view row.items ≡ journals_below (suc high) n m
    own =
        ap (map side_view) pushed ∙ side_push was.items j high (end_at n high m).past peer_is past_is
        ∙ ap (λ (l : List FinalJournal). l ++ journal_with n high m ∷ [])
        (half n n_in was was_is ∙ ap (λ b. journals_below (cond b (suc high) high) n m) (le-ltb n n (omega arith)))
        ∙ sym (other_more high n m (λ e. absurd (omega (arith, e, n_in))))

    here : (h : ℕ) (r : Vec (ℕ × Log) Global) → h ≡ n → r ≡ get_or (set rows n row) h r → map side_view r.items ≡ journals_below (cond (nat_lt h (suc n)) (suc high) high) h m
    here h r e is =
        ap (λ (v : Vec (ℕ × Log) Global). map side_view v.items)
        (is ∙ ap (λ i. get_or (set rows n row) i r) e ∙ get_or-set_same rows n row r (omega (arith, n_in, size)))
        ∙ own ∙ ap (λ i. journals_below (suc high) i m) (sym e)
        ∙ ap (λ b. journals_below (cond b (suc high) high) h m) (sym (lt-ltb h (suc n) (omega (arith, e))))

    bound : (h : ℕ) → h ≢ n → nat_lt h n ≡ nat_lt h (suc n)
    bound h apart = ⊎_elim
        (λ (less : h < n). lt-ltb h n less ∙ sym (lt-ltb h (suc n) (omega (arith, less))))
        (λ (more : n ≤ h). le-ltb h n more ∙ sym (le-ltb h (suc n) (omega (arith, more, apart))))
        (cases_lt h n)

    there : (h : ℕ) → h < high → (r : Vec (ℕ × Log) Global) → h ≢ n → r ≡ get_or (set rows n row) h r → map side_view r.items ≡ journals_below (cond (nat_lt h (suc n)) (suc high) high) h m
    there h h_in r apart is =
        half h h_in r (is ∙ get_or-set_other rows n h row r apart)
        ∙ ap (λ b. journals_below (cond b (suc high) high) h m) (bound h apart)

-- all of them have it, and so has the host itself
pub halfway_end : (high : ℕ) (m : MeshView) (rows : List (Vec (ℕ × Log) Global)) (row : Vec (ℕ × Log) Global) →
    length rows ≡ high → map side_view row.items ≡ journals_below high high m → AreHalfway high high m rows → HoldJournals (suc high) m (rows ++ row ∷ [])
halfway_end high m rows row size own half = λ h h_in r is. ⊎_elim
    (λ (e : h ≡ high).
    ap (λ (v : Vec (ℕ × Log) Global). map side_view v.items) (is ∙ get_or_push rows row r h (omega (arith, size, e)))
    ∙ own ∙ sym (own_same high m) ∙ ap (λ i. journals_below (suc high) i m) (sym e))
    (λ (apart : h ≢ high).
    let low : h < high = omega (arith, h_in, apart) in
    half h low r (is ∙ in_front rows h r (omega (arith, low, size)))
    ∙ ap (λ b. journals_below (cond b (suc high) high) h m) (lt-ltb h high low))
    (cases_eq h high)
  where
    in_front : (xs : List (Vec (ℕ × Log) Global)) (i : ℕ) (d : Vec (ℕ × Log) Global) → i < length xs → get_or (xs ++ row ∷ []) i d ≡ get_or xs i d
    in_front [] i d in_ = absurd (omega (arith, in_))
    in_front (x ∷ xs) zero d in_ = refl
    in_front (x ∷ xs) (suc i) d in_ = in_front xs i d (omega (arith, in_))

-- the journals of a joint
pub first_past : (low high : ℕ) (m : MeshView) (j : JointEnds) → low < high → j ≡ joint_of low high m → j.first.past ≡ (end_at low high m).past
first_past low high m j less is =
    ap (λ (q : JointEnds). q.first.past) is ∙ ap (λ b. (of_end (cond b First Second) (joint_of low high m)).past) (sym (lt-ltb low high less))

pub second_past : (low high : ℕ) (m : MeshView) (j : JointEnds) → low < high → j ≡ joint_of low high m → j.second.past ≡ (end_at high low m).past
second_past low high m j less is =
    ap (λ (q : JointEnds). q.second.past) is
    ∙ ap (λ i. (get_or m.joints i (record { first = blank 0 0; second = blank 0 0 })).second.past) (sym (symmetric low high (λ e. absurd (omega (arith, e, less)))))
    ∙ ap (λ b. (of_end (cond b First Second) (joint_of high low m)).past) (sym (le-ltb high low (omega (arith, less))))

-- the joints of a host, among all
pub joints_taken : (high : ℕ) (m : MeshView) → high < m.count → length m.joints ≡ triangle m.count →
    AreJointsOf high m (take high (drop (triangle high) m.joints))
joints_taken high m high_in full = λ low low_in j is.
    let row = grows high m.count high_in in
    let none : JointEnds = record { first = blank 0 0; second = blank 0 0 } in
    is ∙ get_or-take high (drop (triangle high) m.joints) low j low_in ∙ get_or-drop (triangle high) m.joints low j
    ∙ at_inside m.joints (triangle high + low) j none (omega (arith, row, full, low_in))
    ∙ ap (λ b. get_or m.joints (cond b (triangle high + low) (triangle low + high)) none) (sym (lt-ltb low high low_in))
