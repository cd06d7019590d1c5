-- Which map was pulled last, after a pull.
use Rattle.std.proofs.Common.{◌≡◌, ℕ, ◌||◌, Bool, true, false, cond, Option, Some, None, List, [], refl, sym, ◌∙◌, ap, subst, is_some}
use Rattle.std.specs.Prelude.{Result, Ok, Err, IfOk, OnOk, OnErr}
use Rattle.std.specs.Cmp.Lexicographic.{same_text}
use Rattle.std.proofs.lemmas.Bool.{cond-true, cond-false}
use Rattle.rds_wire.specs.declared.frame.Frame.{Frame}
use Rattle.rds_model.specs.declared.entry.Entry.{Entry}
use Rattle.rds_model.specs.Past.{Accepted, datagram}
use Rattle.rds_model.specs.Owed.{is_map, is_map_kind, last_map, is_last_map, is_asked, must_ask, map_frame, ack_frame, data_frame, owed_after_map}
use Rattle.rds_model.specs.FrameLaws.{kind_of_map_frame, kind_of_ack_frame, kind_of_data_frame}
use Rattle.rds_model.specs.NumberLaws.{number_of_known}
use Rattle.rds_conn.specs.declared.conn.ConnError.{ConnError}
use Rattle.rds_conn.specs.declared.conn.Pulled.{Pulled}
use Rattle.rds_conn.specs.Connection.{Connection, stream_of}
use Rattle.rds_conn.specs.Pulling.{Pulls, PullsFrame}
use Rattle.rds_conn.proofs.Unasked.{map_pull}

-- the map that was pulled last is the one that equals it
pub last_map_is : (o : Option (List ℕ)) (map : List ℕ) → is_last_map o map ≡ true → o ≡ Some map
last_map_is None map is = cc
last_map_is (Some last) map is = ap (λ (m : List ℕ). Some m) (same_text last map (sym is))

-- a pull leaves the stream open
pub stream_stays : (s : ℕ) (o : Option Frame) (old new : Connection) (out_old out_new : List ℕ) (result : Result Pulled ConnError) →
    IfOk result (Pulls s o old new out_old out_new) → OnErr result ((new ≡ old) × (out_new ≡ out_old)) → stream_of new ≡ stream_of old
stream_stays s (Some f) old new out_old out_new (Ok came) pulls err = ap stream_of pulls.entry
stream_stays s None old new out_old out_new (Ok came) pulls err = ap stream_of pulls.same
stream_stays s o old new out_old out_new (Err e) pulls err = ap stream_of err.0

-- one of a frame that is no map leaves the map that was pulled last
pub map_stays_behind : (s : ℕ) (o : Option Frame) (old new : Connection) (out_old out_new : List ℕ) (result : Result Pulled ConnError) →
    ((f : Frame) → o ≡ Some f → is_map f ≡ false) →
    IfOk result (Pulls s o old new out_old out_new) → OnErr result ((new ≡ old) × (out_new ≡ out_old)) →
    last_map s new.log.past ≡ last_map s old.log.past
map_stays_behind s (Some f) old new out_old out_new (Ok came) no_map pulls err =
    ap (λ (c : Connection). last_map s c.log.past) pulls.entry
    ∙ map_pull s f old.log.past
    ∙ cond-false (is_map f) (Some f.payload) (last_map s old.log.past) (no_map f refl)
map_stays_behind s None old new out_old out_new (Ok came) no_map pulls err = ap (λ (c : Connection). last_map s c.log.past) pulls.same
map_stays_behind s o old new out_old out_new (Err e) no_map pulls err = ap (λ (c : Connection). last_map s c.log.past) err.0

-- neither a datagram nor an acknowledgement is a map
pub data_no_map : (s n : ℕ) (past : List Entry) (d : Accepted) → datagram past n ≡ Some d →
    (f : Frame) → Some (data_frame s past n d) ≡ Some f → is_map f ≡ false
data_no_map s n past d known f is =
    let same : data_frame s past n d ≡ f = cc in
    let above = (number_of_known past n (ap is_some known)).0 in
    subst (λ (g : Frame). is_map g ≡ false) same (ap is_map_kind (kind_of_data_frame s past n d above))

pub ack_no_map : (s : ℕ) (past : List Entry) (f : Frame) → owed_after_map s past [] ≡ Some f → is_map f ≡ false
ack_no_map s past f is = go (is_asked s past || must_ask s past) is
  where
    go : (b : Bool) → cond b (Some (ack_frame past (must_ask s past))) None ≡ Some f → is_map f ≡ false
    go true is =
        let same : ack_frame past (must_ask s past) ≡ f = cc in
        subst (λ (g : Frame). is_map g ≡ false) same (ap is_map_kind (kind_of_ack_frame past (must_ask s past)))
    go false is = cc

-- the map that was pulled is the last one
pub map_pulled : (s : ℕ) (map : List ℕ) (old new : Connection) (out_old out_new : List ℕ) (result : Result Pulled ConnError) →
    IfOk result (PullsFrame s (map_frame old.log.past map) old new out_old out_new) → OnOk result (last_map s new.log.past ≡ Some map)
map_pulled s map old new out_old out_new (Ok came) pulls =
    let f : Frame = map_frame old.log.past map in
    ap (λ (c : Connection). last_map s c.log.past) pulls.entry
    ∙ map_pull s f old.log.past
    ∙ cond-true (is_map f) (Some f.payload) (last_map s old.log.past) (ap is_map_kind (kind_of_map_frame old.log.past map))
map_pulled s map old new out_old out_new (Err e) pulls = tt
