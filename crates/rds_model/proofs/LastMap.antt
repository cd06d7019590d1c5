-- The last map of a stream, by its frames.
use Rattle.std.proofs.Common.{◌≡◌, ℕ, ◌<◌, ◌==◌, ◌&&◌, Bool, true, false, cond, if◌then◌else◌, Option, Some, None, List, [], ◌∷◌, ◌++◌, refl, sym, ◌∙◌, ap, arith}
use Rattle.std.proofs.lemmas.Bool.{eq-eqb, ne_eqb, cond-true, cond-false}
use Rattle.rds_wire.specs.declared.frame.Frame.{Frame}
use Rattle.rds_wire.specs.declared.header.Header.{Header}
use Rattle.rds_wire.specs.declared.kind.Kind.{Kind}
use Rattle.rds_wire.specs.declared.kind.Kind.TheVariants.{Data, Ack, Map, OddMap}
use Rattle.rds_wire.specs.Kinds.{kind_of}
use Rattle.rds_model.specs.declared.entry.Entry.{Entry}
use Rattle.rds_model.specs.declared.entry.Entry.TheVariants.{Accept, Cancel, Open, Pull, Read, Shut, Bad}
use Rattle.rds_model.specs.declared.entry.Outcome.{Outcome}
use Rattle.rds_model.specs.declared.entry.Outcome.TheVariants as outcome
use Rattle.rds_model.specs.declared.entry.Verdict.TheVariants as verdict
use Rattle.rds_model.specs.Past.{now, open_stream, newest_stream}
use Rattle.rds_model.specs.Streams.{pulled_frames, read_frames}
use Rattle.rds_model.specs.Owed.{is_map, is_map_kind, last_map}
use Rattle.rds_model.specs.Reading.{is_old, verdict_of_kind, Obeys}
use Rattle.rds_model.specs.Legal.{IsLegal}
use Rattle.rds_model.specs.Drained.{map_of, last_map_read}
use Rattle.rds_model.specs.LegalityLaws.{lawful_read, lawful_open}
use Rattle.rds_model.proofs.StreamOrder.{open_is_newest}

-- the last map among some frames, or the one that was last before them
abbrev pub last_among : Option (List ℕ) → List Frame → Option (List ℕ)
last_among earlier [] = earlier
last_among earlier (f ∷ fs) = last_among (if is_map f then Some f.payload else earlier) fs

among_more : (earlier : Option (List ℕ)) (fs : List Frame) (f : Frame) →
    last_among earlier (fs ++ f ∷ []) ≡ (if is_map f then Some f.payload else last_among earlier fs)
among_more earlier [] f = refl
among_more earlier (g ∷ fs) f = among_more (if is_map g then Some g.payload else earlier) fs f

-- where there is a map among them, it doesn't matter what was before
pub among_some : (earlier : Option (List ℕ)) (fs : List Frame) (map : List ℕ) → last_among None fs ≡ Some map → last_among earlier fs ≡ Some map
among_some earlier [] map is = cc
among_some earlier (f ∷ fs) map is = by_kind (is_map f) is (among_some earlier fs map)
  where
    by_kind : (b : Bool) → last_among (cond b (Some f.payload) None) fs ≡ Some map → (last_among None fs ≡ Some map → last_among earlier fs ≡ Some map) →
        last_among (cond b (Some f.payload) earlier) fs ≡ Some map
    by_kind true is more = is
    by_kind false is more = more is

-- the map that was pulled last on a stream
pub last_pulled : (s : ℕ) (j : List Entry) → last_map s j ≡ last_among None (pulled_frames s j)
last_pulled s [] = refl
last_pulled s (Pull y f ∷ past) = by_stream (y == s) (is_map f) (last_pulled s past) (among_more None (pulled_frames s past) f)
  where
    by_stream : (on map : Bool) → last_map s past ≡ last_among None (pulled_frames s past) →
        last_among None (pulled_frames s past ++ f ∷ []) ≡ cond map (Some f.payload) (last_among None (pulled_frames s past)) →
        cond (on && map) (Some f.payload) (last_map s past) ≡ last_among None (cond on (pulled_frames s past ++ f ∷ []) (pulled_frames s past))
    by_stream true true older more = sym more
    by_stream true false older more = older ∙ sym more
    by_stream false map older more = older
last_pulled s (_ ∷ past) = last_pulled s past

-- a frame that is read is a map exactly where its outcome is one
map_outcome : (kind : Kind) (past : List Entry) (h : Header) (o : Outcome) (payload : List ℕ) (earlier : Option (List ℕ)) →
    Obeys (verdict_of_kind kind past h) o → map_of o payload earlier ≡ cond (is_map_kind kind) (Some payload) earlier
map_outcome Map past h o payload earlier obeys = ap (λ (x : Outcome). map_of x payload earlier) obeys
map_outcome OddMap past h o payload earlier obeys = ap (λ (x : Outcome). map_of x payload earlier) obeys
map_outcome Ack past h o payload earlier obeys = ap (λ (x : Outcome). map_of x payload earlier) obeys
map_outcome Data past h o payload earlier obeys = by_ports (is_old past h) (h.dport == 0) (h.sport == 0) o obeys
  where
    by_ports : (old to_0 from_0 : Bool) (o : Outcome) →
        Obeys (cond old verdict.Old (cond to_0 (cond from_0 verdict.Void verdict.Ping) (verdict.Deliver h.dport))) o →
        map_of o payload earlier ≡ earlier
    by_ports true to_0 from_0 o obeys = ap (λ (x : Outcome). map_of x payload earlier) obeys
    by_ports false true true o obeys = ap (λ (x : Outcome). map_of x payload earlier) obeys
    by_ports false true false o obeys = ap (λ (x : Outcome). map_of x payload earlier) obeys
    by_ports false false from_0 outcome.Map obeys = absurd obeys
    by_ports false false from_0 _ obeys = refl

-- on a stream that isn't opened yet nothing is read
unread_stream : (s : ℕ) (past : List Entry) → IsLegal past → newest_stream past < s → read_frames s past ≡ []
unread_stream s [] legal above = refl
unread_stream s (Read y f o ∷ past) legal above =
    let is = open_is_newest past y (lawful_read y f o legal now).on in
    cond-false (y == s) (read_frames s past ++ f ∷ []) (read_frames s past) (ne_eqb y s (λ e. omega (arith, above, is))) ∙ unread_stream s past legal.1 above
unread_stream s (Open y ∷ past) legal above = unread_stream s past legal.1 (omega (arith, above, (lawful_open y past legal).1))
unread_stream s (Accept slot sport dport payload ∷ past) legal above = unread_stream s past legal.1 above
unread_stream s (_ ∷ past) legal above = unread_stream s past legal.1 above

one_stream : (past : List Entry) (y s : ℕ) → open_stream past ≡ Some y → open_stream past ≡ Some s → y ≡ s
one_stream past y s is_s is_k = cc

-- the map that was read last is the last one of the open stream, or an earlier one
pub last_read : (s : ℕ) (j : List Entry) → IsLegal j → open_stream j ≡ Some s →
    (earlier : Option (List ℕ)) × (last_map_read j ≡ last_among earlier (read_frames s j))
last_read s [] legal on = cc
last_read s (Open y ∷ past) legal on =
    let is : y ≡ s = cc in
    let unread = unread_stream s past legal.1 (omega (arith, is, (lawful_open y past legal).1)) in
    (last_map_read past, ap (last_among (last_map_read past)) (sym unread))
last_read s (Shut y ∷ past) legal on = cc
last_read s (Bad y h found ∷ past) legal on = cc
last_read s (Read y f o ∷ past) legal on =
    let older = last_read s past legal.1 on in
    let reading = lawful_read y f o legal now in
    let is = one_stream past y s reading.on on in
    let here = cond-true (y == s) (read_frames s past ++ f ∷ []) (read_frames s past) (eq-eqb y s is) in (
      older.0,
      map_outcome (kind_of f.header) past f.header o f.payload (last_map_read past) reading.obeys
          ∙ ap (λ (m : Option (List ℕ)). cond (is_map f) (Some f.payload) m) older.1
          ∙ sym (among_more older.0 (read_frames s past) f) ∙ ap (last_among older.0) (sym here),
    )
last_read s (Accept slot sport dport payload ∷ past) legal on = last_read s past legal.1 on
last_read s (Cancel slot target ∷ past) legal on = last_read s past legal.1 on
last_read s (Pull y f ∷ past) legal on = last_read s past legal.1 on
