-- How long a frame that waits is.
use Rattle.std.proofs.Common.{◌≡◌, ◌≢◌, ℕ, ◌≤◌, ◌&&◌, ◌==◌, Bool, true, false, cond, Option, Some, None, IfSome, List, length, refl, ◌∙◌, arith}
use Rattle.std.proofs.lemmas.Bool.{eqb-true}
use Rattle.rds_wire.specs.declared.frame.Frame.{Frame}
use Rattle.rds_wire.specs.declared.header.Header.{Header}
use Rattle.rds_wire.specs.declared.header.TheConstants.{CONG_BITMAP}
use Rattle.rds_wire.specs.declared.kind.Kind.{Kind}
use Rattle.rds_wire.specs.declared.kind.Kind.TheVariants as kind
use Rattle.rds_wire.specs.declared.kind.TheConstants.{MAX_LENGTH, MAP_LENGTH}
use Rattle.rds_wire.specs.CauseLaws.{len-cause}
use Rattle.rds_wire.specs.Kinds.{carries, kind_of}
use Rattle.rds_model.specs.declared.entry.Entry.{Entry}
use Rattle.rds_model.specs.declared.entry.Verdict.TheVariants as verdict
use Rattle.rds_model.specs.Reading.{is_old, verdict_of, verdict_of_kind}
use Rattle.rds_conn.specs.declared.conn.Conn.TheInside.{Inside}
use Rattle.rds_conn.specs.Invariant.{ConnectionInvariant}
use Rattle.rds_conn.proofs.KeepsPassing.{waits}

-- the verdict is that of a map for the header of one alone
never_map : (old void ping : Bool) (dport : ℕ) →
    cond old verdict.Old (cond void (cond ping verdict.Void verdict.Ping) (verdict.Deliver dport)) ≢ verdict.Map
never_map true void ping dport is = cc
never_map false true true dport is = cc
never_map false true false dport is = cc
never_map false false ping dport is = cc

map_of_verdict : (s : Kind) (past : List Entry) (h : Header) → verdict_of_kind s past h ≡ verdict.Map → s ≡ kind.Map
map_of_verdict kind.Map past h is = refl
map_of_verdict kind.OddMap past h is = cc
map_of_verdict kind.Ack past h is = cc
map_of_verdict kind.Data past h is = absurd (never_map (is_old past h) (h.dport == 0) (h.sport == 0) h.dport is)

map_long : (map long ack : Bool) → cond map (cond long kind.Map kind.OddMap) (cond ack kind.Ack kind.Data) ≡ kind.Map → long ≡ true
map_long true true ack is = refl
map_long true false ack is = cc
map_long false long true is = cc
map_long false long false is = cc

len_of_map : (h : Header) → kind_of h ≡ kind.Map → h.len ≡ MAP_LENGTH
len_of_map h is =
    eqb-true h.len MAP_LENGTH
    (map_long (carries CONG_BITMAP h.flags) (h.len == MAP_LENGTH) (h.sequence == 0 && (h.len == 0 && h.dport == 0)) is)

pub short_waiting : (c : Inside) → ConnectionInvariant c → IfSome c.splitter.waiting (λ (f : Frame). length f.payload ≤ MAX_LENGTH)
short_waiting c keeps = go c.splitter.waiting refl
  where
    go : (o : Option Frame) → c.splitter.waiting ≡ o → IfSome o (λ (f : Frame). length f.payload ≤ MAX_LENGTH)
    go None is = tt
    go (Some f) is =
        let w = waits c f keeps is in
        let len = len-cause f.header _ 0 w.sound in
        let whole = w.frame.payload in
        omega (arith, len, whole)

pub map_waiting : (c : Inside) → ConnectionInvariant c →
    IfSome c.splitter.waiting (λ (f : Frame). verdict_of c.journal.past f.header ≡ verdict.Map → length f.payload ≡ MAP_LENGTH)
map_waiting c keeps = go c.splitter.waiting refl
  where
    go : (o : Option Frame) → c.splitter.waiting ≡ o →
        IfSome o (λ (f : Frame). verdict_of c.journal.past f.header ≡ verdict.Map → length f.payload ≡ MAP_LENGTH)
    go None is = tt
    go (Some f) is = λ map.
        (waits c f keeps is).frame.payload ∙ len_of_map f.header (map_of_verdict (kind_of f.header) c.journal.past f.header map)
