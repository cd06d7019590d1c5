-- Where no map with a port was pulled, few maps were pulled.
use Rattle.std.proofs.Common.{◌≡◌, ◌+◌, ◌<◌, ◌≤◌, ℕ, zero, suc, Bool, true, false, List, ◌∷◌, inl, inr, length, replicate, refl, sym, subst, ◌∙◌, arith}
use Rattle.std.specs.List.{All, Contains}
use Rattle.std.proofs.lemmas.Bool.{cases_lt}
use Rattle.std.proofs.lemmas.List.Elements.{Contains-append_right}
use Rattle.rds_wire.specs.Bytes.{IsBytes}
use Rattle.rds_wire.specs.declared.frame.Frame.{Frame}
use Rattle.rds_wire.specs.declared.kind.TheConstants.{MAP_LENGTH}
use Rattle.rds_cong.specs.Map.{has_port, no_ports}
use Rattle.rds_cong.specs.HalfLaws.{none_is, none_length, port-past, port-zeros}
use Rattle.rds_cong.specs.PortLaws.{same_maps}
use Rattle.rds_model.specs.declared.entry.Entry.{Entry}
use Rattle.rds_model.specs.declared.entry.Entry.TheVariants.{Pull}
use Rattle.rds_model.specs.declared.journal.TheConstants.{MAX_ENTRIES}
use Rattle.rds_model.specs.Bounded.{map_pulls}
use Rattle.rds_model.specs.Deliveries.{put_bytes}
use Rattle.rds_model.specs.Legal.{IsLegal}
use Rattle.rds_model.specs.Owed.{is_map}
use Rattle.rds_model.specs.Past.{Moment, before, now}
use Rattle.rds_model.specs.Sums.{opens}
use Rattle.rds_script.specs.declared.script.Placed.{Placed}
use Rattle.rds_run_hosts.specs.Streams.{cuts_between, streams_between}
use Rattle.rds_run_threads.specs.Causes.{IsFilledAlone, IsFullJournal}
use Rattle.rds_run_laws.specs.Few.{HaveRoomFor, PullsNoPort}

stands : (e : Entry) (p past : List Entry) → Moment (e ∷ p) past → Contains past e
stands e p _ now = (0, omega arith, refl)
stands e p (x ∷ past) (before m) = let c = stands e p past m in let within = c.1 in (suc c.0, omega (arith, within), c.2)

no_bytes : IsBytes no_ports
no_bytes = subst IsBytes (sym none_is) (zeros 8192)
  where
    zeros : (n : ℕ) → IsBytes (replicate n 0)
    zeros zero i d within = absurd (omega (arith, within))
    zeros (suc n) zero d within = omega arith
    zeros (suc n) (suc i) d within = zeros n i d (omega (arith, within))

module _ (pulled : (s : ℕ) (f : Frame) (p past : List Entry) → IsLegal past → Moment (Pull s f ∷ p) past → is_map f ≡ true →
    (length f.payload ≡ MAP_LENGTH) × IsBytes f.payload) where
  pub no_port_in : (past : List Entry) → IsLegal past → PullsNoPort past → (s : ℕ) (f : Frame) (p : List Entry) → Moment (Pull s f ∷ p) past →
      is_map f ≡ true → (port : ℕ) → has_port f.payload port ≡ false
  no_port_in past legal none s f p at map port =
      elim (cases_lt port 65536) [
        | inl small ↦ go (has_port f.payload port) refl small
        | inr large ↦ let long = (pulled s f p past legal at map).0 in port-past f.payload port (omega (arith, long, large))
      ]
    where
      go : (b : Bool) → has_port f.payload port ≡ b → port < 65536 → has_port f.payload port ≡ false
      go true is small = absurd (none port small (s, f, stands (Pull s f) p past at, map, is))
      go false is small = is

  clear_map : (past : List Entry) → IsLegal past → PullsNoPort past → (s : ℕ) (f : Frame) (p : List Entry) → Moment (Pull s f ∷ p) past →
      is_map f ≡ true → f.payload ≡ no_ports
  clear_map past legal none s f p at map =
      let is = pulled s f p past legal at map in
      same_maps f.payload no_ports (record { size = is.0; bytes = is.1 }) (record { size = none_length; bytes = no_bytes })
      (λ port. no_port_in past legal none s f p at map port ∙ sym (port-zeros 8192 no_ports port none_is))

  module _ (few : (map : List ℕ) (past : List Entry) → IsLegal past →
      ((s : ℕ) (f : Frame) (p : List Entry) → Moment (Pull s f ∷ p) past → is_map f ≡ true → f.payload ≡ map) → map_pulls past ≤ length (opens past))
      (streams : (highest : ℕ) (past : List Entry) → IsLegal past → All (λ s. s ≤ highest) (opens past) → length (opens past) ≤ highest) where
    pub not_without_ports : (hosts host peer entries : ℕ) (commands : List Placed) (own other : List Entry) →
        IsFullJournal true MAX_ENTRIES hosts commands host peer entries own other → 3000000000 < map_pulls own + map_pulls other →
        cuts_between host peer commands ≤ 1024 → PullsNoPort own → PullsNoPort other → ⊥
    not_without_ports hosts host peer entries commands own other full many cuts none_own none_other =
        let legal = full.sound.low_legal.legal in
        let legal_other = full.sound.high_legal.legal in
        let one = few no_ports own legal (clear_map own legal none_own) in
        let two = few no_ports other legal_other (clear_map other legal_other none_other) in
        let first = streams (streams_between host peer commands) own legal full.own_opened in
        let second = streams (streams_between host peer commands) other legal_other full.other_opened in
        absurd (omega (arith, one, two, first, second, many, cuts))

-- where each receive buffer has room for all that is delivered, no port was pulled
pub fits_pulls_none : (host peer bytes : ℕ) (commands : List Placed) (past : List Entry) → IsFilledAlone 2 host peer commands past →
    ((slot : ℕ) → put_bytes slot past ≤ bytes) → HaveRoomFor bytes host commands → PullsNoPort past
fits_pulls_none host peer bytes commands past filled few room port small pulled =
    let f = filled.2 port small pulled in
    let b = f.asked in
    let there : Contains commands b.placed =
    subst (λ (l : List Placed). Contains l b.placed) (sym b.order) (Contains-append_right b.before (b.placed ∷ b.after) b.placed (0, omega arith, refl)) in
    let least = room f.rcvbuf b.placed there b.asks in
    let most = few f.slot in
    let above = f.above in
    absurd (omega (arith, least, most, above))
