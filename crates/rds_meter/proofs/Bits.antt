-- A raise, a lowering and a bump keep the rule.
use Rattle.std.proofs.Common.{◌≡◌, ◌≢◌, ℕ, ◌+◌, ◌-◌, ◌*◌, ◌/◌, ◌%◌, ◌^◌, ◌<◌, ◌≤◌, List, [], ◌∷◌, ◌++◌, set, Some, w64, bit_and, bit_or, refl, sym, ap, ◌∙◌, subst, ⊎_elim, arith}
use Rattle.std.proofs.lemmas.List.{get_or-set_same, get_or-set_other, length-set}
use Rattle.std.proofs.lemmas.List.Elements.{Contains-append_left, Contains-append_right, Contains-push, Contains-push_cases}
use Rattle.std.proofs.lemmas.Nat.Bits.{bit_at_set_same, bit_at_set_other, bit_at_clear_same, bit_at_clear_other, bit_at-zero}
use Rattle.std.proofs.Math.Nat.{mod-lt, div-add-mod'}
use Rattle.std.specs.Prelude.{Contains, slice_index}
use Rattle.std.specs.Int.{bit_at, bit_not}
use mathlib.Core.Logic.{dite}
use native.Mathlib.Decide.{ℕ_discrete}
use Rattle.atomic_table.specs.Table.{Me, Allows, keeps}
use Rattle.rds_seats.specs.Views.{At, Has}
use Rattle.rds_seats.specs.ViewLaws.{at_here}
use Rattle.rds_meter.specs.declared.view.View.{View}
use Rattle.rds_meter.specs.declared.view.Check.{Check}
use Rattle.rds_meter.specs.declared.view.Step.{Step}
use Rattle.rds_meter.specs.declared.view.Step.TheVariants.{Raised, Lowered, Bumped, Loaded}
use Rattle.rds_meter.specs.Places.{amount_in, map_word, mask_of, limit_word}
use Rattle.rds_meter.specs.Seats.{after_raise, after_lower, after_bump, raised_by, older_of}
use Rattle.rds_meter.specs.Shared.{Shared, Ruled, HasStored, HasRaised, IsLimit, BitsFit, StageFits}
use Rattle.rds_meter.proofs.Facts.{Rising, Closed, Opened, has_on, limit_on, stage_on, bits_on}
use Rattle.rds_meter.proofs.Steps.{stepped_one, plain_counts}
use Rattle.rds_meter.proofs.Adding.{loads_before}

-- a port is known by its word and its bit
pub same_port : (p q : ℕ) → p / 64 ≡ q / 64 → p % 64 ≡ q % 64 → p ≡ q
same_port p q d m =
    let a = div-add-mod' p 64 in
    let b = div-add-mod' q 64 in
    omega arith

pub same_mask : (p q : ℕ) → mask_of p ≡ mask_of q → p % 64 ≡ q % 64
same_mask p q e = dite (ℕ_discrete (p % 64) (q % 64)) (λ same. same)
    (λ ne.
    let low = mod-lt p {m = 64} (omega arith) in
    let high = mod-lt q {m = 64} (omega arith) in
    let set : bit_at (bit_or 0 (mask_of p)) (p % 64) ≡ 1 = bit_at_set_same w64 0 (p % 64) low in
    let clear : bit_at (bit_or 0 (mask_of q)) (p % 64) ≡ bit_at 0 (p % 64) = bit_at_set_other w64 0 (q % 64) high (p % 64) ne in
    let zero = bit_at-zero (p % 64) in
    let same : bit_at (bit_or 0 (mask_of p)) (p % 64) ≡ bit_at (bit_or 0 (mask_of q)) (p % 64) = ap (λ x. bit_at (bit_or 0 x) (p % 64)) e in
    absurd (omega arith))

pub port_known : (p q : ℕ) → map_word p ≡ map_word q → mask_of p ≡ mask_of q → p ≡ q
port_known p q word mask = same_port p q (omega arith) (same_mask p q mask)

-- the two ports have one word, and so their bits tell them apart
same_bit : (p q : ℕ) → map_word p ≡ map_word q → p % 64 ≡ q % 64 → p ≡ q
same_bit p q word bit = same_port p q (omega arith) bit

module _ (words : List ℕ) (views : List View) (id : ℕ) (v : View) (h : Shared words views) (here : At views id v) (living : 1 ≤ v.weight) where
  -- a word of the map or the change number becomes n, and the seat makes one step that is no load
  module _ (q n : ℕ) (low : 4096 ≤ q) (high : q < 5121) where
    abbrev after : List ℕ
    after = set words q n

    here_word : slice_index after q ≡ n
    here_word = get_or-set_same words q n 0 (let s = h.size in omega arith)

    there : (i : ℕ) → i ≢ q → slice_index after i ≡ slice_index words i
    there i apart = get_or-set_other words q i n 0 apart

    rises : Rising words after
    rises slot small = let e = there (2048 + slot) (λ e. omega arith) in omega arith

    module _ (w : View) (s : Step) (stored : (slot limit : ℕ) → HasStored slot limit v → Has (set views id w) (HasStored slot limit)) (raised : (port : ℕ) → HasRaised port v → Has (set views id w) (HasRaised port)) where
      abbrev now : List View
      now = set views id w

      limits_now : (slot : ℕ) → slot < 1024 → IsLimit now slot (slice_index after (limit_word slot))
      limits_now slot small = subst (IsLimit now slot) (sym (there slot (λ e. omega arith)))
          (limit_on words words views now (λ x l. omega arith) (λ x l. has_on (HasStored x l) views id v w here (stored x l)) slot _ (h.limits slot small))

      -- the bits of the other words
      bits_there : (word : ℕ) → word ≢ q → BitsFit now word (slice_index after word)
      bits_there word ne = subst (BitsFit now word) (sym (there word ne)) (bits_on views now (λ port. has_on (HasRaised port) views id v w here (raised port)) word _ (h.bits word))

      bits_now : BitsFit now q n → (word : ℕ) → BitsFit now word (slice_index after word)
      bits_now mine word = dite (ℕ_discrete word q)
          (λ e. subst (λ x. BitsFit now x (slice_index after x)) (sym e) (subst (BitsFit now q) (sym here_word) mine))
          (bits_there word)

      staged_now : StageFits after views v.stage
      staged_now = stage_on words after views views rises (λ slot limit m. m) v.stage (h.staged id v here)

  abbrev raiser : ℕ → View
  raiser port = after_raise v port

  raise_checks : (port : ℕ) (c : Check) (older : List Check) → v.pending ≡ c ∷ older → (raiser port).checks ≡ v.checks ++ record c { raised = Some port } ∷ []
  raise_checks port c older e = ap (λ l. v.checks ++ raised_by l port) e

  module _ (port : ℕ) (small : port < 65536) (c : Check) (older : List Check) (e : v.pending ≡ c ∷ older) where
    abbrev w : View
    w = raiser port

    abbrev mine : Check
    mine = record c { raised = Some port }

    raise_stored : (slot limit : ℕ) → HasStored slot limit v → Has (set views id w) (HasStored slot limit)
    raise_stored slot limit m = (id, w, at_here views id v w here, Contains-append_left v.steps (Raised port ∷ []) _ m)

    raise_raised : (p : ℕ) → HasRaised p v → Has (set views id w) (HasRaised p)
    raise_raised p m = (id, w, at_here views id v w here, (m.0, Contains-append_left v.checks (raised_by v.pending port) m.0 m.1, m.2))

    by_this : Has (set views id w) (HasRaised port)
    by_this = (id, w, at_here views id v w here, (mine, subst (λ l. Contains l mine) (sym (raise_checks port c older e)) (Contains-push v.checks mine), refl))

    opened_c : Opened words views c
    opened_c = h.opened id v here c (subst (λ l. Contains l c) (sym e) (Contains-append_left (c ∷ []) older c (Contains-push [] c)))

    pub raises_at : Shared (set words (map_word port) (bit_or (slice_index words (map_word port)) (mask_of port))) (set views id w)
    raises_at =
        let q = map_word port in
        let n = bit_or (slice_index words q) (mask_of port) in
        let high : q < 5121 = omega arith in
        let low : 4096 ≤ q = omega arith in
        let s = Raised port in
        let bits : BitsFit (set views id w) q n = λ p p_small word bit. dite (ℕ_discrete (p % 64) (port % 64))
        (λ same. subst (λ x. Has (set views id w) (HasRaised x)) (sym (same_bit p port (sym word) same)) by_this)
        (λ ne.
        let was : bit_at n (p % 64) ≡ bit_at (slice_index words q) (p % 64) = bit_at_set_other w64 (slice_index words q) (port % 64) (mod-lt port {m = 64} (omega arith)) (p % 64) ne in
        has_on (HasRaised p) views id v w here (raise_raised p) (h.bits q p p_small word (sym was ∙ bit))) in
        stepped_one words (set words q n) views id v w h here (length-set words q n ∙ h.size)
        (plain_counts words (set words q n) v w s (λ word. refl) (λ word l u. there q n low high word (λ e. omega arith)) refl refl refl living (h.few id v here))
        (bits_now q n low high w s raise_stored raise_raised bits)
        record {
          puts = rises q n low high;
          stored = raise_stored;
          raised = raise_raised;
          limits = limits_now q n low high w s raise_stored raise_raised;
          closed = λ k m. ⊎_elim
              (λ was. h.closed id v here k was)
              (λ (same : mine ≡ k). subst (Closed words views) same (opened_c.0, sym opened_c.1))
              (Contains-push_cases v.checks mine k (subst (λ l. Contains l k) (raise_checks port c older e) m));
          opened = λ k m. h.opened id v here k (subst (λ l. Contains l k) (sym e) (Contains-append_right (c ∷ []) older k (subst (λ l. Contains l k) (ap older_of e) m)));
          staged = staged_now q n low high w s raise_stored raise_raised;
          loaded = λ word found m. h.loaded id v here word found (loads_before v s word found (λ x. absurd (cc)) m);
        }

  -- a step that leaves all checks
  module _ (s : Step) where
    abbrev doer : View
    doer = record v { steps = v.steps ++ s ∷ [] }

    keeps_stored : (slot limit : ℕ) → HasStored slot limit v → Has (set views id doer) (HasStored slot limit)
    keeps_stored slot limit m = (id, doer, at_here views id v doer here, Contains-append_left v.steps (s ∷ []) _ m)

    keeps_raised : (p : ℕ) → HasRaised p v → Has (set views id doer) (HasRaised p)
    keeps_raised p m = (id, doer, at_here views id v doer here, m)

    does : (q n : ℕ) → 4096 ≤ q → q < 5121 → ((word : ℕ) → amount_in word s ≡ 0) → ((word found : ℕ) → s ≡ Loaded word found → ⊥) → BitsFit (set views id doer) q n → Shared (set words q n) (set views id doer)
    does q n low high none no_load bits =
        stepped_one words (set words q n) views id v doer h here (length-set words q n ∙ h.size)
        (plain_counts words (set words q n) v doer s none (λ word l u. there q n low high word (λ e. omega arith)) refl refl refl living (h.few id v here))
        (bits_now q n low high doer s keeps_stored keeps_raised bits)
        record {
          puts = rises q n low high;
          stored = keeps_stored;
          raised = keeps_raised;
          limits = limits_now q n low high doer s keeps_stored keeps_raised;
          closed = h.closed id v here;
          opened = h.opened id v here;
          staged = staged_now q n low high doer s keeps_stored keeps_raised;
          loaded = λ word found m. h.loaded id v here word found (loads_before v s word found (no_load word found) m);
        }

  pub lowers_at : (port : ℕ) → port < 65536 → slice_index words (map_word port) < 18446744073709551616
      → Shared (set words (map_word port) (bit_and (slice_index words (map_word port)) (bit_not w64 (mask_of port)))) (set views id (after_lower v port))
  lowers_at port small fits =
      let q = map_word port in
      let old = slice_index words q in
      let n = bit_and old (bit_not w64 (mask_of port)) in
      let k = mod-lt port {m = 64} (omega arith) in
      let w = after_lower v port in
      does (Lowered port) q n (omega arith) (omega arith) (λ word. refl) (λ word found e. absurd (cc))
      (λ p p_small word bit. dite (ℕ_discrete (p % 64) (port % 64))
      (λ same. absurd (let z : bit_at n (p % 64) ≡ 0 = ap (bit_at n) same ∙ bit_at_clear_same w64 old (port % 64) k in omega arith))
      (λ ne.
      let was : bit_at n (p % 64) ≡ bit_at old (p % 64) = bit_at_clear_other w64 old (port % 64) k (p % 64) (mod-lt p {m = 64} (omega arith)) ne in
      has_on (HasRaised p) views id v w here (keeps_raised (Lowered port) p) (h.bits q p p_small word (sym was ∙ bit))))

  pub bumps_at : (n : ℕ) → Shared (set words 5120 n) (set views id (after_bump v n))
  bumps_at n = does (Bumped n) 5120 n (omega arith) (omega arith) (λ word. refl) (λ word found e. absurd (cc)) (λ p p_small word bit. absurd (omega arith))

pub raises : (homes id port : ℕ) (me : Me (Unit {0}) View) (c : Check) (older : List Check) → 1 ≤ me.0.weight → port < 65536 → me.0.pending ≡ c ∷ older
    → Allows Ruled homes id me (map_word port) (λ n. bit_or n (mask_of port)) (λ found now. (p : ℕ) × (map_word port ≡ map_word p) × (mask_of port ≡ mask_of p) × (now ≡ (after_raise me.0 p, me.1)))
raises homes id port me c older living small is s h homed here fits =
    (after_raise me.0 port, keeps, tt, raises_at s.words s.views id me.0 h here living port small c older is, (port, refl, refl, refl))

pub lowers : (homes id port : ℕ) (me : Me (Unit {0}) View) → 1 ≤ me.0.weight → port < 65536
    → Allows Ruled homes id me (map_word port) (λ n. bit_and n (bit_not w64 (mask_of port))) (λ found now. (p : ℕ) × (map_word port ≡ map_word p) × (bit_not w64 (mask_of port) ≡ 18446744073709551615 - mask_of p) × (now ≡ (after_lower me.0 p, me.1)))
lowers homes id port me living small s h homed here fits =
    (after_lower me.0 port, keeps, tt, lowers_at s.words s.views id me.0 h here living port small fits, (port, refl, refl, refl))

pub bumps : (homes id : ℕ) (me : Me (Unit {0}) View) → 1 ≤ me.0.weight → Allows Ruled homes id me 5120 (λ n. (n + 1) % 18446744073709551616) (λ found now. now ≡ (after_bump me.0 ((found + 1) % 18446744073709551616), me.1))
bumps homes id me living s h homed here fits =
    let n = (slice_index s.words 5120 + 1) % 18446744073709551616 in
    (after_bump me.0 n, keeps, tt, bumps_at s.words s.views id me.0 h here living n, refl)

-- the same at a word and a mask that are those of the port
pub raises_by : (homes id port word mask : ℕ) (me : Me (Unit {0}) View) (c : Check) (older : List Check) → word ≡ map_word port → mask ≡ mask_of port → 1 ≤ me.0.weight → port < 65536 → me.0.pending ≡ c ∷ older
    → Allows Ruled homes id me word (λ n. bit_or n mask) (λ found now. (p : ℕ) × (word ≡ map_word p) × (mask ≡ mask_of p) × (now ≡ (after_raise me.0 p, me.1)))
raises_by homes id port word mask me c older at bit living small is =
    subst (λ (z : ℕ × ℕ). Allows Ruled homes id me z.0 (λ n. bit_or n z.1) (λ found now. (p : ℕ) × (z.0 ≡ map_word p) × (z.1 ≡ mask_of p) × (now ≡ (after_raise me.0 p, me.1)))) (λ i. (sym at i, sym bit i))
    (raises homes id port me c older living small is)

pub lowers_by : (homes id port word mask : ℕ) (me : Me (Unit {0}) View) → word ≡ map_word port → mask ≡ mask_of port → 1 ≤ me.0.weight → port < 65536
    → Allows Ruled homes id me word (λ n. bit_and n (18446744073709551615 - mask)) (λ found now. (p : ℕ) × (word ≡ map_word p) × (18446744073709551615 - mask ≡ 18446744073709551615 - mask_of p) × (now ≡ (after_lower me.0 p, me.1)))
lowers_by homes id port word mask me at bit living small =
    subst (λ (z : ℕ × ℕ). Allows Ruled homes id me z.0 (λ n. bit_and n (18446744073709551615 - z.1)) (λ found now. (p : ℕ) × (z.0 ≡ map_word p) × (18446744073709551615 - z.1 ≡ 18446744073709551615 - mask_of p) × (now ≡ (after_lower me.0 p, me.1)))) (λ i. (sym at i, sym bit i))
    (lowers homes id port me living small)

pub raised_port : (port p word mask : ℕ) → word ≡ map_word port → mask ≡ mask_of port → word ≡ map_word p → mask ≡ mask_of p → p ≡ port
raised_port port p word mask a b x y = port_known p port (sym x ∙ a) (sym y ∙ b)

pub lowered_port : (port p word mask : ℕ) → word ≡ map_word port → mask ≡ mask_of port → word ≡ map_word p → 18446744073709551615 - mask ≡ 18446744073709551615 - mask_of p → p ≡ port
lowered_port port p word mask a b x y =
    let u = mod-lt (1 * 2 ^ (port % 64)) {m = 18446744073709551616} (omega arith) in
    let v = mod-lt (1 * 2 ^ (p % 64)) {m = 18446744073709551616} (omega arith) in
    let same : mask_of p ≡ mask_of port = omega arith in
    port_known p port (sym x ∙ a) same
