-- What a walk back over a journal knows, entry by entry.
use Rattle.std.proofs.Common.{◌≡◌, ◌<◌, inl, inr, ℕ, suc, Bool, true, false, not, ◌&&◌, ◌||◌, ◌==◌, nat_lt, if◌then◌else◌, Option, Some, None, is_some, List, [], ◌∷◌, length, length-append, arith, refl, sym, ap, ◌∙◌}
use Rattle.std.proofs.lemmas.Bool.{true≢false, cases_Bool, cases_eq, cases_lt, lt-ltb, le-ltb, ne_eqb, eq-eqb}
use Rattle.rds_model.specs.declared.entry.Entry.{Entry}
use Rattle.rds_model.specs.declared.entry.Entry.TheVariants.{Accept, Cancel, Open, Pull, Read, Shut, Bad}
use Rattle.rds_model.specs.declared.entry.Target.{Target}
use Rattle.rds_model.specs.Past.{Accepted, accepted, datagram, highest_ack, passes, number}
use Rattle.rds_model.specs.Streams.{was_passed}
use Rattle.rds_model.specs.Alive.{aims_at, covers, is_alive, is_cancelled, was_taken_back}
use Rattle.rds_model.specs.NumberLaws.{number_of_known, datagram_newest, datagram_other}
use Rattle.rds_model.specs.EndingLaws.{ended}
use Rattle.rds_report.specs.declared.taken.Walk.{Walk}
use Rattle.rds_report.specs.declared.cancellations.Cancellations.{Cancellations}
use Rattle.rds_report.specs.Items.{flags, has_cancellation, passes_number}
use Rattle.rds_report.specs.TakenBackWalk.{IsWalk, takes, acknowledgements}
use Rattle.rds_report.proofs.FlagLemmas.{flags_same}

-- numbers beyond the accepted ones

none_of : (d : Option Accepted) → is_some d ≡ false → d ≡ None
none_of None is = refl
none_of (Some d) is = absurd (true≢false is)

pub none_beyond : (past : List Entry) (n : ℕ) → accepted past < n → datagram past n ≡ None
none_beyond past n beyond =
    none_of (datagram past n) (elim (cases_Bool (is_some (datagram past n))) [
      | inl some ↦ absurd (omega (arith, (number_of_known past n some).1))
      | inr none ↦ none
    ])

pub dead_beyond : (past : List Entry) (n : ℕ) → accepted past < n → is_alive past n ≡ false
dead_beyond past n beyond =
    ap (λ (d : Option Accepted). is_some d && (not (is_cancelled past n) && nat_lt (highest_ack past) n)) (none_beyond past n beyond)

pub untaken_beyond : (past : List Entry) (n : ℕ) → accepted past < n → was_taken_back past n ≡ false
untaken_beyond [] n beyond = refl
untaken_beyond (Cancel slot target ∷ past) n beyond =
    ap (λ (b : Bool). b && covers slot target (datagram past n) || was_taken_back past n) (dead_beyond past n beyond)
    ∙ untaken_beyond past n beyond
untaken_beyond (Accept slot sport dport payload ∷ past) n beyond = untaken_beyond past n (omega arith)
untaken_beyond (_ ∷ past) n beyond = untaken_beyond past n beyond

-- without a cancellation nothing is lost

pub untaken : (past : List Entry) → has_cancellation past ≡ false → (n : ℕ) → was_taken_back past n ≡ false
untaken [] without n = refl
untaken (Cancel slot target ∷ past) without n = absurd (true≢false without)
untaken (_ ∷ past) without n = untaken past without n

-- the numbers that one entry more clears
pub cleared_more : (test : ℕ → Bool) (m : ℕ) (e : Entry) (past : List Entry) →
    flags (λ n. (test n && not (was_passed past n)) && not (passes_number e n)) m
    ≡ flags (λ n. test n && not (was_passed (e ∷ past) n)) m
cleared_more test m e past = flags_same _ _ m (λ n a b. go e n)
  where
    and_true : (x : Bool) → (x && true) ≡ x
    and_true true = refl
    and_true false = refl

    three : (t p q : Bool) → ((t && not p) && not q) ≡ (t && not (q || p))
    three true true true = refl
    three true true false = refl
    three true false true = refl
    three true false false = refl
    three false p q = refl

    go : (e : Entry) (n : ℕ) → ((test n && not (was_passed past n)) && not (passes_number e n)) ≡ (test n && not (was_passed (e ∷ past) n))
    go (Read stream frame outcome) n = three (test n) (was_passed past n) (passes outcome && (number frame == n))
    go (Accept slot sport dport payload) n = and_true (test n && not (was_passed past n))
    go (Cancel slot target) n = and_true (test n && not (was_passed past n))
    go (Open stream) n = and_true (test n && not (was_passed past n))
    go (Pull stream frame) n = and_true (test n && not (was_passed past n))
    go (Shut stream) n = and_true (test n && not (was_passed past n))
    go (Bad stream header cause) n = and_true (test n && not (was_passed past n))

or_false : (x : Bool) → (x || false) ≡ x
or_false true = refl
or_false false = refl

-- at first no flag is set, and no cancellation was met
pub walk_start : (past : List Entry) (w : Walk) → w.taken.items ≡ flags (λ n. false) (accepted past) → w.accepted ≡ accepted past →
    ((slot dport n : ℕ) → takes w.cancellations slot dport n ≡ false) → IsWalk past w past
walk_start past w unset number none = record {
  flagged = unset ∙ flags_same _ _ (accepted past) (λ n low high. sym (ap (λ (b : Bool). b && was_taken_back past n) (le-ltb (accepted past) n high)));
  number = number;
  covered = λ n d is.
      sym (or_false (was_taken_back past n)) ∙ ap (λ (b : Bool). was_taken_back past n || b) (sym (none d.slot d.dport n));
}

-- at last all flags are right
pub walk_end : (all : List Entry) (w : Walk) → IsWalk all w [] → w.taken.items ≡ flags (was_taken_back all) (accepted all)
walk_end all w is =
    is.flagged ∙ flags_same _ _ (accepted all) (λ n low high. ap (λ (b : Bool). b && was_taken_back all n) (lt-ltb 0 n (omega (arith, low))))

-- a step over an acceptance, whose flag is set or not
module _ (all : List Entry) (w w' : Walk) (slot sport dport : ℕ) (payload : List ℕ) (past : List Entry) (is : IsWalk all w (Accept slot sport dport payload ∷ past)) where
  abbrev pub last : ℕ
  last = suc (accepted past)

  decided : was_taken_back all last ≡ takes w.cancellations slot dport last
  decided =
      is.covered last _ (datagram_newest slot sport dport payload past last refl)
      ∙ ap (λ (b : Bool). b || takes w.cancellations slot dport last) (untaken_beyond past last (omega arith))

  flag : (n : ℕ) → (if last == n then takes w.cancellations slot dport last else (nat_lt last n && was_taken_back all n)) ≡ (nat_lt (accepted past) n && was_taken_back all n)
  flag n = elim (cases_eq last n) [
    | inl this ↦
        ap (λ (b : Bool). if b then takes w.cancellations slot dport last else (nat_lt last n && was_taken_back all n)) (eq-eqb last n this)
        ∙ sym decided ∙ ap (was_taken_back all) this
        ∙ ap (λ (b : Bool). b && was_taken_back all n) (sym (lt-ltb (accepted past) n (omega (arith, this))))
    | inr other ↦
        ap (λ (b : Bool). if b then takes w.cancellations slot dport last else (nat_lt last n && was_taken_back all n)) (ne_eqb last n other)
        ∙ elim (cases_lt last n) [
          | inl below ↦
              ap (λ (b : Bool). b && was_taken_back all n) (lt-ltb last n below ∙ sym (lt-ltb (accepted past) n (omega (arith, below))))
          | inr above ↦
              ap (λ (b : Bool). b && was_taken_back all n) (le-ltb last n above ∙ sym (le-ltb (accepted past) n (omega (arith, above, other))))
        ]
  ]

  pub walk_accept : w'.taken.items ≡ flags (λ n. if last == n then takes w.cancellations slot dport last else (nat_lt last n && was_taken_back all n)) (accepted all) →
      w'.accepted ≡ accepted past → w'.cancellations ≡ w.cancellations → IsWalk all w' past
  walk_accept marked number same = record {
    flagged = marked ∙ flags_same _ _ (accepted all) (λ n low high. flag n);
    number = number;
    covered = λ n d there.
        let known : is_some (datagram past n) ≡ true = ap (λ (o : Option Accepted). is_some o) there in
        let within = (number_of_known past n known).1 in
        is.covered n d (datagram_other slot sport dport payload past n (λ e. omega (arith, e, within)) ∙ there)
        ∙ ap (λ (c : Cancellations). was_taken_back past n || takes c d.slot d.dport n) (sym same);
  }

-- a step over a cancellation
pub walk_cancel : (all : List Entry) (w w' : Walk) (slot : ℕ) (target : Target) (past : List Entry) → IsWalk all w (Cancel slot target ∷ past) →
    w'.taken ≡ w.taken → w'.accepted ≡ w.accepted →
    ((s d n : ℕ) → takes w'.cancellations s d n ≡ takes w.cancellations s d n || ((slot == s && aims_at target d) && nat_lt (highest_ack past) n)) →
    IsWalk all w' past
walk_cancel all w w' slot target past is taken number more = record {
  flagged = ap (λ v. v.items) taken ∙ is.flagged;
  number = number ∙ is.number;
  covered = λ n d there. is.covered n d there ∙ both n d there ∙ ap (λ (b : Bool). was_taken_back past n || b) (sym (more d.slot d.dport n));
}
  where
    alive_case : (v t k : Bool) → (((true && v) || t) || k) ≡ (t || (k || (v && true)))
    alive_case true true k = refl
    alive_case true false true = refl
    alive_case true false false = refl
    alive_case false true k = refl
    alive_case false false true = refl
    alive_case false false false = refl

    dead_case : (v t k : Bool) → (((false && v) || t) || k) ≡ (t || (k || (v && false)))
    dead_case v true k = refl
    dead_case v false true = refl
    dead_case true false false = refl
    dead_case false false false = refl

    two : (n : ℕ) (d : Accepted) → datagram past n ≡ Some d → (b : Bool) → is_alive past n ≡ b → (v t k : Bool) → was_taken_back past n ≡ t →
        (((b && v) || t) || k) ≡ (t || (k || (v && nat_lt (highest_ack past) n)))
    two n d there true alive v t k taken =
        alive_case v t k ∙ ap (λ (b : Bool). t || (k || (v && b))) (sym (reached (is_some (datagram past n)) (not (is_cancelled past n)) (nat_lt (highest_ack past) n) alive))
      where
        reached : (a b c : Bool) → (a && (b && c)) ≡ true → c ≡ true
        reached true true c h = h
        reached true false c h = absurd (true≢false (sym h))
        reached false b c h = absurd (true≢false (sym h))
    two n d there false dead v t k taken =
        let known : is_some (datagram past n) ≡ true = ap (λ (o : Option Accepted). is_some o) there in
        elim (ended past n known dead) [
          | inl was ↦ ap (λ (x : Bool). (x || k)) (sym taken ∙ was) ∙ ap (λ (x : Bool). x || (k || (v && nat_lt (highest_ack past) n))) (sym (sym taken ∙ was))
          | inr enough ↦ dead_case v t k ∙ ap (λ (b : Bool). t || (k || (v && b))) (sym (le-ltb (highest_ack past) n enough))
        ]

    both : (n : ℕ) (d : Accepted) → datagram past n ≡ Some d →
        (was_taken_back (Cancel slot target ∷ past) n || takes w.cancellations d.slot d.dport n)
        ≡ (was_taken_back past n || (takes w.cancellations d.slot d.dport n || ((slot == d.slot && aims_at target d.dport) && nat_lt (highest_ack past) n)))
    both n d there =
        ap (λ (o : Option Accepted). (is_alive past n && covers slot target o || was_taken_back past n) || takes w.cancellations d.slot d.dport n) there
        ∙ two n d there (is_alive past n) refl (slot == d.slot && aims_at target d.dport) (was_taken_back past n) (takes w.cancellations d.slot d.dport n) refl

-- one for each entry
pub length-acknowledgements : (past : List Entry) → length (acknowledgements past) ≡ length past
length-acknowledgements [] = refl
length-acknowledgements (e ∷ past) =
    let h = length-acknowledgements past in
    length-append (acknowledgements past) (highest_ack past ∷ []) ∙ omega (arith, h)
