-- The numbers that were accepted for a port pair are those of its datagrams.
use Rattle.std.proofs.Common.{◌≡◌, inl, inr, ℕ, suc, ◌==◌, ◌&&◌, true, false, cond, Some, List, [], ◌∷◌, ◌++◌, length, sym, ◌∙◌, ap, subst}
use Rattle.std.specs.List.{Contains}
use Rattle.std.proofs.lemmas.Bool.{cases_Bool, cases_eq, and_parts, and_from, eqb-true, eq-eqb, cond-true, cond-false}
use Rattle.std.proofs.lemmas.List.Elements.{Contains-push, Contains-append_left, Contains-push_cases}
use Rattle.rds_model.specs.declared.entry.Entry.{Entry}
use Rattle.rds_model.specs.declared.entry.Entry.TheVariants.{Accept}
use Rattle.rds_model.specs.Past.{now, before, Accepted, accepted, datagram}
use Rattle.rds_model.specs.Pairs.{accepted_for}
use Rattle.rds_model.specs.NumberLaws.{datagram_newest, datagram_other, datagram_stays}
use Rattle.rds_model.proofs.NumberLists.{in_nothing}

-- a datagram of the pair
pub record AcceptedFor (sport dport n : ℕ) (j : List Entry) : Type 0 where
  pub d : Accepted
  pub known : datagram j n ≡ Some d
  pub from : d.sport ≡ sport
  pub to : d.dport ≡ dport

accepted_step : (sport dport n : ℕ) (e : Entry) (past : List Entry) → AcceptedFor sport dport n past → AcceptedFor sport dport n (e ∷ past)
accepted_step sport dport n e past a =
    record { d = a.d; known = datagram_stays {p = past} {j = e ∷ past} (before now) n a.d a.known; from = a.from; to = a.to }

module _ (sport dport : ℕ) where
  pub accepted_number : (n : ℕ) (j : List Entry) → Contains (accepted_for sport dport j) n → AcceptedFor sport dport n j
  accepted_number n [] inside = absurd (in_nothing n inside)
  accepted_number n (Accept slot from to payload ∷ past) inside =
      elim (cases_Bool (from == sport && (to == dport))) [
        | inl this ↦
            let both = and_parts (from == sport) (to == dport) this in
            let list = cond-true _ (accepted_for sport dport past ++ suc (accepted past) ∷ []) (accepted_for sport dport past) this in
            elim (Contains-push_cases (accepted_for sport dport past) (suc (accepted past)) n (subst (λ (l : List ℕ). Contains l n) list inside)) [
              | inl older ↦ accepted_step sport dport n (Accept slot from to payload) past (accepted_number n past older)
              | inr is ↦ record {
                d = record { place = length past; slot = slot; sport = from; dport = to; payload = payload };
                known = datagram_newest slot from to payload past n (sym is);
                from = eqb-true from sport both.0;
                to = eqb-true to dport both.1;
              }
            ]
        | inr other ↦
            let list = cond-false _ (accepted_for sport dport past ++ suc (accepted past) ∷ []) (accepted_for sport dport past) other in
            accepted_step sport dport n (Accept slot from to payload) past
            (accepted_number n past (subst (λ (l : List ℕ). Contains l n) list inside))
      ]
  accepted_number n (x ∷ past) inside = accepted_step sport dport n x past (accepted_number n past inside)

  listed_step_accept : (slot from to : ℕ) (payload : List ℕ) (past : List Entry) (n : ℕ) → Contains (accepted_for sport dport past) n →
      Contains (accepted_for sport dport (Accept slot from to payload ∷ past)) n
  listed_step_accept slot from to payload past n inside =
      elim (from == sport && (to == dport))
      as (λ b. Contains (cond b (accepted_for sport dport past ++ suc (accepted past) ∷ []) (accepted_for sport dport past)) n) [
        | true ↦ Contains-append_left (accepted_for sport dport past) (suc (accepted past) ∷ []) n inside
        | false ↦ inside
      ]

  pub number_accepted : (n : ℕ) (j : List Entry) (d : Accepted) → datagram j n ≡ Some d → d.sport ≡ sport → d.dport ≡ dport →
      Contains (accepted_for sport dport j) n
  number_accepted n [] d known from_is to_is = cc
  number_accepted n (Accept slot from to payload ∷ past) d known from_is to_is =
      elim (cases_eq n (suc (accepted past))) [
        | inl newest ↦
            let same : Some (record { place = length past; slot = slot; sport = from; dport = to; payload = payload }) ≡ Some d =
            sym (datagram_newest slot from to payload past n newest) ∙ known in
            let is : record { place = length past; slot = slot; sport = from; dport = to; payload = payload } ≡ d = cc in
            let this =
            and_from (from == sport) (to == dport) (eq-eqb from sport (ap (λ (x : Accepted). x.sport) is ∙ from_is))
            (eq-eqb to dport (ap (λ (x : Accepted). x.dport) is ∙ to_is)) in
            let list = cond-true _ (accepted_for sport dport past ++ suc (accepted past) ∷ []) (accepted_for sport dport past) this in
            subst (λ (l : List ℕ). Contains l n) (sym list)
            (subst (Contains (accepted_for sport dport past ++ suc (accepted past) ∷ [])) (sym newest)
            (Contains-push (accepted_for sport dport past) (suc (accepted past))))
        | inr other ↦
            listed_step_accept slot from to payload past n
            (number_accepted n past d (sym (datagram_other slot from to payload past n other) ∙ known) from_is to_is)
      ]
  number_accepted n (_ ∷ past) d known from_is to_is = number_accepted n past d known from_is to_is
