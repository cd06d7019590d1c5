-- The place of a route.
use Rattle.std.proofs.Common.{◌≡◌, ℕ, ◌==◌, List, [], ◌∷◌, get_or, Option, Some, None, IfSome, eqb-true, sym}
use Rattle.std.specs.List.{position}
use Rattle.std.proofs.lemmas.Option.{slice_get-get_or}
use Rattle.std.proofs.lemmas.List.Quantifiers.{position-Some}
use Rattle.rds_socket_parts.specs.Lanes.{Lane, LeadsTo}

module _ {R : Type 0} (peer : ℕ) where
  leads : (routes : List (Lane R)) (place : ℕ) → position (λ lane. lane.peer == peer) routes ≡ Some place → LeadsTo routes peer place
  leads [] place e = absurd (cc)
  leads (x ∷ routes) place e =
      let k = position-Some (λ lane. lane.peer == peer) (x ∷ routes) place x e in
      (get_or (x ∷ routes) place x, slice_get-get_or (x ∷ routes) place x k.0, eqb-true _ peer k.1)

  found_of : (routes : List (Lane R)) (o : Option ℕ) → position (λ lane. lane.peer == peer) routes ≡ o → IfSome o (LeadsTo routes peer)
  found_of routes None e = tt
  found_of routes (Some place) e = leads routes place e

  pub found : (routes : List (Lane R)) (o : Option ℕ) → o ≡ position (λ lane. lane.peer == peer) routes → IfSome o (LeadsTo routes peer)
  found routes o e = found_of routes o (sym e)
